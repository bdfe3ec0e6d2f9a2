use Rattle.std.proofs.Common.{rules, ◌≡◌, ℤ, refl, sym, subst, ◌∙◌}
use Rattle.std.proofs.lemmas.Int.{to_z-of_z}
use Rattle.std.specs.Int.{w128}
use Rattle.acn_reads.specs.Steps.{noted_by}
use Rattle.acn_string_lines.proofs.Outcomes.{when_ok}
use Rattle.acn_transcode.proofs.NumberTexts.{Said, leaf_put}
use Rattle.acn_transcode.proofs.leaves.put_leaf.Goals as goal

pub returns-then-note : goal.returns-then-note
returns-then-note c =
    let l = c.args.leaf.now in
    let plain = to_z-of_z w128 c.in-Some.x (record { sfits = search rules }) in
    record {
      put = λ e. leaf_put l c.args.slot c.in-Some.x c.args.cur.now c.number.new.cur c.args.draft.now (record { text = c.put_value.new.text; aside = c.args.draft.now.aside; parts = c.args.draft.now.parts; slots = c.note.new.slots }) c.in-Some.ensures.read
          (subst (λ (x : ℤ). Said l.kind l.items.items x c.args.draft.now.text.items c.put_value.new.text.items) plain (when_ok c.put_value.result (sym c.is_ok.ensures.value ∙ e) c.put_value.ensures.added)) refl refl
          (subst (λ (x : ℤ). c.note.new.slots.items ≡ noted_by c.args.slot x c.args.draft.now.slots.items) plain (c.note.ensures c.if-note.true));
    }
