use Rattle.std.proofs.Common.{◌≡◌, Some, None, is_some, ap, sym, ◌∙◌, true≢false}
use Rattle.std.specs.Option.{option_copied_mut}
use Rattle.acn_grammar.specs.Faults.{ask_of}
use Rattle.acn_asks.specs.Heard.{kept_of}
use Rattle.acn_asks.proofs.Fields.{looked_up, written, replaced, seen, heard_more, others_replaced, declines_more, ok_after, err_after}
use Rattle.acn_asks.proofs.heard.Heard.hear_more.Goals.{in-Some, in-None}
use Rattle.acn_asks.proofs.heard.Heard.hear_more.Goals as goal

pub returns-clause-kept : goal.returns-clause-kept
returns-clause-kept c =
    let field = c.args.field.now in
    let es = c.self.inside.fields.entries in
    let found = looked_up (λ k. k.items) field es ∙ ap (kept_of field) c.self.view_is in
    elim c.match-get_mut.branch [
      | in-Some w ↦
          let there : kept_of field c.args.self.now ≡ Some w.in-Some.asked.now = sym found ∙ (sym c.get_mut.ensures.value ∙ ap option_copied_mut w.in-Some.is) in
          let new = ap (λ h. seen (λ k. k.items) h.fields.entries) w.self-inside-is ∙ (ap (seen (λ k. k.items)) (c.get_mut.follows.holds w.add.new.self).0 ∙ (written (λ k. k.items) field w.add.new.self es ∙ ap (replaced field w.add.new.self) c.self.view_is)) in
          ok_after w.add.result _ w.result-is w.add.ensures.kept (heard_more c.args.set.now field (ask_of c.args.wanted.now) c.args.self.now _ w.in-Some.asked.now w.add.new.self there new)
      | in-None w ↦
          let none : kept_of field c.args.self.now ≡ None = sym found ∙ (sym c.get_mut.ensures.value ∙ ap option_copied_mut w.in-None.is) in
          absurd (true≢false (sym c.requires ∙ ap is_some none))
    ]

pub returns-clause-others : goal.returns-clause-others
returns-clause-others c =
    let field = c.args.field.now in
    let es = c.self.inside.fields.entries in
    let found = looked_up (λ k. k.items) field es ∙ ap (kept_of field) c.self.view_is in
    elim c.match-get_mut.branch [
      | in-Some w ↦
          let new = ap (λ h. seen (λ k. k.items) h.fields.entries) w.self-inside-is ∙ (ap (seen (λ k. k.items)) (c.get_mut.follows.holds w.add.new.self).0 ∙ (written (λ k. k.items) field w.add.new.self es ∙ ap (replaced field w.add.new.self) c.self.view_is)) in
          ok_after w.add.result _ w.result-is w.add.ensures.kept (λ _ other apart. ap (kept_of other) new ∙ others_replaced field other w.add.new.self c.args.self.now apart)
      | in-None w ↦
          let none : kept_of field c.args.self.now ≡ None = sym found ∙ (sym c.get_mut.ensures.value ∙ ap option_copied_mut w.in-None.is) in
          absurd (true≢false (sym c.requires ∙ ap is_some none))
    ]

pub returns-clause-refused : goal.returns-clause-refused
returns-clause-refused c =
    let field = c.args.field.now in
    let es = c.self.inside.fields.entries in
    let found = looked_up (λ k. k.items) field es ∙ ap (kept_of field) c.self.view_is in
    elim c.match-get_mut.branch [
      | in-Some w ↦
          let there : kept_of field c.args.self.now ≡ Some w.in-Some.asked.now = sym found ∙ (sym c.get_mut.ensures.value ∙ ap option_copied_mut w.in-Some.is) in
          err_after w.add.result _ w.result-is w.add.ensures.refused (λ u h. declines_more c.args.set.now c.args.self.now field (ask_of c.args.wanted.now) w.in-Some.asked.now u there h)
      | in-None w ↦
          let none : kept_of field c.args.self.now ≡ None = sym found ∙ (sym c.get_mut.ensures.value ∙ ap option_copied_mut w.in-None.is) in
          absurd (true≢false (sym c.requires ∙ ap is_some none))
    ]
