use Rattle.std.proofs.Common.{◌≡◌, string_bytes, sym, ap, ◌∙◌}
use Rattle.serde_json.specs.Find.{get_member}
use Rattle.serde_json.specs.View.{members_view}
use Rattle.serde_json.proofs.Views.{Entry, member_here, member_later}
use Rattle.acn_grammar.proofs.Characters.{same_name-is}
use Rattle.acn_json.proofs.Names.{names_differ}
use Rattle.acn_json.proofs.members.look.Goals as goal

pub returns-then-is_same : goal.returns-then-is_same
returns-then-is_same c =
    let name = c.args.name.now in
    let e : Entry = (c.in-Some.key.now, c.in-Some.json.now) in
    let named = sym (same_name-is _ _ (sym c.if-is_same.ensures)) ∙ c.as_bytes.ensures.value in
    sym (member_here name e c.next.new.self named) ∙ (ap (λ es. get_member name (members_view es)) (sym c.in-Some.ensures.steps) ∙ c.loop-key.invariant)

pub loop-key-preserved : goal.loop-key-preserved
loop-key-preserved c =
    let name = c.args.name.now in
    let e : Entry = (c.in-Some.key.now, c.in-Some.json.now) in
    let other = λ (h : name ≡ string_bytes c.in-Some.key.now). names_differ _ _ (sym c.if-is_same.ensures) (c.as_bytes.ensures.value ∙ sym h) in
    sym (member_later name e c.next.new.self other) ∙ (ap (λ es. get_member name (members_view es)) (sym c.in-Some.ensures.steps) ∙ c.loop-key.invariant)
