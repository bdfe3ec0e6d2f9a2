use Rattle.std.proofs.Common.{sym, ap, ◌∙◌}
use Rattle.acn_homes.specs.Homes as spec
use Rattle.acn_homes.specs.View.{slots_view}
use Rattle.acn_homes.proofs.Joined.{none_joined, set_joined}
use Rattle.acn_homes.proofs.Numbered.{number_here}
use Rattle.acn_homes.proofs.slots.join.Goals as goal

pub returns-in-None-clause-value : goal.returns-in-None-clause-value
returns-in-None-clause-value c =
    let here = (c.in-None.ensures {u = tt}).value in
    sym (none_joined c.args.one.now.field (spec.above c.args.one.now.user) 0 (slots_view c.args.slots.now) (ap (spec.number (slots_view c.args.slots.now)) (sym c.items.ensures) ∙ sym here))

pub returns-in-Some-clause-value : goal.returns-in-Some-clause-value
returns-in-Some-clause-value c =
    let here = (c.in-Some.ensures {u = tt}).value in
    let at = number_here (slots_view c.args.slots.now) c.args.one.now.field c.in-Some.at (ap (spec.number (slots_view c.args.slots.now)) (sym c.items.ensures) ∙ sym here) in
    set_joined c.args.one.now.field (spec.above c.args.one.now.user) c.args.slots.now c.in-Some.at _ c.shared.result c.requires (c.in-Some.ensures {u = tt}).within at.1
    (c.shared.ensures ∙ ap (spec.shared _) (c.above.ensures ∙ ap spec.above c.items-in-Some.ensures))
