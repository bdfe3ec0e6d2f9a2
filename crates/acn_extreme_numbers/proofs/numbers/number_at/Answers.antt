use Rattle.std.proofs.Common.{rules, FitsSigned, sym, ◌∙◌, subst}
use Rattle.std.proofs.lemmas.Int.{to_z-of_z}
use Rattle.std.specs.Int.{w128}
use Rattle.acn_num.specs.Ranges.{In}
use Rattle.acn_extreme_laws.specs.Codes.{IsBestNumber}
use Rattle.acn_extreme_numbers.proofs.Least.{fixed_best, varied_best}
use Rattle.acn_extreme_numbers.proofs.Picking.{least_in}
use Rattle.acn_extreme_numbers.proofs.numbers.number_at.Goals as goal

pub with_tried-requires-clause-best : goal.with_tried-requires-clause-best
with_tried-requires-clause-best c =
    let fits : FitsSigned w128 c.least_number.result = search rules in
    rw (to_z-of_z w128 c.least_number.result fits) (subst (In c.args.leaf.now.set) (sym c.least_number.ensures) (least_in c.args.leaf.now c.requires))

pub returns-in-Some : goal.returns-in-Some
returns-in-Some c =
    let fits : FitsSigned w128 c.least_number.result = search rules in
    rw (to_z-of_z w128 c.least_number.result fits, to_z-of_z w128 c.least_number.result fits)
    (subst (IsBestNumber c.args.side c.args.leaf.now) (sym c.least_number.ensures) (fixed_best c.args.leaf.now c.requires c.in-Some.field-0 (sym c.in-Some.is ∙ c.fixed_width.ensures) c.args.side))

pub returns-in-None : goal.returns-in-None
returns-in-None c =
    let fits : FitsSigned w128 c.least_number.result = search rules in
    let found : FitsSigned w128 c.least_alike.result.number = search rules in
    rw (to_z-of_z w128 c.least_alike.result.number found)
    (varied_best c.args.leaf.now c.requires (sym c.in-None.is ∙ c.fixed_width.ensures) c.args.side _ _ _ (to_z-of_z w128 c.least_number.result fits ∙ c.least_number.ensures) c.with_tried.ensures.number c.least_alike.ensures.number)
