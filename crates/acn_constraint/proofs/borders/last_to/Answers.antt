use Rattle.std.specs.Int.{w128}
use Rattle.std.proofs.lemmas.Int.{to_z-of_z}
use Rattle.acn_constraint.proofs.Borderline.{last_of_some}
use Rattle.acn_constraint.proofs.borders.last_to.Goals as goal

pub returns : goal.returns
returns c =
    let e = c.beginning_below-count.ensures in
    rw (to_z-of_z w128 c.end_to.result (record { sfits = c.end_to.type_inv }), c.end_to.ensures)
    (last_of_some c.args.ranges.now c.args.x.now c.beginning_below-count.result _ e.within c.if-count-eq0.false c.requires e.above e.front)
