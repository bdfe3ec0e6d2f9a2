use Rattle.acn_constraint.proofs.Hulls.{hull_answered}
use Rattle.acn_constraint.proofs.span.around.Goals as goal

pub returns : goal.returns
returns c = hull_answered c.args.set.now c.ranges-set.result.now c.least.result c.greatest.result c.between.result c.ranges-set.ensures.same c.ranges-set.ensures.ordered c.least.ensures c.greatest.ensures c.between.ensures
