use Rattle.std.proofs.Common.{sym, subst, ◌∙◌}
use Rattle.acn_num.specs.Ranges.{AreRanges}
use Rattle.acn_constraint.proofs.Borderline.{around_one, one_range}
use Rattle.acn_constraint.proofs.standing.around_inside.Goals as goal

pub returns-in-len1 : goal.returns-in-len1
returns-in-len1 c =
    around_one c.args.numbers.now c.args.inside.now c.ranges-in-len1.result.now c.ranges-in-len1-2.result.now _ c.first_from-low.result c.last_to-high.result c.between.result
    (sym c.ranges-2.ensures.same ∙ one_range c.ranges-2.result.now _ c.in-len1.len_at_least c.in-len1.len_below) (subst AreRanges c.ranges-2.ensures.same c.ranges-2.ensures.ordered)
    c.ranges-in-len1.ensures.same c.ranges-in-len1-2.ensures.same c.ranges-in-len1.ensures.ordered c.first_from-low.ensures c.last_to-high.ensures c.between.ensures
