use Rattle.acn_ints.proofs.LeafBounds.{ranges_near}
use Rattle.acn_ints.proofs.most.most_digits.Goals as goal

pub most_under-requires-clause-ranges : goal.most_under-requires-clause-ranges
most_under-requires-clause-ranges c = ranges_near c.ranges-ranges.result.now c.ranges-ranges.ensures.ordered
