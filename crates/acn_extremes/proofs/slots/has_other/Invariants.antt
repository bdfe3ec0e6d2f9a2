use Rattle.std.proofs.Common.{◌≡◌, drop}
use Rattle.acn_extreme_laws.specs.Reach.{has_other}
use Rattle.acn_extremes.proofs.slots.has_other.Given as goal

abbrev pub invariant-loop-range : goal.invariant-loop-range
invariant-loop-range l = has_other (drop l.range-index l.ranges) l.x ≡ has_other l.ranges l.x
