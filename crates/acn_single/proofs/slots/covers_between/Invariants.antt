use Rattle.std.proofs.Common.{◌≡◌, ◌&&◌, drop}
use Rattle.std.specs.Prelude.{int_le}
use Rattle.std.specs.List.{list_any}
use Rattle.acn_single.proofs.slots.covers_between.Given as goal

abbrev pub invariant-loop-range : goal.invariant-loop-range
invariant-loop-range l = list_any (λ r. int_le r.0 l.low && int_le l.high r.1) (drop l.range-index l.ranges) ≡ list_any (λ r. int_le r.0 l.low && int_le l.high r.1) l.ranges
