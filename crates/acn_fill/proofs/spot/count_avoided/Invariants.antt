use Rattle.std.proofs.Common.{◌≡◌, ◌+◌, ◌≤◌, drop, length}
use Rattle.acn_fill.specs.Table.{avoided_on}
use Rattle.acn_fill.proofs.spot.count_avoided.Given as goal

abbrev pub invariant-loop-entry : goal.invariant-loop-entry
invariant-loop-entry l = (l.count + length (avoided_on l.slot (drop l.entry-index l.pool)) ≡ length (avoided_on l.slot l.pool)) × (l.count ≤ l.entry-index)
