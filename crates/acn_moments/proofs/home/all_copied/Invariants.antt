use Rattle.std.proofs.Common.{◌≡◌, ◌++◌, drop}
use Rattle.acn_moments.proofs.home.all_copied.Given as goal

abbrev pub invariant-loop-slot : goal.invariant-loop-slot
invariant-loop-slot l = l.all.items ++ drop l.slot-index l.slots ≡ l.slots
