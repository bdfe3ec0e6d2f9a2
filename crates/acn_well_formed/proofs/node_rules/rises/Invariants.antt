use Rattle.std.proofs.Common.{◌≡◌, drop}
use Rattle.acn_well_formed.specs.Kept.{rises_from}
use Rattle.acn_well_formed.proofs.node_rules.rises.Given as goal

abbrev pub invariant-loop-slot : goal.invariant-loop-slot
invariant-loop-slot l = rises_from l.least (drop l.slot-index l.home) ≡ rises_from 0 l.home
