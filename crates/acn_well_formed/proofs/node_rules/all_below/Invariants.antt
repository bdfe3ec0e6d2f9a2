use Rattle.std.proofs.Common.{◌≡◌, drop}
use Rattle.acn_well_formed.specs.Kept.{all_below}
use Rattle.acn_well_formed.proofs.node_rules.all_below.Given as goal

abbrev pub invariant-loop-slot : goal.invariant-loop-slot
invariant-loop-slot l = all_below l.slots (drop l.slot-index l.home) ≡ all_below l.slots l.home
