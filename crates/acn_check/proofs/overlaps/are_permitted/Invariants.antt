use Rattle.std.proofs.Common.{◌≡◌, drop, map}
use Rattle.std.specs.List.{list_all}
use Rattle.acn_check.specs.Program.{det_of}
use Rattle.acn_check.specs.First.{permits}
use Rattle.acn_check.proofs.overlaps.are_permitted.Given as goal

abbrev pub invariant-loop-value : goal.invariant-loop-value
invariant-loop-value l = list_all (permits (map det_of l.dets)) (drop l.value-index l.values) ≡ list_all (permits (map det_of l.dets)) l.values
