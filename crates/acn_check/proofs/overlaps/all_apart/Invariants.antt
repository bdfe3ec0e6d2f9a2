use Rattle.std.proofs.Common.{◌≡◌, drop, map}
use Rattle.acn_check.specs.Program.{det_of, cases_of}
use Rattle.acn_check.specs.First.{pairs}
use Rattle.acn_check.proofs.overlaps.all_apart.Given as goal

abbrev pub invariant-loop-at : goal.invariant-loop-at
invariant-loop-at l = pairs (map det_of l.dets) l.path l.at (cases_of (drop l.at l.alternatives)) ≡ pairs (map det_of l.dets) l.path 0 (cases_of l.alternatives)
