use Rattle.std.proofs.Common.{◌≡◌, ◌++◌, drop, map}
use Rattle.acn_check.specs.Facts.{facts_of}
use Rattle.acn_check.specs.Program.{det_of}
use Rattle.acn_check.specs.First.{dets}
use Rattle.acn_check.proofs.dets.list_dets.Given as goal

abbrev pub invariant-loop-at : goal.invariant-loop-at
invariant-loop-at l = map det_of l.dets.items ++ dets l.at (map facts_of (drop l.at l.lines)) ≡ dets 0 (map facts_of l.lines)
