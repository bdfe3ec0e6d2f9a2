use Rattle.std.proofs.Common.{◌≡◌, drop, map}
use Rattle.acn_check.specs.Facts.{facts_of}
use Rattle.acn_check.specs.Program.{det_of}
use Rattle.acn_check.specs.First.{first_of, first_wrong_kind}
use Rattle.acn_check.proofs.named.all_right_kind.Given as goal

abbrev pub invariant-loop-at : goal.invariant-loop-at
invariant-loop-at l = first_of (first_wrong_kind (map det_of l.dets)) l.at (map facts_of (drop l.at l.lines)) ≡ first_of (first_wrong_kind (map det_of l.dets)) 0 (map facts_of l.lines)
