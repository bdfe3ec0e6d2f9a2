use Rattle.std.proofs.Common.{◌≡◌, ◌+◌, drop, map}
use Rattle.acn_check.specs.Program.{det_of, cases_of}
use Rattle.acn_check.specs.First.{against}
use Rattle.acn_check.proofs.overlaps.apart_from.Given as goal

abbrev pub invariant-loop-place : goal.invariant-loop-place
invariant-loop-place l = against (map det_of l.dets) l.path l.one.at l.one.tests.now (l.one.at + 1 + l.place) (cases_of (drop l.place l.others)) ≡ against (map det_of l.dets) l.path l.one.at l.one.tests.now (l.one.at + 1) (cases_of l.others)
