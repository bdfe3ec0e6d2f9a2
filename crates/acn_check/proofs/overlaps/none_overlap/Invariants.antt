use Rattle.std.proofs.Common.{◌≡◌, drop, map}
use Rattle.acn_check.specs.Facts.{facts_of}
use Rattle.acn_check.specs.Program.{det_of, FewCases}
use Rattle.acn_check.specs.First.{first_of, overlap_at}
use Rattle.acn_check.proofs.overlaps.none_overlap.Given as goal

abbrev pub invariant-loop-line : goal.invariant-loop-line
invariant-loop-line l = record {
  rest : first_of (overlap_at (map det_of l.dets)) l.line-index (map facts_of (drop l.line-index l.lines)) ≡ first_of (overlap_at (map det_of l.dets)) 0 (map facts_of l.lines);
  few : FewCases (map facts_of (drop l.line-index l.lines));
}
