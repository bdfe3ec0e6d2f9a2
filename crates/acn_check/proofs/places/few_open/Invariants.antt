use Rattle.std.proofs.Common.{◌≡◌, drop, map}
use Rattle.acn_check.specs.Facts.{facts_of, Fit}
use Rattle.acn_check.specs.First.{first_of, much_open}
use Rattle.acn_check.proofs.places.few_open.Given as goal

abbrev pub invariant-loop-line : goal.invariant-loop-line
invariant-loop-line l = record {
  rest : first_of much_open l.line-index (map facts_of (drop l.line-index l.lines)) ≡ first_of much_open 0 (map facts_of l.lines);
  fit : Fit (map facts_of (drop l.line-index l.lines));
}
