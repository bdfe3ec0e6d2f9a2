use Rattle.std.proofs.Common.{◌≡◌, drop, map, true}
use Rattle.std.specs.List.{list_all}
use Rattle.acn_check.specs.Facts.{facts_of}
use Rattle.acn_check.specs.First.{first_of, ambiguous_at, leads_fine}
use Rattle.acn_check.proofs.ends.all_ends_told.Given as goal

abbrev pub invariant-loop-line : goal.invariant-loop-line
invariant-loop-line l = record {
  rest : first_of ambiguous_at l.line-index (map facts_of (drop l.line-index l.lines)) ≡ first_of ambiguous_at 0 (map facts_of l.lines);
  fine : list_all leads_fine (map facts_of (drop l.line-index l.lines)) ≡ true;
}
