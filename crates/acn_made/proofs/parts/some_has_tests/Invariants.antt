use Rattle.std.proofs.Common.{◌≡◌, drop, map}
use Rattle.std.specs.List.{list_any}
use Rattle.acn_grammar.specs.View.{alternative_of}
use Rattle.acn_made.specs.Made.{has_tests}
use Rattle.acn_made.proofs.parts.some_has_tests.Given as goal

abbrev pub invariant-loop-case : goal.invariant-loop-case
invariant-loop-case l = list_any has_tests (map alternative_of (drop l.case-index l.cases)) ≡ list_any has_tests (map alternative_of l.cases)
