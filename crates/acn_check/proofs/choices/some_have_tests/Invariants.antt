use Rattle.std.proofs.Common.{◌≡◌, drop}
use Rattle.std.specs.List.{list_any}
use Rattle.acn_grammar.specs.Tree.{has_tests}
use Rattle.acn_check.specs.Program.{cases_of}
use Rattle.acn_check.proofs.choices.some_have_tests.Given as goal

abbrev pub invariant-loop-alternative : goal.invariant-loop-alternative
invariant-loop-alternative l = list_any (has_tests) (cases_of (drop l.alternative-index l.alternatives)) ≡ list_any (has_tests) (cases_of l.alternatives)
