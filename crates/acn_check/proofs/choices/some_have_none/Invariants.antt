use Rattle.std.proofs.Common.{◌≡◌, drop, not}
use Rattle.std.specs.List.{list_any}
use Rattle.acn_grammar.specs.Tree.{has_tests}
use Rattle.acn_check.specs.Program.{cases_of}
use Rattle.acn_check.proofs.choices.some_have_none.Given as goal

abbrev pub invariant-loop-alternative : goal.invariant-loop-alternative
invariant-loop-alternative l = list_any (λ c. not (has_tests c)) (cases_of (drop l.alternative-index l.alternatives)) ≡ list_any (λ c. not (has_tests c)) (cases_of l.alternatives)
