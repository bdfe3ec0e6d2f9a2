use Rattle.std.proofs.Common.{◌≡◌, drop}
use Rattle.std.specs.List.{list_any}
use Rattle.acn_grammar.specs.Walk.{conditions_of}
use Rattle.acn_grammar.specs.Tree.{has_tests}
use Rattle.acn_grammar.specs.View.{alternatives_view}
use Rattle.acn_well_formed.proofs.node_rules.has_tests.Given as goal

abbrev pub invariant-loop-alternative : goal.invariant-loop-alternative
invariant-loop-alternative l = list_any has_tests (conditions_of (alternatives_view (drop l.alternative-index l.alternatives))) ≡ list_any has_tests (conditions_of (alternatives_view l.alternatives))
