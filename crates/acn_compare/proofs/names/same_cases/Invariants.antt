use Rattle.std.proofs.Common.{◌≡◌, drop}
use Rattle.acn_grammar.specs.View.{alternatives_view}
use Rattle.acn_grammar.specs.Walk.{conditions_of}
use Rattle.acn_compare.specs.Tests.{together, same_alternative}
use Rattle.acn_compare.proofs.names.same_cases.Given as goal

abbrev pub invariant-loop-k : goal.invariant-loop-k
invariant-loop-k l = together same_alternative (conditions_of (alternatives_view (drop l.k l.old))) (conditions_of (alternatives_view (drop l.k l.new))) ≡ together same_alternative (conditions_of (alternatives_view l.old)) (conditions_of (alternatives_view l.new))
