use Rattle.std.proofs.Common.{◌≡◌, drop}
use Rattle.acn_grammar.specs.View.{alternatives_view}
use Rattle.acn_grammar.specs.Walk.{conditions_of}
use Rattle.acn_extreme_laws.specs.Single.{is_tested}
use Rattle.acn_single.proofs.uses.is_tested.Given as goal

abbrev pub invariant-loop-alternative : goal.invariant-loop-alternative
invariant-loop-alternative l = is_tested l.slot (conditions_of (alternatives_view (drop l.alternative-index l.alternatives))) ≡ is_tested l.slot (conditions_of (alternatives_view l.alternatives))
