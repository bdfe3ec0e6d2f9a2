use Rattle.std.proofs.Common.{◌≡◌, drop, map, ◌++◌}
use Rattle.acn_asn_syntax.specs.View.{alternative_view}
use Rattle.acn_reasons.specs.Braced.{alternative_names}
use Rattle.acn_reasons.specs.Named.{names_view}
use Rattle.acn_reasons.proofs.braced.alternative_names.Given as goal

abbrev pub invariant-loop-alternative : goal.invariant-loop-alternative
invariant-loop-alternative l = names_view l.all.items ++ alternative_names (map alternative_view (drop l.alternative-index l.alternatives)) ≡ alternative_names (map alternative_view l.alternatives)
