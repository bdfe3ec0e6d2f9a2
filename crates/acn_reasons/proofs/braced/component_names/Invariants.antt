use Rattle.std.proofs.Common.{◌≡◌, drop, map, ◌++◌}
use Rattle.acn_asn_syntax.specs.View.{component_view}
use Rattle.acn_reasons.specs.Braced.{component_names}
use Rattle.acn_reasons.specs.Named.{names_view}
use Rattle.acn_reasons.proofs.braced.component_names.Given as goal

abbrev pub invariant-loop-component : goal.invariant-loop-component
invariant-loop-component l = names_view l.all.items ++ component_names (map component_view (drop l.component-index l.components)) ≡ component_names (map component_view l.components)
