use Rattle.std.proofs.Common.{◌≡◌, drop, ◌++◌}
use Rattle.std.specs.Prelude.{map}
use Rattle.acn_asn_syntax.specs.View.{components_of, alternatives_of, constraints_of, component_view, alternative_view, constraint_view}
use Rattle.acn_world.specs.Repeated.{twice_components, twice_alternatives, twice_constraints}
use Rattle.acn_repeated.specs.Named.{names_view}
use Rattle.acn_repeated.proofs.twice_types.+types.Given as goal

abbrev pub invariant-push_twice_components-loop-component : goal.invariant-push_twice_components-loop-component
invariant-push_twice_components-loop-component l = names_view l.all.items ++ twice_components l.seen (components_of (map component_view (drop l.component-index l.components))) ≡ names_view l.fn.all.items ++ twice_components l.fn.seen (components_of (map component_view l.components))

abbrev pub invariant-push_twice_alternatives-loop-alternative : goal.invariant-push_twice_alternatives-loop-alternative
invariant-push_twice_alternatives-loop-alternative l = names_view l.all.items ++ twice_alternatives l.seen (alternatives_of (map alternative_view (drop l.alternative-index l.alternatives))) ≡ names_view l.fn.all.items ++ twice_alternatives l.fn.seen (alternatives_of (map alternative_view l.alternatives))

abbrev pub invariant-push_twice_constraints-loop-constraint : goal.invariant-push_twice_constraints-loop-constraint
invariant-push_twice_constraints-loop-constraint l = names_view l.all.items ++ twice_constraints (constraints_of (map constraint_view (drop l.constraint-index l.constraints))) ≡ names_view l.fn.all.items ++ twice_constraints (constraints_of (map constraint_view l.constraints))
