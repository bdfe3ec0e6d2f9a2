use Rattle.std.proofs.Common.{◌≡◌, drop, ◌++◌}
use Rattle.std.specs.Prelude.{map}
use Rattle.acn_asn_syntax.specs.View.{components_of, alternatives_of, constraints_of, component_view, alternative_view, constraint_view}
use Rattle.acn_mentions.specs.Mentioned.{governor_view, mentions_view}
use Rattle.acn_mentions.specs.Mentions.{component_mentions, alternative_mentions, all_constraint_mentions}
use Rattle.acn_mentions.proofs.type_mentions.+types.Given as goal

abbrev pub invariant-push_components-loop-component : goal.invariant-push_components-loop-component
invariant-push_components-loop-component l = mentions_view l.all.items ++ component_mentions (components_of (map component_view (drop l.component-index l.components))) ≡ mentions_view l.fn.all.items ++ component_mentions (components_of (map component_view l.components))

abbrev pub invariant-push_alternatives-loop-alternative : goal.invariant-push_alternatives-loop-alternative
invariant-push_alternatives-loop-alternative l = mentions_view l.all.items ++ alternative_mentions (alternatives_of (map alternative_view (drop l.alternative-index l.alternatives))) ≡ mentions_view l.fn.all.items ++ alternative_mentions (alternatives_of (map alternative_view l.alternatives))

abbrev pub invariant-push_constraints-loop-constraint : goal.invariant-push_constraints-loop-constraint
invariant-push_constraints-loop-constraint l = mentions_view l.all.items ++ all_constraint_mentions (governor_view l.governor) (constraints_of (map constraint_view (drop l.constraint-index l.constraints))) ≡ mentions_view l.fn.all.items ++ all_constraint_mentions (governor_view l.governor) (constraints_of (map constraint_view l.constraints))
