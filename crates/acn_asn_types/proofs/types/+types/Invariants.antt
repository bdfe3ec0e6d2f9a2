-- A call goes to a form inside, or to the types that are one level deeper.
use Rattle.std.proofs.Common.{◌≡◌, ◌+◌, ◌-◌, ◌*◌, [], ◌∷◌}
use Rattle.acn_cursor.specs.Steps.{repeat, many, with_front}
use Rattle.acn_asn_types.specs.Sets.{set_at}
use Rattle.acn_asn_types.specs.Lists.{has_comma, next}
use Rattle.acn_asn_types.specs.Types.{has_paren, component, alternative, constraint_at, chain, type_at}
use Rattle.acn_asn_types.proofs.Chains.{wrapped}
use Rattle.acn_asn_types.proofs.types.+types.Given as goal

abbrev pub decreases-type_in : goal.decreases-type_in
decreases-type_in l = 16 * l.depth + 15

abbrev pub decreases-step_at : goal.decreases-step_at
decreases-step_at l = 16 * l.depth + 14

abbrev pub decreases-sequence_at : goal.decreases-sequence_at
decreases-sequence_at l = 16 * l.depth + 13

abbrev pub decreases-other_at : goal.decreases-other_at
decreases-other_at l = 16 * l.depth + 13

abbrev pub decreases-base_at : goal.decreases-base_at
decreases-base_at l = 16 * l.depth + 12

abbrev pub decreases-choice_at : goal.decreases-choice_at
decreases-choice_at l = 16 * l.depth + 11

abbrev pub decreases-alternatives : goal.decreases-alternatives
decreases-alternatives l = 16 * l.depth + 10

abbrev pub decreases-more_alternatives : goal.decreases-more_alternatives
decreases-more_alternatives l = 16 * l.depth + 9

abbrev pub decreases-next_alternative : goal.decreases-next_alternative
decreases-next_alternative l = 16 * l.depth + 8

abbrev pub decreases-alternative : goal.decreases-alternative
decreases-alternative l = 16 * l.depth + 7

abbrev pub decreases-components_at : goal.decreases-components_at
decreases-components_at l = 16 * l.depth + 12

abbrev pub decreases-components : goal.decreases-components
decreases-components l = 16 * l.depth + 11

abbrev pub decreases-more_components : goal.decreases-more_components
decreases-more_components l = 16 * l.depth + 10

abbrev pub decreases-next_component : goal.decreases-next_component
decreases-next_component l = 16 * l.depth + 9

abbrev pub decreases-component : goal.decreases-component
decreases-component l = 16 * l.depth + 8

abbrev pub decreases-list_at : goal.decreases-list_at
decreases-list_at l = 16 * l.depth + 12

abbrev pub decreases-of_constraint : goal.decreases-of_constraint
decreases-of_constraint l = 16 * l.depth + 11

abbrev pub decreases-some_constraint : goal.decreases-some_constraint
decreases-some_constraint l = 16 * l.depth + 10

abbrev pub decreases-finish : goal.decreases-finish
decreases-finish l = 16 * l.depth + 12

abbrev pub decreases-constraints : goal.decreases-constraints
decreases-constraints l = 16 * l.depth + 11

abbrev pub decreases-constraint_at : goal.decreases-constraint_at
decreases-constraint_at l = 16 * l.depth + 9

abbrev pub decreases-containing_at : goal.decreases-containing_at
decreases-containing_at l = 16 * l.depth + 8

abbrev pub decreases-type_at : goal.decreases-type_at
decreases-type_at l = 16 * l.depth + 0

abbrev pub invariant-more_components-loop : goal.invariant-more_components-loop
invariant-more_components-loop l = with_front l.row (repeat has_comma (next (component (set_at l.depth) (type_at l.depth))) (l.end - l.counter) l.cursor) ≡ with_front (l.fn.first ∷ []) (many has_comma (next (component (set_at l.depth) (type_at l.depth))) l.fn.cursor)

abbrev pub invariant-more_alternatives-loop : goal.invariant-more_alternatives-loop
invariant-more_alternatives-loop l = with_front l.row (repeat has_comma (next (alternative (set_at l.depth) (type_at l.depth))) (l.end - l.counter) l.cursor) ≡ with_front (l.fn.first ∷ []) (many has_comma (next (alternative (set_at l.depth) (type_at l.depth))) l.fn.cursor)

abbrev pub invariant-constraints-loop : goal.invariant-constraints-loop
invariant-constraints-loop l = with_front l.row (repeat has_paren (constraint_at (set_at l.depth) (type_at l.depth)) (l.end - l.counter) l.cursor) ≡ many has_paren (constraint_at (set_at l.depth) (type_at l.depth)) l.fn.cursor

abbrev pub invariant-type_in-loop : goal.invariant-type_in-loop
invariant-type_in-loop l = wrapped l.heads (chain (set_at l.depth) (type_at l.depth) (l.end - l.counter) l.cursor) ≡ chain (set_at l.depth) (type_at l.depth) l.end l.fn.cursor
