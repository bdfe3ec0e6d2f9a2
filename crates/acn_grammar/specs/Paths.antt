-- The node that a path leads to. A step is the number of a field or of an alternative, in order from 0; the step to the content
-- of contained octets is 0. The step to the element of a list is 0 in a grammar, and in a value the number of the element.
-- (This profile's own.)
use Rattle.std.specs.Prelude.{ℕ, zero, suc, List, [], ◌∷◌, Option, Some, None}
use Rattle.acn_grammar.specs.View.{OneField, a_component, an_inserted}
use Rattle.acn_grammar.specs.Grammar.{Grammar, Form, Fields, Alternatives, node, seq, list, choice, contained, no_fields, component, inserted, no_alternatives, alternative}

abbrev pub grammar_in : OneField → Grammar
grammar_in (a_component name g presence default own) = g
grammar_in (an_inserted name g slot) = g

-- the node of the field of this number
abbrev pub field_at : Fields → ℕ → Option Grammar
field_at no_fields k = None
field_at (component name g presence default own fs) zero = Some g
field_at (component name g presence default own fs) (suc k) = field_at fs k
field_at (inserted name g slot fs) zero = Some g
field_at (inserted name g slot fs) (suc k) = field_at fs k

-- the node of the alternative of this number
abbrev pub alternative_at : Alternatives → ℕ → Option Grammar
alternative_at no_alternatives k = None
alternative_at (alternative name g tests more) zero = Some g
alternative_at (alternative name g tests more) (suc k) = alternative_at more k

abbrev pub only : Grammar → ℕ → Option Grammar
only g zero = Some g
only g (suc k) = None

-- the node that one step leads to
abbrev pub form_child : Form → ℕ → Option Grammar
form_child (seq fields home) k = field_at fields k
form_child (list sizing g) k = only g k
form_child (choice cases rule) k = alternative_at cases k
form_child (contained sizing g) k = only g k
form_child _ k = None

abbrev pub child : Grammar → ℕ → Option Grammar
child (node align form) k = form_child form k

abbrev pub if_some : Option Grammar → (Grammar → Option Grammar) → Option Grammar
if_some None step = None
if_some (Some g) step = step g

-- the node that a path leads to, by what one step leads to
abbrev pub node_along : (step : Grammar → ℕ → Option Grammar) → Grammar → List ℕ → Option Grammar
node_along step g [] = Some g
node_along step g (k ∷ path) = if_some (step g k) (λ inside. node_along step inside path)

-- the node of a path
abbrev pub node_at : Grammar → List ℕ → Option Grammar
node_at root path = node_along child root path

-- The same along a path of a value.

-- the node that one step leads to
abbrev pub form_part_node : Form → ℕ → Option Grammar
form_part_node (list sizing g) k = Some g
form_part_node (seq fields home) k = field_at fields k
form_part_node (choice cases rule) k = alternative_at cases k
form_part_node (contained sizing g) k = only g k
form_part_node _ k = None

abbrev pub part_node : Grammar → ℕ → Option Grammar
part_node (node align form) k = form_part_node form k

-- the node that the part of a value at this path is of
abbrev pub node_on : Grammar → List ℕ → Option Grammar
node_on root path = node_along part_node root path
