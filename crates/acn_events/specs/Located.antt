-- Where the field of a slot is, from the path of a node that asks of it: what is at home in the SEQUENCEs on the way.
use Rattle.std.specs.Prelude.{ℕ, List, [], ◌∷◌, ◌++◌, if◌then◌else◌, Option, Some, None, option_map, unwrap_or}
use Rattle.acn_grammar.specs.Asks.{field_steps, or_else}
use Rattle.acn_grammar.specs.Grammar.{Grammar, Form, node, seq}
use Rattle.acn_grammar.specs.Paths.{part_node}
use Rattle.acn_grammar.specs.Tree.{holds}

-- the steps to the field, where the slot is at home in this very node
abbrev pub form_here : Form → ℕ → Option (List ℕ)
form_here (seq fields home) s = if holds home s then Some (unwrap_or (field_steps fields 0 s) []) else None
form_here _ s = None

abbrev pub here : Grammar → ℕ → Option (List ℕ)
here (node align form) s = form_here form s

abbrev pub in_some : Option Grammar → (Grammar → Option (List ℕ)) → Option (List ℕ)
in_some None f = None
in_some (Some g) f = f g

-- the innermost home on the way counts
abbrev pub located : Grammar → (path : List ℕ) → ℕ → Option (List ℕ)
located g [] s = None
located g (k ∷ path) s = or_else (option_map (λ f. k ∷ f) (in_some (part_node g k) (λ inside. located inside path s))) (here g s)

-- behind a path
abbrev pub behind : (at : List ℕ) → Option (List ℕ) → (other : List ℕ) → List ℕ
behind at None other = other
behind at (Some f) other = at ++ f

-- the path of the field of a slot that is asked at a path
abbrev pub field_at : Grammar → (path : List ℕ) → ℕ → List ℕ
field_at root path s = behind [] (located root path s) []
