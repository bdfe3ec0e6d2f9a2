-- What reading the text of a value along a node of a tree says.
use Rattle.std.specs.Prelude.{◌≡◌, ℕ, ℤ, IsTrue, List, ◌++◌, length}
use Rattle.serde_json.specs.Written.{compact_text}
use Rattle.acn_grammar.specs.Grammar.{Grammar, Data}
use Rattle.acn_grammar.specs.Shaped.{fits, num_fits}
use Rattle.acn_grammar.specs.declared.node.NumKind.{NumKind}
use Rattle.acn_json.specs.Lines.{num_json, json_of}
use Rattle.acn_json.specs.RoundTrip.{CanBeSaid}

-- the text of the value was read, which has the form of the node and comes back from its line
pub record IsRead (g : Grammar) (d : Data) (old new : List ℕ) : Type 0 where
  pub text : old ≡ compact_text (json_of g d) ++ new
  pub fits : IsTrue (fits g d)
  pub said : CanBeSaid d

-- the same of a leaf whose value is a number
pub record IsNumberRead (kind : NumKind) (items : List (List ℕ × ℤ)) (d : Data) (old new : List ℕ) : Type 0 where
  pub text : old ≡ compact_text (num_json kind items d) ++ new
  pub fits : IsTrue (num_fits kind (length items) d)
  pub said : CanBeSaid d
