-- The law of lines: the line of a value gives the value back.
use Rattle.std.specs.Prelude.{◌≡◌, ℕ, ◌<◌, ◌^◌, ℤ, pos, negsuc, nat_lt, IsTrue, IsUtf8, List, [], ◌∷◌, Ok}
use Rattle.std.specs.List.{list_all}
use Rattle.serde_json.specs.Data.{Num, unsigned, negative, float}
use Rattle.acn_grammar.specs.Grammar.{Grammar, Form, Fields, Alternatives, Data, Places, Elements, node, num, seq, list, choice, contained, no_fields, component, inserted, no_alternatives, alternative, int, characters, record_of, list_of, alt, no_places, empty, filled, no_elements, element}
use Rattle.acn_grammar.specs.Shaped.{fits}
use Rattle.acn_grammar.specs.Tree.{IsTree}
use Rattle.acn_grammar.specs.Leaves.{is_number}
use Rattle.acn_json.specs.Lines.{line_of}
use Rattle.acn_json.specs.Reads.{line_gives}

-- a whole number that serde_json keeps
abbrev pub NumberIsWhole : Num → Type 0
NumberIsWhole (unsigned n) = n < 2 ^ 64
NumberIsWhole (negative (negsuc n)) = n < 2 ^ 63
NumberIsWhole (negative (pos n)) = ⊥
NumberIsWhole (float x) = ⊥

abbrev mutual
  -- whole numbers of the value are from -2^63 to 2^64 - 1, and its characters at most 127
  pub CanBeSaid : Data → Type 0
  CanBeSaid (int x) = IsTrue (is_number x)
  CanBeSaid (characters cs) = IsTrue (list_all (λ c. nat_lt c 128) cs)
  CanBeSaid (record_of ps) = PlacesCanBeSaid ps
  CanBeSaid (list_of es) = ElementsCanBeSaid es
  CanBeSaid (alt i d) = CanBeSaid d
  CanBeSaid d = Unit {0}

  pub PlacesCanBeSaid : Places → Type 0
  PlacesCanBeSaid no_places = Unit {0}
  PlacesCanBeSaid (empty ps) = PlacesCanBeSaid ps
  PlacesCanBeSaid (filled d ps) = CanBeSaid d × PlacesCanBeSaid ps

  pub ElementsCanBeSaid : Elements → Type 0
  ElementsCanBeSaid no_elements = Unit {0}
  ElementsCanBeSaid (element d es) = CanBeSaid d × ElementsCanBeSaid es

abbrev pub NamesAreText : List (List ℕ × ℤ) → Type 0
NamesAreText [] = Unit {0}
NamesAreText (x ∷ xs) = IsUtf8 x.0 × NamesAreText xs

abbrev mutual
  -- the names of items, components and alternatives are UTF-8
  pub HasTextNames : Grammar → Type 0
  HasTextNames (node align form) = FormHasTextNames form

  pub FormHasTextNames : Form → Type 0
  FormHasTextNames (num leaf) = NamesAreText leaf.items.items
  FormHasTextNames (seq fields home) = FieldsHaveTextNames fields
  FormHasTextNames (list sizing g) = HasTextNames g
  FormHasTextNames (choice cases rule) = AlternativesHaveTextNames cases
  FormHasTextNames (contained sizing g) = HasTextNames g
  FormHasTextNames _ = Unit {0}

  pub FieldsHaveTextNames : Fields → Type 0
  FieldsHaveTextNames no_fields = Unit {0}
  FieldsHaveTextNames (component name g presence default own fs) = IsUtf8 name × HasTextNames g × FieldsHaveTextNames fs
  FieldsHaveTextNames (inserted name g slot fs) = FieldsHaveTextNames fs

  pub AlternativesHaveTextNames : Alternatives → Type 0
  AlternativesHaveTextNames no_alternatives = Unit {0}
  AlternativesHaveTextNames (alternative name g tests more) = IsUtf8 name × HasTextNames g × AlternativesHaveTextNames more

-- the line of a value of the tree gives the value
abbrev pub LinesGiveTheValue : Type 0
LinesGiveTheValue = (g : Grammar) (d : Data) → IsTree g → HasTextNames g → IsTrue (fits g d) → CanBeSaid d → line_gives g (line_of g d) ≡ Ok d
