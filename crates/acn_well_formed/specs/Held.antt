-- What one walk with the homes that are open tests, by recursion over the nodes of a tree.
use Rattle.std.specs.Prelude.{ℕ, nat_lt, nat_le, if◌then◌else◌, Bool, true, false, ◌&&◌, ◌||◌, List, [], ◌∷◌, ◌++◌, length, Option, Some, None}
use Rattle.std.specs.List.{list_all, list_any}
use Rattle.acn_grammar.specs.Grammar.{Grammar, Form, Fields, Alternatives, node, seq, list, choice, contained, no_fields, component, inserted, no_alternatives, alternative}
use Rattle.acn_grammar.specs.Check.{test_slot}
use Rattle.acn_grammar.specs.Tree.{holds, is_slot}
use Rattle.acn_grammar.specs.View.{OneField, OneAlternative, a_component, an_inserted}
use Rattle.acn_grammar.specs.Walk.{slot_of, form_uses, presence_tests}
use Rattle.acn_well_formed.specs.Seen.{form_seen}
use Rattle.acn_grammar.specs.declared.node.Test.{Test}
use Rattle.acn_well_formed.specs.declared.open_homes.TheConstants.{LEVELS}

-- the slot is at home in a SEQUENCE round the node; the homes are those of the outermost SEQUENCE first
abbrev pub is_held : (homes : List (List ℕ)) → ℕ → Bool
is_held homes s = list_any (λ home. holds home s) homes

abbrev pub slot_held : (homes : List (List ℕ)) → Option ℕ → Bool
slot_held homes None = true
slot_held homes (Some s) = is_held homes s

abbrev pub tests_held : (homes : List (List ℕ)) → List Test → Bool
tests_held homes ts = list_all (λ t. is_held homes (test_slot t)) ts

abbrev pub uses_held : (homes : List (List ℕ)) → Form → Bool
uses_held homes form = list_all (λ u. is_held homes (slot_of u)) (form_uses form)

-- the home of the slot and its uses are right as far as one sees inside this SEQUENCE
unfoldable pub right_inside : Form → ℕ → Bool
right_inside form s = (form_seen s (form_seen s 0 false form).about false form).fine

-- The slots of a home ascend, and so do those of inserted fields. A slot whose inserted field stands in the SEQUENCE itself is
-- at home nowhere further inside, and so one needn't look.

abbrev pub not_below : ℕ → Option ℕ → Bool
not_below s None = false
not_below s (Some t) = nat_le s t

-- the fields from the first inserted one on whose slot isn't below this one
abbrev pub from_slot : ℕ → Fields → Fields
from_slot s no_fields = no_fields
from_slot s (component name g presence default own fs) = from_slot s fs
from_slot s (inserted name g slot fs) = if not_below s slot then inserted name g slot fs else from_slot s fs

abbrev pub stands_first : ℕ → Fields → Bool
stands_first s (inserted name g slot fs) = is_slot s slot
stands_first s _ = false

-- each slot of the home is that of an inserted field here, or right inside
abbrev pub all_right : Form → Fields → (home : List ℕ) → Bool
all_right form fs [] = true
all_right form fs (s ∷ home) = (stands_first s (from_slot s fs) || right_inside form s) && all_right form (from_slot s fs) home

-- the slot of each field and each use is at home round it, and inside its home it is right
abbrev mutual
  pub held : (homes : List (List ℕ)) → Grammar → Bool
  held homes (node align form) = uses_held homes form && form_held homes form

  pub form_held : (homes : List (List ℕ)) → Form → Bool
  form_held homes (seq fields home) = nat_lt (length homes) LEVELS && (all_right (seq fields home) fields home && fields_held (homes ++ (home ∷ [])) fields)
  form_held homes (list sizing g) = held homes g
  form_held homes (choice alternatives rule) = alternatives_held homes alternatives
  form_held homes (contained sizing g) = held homes g
  form_held homes _ = true

  pub fields_held : (homes : List (List ℕ)) → Fields → Bool
  fields_held homes no_fields = true
  fields_held homes (component name g presence default own fs) = (slot_held homes own && (tests_held homes (presence_tests presence) && held homes g)) && fields_held homes fs
  fields_held homes (inserted name g slot fs) = (slot_held homes slot && held homes g) && fields_held homes fs

  pub alternatives_held : (homes : List (List ℕ)) → Alternatives → Bool
  alternatives_held homes no_alternatives = true
  alternatives_held homes (alternative name g tests more) = (tests_held homes tests && held homes g) && alternatives_held homes more

abbrev pub field_held : (homes : List (List ℕ)) → OneField → Bool
field_held homes (a_component name g presence default own) = slot_held homes own && (tests_held homes (presence_tests presence) && held homes g)
field_held homes (an_inserted name g slot) = slot_held homes slot && held homes g

abbrev pub alternative_held : (homes : List (List ℕ)) → OneAlternative → Bool
alternative_held homes a = tests_held homes a.tests && held homes a.grammar

abbrev pub is_from : ℕ → OneField → Bool
is_from s (a_component name g presence default own) = false
is_from s (an_inserted name g slot) = not_below s slot

abbrev pub is_inserted : ℕ → OneField → Bool
is_inserted s (a_component name g presence default own) = false
is_inserted s (an_inserted name g slot) = is_slot s slot
