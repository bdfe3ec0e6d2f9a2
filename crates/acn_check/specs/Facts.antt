-- The nodes of a grammar in preorder, each with what the faults of decodability ask of it.
use Rattle.std.specs.Prelude.{◌≡◌, ℕ, suc, ◌+◌, ◌^◌, ◌≤◌, nat_le, nat_lt, Bool, true, false, ◌&&◌, List, [], ◌∷◌, ◌++◌, length, Option, None}
use Rattle.std.specs.List.{list_all}
use Rattle.acn_grammar.specs.Check.{home_size, open_at}
use Rattle.acn_grammar.specs.Grammar.{Grammar, Form, Fields, Alternatives, node, seq, list, choice, contained, no_fields, component, inserted, no_alternatives, alternative}
use Rattle.acn_grammar.specs.View as view
use Rattle.acn_grammar.specs.View.{form_of}
use Rattle.acn_grammar.specs.Walk.{Stand, Role, a_component, own_tests, slot_here, presence_tests}
use Rattle.acn_grammar.specs.declared.node.Test.{Test}
use Rattle.acn_check.specs.declared.lines.Line.{Line}
use Rattle.acn_check.specs.declared.lines.Tag as declared_tag
use Rattle.acn_grammar.specs.declared.limits.TheConstants.{MOST_NODES}
use Rattle.acn_num.specs.declared.limits.TheConstants.{MOST_STEPS}

-- what a node's place says of it: its own conditions, whether it is a component, and its slot
pub record Tag : Type 0 where
  pub tests : List Test
  pub component : Bool
  pub slot : Option ℕ

pub record Facts : Type 0 where
  pub path : List ℕ
  pub tag : Tag
  pub form : Form
  -- how many slots are at home on the path to the node, itself included
  pub at_home : ℕ

abbrev pub is_component : Role → Bool
is_component (a_component one) = true
is_component _ = false

abbrev pub tag_of : Role → Tag
tag_of role = record { tests = own_tests role; component = is_component role; slot = slot_here role }

abbrev pub seen : Stand → Facts
seen at = record { path = at.path; tag = tag_of at.role; form = at.form; at_home = open_at at }

-- the same by recursion, with the slots at home round a node as their number alone
abbrev pub plain : Tag
plain = record { tests = []; component = false; slot = None }

abbrev mutual
  pub facts : Tag → List ℕ → (around : ℕ) → Grammar → List Facts
  facts tag path around (node align form) = record { path = path; tag = tag; form = form; at_home = home_size form + around } ∷ form_facts path (home_size form + around) form

  pub form_facts : List ℕ → (around : ℕ) → Form → List Facts
  form_facts path around (seq fields home) = field_facts path around 0 fields
  form_facts path around (list sizing g) = facts plain (path ++ 0 ∷ []) around g
  form_facts path around (choice alternatives rule) = alternative_facts path around 0 alternatives
  form_facts path around (contained sizing g) = facts plain (path ++ 0 ∷ []) around g
  form_facts path around _ = []

  pub field_facts : List ℕ → (around k : ℕ) → Fields → List Facts
  field_facts path around k no_fields = []
  field_facts path around k (component name g presence default own fs) =
      facts (record { tests = presence_tests presence; component = true; slot = own }) (path ++ k ∷ []) around g ++ field_facts path around (suc k) fs
  field_facts path around k (inserted name g slot fs) =
      facts (record { tests = []; component = false; slot = slot }) (path ++ k ∷ []) around g ++ field_facts path around (suc k) fs

  pub alternative_facts : List ℕ → (around k : ℕ) → Alternatives → List Facts
  alternative_facts path around k no_alternatives = []
  alternative_facts path around k (alternative name g tests more) =
      facts (record { tests = tests; component = false; slot = None }) (path ++ k ∷ []) around g ++ alternative_facts path around (suc k) more

abbrev pub one_field : List ℕ → (around k : ℕ) → view.OneField → List Facts
one_field path around k (view.a_component name g presence default own) = facts (record { tests = presence_tests presence; component = true; slot = own }) (path ++ k ∷ []) around g
one_field path around k (view.an_inserted name g slot) = facts (record { tests = []; component = false; slot = slot }) (path ++ k ∷ []) around g

abbrev pub one_alternative : List ℕ → (around k : ℕ) → view.OneAlternative → List Facts
one_alternative path around k a = facts (record { tests = a.tests; component = false; slot = None }) (path ++ k ∷ []) around a.grammar

-- the paths are ones that can be named, and so are the counts of open slots
abbrev pub fits : Facts → Bool
fits f = nat_le (length f.path) MOST_STEPS && nat_lt f.at_home (2 ^ 32)

pub record Fit (l : List Facts) : Type 0 where
  pub each : list_all fits l ≡ true
  pub few : length l ≤ MOST_NODES

abbrev pub tag_seen : declared_tag.Tag → Tag
tag_seen tag = record { tests = tag.tests.now; component = tag.component; slot = tag.slot }

-- the facts of a line of the list that the program keeps
abbrev pub facts_of : Line → Facts
facts_of line = record { path = line.path; tag = tag_seen line.tag; form = form_of line.body.now; at_home = line.at_home }
