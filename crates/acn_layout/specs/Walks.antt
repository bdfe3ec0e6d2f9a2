-- The lines as the walk over the tree prints them.
use Rattle.std.specs.Prelude.{ℕ, suc, Bool, true, false, List, [], ◌∷◌, ◌++◌, Option, option_map, unwrap_or}
use Rattle.acn_grammar.specs.Grammar.{Grammar, Form, Fields, Alternatives, node, seq, list, choice, contained, no_fields, component, inserted, no_alternatives, alternative}
use Rattle.acn_grammar.specs.Interval.{span}
use Rattle.acn_grammar.specs.Paths.{node_at}
use Rattle.acn_grammar.specs.View.{OneField, a_component, an_inserted, OneAlternative, grammar_of}
use Rattle.acn_grammar.specs.Walk.{presence_tests}
use Rattle.acn_grammar.specs.declared.bounds.Bounds.{Bounds}
use Rattle.acn_grammar.specs.declared.node.Presence.{Presence}
use Rattle.acn_grammar.specs.declared.node.Test.{Test}
use Rattle.acn_layout.specs.Layout.{Tag, is_optional, node_line}
use Rattle.acn_layout.specs.declared.tag.Tag as declared_tag
use Rattle.acn_tree.specs.declared.tree.Tree.{Tree}

-- a tag of the program
abbrev pub tag_seen : declared_tag.Tag → Tag
tag_seen tag = record { inserted = tag.inserted; optional = tag.optional; tests = tag.tests.now }

abbrev pub with_tests : List Test → Tag
with_tests tests = record { inserted = false; optional = false; tests = tests }

abbrev pub plain : Tag
plain = with_tests []

abbrev pub component_tag : Presence → Tag
component_tag presence = record { inserted = false; optional = is_optional presence; tests = presence_tests presence }

abbrev pub inserted_tag : Tag
inserted_tag = record { inserted = true; optional = false; tests = [] }

-- the bounds of the node at a path
abbrev pub bounds_there : Grammar → List ℕ → Bounds
bounds_there root path = unwrap_or (option_map span (node_at root path)) (record { least = 0; greatest = 0 })

abbrev mutual
  pub node_lines : Tree → Tag → List ℕ → Grammar → List ℕ
  node_lines tree tag path (node align form) = node_line tree path tag (bounds_there (grammar_of tree.root) path) align form ++ form_lines tree path form

  pub form_lines : Tree → List ℕ → Form → List ℕ
  form_lines tree path (seq fields home) = field_lines tree path 0 fields
  form_lines tree path (list sizing g) = node_lines tree plain (path ++ 0 ∷ []) g
  form_lines tree path (choice cases rule) = case_lines tree path 0 cases
  form_lines tree path (contained sizing g) = node_lines tree plain (path ++ 0 ∷ []) g
  form_lines tree path _ = []

  pub field_lines : Tree → List ℕ → (k : ℕ) → Fields → List ℕ
  field_lines tree path k no_fields = []
  field_lines tree path k (component name g presence default own fs) = node_lines tree (component_tag presence) (path ++ k ∷ []) g ++ field_lines tree path (suc k) fs
  field_lines tree path k (inserted name g slot fs) = node_lines tree inserted_tag (path ++ k ∷ []) g ++ field_lines tree path (suc k) fs

  pub case_lines : Tree → List ℕ → (k : ℕ) → Alternatives → List ℕ
  case_lines tree path k no_alternatives = []
  case_lines tree path k (alternative name g tests more) = node_lines tree (with_tests tests) (path ++ k ∷ []) g ++ case_lines tree path (suc k) more

-- the lines of one field
abbrev pub one_field : Tree → List ℕ → (k : ℕ) → OneField → List ℕ
one_field tree path k (a_component name g presence default own) = node_lines tree (component_tag presence) (path ++ k ∷ []) g
one_field tree path k (an_inserted name g slot) = node_lines tree inserted_tag (path ++ k ∷ []) g

abbrev pub one_case : Tree → List ℕ → (k : ℕ) → OneAlternative → List ℕ
one_case tree path k a = node_lines tree (with_tests a.tests) (path ++ k ∷ []) a.grammar
