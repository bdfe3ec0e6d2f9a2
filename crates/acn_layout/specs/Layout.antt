-- The layout of a tree: a line for each node, in preorder. (This program's own.)
use Rattle.std.specs.Prelude.{ℕ, nat_eq, Bool, true, false, if◌then◌else◌, List, [], ◌∷◌, ◌++◌, length, codes}
use Rattle.std.specs.Fmt.{decimal, signed_decimal}
use Rattle.std.specs.List.{concat, flat_map}
use Rattle.acn_grammar.specs.Grammar.{Form, node}
use Rattle.acn_grammar.specs.Interval.{span}
use Rattle.acn_grammar.specs.View.{grammar_of}
use Rattle.acn_grammar.specs.Walk.{Stand, Role, a_component, an_inserted, nodes_of, own_tests}
use Rattle.acn_grammar.specs.declared.bounds.Bounds.{Bounds}
use Rattle.acn_grammar.specs.declared.node.Presence.{Presence}
use Rattle.acn_grammar.specs.declared.node.Presence.TheVariants.{Always, Bit, When}
use Rattle.acn_grammar.specs.declared.node.Test.{Test}
use Rattle.acn_grammar.specs.declared.node.Test.TheVariants.{Flag, Equals}
use Rattle.acn_layout.specs.Codings.{if_so, form_text, kind_text}
use Rattle.acn_report.specs.Names.{place_text}
use Rattle.acn_report.specs.Slots.{slot_names}
use Rattle.acn_tree.specs.declared.tree.Tree.{Tree}

-- what the node above says of a node: whether it is inserted, whether it may be absent, and its conditions
pub record Tag : Type 0 where
  pub inserted : Bool
  pub optional : Bool
  pub tests : List Test

abbrev pub is_optional : Presence → Bool
is_optional Always = false
is_optional Bit = true
is_optional (When tests) = true

abbrev pub is_inserted : Role → Bool
is_inserted (an_inserted name slot) = true
is_inserted _ = false

abbrev pub may_be_absent : Role → Bool
may_be_absent (a_component one) = is_optional one.presence
may_be_absent _ = false

abbrev pub tag_of : Role → Tag
tag_of role = record { inserted = is_inserted role; optional = may_be_absent role; tests = own_tests role }

-- a condition names its determinant
abbrev pub test_text : Tree → Test → List ℕ
test_text tree (Flag s) = concat (codes " " ∷ slot_names tree s ∷ [])
test_text tree (Equals s k) = concat (codes " " ∷ slot_names tree s ∷ codes "==" ∷ signed_decimal k ∷ [])

abbrev pub conditions_text : Tree → List Test → List ℕ
conditions_text tree tests = codes " when" ++ flat_map (test_text tree) tests

-- nothing, where there are no conditions
abbrev pub when_text : Tree → List Test → List ℕ
when_text tree tests = if nat_eq (length tests) 0 then [] else conditions_text tree tests

abbrev pub align_text : (align : ℕ) → List ℕ
align_text align = if nat_eq align 1 then [] else concat (codes " align " ∷ decimal align ∷ [])

abbrev pub flags_text : Tag → List ℕ
flags_text tag = concat (if_so tag.inserted (codes " inserted") ∷ if_so tag.optional (codes " optional") ∷ [])

abbrev pub tag_text : Tree → Tag → List ℕ
tag_text tree tag = flags_text tag ++ when_text tree tag.tests

-- the place, the kind, and the two bounds in bits
abbrev pub head_text : Tree → (path : List ℕ) → (kind : List ℕ) → Bounds → List ℕ
head_text tree path kind b = concat (place_text tree path ∷ codes " " ∷ kind ∷ codes " " ∷ decimal b.least ∷ codes " " ∷ decimal b.greatest ∷ codes " " ∷ [])

abbrev pub node_line : Tree → (path : List ℕ) → Tag → Bounds → (align : ℕ) → Form → List ℕ
node_line tree path tag b align form = head_text tree path (kind_text form) b ++ (form_text tree form ++ (align_text align ++ (tag_text tree tag ++ codes "\n")))

abbrev pub stand_line : Tree → Stand → List ℕ
stand_line tree at = node_line tree at.path (tag_of at.role) (span (node at.align at.form)) at.align at.form

abbrev pub layout_text : Tree → List ℕ
layout_text tree = flat_map (stand_line tree) (nodes_of (grammar_of tree.root))
