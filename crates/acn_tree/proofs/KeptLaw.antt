-- In a well-formed tree every number leaf keeps its rules, and so it is in the parts of a grammar that keeps them.
use Rattle.std.proofs.Common.{◌≡◌, ℕ, zero, suc, ◌+◌, ◌<◌, List, [], ◌∷◌, length, get_or, drop, Option, Some, sym, ap, subst, ◌∙◌, rules}
use Rattle.std.proofs.lemmas.List.{drop_more}
use Rattle.acn_grammar.specs.Grammar.{Grammar, Form, Fields, Alternatives, node, num, octets, bits, text, seq, list, choice, contained, no_fields, component, inserted, no_alternatives, alternative}
use Rattle.acn_tree.specs.KeptLeaves.{NumbersKept, FormKept, FieldKept, FieldsKept, AlternativesKept}
use Rattle.acn_tree.specs.Room.{InTree}
use Rattle.acn_grammar.specs.Paths.{node_at, child, field_at, alternative_at, only}
use Rattle.acn_grammar.specs.Tree.{IsTree}
use Rattle.acn_grammar.specs.View.{OneField, a_component, an_inserted, with_field, grammar_of, form_of, field_of, fields_view, alternative_of, alternatives_view}
use Rattle.acn_grammar.specs.declared.node.Alternative.{Alternative}
use Rattle.acn_grammar.specs.declared.node.Body.{Body, Seq as Seq_body, the_lemmas as node_lemmas}
use Rattle.acn_grammar.specs.declared.node.Field.{Field, Component, Inserted}
use Rattle.acn_grammar.specs.declared.node.Node.{Node}
use Rattle.acn_grammar.specs.declared.node.Presence.{Presence}
use Rattle.acn_grammar.specs.declared.node.Seq.{Seq as SeqNode}
use Rattle.acn_grammar.proofs.SpanLaw.{Fine, FormFine, FieldsFine, AlternativesFine}
use Rattle.acn_grammar.proofs.TreeRules.{tree_fine}
use Rattle.acn_tree.proofs.RoomLaw.{some_is, after_step}
use Rattle.acn_grammar.proofs.Views.{view_node, view_seq_form, view_component, view_inserted}
use Rattle.acn_grammar.proofs.Intervals.{alternative_of-grammar}

mutual
  kept : (g : Grammar) → Fine g → NumbersKept g
  kept (node align form) h = kept_form form h.1

  kept_form : (form : Form) → FormFine form → FormKept form
  kept_form (num leaf) h = h
  kept_form (octets sizing) h = tt
  kept_form (bits sizing) h = tt
  kept_form (text leaf) h = tt
  kept_form (seq fields home) h = kept_fields fields h
  kept_form (list sizing g) h = kept g h.1
  kept_form (choice cases rule) h = kept_alternatives cases h
  kept_form (contained sizing g) h = kept g h.1

  kept_fields : (fs : Fields) → FieldsFine fs → FieldsKept fs
  kept_fields no_fields h = tt
  kept_fields (component name g presence default own fs) h = (kept g h.0, kept_fields fs h.1)
  kept_fields (inserted name g slot fs) h = (kept g h.0, kept_fields fs h.1)

  kept_alternatives : (as' : Alternatives) → AlternativesFine as' → AlternativesKept as'
  kept_alternatives no_alternatives h = tt
  kept_alternatives (alternative name g tests more) h = (kept g h.0, kept_alternatives more h.1)

tree-kept : (root : Grammar) → IsTree root → NumbersKept root
tree-kept root h = kept root (tree_fine root h)

-- Along a path.

field_kept : (fs : Fields) (i : ℕ) (h : Grammar) → FieldsKept fs → field_at fs i ≡ Some h → NumbersKept h
field_kept no_fields i h r e = cc
field_kept (component name g presence default own fs) zero h r e = subst NumbersKept (some_is g h e) r.0
field_kept (component name g presence default own fs) (suc i) h r e = field_kept fs i h r.1 e
field_kept (inserted name g slot fs) zero h r e = subst NumbersKept (some_is g h e) r.0
field_kept (inserted name g slot fs) (suc i) h r e = field_kept fs i h r.1 e

alternative_kept : (as' : Alternatives) (i : ℕ) (h : Grammar) → AlternativesKept as' → alternative_at as' i ≡ Some h → NumbersKept h
alternative_kept no_alternatives i h r e = cc
alternative_kept (alternative name g tests more) zero h r e = subst NumbersKept (some_is g h e) r.0
alternative_kept (alternative name g tests more) (suc i) h r e = alternative_kept more i h r.1 e

only_kept : (g : Grammar) (i : ℕ) (h : Grammar) → NumbersKept g → only g i ≡ Some h → NumbersKept h
only_kept g zero h r e = subst NumbersKept (some_is g h e) r
only_kept g (suc i) h r e = cc

child_kept : (g : Grammar) (i : ℕ) (h : Grammar) → NumbersKept g → child g i ≡ Some h → NumbersKept h
child_kept (node align (num leaf)) i h r e = cc
child_kept (node align (octets sizing)) i h r e = cc
child_kept (node align (bits sizing)) i h r e = cc
child_kept (node align (text leaf)) i h r e = cc
child_kept (node align (seq fields home)) i h r e = field_kept fields i h r e
child_kept (node align (list sizing g)) i h r e = only_kept g i h r e
child_kept (node align (choice cases rule)) i h r e = alternative_kept cases i h r e
child_kept (node align (contained sizing g)) i h r e = only_kept g i h r e

path_kept : (path : List ℕ) (g h : Grammar) → NumbersKept g → node_at g path ≡ Some h → NumbersKept h
path_kept [] g h r e = subst NumbersKept (some_is g h e) r
path_kept (i ∷ path) g h r e = after_step (child g i) (λ inside. node_at inside path) h (NumbersKept h) e (λ inside c k. path_kept path inside h (child_kept g i inside r c) k)

-- the node is one of a well-formed tree
pub kept-in-tree : (g : Grammar) → InTree g → NumbersKept g
kept-in-tree g t = path_kept t.path t.root g (tree-kept t.root t.formed) t.leads

-- Parts.

pub kept-node : (n : Node) → NumbersKept (grammar_of n) → FormKept (form_of n.body)
kept-node n h = subst NumbersKept (view_node n) h

pub kept-fields : (body : Body) (s : SeqNode) → body ≡ Seq_body s → FormKept (form_of body) → FieldsKept (fields_view s.fields)
kept-fields body s e h = subst FormKept (ap form_of e ∙ view_seq_form s) h

one_field : (f : OneField) (fs : Fields) → FieldsKept (with_field f fs) → FieldKept f × FieldsKept fs
one_field (a_component name g presence default own) fs h = h
one_field (an_inserted name g slot) fs h = h

pub kept-turn : (fs : List Field) (i : ℕ) (f : Field) → i < length fs → f ≡ get_or fs i f → FieldsKept (fields_view (drop i fs)) → FieldKept (field_of f) × FieldsKept (fields_view (drop (i + 1) fs))
kept-turn fs i f h e k = one_field (field_of f) (fields_view (drop (i + 1) fs)) (subst (λ xs. FieldsKept (fields_view xs)) (drop_more fs i f h ∙ ap (λ x. x ∷ drop (i + 1) fs) (sym e)) k)

pub kept-component : (f : Field) (name : List ℕ) (n : Node) (presence : Presence) (default : Option (List ℕ)) (own : Option ℕ) → f ≡ Component name n presence default own → FieldKept (field_of f) → NumbersKept (grammar_of n)
kept-component f name n presence default own e h = subst FieldKept (ap field_of e ∙ view_component name n presence default own) h

pub kept-inserted : (f : Field) (name : List ℕ) (n : Node) (slot : Option ℕ) → f ≡ Inserted name n slot → FieldKept (field_of f) → NumbersKept (grammar_of n)
kept-inserted f name n slot e h = subst FieldKept (ap field_of e ∙ view_inserted name n slot) h

pub kept-alternative : (as' : List Alternative) (i : ℕ) (a : Alternative) → i < length as' → a ≡ get_or as' i a → AlternativesKept (alternatives_view (drop i as')) → NumbersKept (grammar_of a.node) × AlternativesKept (alternatives_view (drop (i + 1) as'))
kept-alternative as' i a h e k =
    let r = subst (λ xs. AlternativesKept (alternatives_view xs)) (drop_more as' i a h ∙ ap (λ x. x ∷ drop (i + 1) as') (sym e)) k in
    (subst NumbersKept (alternative_of-grammar a) r.0, r.1)
