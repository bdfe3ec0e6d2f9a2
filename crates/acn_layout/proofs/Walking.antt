-- The lines of a node, and of its parts one by one.
use Rattle.std.proofs.Common.{◌≡◌, ℕ, ◌+◌, ◌<◌, List, [], ◌∷◌, ◌++◌, length, get_or, drop, refl, sym, ap, ◌∙◌, add-one}
use Rattle.std.specs.Prelude.{Option}
use Rattle.acn_grammar.proofs.Views.{view_node, view_seq_form, view_component, view_inserted}
use Rattle.acn_grammar.specs.Grammar.{Fields}
use Rattle.acn_grammar.specs.View.{OneField, a_component, an_inserted, with_field, grammar_of, form_of, field_of, fields_view, alternative_of, alternatives_view}
use Rattle.acn_grammar.specs.declared.node.Alternative.{Alternative}
use Rattle.acn_grammar.specs.declared.node.Body.{Body, Seq as Seq_body, List as List_body, Choice as Choice_body, Contained as Contained_body}
use Rattle.acn_grammar.specs.declared.node.Choice.{out-Choice, Choice as ChoiceNode}
use Rattle.acn_grammar.specs.declared.node.Field.{Field, Component, Inserted}
use Rattle.acn_grammar.specs.declared.node.Node.{Node}
use Rattle.acn_grammar.specs.declared.node.Presence.{Presence}
use Rattle.acn_grammar.specs.declared.node.Seq.{Seq as SeqNode}
use Rattle.acn_grammar.specs.declared.node.Sizing.{Sizing}
use Rattle.acn_layout.proofs.Forms.{view_list, view_contained, view_choice}
use Rattle.acn_layout.specs.Layout.{Tag, node_line}
use Rattle.acn_layout.specs.Walks.{plain, component_tag, inserted_tag, bounds_there, node_lines, form_lines, field_lines, case_lines, one_field, one_case}
use Rattle.acn_report.proofs.Turns.{split, split_cases}
use Rattle.acn_tree.specs.declared.tree.Tree.{Tree}

module _ (tree : Tree) (path : List ℕ) where
  pub seq_lines : (b : Body) (s : SeqNode) → b ≡ Seq_body s → field_lines tree path 0 (fields_view s.fields) ≡ form_lines tree path (form_of b)
  seq_lines b s e = sym (ap (λ x. form_lines tree path (form_of x)) e ∙ ap (form_lines tree path) (view_seq_form s))

  pub list_lines : (b : Body) (s : Sizing) (n : Node) → b ≡ List_body s n → node_lines tree plain (path ++ 0 ∷ []) (grammar_of n) ≡ form_lines tree path (form_of b)
  list_lines b s n e = sym (ap (λ x. form_lines tree path (form_of x)) e ∙ ap (form_lines tree path) (view_list s n))

  pub contained_lines : (b : Body) (s : Sizing) (n : Node) → b ≡ Contained_body s n → node_lines tree plain (path ++ 0 ∷ []) (grammar_of n) ≡ form_lines tree path (form_of b)
  contained_lines b s n e = sym (ap (λ x. form_lines tree path (form_of x)) e ∙ ap (form_lines tree path) (view_contained s n))

  pub choice_lines : (b : Body) (c : ChoiceNode) → b ≡ Choice_body c → case_lines tree path 0 (alternatives_view (out-Choice c).alternatives) ≡ form_lines tree path (form_of b)
  choice_lines b c e = sym (ap (λ x. form_lines tree path (form_of x)) e ∙ ap (form_lines tree path) (view_choice c))

  pub component_lines : (k : ℕ) (f : Field) (name : List ℕ) (n : Node) (presence : Presence) (default : Option (List ℕ)) (own : Option ℕ) → f ≡ Component name n presence default own
      → node_lines tree (component_tag presence) (path ++ k ∷ []) (grammar_of n) ≡ one_field tree path k (field_of f)
  component_lines k f name n presence default own e = sym (ap (λ x. one_field tree path k (field_of x)) e ∙ ap (one_field tree path k) (view_component name n presence default own))

  pub inserted_lines : (k : ℕ) (f : Field) (name : List ℕ) (n : Node) (slot : Option ℕ) → f ≡ Inserted name n slot
      → node_lines tree inserted_tag (path ++ k ∷ []) (grammar_of n) ≡ one_field tree path k (field_of f)
  inserted_lines k f name n slot e = sym (ap (λ x. one_field tree path k (field_of x)) e ∙ ap (one_field tree path k) (view_inserted name n slot))

  pub node_parts : (tag : Tag) (n : Node) → node_lines tree tag path (grammar_of n) ≡ node_line tree path tag (bounds_there (grammar_of tree.root) path) n.align (form_of n.body) ++ form_lines tree path (form_of n.body)
  node_parts tag n = ap (node_lines tree tag path) (view_node n)

  field_first : (k : ℕ) (f : OneField) (fs : Fields) → field_lines tree path k (with_field f fs) ≡ one_field tree path k f ++ field_lines tree path (k + 1) fs
  field_first k (a_component name g presence default own) fs = ap (λ m. one_field tree path k (a_component name g presence default own) ++ field_lines tree path m fs) (sym (add-one k))
  field_first k (an_inserted name g slot) fs = ap (λ m. one_field tree path k (an_inserted name g slot) ++ field_lines tree path m fs) (sym (add-one k))

  pub field-lines : (k : ℕ) (fs : List Field) (i : ℕ) (x : Field) → i < length fs → x ≡ get_or fs i x
      → field_lines tree path k (fields_view (drop i fs)) ≡ one_field tree path k (field_of x) ++ field_lines tree path (k + 1) (fields_view (drop (i + 1) fs))
  field-lines k fs i x h e = ap (λ l. field_lines tree path k (fields_view l)) (split fs i x h e) ∙ field_first k (field_of x) (fields_view (drop (i + 1) fs))

  pub case-lines : (k : ℕ) (as' : List Alternative) (i : ℕ) (x : Alternative) → i < length as' → x ≡ get_or as' i x
      → case_lines tree path k (alternatives_view (drop i as')) ≡ one_case tree path k (alternative_of x) ++ case_lines tree path (k + 1) (alternatives_view (drop (i + 1) as'))
  case-lines k as' i x h e =
      ap (λ l. case_lines tree path k (alternatives_view l)) (split_cases as' i x h e)
      ∙ ap (λ m. one_case tree path k (alternative_of x) ++ case_lines tree path m (alternatives_view (drop (i + 1) as'))) (sym (add-one k))
