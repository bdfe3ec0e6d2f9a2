-- What bodies are seen as, and how each is shown.
use Rattle.std.proofs.Common.{◌≡◌, ℕ, List, ◌∷◌, [], length, refl, sym, ap, suc, subst, ◌∙◌, rules}
use Rattle.std.specs.Prelude.{Result}
use Rattle.acn_grammar.proofs.Views.{view_seq_form}
use Rattle.acn_grammar.specs.Grammar.{Form, Fields, num, octets, bits, text, list, choice, contained}
use Rattle.acn_grammar.specs.View.{OneField, a_component, an_inserted, with_field, grammar_of, form_of, field_of, fields_view, alternatives_view}
use Rattle.acn_grammar.specs.declared.node.Body.{Body, Num as Num_body, Octets as Octets_body, Bits as Bits_body, Text as Text_body, Seq as Seq_body, List as List_body, Choice as Choice_body, Contained as Contained_body, the_lemmas as node_lemmas}
use Rattle.acn_grammar.specs.declared.node.Choice.{out-Choice, Choice as ChoiceNode}
use Rattle.acn_grammar.specs.declared.node.Field.{Field}
use Rattle.acn_grammar.specs.declared.node.Node.{Node}
use Rattle.acn_grammar.specs.declared.node.NumLeaf.{NumLeaf}
use Rattle.acn_grammar.specs.declared.node.Seq.{Seq as SeqNode}
use Rattle.acn_grammar.specs.declared.node.Sizing.{Sizing}
use Rattle.acn_grammar.specs.declared.node.TextLeaf.{TextLeaf}
use Rattle.acn_layout.specs.Codings.{characters_text, choice_text, fields_text, form_text, leaf_text, sizing_text}
use Rattle.acn_outside.specs.declared.traits.Failed.{Failed}
use Rattle.acn_print.specs.Printing.{Output, Prints}
use Rattle.acn_tree.specs.Room.{field_count}
use Rattle.acn_tree.specs.declared.tree.Tree.{Tree}

-- the same text is printed
pub moved : (x y : List ℕ) (a b : Output) (r : Result (Unit {0}) Failed) → x ≡ y → Prints x a b r → Prints y a b r
moved x y a b r e p = subst (λ t. Prints t a b r) e p

view_num : (leaf : NumLeaf) → form_of (Num_body leaf) ≡ num leaf
view_num leaf = search (rules, node_lemmas)

view_octets : (s : Sizing) → form_of (Octets_body s) ≡ octets s
view_octets s = search (rules, node_lemmas)

view_bits : (s : Sizing) → form_of (Bits_body s) ≡ bits s
view_bits s = search (rules, node_lemmas)

view_text : (leaf : TextLeaf) → form_of (Text_body leaf) ≡ text leaf
view_text leaf = search (rules, node_lemmas)

pub view_list : (s : Sizing) (n : Node) → form_of (List_body s n) ≡ list s (grammar_of n)
view_list s n = search (rules, node_lemmas)

pub view_contained : (s : Sizing) (n : Node) → form_of (Contained_body s n) ≡ contained s (grammar_of n)
view_contained s n = search (rules, node_lemmas)

pub view_choice : (c : ChoiceNode) → form_of (Choice_body c) ≡ choice (alternatives_view (out-Choice c).alternatives) (out-Choice c).rule
view_choice c = search (rules, node_lemmas)

pub count_fields : (fs : List Field) → length fs ≡ field_count (fields_view fs)
count_fields [] = refl
count_fields (f ∷ fs) = ap suc (count_fields fs) ∙ sym (one_more (field_of f))
  where
    one_more : (x : OneField) → field_count (with_field x (fields_view fs)) ≡ suc (field_count (fields_view fs))
    one_more (a_component name g presence default own) = refl
    one_more (an_inserted name g slot) = refl

module _ (tree : Tree) (b : Body) where
  shown : (x : Body) (form : Form) → b ≡ x → form_of x ≡ form → form_text tree form ≡ form_text tree (form_of b)
  shown x form e v = sym (ap (λ y. form_text tree (form_of y)) e ∙ ap (form_text tree) v)

  pub num_shown : (leaf : NumLeaf) → b ≡ Num_body leaf → leaf_text leaf ≡ form_text tree (form_of b)
  num_shown leaf e = shown (Num_body leaf) (num leaf) e (view_num leaf)

  pub octets_shown : (s : Sizing) → b ≡ Octets_body s → sizing_text tree s ≡ form_text tree (form_of b)
  octets_shown s e = shown (Octets_body s) (octets s) e (view_octets s)

  pub bits_shown : (s : Sizing) → b ≡ Bits_body s → sizing_text tree s ≡ form_text tree (form_of b)
  bits_shown s e = shown (Bits_body s) (bits s) e (view_bits s)

  pub text_shown : (leaf : TextLeaf) → b ≡ Text_body leaf → characters_text tree leaf ≡ form_text tree (form_of b)
  text_shown leaf e = shown (Text_body leaf) (text leaf) e (view_text leaf)

  pub seq_shown : (s : SeqNode) (fs : List Field) → b ≡ Seq_body s → fs ≡ s.fields → fields_text (field_count (fields_view fs)) ≡ form_text tree (form_of b)
  seq_shown s fs e f = ap (λ l. fields_text (field_count (fields_view l))) f ∙ shown (Seq_body s) _ e (view_seq_form s)

  pub list_shown : (s : Sizing) (n : Node) → b ≡ List_body s n → sizing_text tree s ≡ form_text tree (form_of b)
  list_shown s n e = shown (List_body s n) (list s (grammar_of n)) e (view_list s n)

  pub choice_shown : (c : ChoiceNode) → b ≡ Choice_body c → choice_text tree (out-Choice c).rule ≡ form_text tree (form_of b)
  choice_shown c e = shown (Choice_body c) _ e (view_choice c)

  pub contained_shown : (s : Sizing) (n : Node) → b ≡ Contained_body s n → sizing_text tree s ≡ form_text tree (form_of b)
  contained_shown s n e = shown (Contained_body s n) (contained s (grammar_of n)) e (view_contained s n)
