-- What is taken of a node, by its body.
use Rattle.std.proofs.Common.{◌≡◌, ℕ, List, ◌∷◌, Option, Some, None, refl, sym, ap, subst, ◌∙◌, rules}
use Rattle.std.specs.Prelude.{IfSome, option_map, option_and_then}
use Rattle.json.specs.Token.{Token}
use Rattle.serde_json.specs.Find.{as_str}
use Rattle.acn_grammar.specs.Grammar.{Grammar, Form, Alternatives, Data, alt, node, num, octets, bits, text, seq, list, choice, contained, octet_string, bit_string, characters}
use Rattle.acn_grammar.specs.View.{data_of, grammar_of, form_of, fields_view, alternatives_view}
use Rattle.acn_grammar.specs.declared.node.Alternative.{Alternative}
use Rattle.acn_grammar.specs.declared.node.Body.{Num as Num_body, Octets as Octets_body, Bits as Bits_body, Text as Text_body, Seq as Seq_body, List as List_body, Choice as Choice_body, Contained as Contained_body, the_lemmas as node_lemmas}
use Rattle.acn_grammar.specs.declared.node.Choice.{Choice as ChoiceNode, out-Choice}
use Rattle.acn_grammar.specs.declared.node.ChoiceRule.{ChoiceRule}
use Rattle.acn_grammar.specs.declared.node.Field.{Field}
use Rattle.acn_grammar.specs.declared.node.Node.{Node}
use Rattle.acn_grammar.specs.declared.node.NumLeaf.{NumLeaf}
use Rattle.acn_grammar.specs.declared.node.Seq.{Seq as SeqNode}
use Rattle.acn_grammar.specs.declared.node.Sizing.{Sizing}
use Rattle.acn_grammar.specs.declared.node.TextLeaf.{TextLeaf}
use Rattle.acn_grammar.specs.declared.value.Value.{Value}
use Rattle.acn_grammar.proofs.Views.{view_node, view_seq_form}
use Rattle.acn_json.specs.Reads.{num_from, octets_of, bits_of, ascii_of}
use Rattle.acn_lines.specs.Taken.{LeafTaken, IsTaken, alternative_number}
use Rattle.acn_lines.proofs.TakenLaw.{leaf_taken, content_taken, grammar_at, alternative_taken}

pub view_num_form : (leaf : NumLeaf) → form_of (Num_body leaf) ≡ num leaf
view_num_form leaf = search (rules, node_lemmas)

pub view_octets_form : (sizing : Sizing) → form_of (Octets_body sizing) ≡ octets sizing
view_octets_form sizing = search (rules, node_lemmas)

pub view_bits_form : (sizing : Sizing) → form_of (Bits_body sizing) ≡ bits sizing
view_bits_form sizing = search (rules, node_lemmas)

pub view_text_form : (leaf : TextLeaf) → form_of (Text_body leaf) ≡ text leaf
view_text_form leaf = search (rules, node_lemmas)

pub view_list_form : (sizing : Sizing) (m : Node) → form_of (List_body sizing m) ≡ list sizing (grammar_of m)
view_list_form sizing m = search (rules, node_lemmas)

pub view_choice_form : (c : ChoiceNode) → form_of (Choice_body c) ≡ choice (alternatives_view (out-Choice c).alternatives) (out-Choice c).rule
view_choice_form c = search (rules, node_lemmas)

view_contained_form : (sizing : Sizing) (m : Node) → form_of (Contained_body sizing m) ≡ contained sizing (grammar_of m)
view_contained_form sizing m = search (rules, node_lemmas)

if_some : {A : Type 0} {P Q : A → Type 0} (r : Option A) → ((x : A) → P x → Q x) → IfSome r P → IfSome r Q
if_some None f h = tt
if_some (Some x) f h = f x h

-- what is said at a form is said at a node of the form
at_form : (P : Grammar → Data → Type 0) (n : Node) (form : Form) (r : Option Value) → form_of n.body ≡ form → IfSome r (λ v. (align : ℕ) → P (node align form) (data_of v)) → IfSome r (λ v. P (grammar_of n) (data_of v))
at_form P n form r e h = if_some r (λ v t. subst (λ g. P g (data_of v)) (sym (view_node n ∙ ap (node n.align) e)) (t n.align)) h

pub num_node : (n : Node) (leaf : NumLeaf) (r : Option Value) (old new : List Token) → n.body ≡ Num_body leaf → IfSome r (λ v. LeafTaken (num_from leaf.kind leaf.items.items) (data_of v) old new) → IfSome r (λ v. IsTaken (grammar_of n) (data_of v) old new)
num_node n leaf r old new e h =
    at_form (λ g d. IsTaken g d old new) n (num leaf) r (ap form_of e ∙ view_num_form leaf) (if_some r (λ v t align. leaf_taken (num leaf) (num_from leaf.kind leaf.items.items) align (data_of v) old new (λ path j. refl) t) h)

pub octets_node : (n : Node) (sizing : Sizing) (r : Option Value) (old new : List Token) → n.body ≡ Octets_body sizing → IfSome r (λ v. LeafTaken (λ j. option_map octet_string (option_and_then octets_of (as_str j))) (data_of v) old new) → IfSome r (λ v. IsTaken (grammar_of n) (data_of v) old new)
octets_node n sizing r old new e h =
    at_form (λ g d. IsTaken g d old new) n (octets sizing) r (ap form_of e ∙ view_octets_form sizing) (if_some r (λ v t align. leaf_taken (octets sizing) _ align (data_of v) old new (λ path j. refl) t) h)

pub bits_node : (n : Node) (sizing : Sizing) (r : Option Value) (old new : List Token) → n.body ≡ Bits_body sizing → IfSome r (λ v. LeafTaken (λ j. option_map bit_string (option_and_then bits_of (as_str j))) (data_of v) old new) → IfSome r (λ v. IsTaken (grammar_of n) (data_of v) old new)
bits_node n sizing r old new e h =
    at_form (λ g d. IsTaken g d old new) n (bits sizing) r (ap form_of e ∙ view_bits_form sizing) (if_some r (λ v t align. leaf_taken (bits sizing) _ align (data_of v) old new (λ path j. refl) t) h)

pub text_node : (n : Node) (leaf : TextLeaf) (r : Option Value) (old new : List Token) → n.body ≡ Text_body leaf → IfSome r (λ v. LeafTaken (λ j. option_map characters (option_and_then ascii_of (as_str j))) (data_of v) old new) → IfSome r (λ v. IsTaken (grammar_of n) (data_of v) old new)
text_node n leaf r old new e h =
    at_form (λ g d. IsTaken g d old new) n (text leaf) r (ap form_of e ∙ view_text_form leaf) (if_some r (λ v t align. leaf_taken (text leaf) _ align (data_of v) old new (λ path j. refl) t) h)

pub seq_node : (n : Node) (s : SeqNode) (fs : List Field) (r : Option Value) (old new : List Token) → n.body ≡ Seq_body s → fs ≡ s.fields → IfSome r (λ v. (align : ℕ) (home : List ℕ) → IsTaken (node align (seq (fields_view fs) home)) (data_of v) old new)
    → IfSome r (λ v. IsTaken (grammar_of n) (data_of v) old new)
seq_node n s fs r old new e f h =
    at_form (λ g d. IsTaken g d old new) n (seq (fields_view fs) s.home) r (ap form_of e ∙ (view_seq_form s ∙ ap (λ xs. seq (fields_view xs) s.home) (sym f))) (if_some r (λ v t align. t align s.home) h)

pub list_node : (n : Node) (sizing : Sizing) (m o : Node) (r : Option Value) (old new : List Token) → n.body ≡ List_body sizing m → o ≡ m → IfSome r (λ v. (align : ℕ) (sizing : Sizing) → IsTaken (node align (list sizing (grammar_of o))) (data_of v) old new)
    → IfSome r (λ v. IsTaken (grammar_of n) (data_of v) old new)
list_node n sizing m o r old new e f h =
    at_form (λ g d. IsTaken g d old new) n (list sizing (grammar_of o)) r (ap form_of e ∙ (view_list_form sizing m ∙ ap (λ x. list sizing (grammar_of x)) (sym f))) (if_some r (λ v t align. t align sizing) h)

pub choice_node : (n : Node) (c : ChoiceNode) (as' : List Alternative) (r : Option Value) (old new : List Token) → n.body ≡ Choice_body c → as' ≡ (out-Choice c).alternatives → IfSome r (λ v. (align : ℕ) (rule : ChoiceRule) → IsTaken (node align (choice (alternatives_view as') rule)) (data_of v) old new)
    → IfSome r (λ v. IsTaken (grammar_of n) (data_of v) old new)
choice_node n c as' r old new e f h =
    at_form (λ g d. IsTaken g d old new) n (choice (alternatives_view as') (out-Choice c).rule) r (ap form_of e ∙ (view_choice_form c ∙ ap (λ xs. choice (alternatives_view xs) (out-Choice c).rule) (sym f))) (if_some r (λ v t align. t align (out-Choice c).rule) h)

pub contained_node : (n : Node) (sizing : Sizing) (m o : Node) (r : Option Value) (old new : List Token) → n.body ≡ Contained_body sizing m → o ≡ m → IfSome r (λ v. IsTaken (grammar_of o) (data_of v) old new) → IfSome r (λ v. IsTaken (grammar_of n) (data_of v) old new)
contained_node n sizing m o r old new e f h =
    at_form (λ g d. IsTaken g d old new) n (contained sizing (grammar_of o)) r (ap form_of e ∙ (view_contained_form sizing m ∙ ap (λ x. contained sizing (grammar_of x)) (sym f))) (if_some r (λ v t align. content_taken sizing (grammar_of o) align (data_of v) old new t) h)

pub choice_made : (cases : Alternatives) (i : ℕ) (name : List ℕ) (g : Grammar) (w : Data) (r : Option Value) (old inside rest new : List Token) → IfSome r (λ v. data_of v ≡ alt i w) → Some i ≡ alternative_number name 0 cases → grammar_at cases i ≡ Some g
    → old ≡ Token.begin_object ∷ Token.key name ∷ inside → IsTaken g w inside rest → rest ≡ Token.end_object ∷ new → IfSome r (λ v. (align : ℕ) (rule : ChoiceRule) → IsTaken (node align (choice cases rule)) (data_of v) old new)
choice_made cases i name g w r old inside rest new made number at opened taken closed =
    if_some r (λ v is align rule. subst (λ d. IsTaken (node align (choice cases rule)) d old new) (sym is) (alternative_taken cases i name g w old inside rest new align rule number at opened taken closed)) made
