-- What is read of a node, by its body.
use Rattle.std.proofs.Common.{◌≡◌, ℕ, zero, suc, ◌<◌, Bool, true, false, List, [], ◌∷◌, ◌++◌, length, get_or, Option, refl, sym, ap, subst, ◌∙◌, append_assoc, arith}
use Rattle.std.proofs.lemmas.Bool.{and_parts}
use Rattle.json.specs.Print.{quoted}
use Rattle.serde_json.specs.Data.{no_members, member}
use Rattle.serde_json.specs.Written.{compact_text, items_text, members_text}
use Rattle.acn_grammar.specs.Grammar.{Grammar, Form, Fields, Data, node, octets, bits, text, seq, list, choice, record_of, list_of, alt}
use Rattle.acn_grammar.specs.Shaped.{fits, each_element, alternative_fits}
use Rattle.acn_grammar.specs.View.{data_of, grammar_of, form_of, fields_view, places_view, elements_view, alternatives_view}
use Rattle.acn_grammar.specs.declared.node.Alternative.{Alternative}
use Rattle.acn_grammar.specs.declared.node.Body.{Num as Num_body, Octets as Octets_body, Bits as Bits_body, Text as Text_body, Seq as Seq_body, List as List_body, Choice as Choice_body}
use Rattle.acn_grammar.specs.declared.node.Choice.{Choice as ChoiceNode, out-Choice}
use Rattle.acn_grammar.specs.declared.node.ChoiceRule.{ChoiceRule}
use Rattle.acn_grammar.specs.declared.node.Field.{Field}
use Rattle.acn_grammar.specs.declared.node.Node.{Node}
use Rattle.acn_grammar.specs.declared.node.NumLeaf.{NumLeaf}
use Rattle.acn_grammar.specs.declared.node.Seq.{Seq as SeqNode}
use Rattle.acn_grammar.specs.declared.node.Sizing.{Sizing}
use Rattle.acn_grammar.specs.declared.node.TextLeaf.{TextLeaf}
use Rattle.acn_grammar.specs.declared.value.Value.{Value, Seq, List as List_value}
use Rattle.acn_grammar.proofs.Views.{view_node, view_seq, view_seq_form}
use Rattle.acn_json.specs.Lines.{json_of, each_json, alternative_json}
use Rattle.acn_json.specs.RoundTrip.{CanBeSaid, ElementsCanBeSaid}
use Rattle.acn_lines.specs.Filled.{AreRead, AreFilled, alternative_name}
use Rattle.acn_lines.specs.Order.{in_order, AreTurns}
use Rattle.acn_lines.specs.Taken.{is_whole}
use Rattle.acn_lines.specs.declared.turns.Turn.{Turn}
use Rattle.acn_lines.proofs.Alternatives.{alternative-at}
use Rattle.acn_lines.proofs.CalledLaw.{alternative_named}
use Rattle.acn_lines.proofs.FillingLaw.{whole-fits}
use Rattle.acn_lines.proofs.GoingOn.{alternative-text}
use Rattle.acn_lines.proofs.LeafLaw.{view_list}
use Rattle.acn_lines.proofs.NodesLaw.{view_num_form, view_octets_form, view_bits_form, view_text_form, view_list_form, view_choice_form}
use Rattle.acn_lines.proofs.TakenLaw.{view_alternative}
use Rattle.acn_printed.specs.Read.{IsRead, IsNumberRead}

-- Numbers.

pub num_read : (n : Node) (leaf : NumLeaf) (d : Data) (old new : List ℕ) → n.body ≡ Num_body leaf → IsNumberRead leaf.kind leaf.items.items d old new → IsRead (grammar_of n) d old new
num_read n leaf d old new e h =
    subst (λ g. IsRead g d old new) (sym (view_node n ∙ ap (node n.align) (ap form_of e ∙ view_num_form leaf))) (record { text = h.text; fits = h.fits; said = h.said })

-- Nodes, by their forms.

read_at : (n : Node) (form : Form) (d : Data) (old new : List ℕ) → form_of n.body ≡ form → ((align : ℕ) → IsRead (node align form) d old new) → IsRead (grammar_of n) d old new
read_at n form d old new e h = subst (λ g. IsRead g d old new) (sym (view_node n ∙ ap (node n.align) e)) (h n.align)

pub octets_read : (n : Node) (sizing : Sizing) (d : Data) (old new : List ℕ) → n.body ≡ Octets_body sizing → ((align : ℕ) (sizing : Sizing) → IsRead (node align (octets sizing)) d old new) → IsRead (grammar_of n) d old new
octets_read n sizing d old new e h = read_at n (octets sizing) d old new (ap form_of e ∙ view_octets_form sizing) (λ align. h align sizing)

pub bits_read : (n : Node) (sizing : Sizing) (d : Data) (old new : List ℕ) → n.body ≡ Bits_body sizing → ((align : ℕ) (sizing : Sizing) → IsRead (node align (bits sizing)) d old new) → IsRead (grammar_of n) d old new
bits_read n sizing d old new e h = read_at n (bits sizing) d old new (ap form_of e ∙ view_bits_form sizing) (λ align. h align sizing)

pub text_read : (n : Node) (leaf : TextLeaf) (d : Data) (old new : List ℕ) → n.body ≡ Text_body leaf → ((align : ℕ) (leaf : TextLeaf) → IsRead (node align (text leaf)) d old new) → IsRead (grammar_of n) d old new
text_read n leaf d old new e h = read_at n (text leaf) d old new (ap form_of e ∙ view_text_form leaf) (λ align. h align leaf)

pub seq_read : (n : Node) (s : SeqNode) (fs : List Field) (d : Data) (old new : List ℕ) → n.body ≡ Seq_body s → fs ≡ s.fields → ((align : ℕ) (home : List ℕ) → IsRead (node align (seq (fields_view fs) home)) d old new) → IsRead (grammar_of n) d old new
seq_read n s fs d old new e f h =
    read_at n (seq (fields_view fs) s.home) d old new (ap form_of e ∙ (view_seq_form s ∙ ap (λ xs. seq (fields_view xs) s.home) (sym f))) (λ align. h align s.home)

pub list_read : (n : Node) (sizing : Sizing) (m o : Node) (d : Data) (old new : List ℕ) → n.body ≡ List_body sizing m → o ≡ m → ((align : ℕ) (sizing : Sizing) → IsRead (node align (list sizing (grammar_of o))) d old new) → IsRead (grammar_of n) d old new
list_read n sizing m o d old new e f h =
    read_at n (list sizing (grammar_of o)) d old new (ap form_of e ∙ (view_list_form sizing m ∙ ap (λ x. list sizing (grammar_of x)) (sym f))) (λ align. h align sizing)

pub choice_read : (n : Node) (c : ChoiceNode) (as' : List Alternative) (d : Data) (old new : List ℕ) → n.body ≡ Choice_body c → as' ≡ (out-Choice c).alternatives → ((align : ℕ) (rule : ChoiceRule) → IsRead (node align (choice (alternatives_view as') rule)) d old new) → IsRead (grammar_of n) d old new
choice_read n c as' d old new e f h =
    read_at n (choice (alternatives_view as') (out-Choice c).rule) d old new (ap form_of e ∙ (view_choice_form c ∙ ap (λ xs. choice (alternatives_view xs) (out-Choice c).rule) (sym f))) (λ align. h align (out-Choice c).rule)

-- Records.

pub record_read : (fs : Fields) (ts : List Turn) (qs row : List (Option Value)) (align : ℕ) (home old mid new : List ℕ) → AreTurns fs ts → old ≡ 123 ∷ mid → mid ≡ members_text false (in_order fs ts (places_view qs)) ++ new → AreFilled fs (places_view qs) → is_whole fs (places_view qs) ≡ true → row ≡ qs
    → IsRead (node align (seq fs home)) (data_of (Seq row)) old new
record_read fs ts qs row align home old mid new turns opened members f whole is =
    let w = whole-fits fs (places_view qs) f whole in
    subst (λ d. IsRead (node align (seq fs home)) d old new) (sym (view_seq row ∙ ap (λ ps. record_of (places_view ps)) is)) (record {
      text = opened ∙ ap (λ t. 123 ∷ t) (members ∙ ap (λ ms. members_text false ms ++ new) (turns.1 (places_view qs)));
      fits = w.0;
      said = w.1;
    })

-- Lists.

fits_more : (p : Data → Bool) (vs : List Value) (v : Value) → each_element p (elements_view vs) ≡ true → p (data_of v) ≡ true → each_element p (elements_view (vs ++ v ∷ [])) ≡ true
fits_more p [] v h k = rw k refl
fits_more p (w ∷ vs) v h k =
    let a = and_parts (p (data_of w)) (each_element p (elements_view vs)) h in
    rw (a.0, fits_more p vs v a.1 k) refl

said_more : (vs : List Value) (v : Value) → ElementsCanBeSaid (elements_view vs) → CanBeSaid (data_of v) → ElementsCanBeSaid (elements_view (vs ++ v ∷ []))
said_more [] v h k = (k, tt)
said_more (w ∷ vs) v h k = (h.0, said_more vs v h.1 k)

-- the elements so far were read, and a comma behind each; another comes next
pub record ElementsSoFar (g : Grammar) (vs : List Value) (first rest : List ℕ) : Type 0 where
  pub text : (v : Value) (more : List Value) (end : List ℕ) → rest ≡ compact_text (json_of g (data_of v)) ++ (items_text true (each_json (json_of g) (elements_view more)) ++ end) → first ≡ items_text false (each_json (json_of g) (elements_view (vs ++ v ∷ more))) ++ end
  pub fits : each_element (fits g) (elements_view vs) ≡ true
  pub said : ElementsCanBeSaid (elements_view vs)

pub elements_begin : (g : Grammar) (vs : List Value) (first : List ℕ) → vs ≡ [] → ElementsSoFar g vs first first
elements_begin g vs first none = subst (λ xs. ElementsSoFar g xs first first) (sym none) (record {
  text = λ v more end h. h ∙ sym (append_assoc (compact_text (json_of g (data_of v))) (items_text true (each_json (json_of g) (elements_view more))) end);
  fits = refl;
  said = tt;
})

pub elements_more : (g : Grammar) (vs after : List Value) (v : Value) (first rest mid new : List ℕ) → after ≡ vs ++ v ∷ [] → IsRead g (data_of v) rest mid → mid ≡ 44 ∷ new → ElementsSoFar g vs first rest → ElementsSoFar g after first new
elements_more g vs after v first rest mid new put read comma so_far =
    let one = json_of g in
    subst (λ xs. ElementsSoFar g xs first new) (sym put) (record {
      text = λ w more end h.
          so_far.text v (w ∷ more) end (read.text ∙ ap (λ t. compact_text (one (data_of v)) ++ t) (comma ∙ ap (λ t. 44 ∷ t) (h ∙ sym (append_assoc (compact_text (one (data_of w))) (items_text true (each_json one (elements_view more))) end))))
          ∙ ap (λ xs. items_text false (each_json one (elements_view xs)) ++ end) (sym (append_assoc vs (v ∷ []) (w ∷ more)));
      fits = fits_more (fits g) vs v so_far.fits read.fits;
      said = said_more vs v so_far.said read.said;
    })

pub elements_end : (g : Grammar) (vs after : List Value) (v : Value) (first rest mid new : List ℕ) → after ≡ vs ++ v ∷ [] → IsRead g (data_of v) rest mid → mid ≡ 93 ∷ new → ElementsSoFar g vs first rest → AreRead g (elements_view after) first new
elements_end g vs after v first rest mid new put read closed so_far =
    subst (λ xs. AreRead g (elements_view xs) first new) (sym put) (record {
      text = so_far.text v [] new (read.text ∙ ap (λ t. compact_text (json_of g (data_of v)) ++ t) closed);
      fits = fits_more (fits g) vs v so_far.fits read.fits;
      said = said_more vs v so_far.said read.said;
    })

pub none_read : (g : Grammar) (vs : List Value) (align : ℕ) (sizing : Sizing) (old mid new : List ℕ) → vs ≡ [] → old ≡ 91 ∷ mid → mid ≡ 93 ∷ new → IsRead (node align (list sizing g)) (data_of (List_value vs)) old new
none_read g vs align sizing old mid new none opened closed =
    subst (λ d. IsRead (node align (list sizing g)) d old new) (sym (view_list vs ∙ ap (λ xs. list_of (elements_view xs)) none)) (record {
      text = opened ∙ ap (λ t. 91 ∷ t) closed;
      fits = refl;
      said = tt;
    })

pub some_read : (g : Grammar) (vs : List Value) (align : ℕ) (sizing : Sizing) (old mid new : List ℕ) → old ≡ 91 ∷ mid → AreRead g (elements_view vs) mid new → IsRead (node align (list sizing g)) (data_of (List_value vs)) old new
some_read g vs align sizing old mid new opened h =
    subst (λ d. IsRead (node align (list sizing g)) d old new) (sym (view_list vs)) (record {
      text = opened ∙ ap (λ t. 91 ∷ t) h.text;
      fits = h.fits;
      said = h.said;
    })

-- Alternatives.

alternative_fits_at : (as' : List Alternative) (i : ℕ) (a : Alternative) (d : Data) → i < length as' → a ≡ get_or as' i a → fits (grammar_of a.node) d ≡ true → alternative_fits (alternatives_view as') i d ≡ true
alternative_fits_at [] i a d h e f = absurd (omega arith)
alternative_fits_at (x ∷ xs) zero a d h e f = ap (λ c. alternative_fits c zero d) (view_alternative x xs) ∙ subst (λ y. fits (grammar_of y.node) d ≡ true) e f
alternative_fits_at (x ∷ xs) (suc i) a d h e f = ap (λ c. alternative_fits c (suc i) d) (view_alternative x xs) ∙ alternative_fits_at xs i a d (omega arith) e f

pub alternative_read : (as' : List Alternative) (i : ℕ) (a : Alternative) (v : Value) (w : Data) (old inside end new : List ℕ) → data_of v ≡ alt i w → i < length as' → a ≡ get_or as' i a → old ≡ 123 ∷ (quoted (alternative_name (alternatives_view as') i) ++ 58 ∷ inside) → IsRead (grammar_of a.node) w inside end
    → end ≡ 125 ∷ new → (align : ℕ) (rule : ChoiceRule) → IsRead (node align (choice (alternatives_view as') rule)) (data_of v) old new
alternative_read as' i a v w old inside end new made within at opened read closed = λ align rule.
    let own = json_of (grammar_of a.node) w in
    let is : alternative_json (alternatives_view as') i w ≡ member a.name own no_members = subst (λ b. alternative_json (alternatives_view as') i w ≡ member b.name (json_of (grammar_of b.node) w) no_members) (sym at) (alternative-at as' i a w within) in
    let named = alternative_named as' i a within at in
    subst (λ d. IsRead (node align (choice (alternatives_view as') rule)) d old new) (sym made) (record {
      text = alternative-text a.name own old (quoted a.name ++ 58 ∷ inside) (58 ∷ inside) inside end new (opened ∙ ap (λ n. 123 ∷ (quoted n ++ 58 ∷ inside)) named) refl refl read.text closed ∙ ap (λ ms. (123 ∷ members_text false ms) ++ new) (sym is);
      fits = alternative_fits_at as' i a w within at read.fits;
      said = read.said;
    })
