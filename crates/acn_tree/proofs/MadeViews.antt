-- What is made of a body, of a place and of an alternative, level by level.
use Rattle.std.proofs.Common.{◌≡◌, ℕ, ◌<◌, ◌^◌, List, length, get_or, Option, refl, sym, ap, subst, ◌∙◌, rules}
use Rattle.acn_tree.specs.CanDraw.{FormCanDraw, AlternativesCanDraw}
use Rattle.acn_grammar.specs.Grammar.{seq, list, choice, record_of, list_of, alt}
use Rattle.acn_grammar.specs.ItemsNamed.{FormItemsNamed, AlternativesItemsNamed}
use Rattle.acn_tree.specs.Made.{pick, size, made, elements, fields_made, form_made, alternative_made}
use Rattle.acn_tree.specs.MadeParts.{choice_made}
use Rattle.acn_grammar.specs.View.{data_of, form_of, grammar_of, fields_view, places_view, elements_view, alternatives_view}
use Rattle.acn_grammar.specs.declared.node.Alternative.{Alternative}
use Rattle.acn_grammar.specs.declared.node.Body.{Body, Seq as Seq_body, List as List_body, Choice as Choice_body, the_lemmas as node_lemmas}
use Rattle.acn_grammar.specs.declared.node.Choice.{Choice as ChoiceNode, out-Choice}
use Rattle.acn_grammar.specs.declared.node.Field.{Field}
use Rattle.acn_grammar.specs.declared.node.Node.{Node}
use Rattle.acn_grammar.specs.declared.node.Seq.{Seq}
use Rattle.acn_grammar.specs.declared.node.Sizing.{Sizing}
use Rattle.acn_grammar.specs.declared.value.Value.{Value, Seq as Seq_value, List as List_value, Alt, the_lemmas}
use Rattle.acn_tree.proofs.MadeFields.{count_view, made_at}
use Rattle.acn_grammar.proofs.Views.{view_seq, view_seq_form}

view_list : (vs : List Value) → data_of (List_value vs) ≡ list_of (elements_view vs)
view_list vs = search (rules, the_lemmas)

view_alt : (i : ℕ) (v : Value) → data_of (Alt i v) ≡ alt i (data_of v)
view_alt i v = search (rules, the_lemmas)

view_list_form : (sizing : Sizing) (n : Node) → form_of (List_body sizing n) ≡ list sizing (grammar_of n)
view_list_form sizing n = search (rules, node_lemmas)

view_choice_form : (c : ChoiceNode) → form_of (Choice_body c) ≡ choice (alternatives_view (out-Choice c).alternatives) (out-Choice c).rule
view_choice_form c = search (rules, node_lemmas)

pub seq_value : (b : Body) (s : Seq) (fields : List Field) (places : List (Option Value)) (start : ℕ) → b ≡ Seq_body s → fields ≡ s.fields → places_view places ≡ (fields_made (fields_view fields) start).value
    → data_of (Seq_value places) ≡ (form_made (form_of b) start).value
seq_value b s fields places start e f h =
    let form : form_of b ≡ seq (fields_view fields) s.home = ap form_of e ∙ (view_seq_form s ∙ ap (λ fs. seq (fields_view fs) s.home) (sym f)) in
    view_seq places ∙ (ap record_of h ∙ ap (λ form. (form_made form start).value) (sym form))

pub list_value : (b : Body) (sizing : Sizing) (n m : Node) (vs : List Value) (k t start : ℕ) → b ≡ List_body sizing n → m ≡ n → k ≡ (size sizing.sizes start).value → t ≡ (size sizing.sizes start).state
    → elements_view vs ≡ (elements (made (grammar_of m)) k t).value → data_of (List_value vs) ≡ (form_made (form_of b) start).value
list_value b sizing n m vs k t start e same f g h =
    let form : form_of b ≡ list sizing (grammar_of n) = ap form_of e ∙ view_list_form sizing n in
    let parts : (elements (made (grammar_of m)) k t).value ≡ (elements (made (grammar_of n)) (size sizing.sizes start).value (size sizing.sizes start).state).value = rw (same, f, g) refl in
    view_list vs ∙ (ap list_of (h ∙ parts) ∙ ap (λ form. (form_made form start).value) (sym form))

pub list_state : (b : Body) (sizing : Sizing) (n m : Node) (k t u start : ℕ) → b ≡ List_body sizing n → m ≡ n → k ≡ (size sizing.sizes start).value → t ≡ (size sizing.sizes start).state
    → u ≡ (elements (made (grammar_of m)) k t).state → u ≡ (form_made (form_of b) start).state
list_state b sizing n m k t u start e same f g h =
    let form : form_of b ≡ list sizing (grammar_of n) = ap form_of e ∙ view_list_form sizing n in
    let parts : (elements (made (grammar_of m)) k t).state ≡ (elements (made (grammar_of n)) (size sizing.sizes start).value (size sizing.sizes start).state).state = rw (same, f, g) refl in
    h ∙ (parts ∙ ap (λ form. (form_made form start).state) (sym form))

-- The alternative that is drawn.

module _ (as' : List Alternative) (i s t : ℕ) (a : Alternative) (h : i < length as') (drawn : i ≡ (pick (length as') s).value) (behind : t ≡ (pick (length as') s).state) where
  at_drawn : (pick (length as') s).value ≡ i
  at_drawn = sym drawn

  pub choice_value : (v : Value) → data_of v ≡ (made (grammar_of (get_or as' i a).node) t).value → data_of (Alt i v) ≡ (choice_made (alternatives_view as') s).value
  choice_value v e =
      let here : alt i (data_of v) ≡ alt i (alternative_made (alternatives_view as') i t).value = ap (alt i) (e ∙ sym (ap (λ d. d.value) (made_at as' i t a h))) in
      let there : alt i (alternative_made (alternatives_view as') i t).value ≡ alt (pick (length as') s).value (alternative_made (alternatives_view as') (pick (length as') s).value (pick (length as') s).state).value = rw (drawn, behind) refl in
      view_alt i v ∙ (here ∙ (there ∙ ap (λ n. alt (pick n s).value (alternative_made (alternatives_view as') (pick n s).value (pick n s).state).value) (sym (count_view as'))))

  pub choice_state : (u : ℕ) → u ≡ (made (grammar_of (get_or as' i a).node) t).state → u ≡ (choice_made (alternatives_view as') s).state
  choice_state u e =
      let here : u ≡ (alternative_made (alternatives_view as') i t).state = e ∙ sym (ap (λ d. d.state) (made_at as' i t a h)) in
      let there : (alternative_made (alternatives_view as') i t).state ≡ (alternative_made (alternatives_view as') (pick (length as') s).value (pick (length as') s).state).state = rw (drawn, behind) refl in
      here ∙ (there ∙ ap (λ n. (alternative_made (alternatives_view as') (pick n s).value (pick n s).state).state) (sym (count_view as')))

-- What a CHOICE keeps.

pub choice_can : (b : Body) (c : ChoiceNode) (as' : List Alternative) → b ≡ Choice_body c → as' ≡ (out-Choice c).alternatives → FormCanDraw (form_of b) → (0 < length as') × (length as' < 2 ^ 32) × AlternativesCanDraw (alternatives_view as')
choice_can b c as' e f h =
    let form : form_of b ≡ choice (alternatives_view as') (out-Choice c).rule = ap form_of e ∙ (view_choice_form c ∙ ap (λ xs. choice (alternatives_view xs) (out-Choice c).rule) (sym f)) in
    let k = subst FormCanDraw form h in
    (subst (λ n. 0 < n) (count_view as') k.0, subst (λ n. n < 2 ^ 32) (count_view as') k.1, k.2)

pub choice_named : (b : Body) (c : ChoiceNode) (as' : List Alternative) → b ≡ Choice_body c → as' ≡ (out-Choice c).alternatives → FormItemsNamed (form_of b) → AlternativesItemsNamed (alternatives_view as')
choice_named b c as' e f h =
    let form : form_of b ≡ choice (alternatives_view as') (out-Choice c).rule = ap form_of e ∙ (view_choice_form c ∙ ap (λ xs. choice (alternatives_view xs) (out-Choice c).rule) (sym f)) in
    subst FormItemsNamed form h
