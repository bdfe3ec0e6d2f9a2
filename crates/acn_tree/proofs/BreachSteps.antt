-- The walk over a value, one part at a time.
use Rattle.std.proofs.Common.{◌≡◌, ℕ, zero, suc, ◌+◌, ◌^◌, ◌<◌, ◌≤◌, List, [], ◌∷◌, ◌++◌, length, get_or, drop, Option, Some, None, option_map, refl, sym, ap, subst, ◌∙◌, arith, rules, add-one, true, ltb}
use Rattle.std.proofs.lemmas.Bool.Decides.{nat_tests}
use Rattle.std.proofs.lemmas.List.{drop_more, drop_all}
use Rattle.acn_tree.specs.Breaches.{first, why_of, place_breaches}
use Rattle.acn_grammar.specs.Grammar.{Grammar, Data, element_count, node, list, list_of}
use Rattle.acn_grammar.specs.Meets.{Unfit, Why, at_path, size_breach, first_of, breaches, run_breaches, form_breaches, field_breaches, alternative_breaches}
use Rattle.acn_tree.specs.Room.{HasRoom, FieldsHaveRoom, AlternativesHaveRoom, field_count}
use Rattle.acn_grammar.specs.View.{OneField, a_component, an_inserted, with_field, data_of, grammar_of, form_of, field_of, fields_view, places_view, elements_view, alternatives_view}
use Rattle.acn_tree.specs.declared.breach.Breach.{Breach}
use Rattle.acn_grammar.specs.declared.node.Alternative.{Alternative}
use Rattle.acn_grammar.specs.declared.node.Body.{Seq as Seq_body, List as List_body, the_lemmas as node_lemmas}
use Rattle.acn_grammar.specs.declared.node.Field.{Field, Component, Inserted}
use Rattle.acn_grammar.specs.declared.node.Sizing.{Sizing}
use Rattle.acn_grammar.specs.declared.node.Node.{Node}
use Rattle.acn_grammar.specs.declared.node.Presence.{Presence}
use Rattle.acn_grammar.specs.declared.node.Seq.{Seq as SeqNode}
use Rattle.acn_grammar.specs.declared.value.Value.{Value, List as List_value, the_lemmas as value_lemmas}
use Rattle.acn_grammar.proofs.Views.{view_node, view_seq_form, view_component, view_inserted}
use Rattle.acn_grammar.proofs.Intervals.{alternative_of-grammar}

-- The first of two lists in turn.

pub first_here : (u : Unfit) (xs ys : List Unfit) → Some u ≡ first_of xs → Some u ≡ first_of (xs ++ ys)
first_here u [] ys h = cc
first_here u (x ∷ xs) ys h = h

pub first_later : (xs ys : List Unfit) → None ≡ first_of xs → first_of (xs ++ ys) ≡ first_of ys
first_later [] ys h = refl
first_later (x ∷ xs) ys h = cc

pub why_here : (path : List ℕ) (b : Breach) (whys : List Why) (ys : List Unfit) → Some (why_of b) ≡ first whys → Some (record { path = path; why = why_of b }) ≡ first_of (at_path path whys ++ ys)
why_here path b [] ys h = cc
why_here path b (w ∷ ws) ys h = cc

pub why_later : (path : List ℕ) (whys : List Why) (ys : List Unfit) → None ≡ first whys → first_of (at_path path whys ++ ys) ≡ first_of ys
why_later path [] ys h = refl
why_later path (w ∷ ws) ys h = cc

-- Elements.

pub run-turn : (each : ℕ → Data → List Unfit) (vs : List Value) (k i : ℕ) (v : Value) → i < length vs → v ≡ get_or vs i v → run_breaches each k (elements_view (drop i vs)) ≡ each k (data_of v) ++ run_breaches each (k + 1) (elements_view (drop (i + 1) vs))
run-turn each vs k i v h e = rw (drop_more vs i v h, ← e, add-one k)

pub run-end : (each : ℕ → Data → List Unfit) (vs : List Value) (k i : ℕ) → length vs ≤ i → run_breaches each k (elements_view (drop i vs)) ≡ []
run-end each vs k i h = ap (λ xs. run_breaches each k (elements_view xs)) (drop_all i vs h)

-- Fields.

component_turn : (path : List ℕ) (k : ℕ) (f : OneField) (name : List ℕ) (g : Grammar) (presence : Presence) (default : Option (List ℕ)) (own : Option ℕ) (fs : List Field) (p : Option Value) (ps : List (Option Value)) → f ≡ a_component name g presence default own
    → field_breaches path k (with_field f (fields_view fs)) (places_view (p ∷ ps)) ≡ place_breaches (path ++ k ∷ []) g (option_map data_of p) ++ field_breaches path (suc k) (fields_view fs) (places_view ps)
component_turn path k f name g presence default own fs None ps e = rw e
component_turn path k f name g presence default own fs (Some v) ps e = rw e

component_end : (path : List ℕ) (k : ℕ) (f : OneField) (name : List ℕ) (g : Grammar) (presence : Presence) (default : Option (List ℕ)) (own : Option ℕ) (fs : List Field) → f ≡ a_component name g presence default own
    → field_breaches path k (with_field f (fields_view fs)) (places_view []) ≡ []
component_end path k f name g presence default own fs e = rw e

inserted_turn : (path : List ℕ) (k : ℕ) (f : OneField) (name : List ℕ) (g : Grammar) (slot : Option ℕ) (fs : List Field) (ps : List (Option Value)) → f ≡ an_inserted name g slot
    → field_breaches path k (with_field f (fields_view fs)) (places_view ps) ≡ field_breaches path (suc k) (fields_view fs) (places_view ps)
inserted_turn path k f name g slot fs ps e = rw e

pub component-turn : (path : List ℕ) (fs : List Field) (ps : List (Option Value)) (k i at : ℕ) (f : Field) (name : List ℕ) (g : Grammar) (presence : Presence) (default : Option (List ℕ)) (own : Option ℕ) (p : Option Value) → i < length fs → at < length ps → f ≡ get_or fs i f → p ≡ get_or ps at p → field_of f ≡ a_component name g presence default own
    → field_breaches path k (fields_view (drop i fs)) (places_view (drop at ps)) ≡ place_breaches (path ++ k ∷ []) g (option_map data_of p) ++ field_breaches path (k + 1) (fields_view (drop (i + 1) fs)) (places_view (drop (at + 1) ps))
component-turn path fs ps k i at f name g presence default own p h j e q is =
    rw (drop_more fs i f h, drop_more ps at p j, ← e, ← q, add-one k) (component_turn path k (field_of f) name g presence default own (drop (i + 1) fs) p (drop (at + 1) ps) is)

pub component-end : (path : List ℕ) (fs : List Field) (ps : List (Option Value)) (k i at : ℕ) (f : Field) (name : List ℕ) (g : Grammar) (presence : Presence) (default : Option (List ℕ)) (own : Option ℕ) → i < length fs → length ps ≤ at → f ≡ get_or fs i f → field_of f ≡ a_component name g presence default own
    → field_breaches path k (fields_view (drop i fs)) (places_view (drop at ps)) ≡ []
component-end path fs ps k i at f name g presence default own h j e is =
    rw (drop_more fs i f h, drop_all at ps j, ← e) (component_end path k (field_of f) name g presence default own (drop (i + 1) fs) is)

pub inserted-turn : (path : List ℕ) (fs : List Field) (ps : List (Option Value)) (k i at : ℕ) (f : Field) (name : List ℕ) (g : Grammar) (slot : Option ℕ) → i < length fs → f ≡ get_or fs i f → field_of f ≡ an_inserted name g slot
    → field_breaches path k (fields_view (drop i fs)) (places_view (drop at ps)) ≡ field_breaches path (k + 1) (fields_view (drop (i + 1) fs)) (places_view (drop at ps))
inserted-turn path fs ps k i at f name g slot h e is =
    rw (drop_more fs i f h, ← e, add-one k) (inserted_turn path k (field_of f) name g slot (drop (i + 1) fs) (drop at ps) is)

pub fields-end : (path : List ℕ) (fs : List Field) (ps : List (Option Value)) (k i at : ℕ) → length fs ≤ i → field_breaches path k (fields_view (drop i fs)) (places_view (drop at ps)) ≡ []
fields-end path fs ps k i at h = ap (λ xs. field_breaches path k (fields_view xs) (places_view (drop at ps))) (drop_all i fs h)

-- Alternatives.

pub alternative-at : (path : List ℕ) (i : ℕ) (as' : List Alternative) (j : ℕ) (a : Alternative) (d : Data) → j < length as' → alternative_breaches path i (alternatives_view as') j d ≡ breaches (path ++ i ∷ []) (grammar_of (get_or as' j a).node) d
alternative-at path i [] j a d h = absurd (omega arith)
alternative-at path i (x ∷ xs) zero a d h = search (rules, node_lemmas)
alternative-at path i (x ∷ xs) (suc j) a d h = alternative-at path i xs j a d (omega arith)

pub alternative-past : (path : List ℕ) (i : ℕ) (as' : List Alternative) (j : ℕ) (d : Data) → length as' ≤ j → alternative_breaches path i (alternatives_view as') j d ≡ []
alternative-past path i [] j d h = refl
alternative-past path i (x ∷ xs) zero d h = absurd (omega arith)
alternative-past path i (x ∷ xs) (suc j) d h = alternative-past path i xs j d (omega arith)

-- Room.

field_count-length : (fs : List Field) → field_count (fields_view fs) ≡ length fs
field_count-length [] = refl
field_count-length (f ∷ fs) = one_more (field_of f) ∙ ap suc (field_count-length fs)
  where
    one_more : (x : OneField) → field_count (with_field x (fields_view fs)) ≡ suc (field_count (fields_view fs))
    one_more (a_component name g presence default own) = refl
    one_more (an_inserted name g slot) = refl

pub room-fields : (k : ℕ) (n : Node) (s : SeqNode) → n.body ≡ Seq_body s → HasRoom k (grammar_of n) → (length s.fields < 2 ^ 32) × FieldsHaveRoom (k + 1) (fields_view s.fields)
room-fields k n s e h =
    let r = subst (HasRoom k) (view_node n ∙ ap (node n.align) (ap form_of e ∙ view_seq_form s)) h in
    (subst (λ x. x < 2 ^ 32) (field_count-length s.fields) r.1.0, subst (λ m. FieldsHaveRoom m (fields_view s.fields)) (sym (add-one k)) r.1.1)

pub room-turn : (k : ℕ) (fs : List Field) (i : ℕ) (f : Field) → i < length fs → f ≡ get_or fs i f → FieldsHaveRoom k (fields_view (drop i fs)) → FieldsHaveRoom k (with_field (field_of f) (fields_view (drop (i + 1) fs)))
room-turn k fs i f h e r = subst (λ xs. FieldsHaveRoom k (fields_view xs)) (drop_more fs i f h ∙ ap (λ x. x ∷ drop (i + 1) fs) (sym e)) r

pub room-component : (k : ℕ) (f : OneField) (fs : List Field) (name : List ℕ) (g : Grammar) (presence : Presence) (default : Option (List ℕ)) (own : Option ℕ) → f ≡ a_component name g presence default own → FieldsHaveRoom k (with_field f (fields_view fs)) → HasRoom k g
room-component k f fs name g presence default own e r = (subst (λ x. FieldsHaveRoom k (with_field x (fields_view fs))) e r).0

pub room-rest : (k : ℕ) (f : OneField) (fs : List Field) → FieldsHaveRoom k (with_field f (fields_view fs)) → FieldsHaveRoom k (fields_view fs)
room-rest k (a_component name g presence default own) fs r = r.1
room-rest k (an_inserted name g slot) fs r = r.1

pub room-alternative : (k : ℕ) (as' : List Alternative) (i : ℕ) (a : Alternative) → i < length as' → AlternativesHaveRoom k (alternatives_view as') → HasRoom k (grammar_of (get_or as' i a).node)
room-alternative k [] i a h r = absurd (omega arith)
room-alternative k (x ∷ xs) zero a h r = subst (HasRoom k) (alternative_of-grammar x) r.0
room-alternative k (x ∷ xs) (suc i) a h r = room-alternative k xs i a (omega arith) r.1

pub room-chosen : (k : ℕ) (as' : List Alternative) (i : ℕ) (a : Alternative) → i < length as' → a ≡ get_or as' i a → AlternativesHaveRoom k (alternatives_view as') → HasRoom k (grammar_of a.node)
room-chosen k as' i a h e r = subst (λ (x : Alternative). HasRoom k (grammar_of x.node)) (sym e) (room-alternative k as' i a h r)

pub view_list : (vs : List Value) → data_of (List_value vs) ≡ list_of (elements_view vs)
view_list vs = search (rules, value_lemmas)

view_list_form : (s : Sizing) (g : Node) → form_of (List_body s g) ≡ list s (grammar_of g)
view_list_form s g = search (rules, node_lemmas)

pub list-breaches : (path : List ℕ) (n : Node) (v : Value) (s : Sizing) (g : Node) (vs : List Value) → n.body ≡ List_body s g → v ≡ List_value vs → breaches path (grammar_of n) (data_of v) ≡ form_breaches path (list s (grammar_of g)) (list_of (elements_view vs))
list-breaches path n v s g vs e q = rw (view_node n, e, view_list_form s g, q, view_list vs)

-- One element, or one field, and what comes behind it.

abbrev pub Each : List ℕ → Grammar → ℕ → Data → List Unfit
Each path g = λ k d. breaches (path ++ k ∷ []) g d

pub element-here : (path here : List ℕ) (g : Grammar) (vs : List Value) (step i : ℕ) (v : Value) (u : Unfit) → i < length vs → v ≡ get_or vs i v → here ≡ path → step ≡ i → Some u ≡ first_of (breaches (here ++ step ∷ []) g (data_of v))
    → Some u ≡ first_of (run_breaches (Each path g) i (elements_view (drop i vs)))
element-here path here g vs step i v u h e p s a =
    let b : Some u ≡ first_of (breaches (path ++ i ∷ []) g (data_of v)) = a ∙ (ap (λ x. first_of (breaches (x ++ step ∷ []) g (data_of v))) p ∙ ap (λ x. first_of (breaches (path ++ x ∷ []) g (data_of v))) s) in
    first_here u _ _ b ∙ ap first_of (sym (run-turn (Each path g) vs i i v h e))

pub element-later : (path here : List ℕ) (g : Grammar) (vs : List Value) (step i : ℕ) (v : Value) → i < length vs → v ≡ get_or vs i v → here ≡ path → step ≡ i → None ≡ first_of (breaches (here ++ step ∷ []) g (data_of v))
    → first_of (run_breaches (Each path g) (i + 1) (elements_view (drop (i + 1) vs))) ≡ first_of (run_breaches (Each path g) i (elements_view (drop i vs)))
element-later path here g vs step i v h e p s a =
    let b : None ≡ first_of (breaches (path ++ i ∷ []) g (data_of v)) = a ∙ (ap (λ x. first_of (breaches (x ++ step ∷ []) g (data_of v))) p ∙ ap (λ x. first_of (breaches (path ++ x ∷ []) g (data_of v))) s) in
    sym (ap first_of (run-turn (Each path g) vs i i v h e) ∙ first_later _ _ b)

pub component-here : (path here : List ℕ) (fs : List Field) (ps : List (Option Value)) (step i at : ℕ) (f : Field) (name : List ℕ) (n : Node) (presence : Presence) (default : Option (List ℕ)) (own : Option ℕ) (p : Option Value) (u : Unfit) → i < length fs → at < length ps → f ≡ get_or fs i f → p ≡ get_or ps at p → f ≡ Component name n presence default own → here ≡ path → step ≡ i
    → Some u ≡ first_of (place_breaches (here ++ step ∷ []) (grammar_of n) (option_map data_of p))
    → Some u ≡ first_of (field_breaches path i (fields_view (drop i fs)) (places_view (drop at ps)))
component-here path here fs ps step i at f name n presence default own p u h j e q is w s a =
    let b : Some u ≡ first_of (place_breaches (path ++ i ∷ []) (grammar_of n) (option_map data_of p)) = a ∙ (ap (λ x. first_of (place_breaches (x ++ step ∷ []) (grammar_of n) (option_map data_of p))) w ∙ ap (λ x. first_of (place_breaches (path ++ x ∷ []) (grammar_of n) (option_map data_of p))) s) in
    first_here u _ _ b ∙ ap first_of (sym (component-turn path fs ps i i at f name (grammar_of n) presence default own p h j e q (ap field_of is ∙ view_component name n presence default own)))

pub component-later : (path here : List ℕ) (fs : List Field) (ps : List (Option Value)) (step i at : ℕ) (f : Field) (name : List ℕ) (n : Node) (presence : Presence) (default : Option (List ℕ)) (own : Option ℕ) (p : Option Value) → i < length fs → at < length ps → f ≡ get_or fs i f → p ≡ get_or ps at p → f ≡ Component name n presence default own → here ≡ path → step ≡ i
    → None ≡ first_of (place_breaches (here ++ step ∷ []) (grammar_of n) (option_map data_of p))
    → first_of (field_breaches path (i + 1) (fields_view (drop (i + 1) fs)) (places_view (drop (at + 1) ps))) ≡ first_of (field_breaches path i (fields_view (drop i fs)) (places_view (drop at ps)))
component-later path here fs ps step i at f name n presence default own p h j e q is w s a =
    let b : None ≡ first_of (place_breaches (path ++ i ∷ []) (grammar_of n) (option_map data_of p)) = a ∙ (ap (λ x. first_of (place_breaches (x ++ step ∷ []) (grammar_of n) (option_map data_of p))) w ∙ ap (λ x. first_of (place_breaches (path ++ x ∷ []) (grammar_of n) (option_map data_of p))) s) in
    sym (ap first_of (component-turn path fs ps i i at f name (grammar_of n) presence default own p h j e q (ap field_of is ∙ view_component name n presence default own)) ∙ first_later _ _ b)

pub no-place : (path : List ℕ) (fs : List Field) (ps : List (Option Value)) (i at : ℕ) (f : Field) (name : List ℕ) (n : Node) (presence : Presence) (default : Option (List ℕ)) (own : Option ℕ) → i < length fs → length ps ≤ at → f ≡ get_or fs i f → f ≡ Component name n presence default own → None ≡ first_of (field_breaches path i (fields_view (drop i fs)) (places_view (drop at ps)))
no-place path fs ps i at f name n presence default own h j e is = ap first_of (sym (component-end path fs ps i i at f name (grammar_of n) presence default own h j e (ap field_of is ∙ view_component name n presence default own)))

pub inserted-later : (path : List ℕ) (fs : List Field) (ps : List (Option Value)) (i at : ℕ) (f : Field) (name : List ℕ) (n : Node) (slot : Option ℕ) → i < length fs → f ≡ get_or fs i f → f ≡ Inserted name n slot
    → first_of (field_breaches path (i + 1) (fields_view (drop (i + 1) fs)) (places_view (drop at ps))) ≡ first_of (field_breaches path i (fields_view (drop i fs)) (places_view (drop at ps)))
inserted-later path fs ps i at f name n slot h e is = sym (ap first_of (inserted-turn path fs ps i i at f name (grammar_of n) slot h e (ap field_of is ∙ view_inserted name n slot)))

pub room-node : (k : ℕ) (fs : List Field) (i : ℕ) (f : Field) (name : List ℕ) (n : Node) (presence : Presence) (default : Option (List ℕ)) (own : Option ℕ) → i < length fs → f ≡ get_or fs i f → f ≡ Component name n presence default own → FieldsHaveRoom k (fields_view (drop i fs)) → HasRoom k (grammar_of n)
room-node k fs i f name n presence default own h e is r = room-component k (field_of f) (drop (i + 1) fs) name (grammar_of n) presence default own (ap field_of is ∙ view_component name n presence default own) (room-turn k fs i f h e r)

elements-length : (vs : List Value) → element_count (elements_view vs) ≡ length vs
elements-length [] = refl
elements-length (v ∷ vs) = ap suc (elements-length vs)

pub size-here : (path : List ℕ) (b : Breach) (s : Sizing) (vs : List Value) (rest : List Unfit) → Some (why_of b) ≡ first (size_breach s (length vs)) → Some (record { path = path; why = why_of b }) ≡ first_of (at_path path (size_breach s (element_count (elements_view vs))) ++ rest)
size-here path b s vs rest h = rw (elements-length vs) (why_here path b (size_breach s (length vs)) rest h)

pub size-later : (path : List ℕ) (s : Sizing) (vs : List Value) (rest : List Unfit) → None ≡ first (size_breach s (length vs)) → first_of (at_path path (size_breach s (element_count (elements_view vs))) ++ rest) ≡ first_of rest
size-later path s vs rest h = rw (elements-length vs) (why_later path (size_breach s (length vs)) rest h)

pub below : (a b : ℕ) → true ≡ ltb a b → a < b
below a b h = grind (arith, nat_tests)
