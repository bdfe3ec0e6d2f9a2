-- The events of fields and of elements, one by one.
use Rattle.std.proofs.Common.{◌≡◌, ℕ, suc, ◌+◌, ◌<◌, ◌≤◌, true, List, [], ◌∷◌, ◌++◌, drop, length, get_or, Option, Some, None, refl, sym, ap, ◌∙◌, append_assoc, arith, ltb, map, drop_of_length-le}
use Rattle.std.specs.Prelude.{option_map}
use Rattle.std.proofs.lemmas.Bool.Decides.{nat_tests}
use Rattle.std.proofs.lemmas.List.{drop_more, at_drop_more}
use Rattle.acn_grammar.specs.Grammar.{Grammar, Fields, Data, node, component}
use Rattle.acn_grammar.specs.View.{OneField, a_component, an_inserted, with_field, data_of, elements_view, places_view}
use Rattle.acn_grammar.specs.declared.node.NumLeaf.{NumLeaf}
use Rattle.acn_grammar.specs.declared.node.Presence.{Presence}
use Rattle.acn_grammar.specs.declared.value.Value.{Value}
use Rattle.acn_plan.specs.Back.{StepAt, node_at, form_in, marks}
use Rattle.acn_plan.specs.declared.step.Act.{Act}
use Rattle.acn_plan.specs.declared.step.Act.TheVariants as acts
use Rattle.acn_plan.specs.declared.step.Step.{Step}
use Rattle.acn_plan.proofs.Marks.{node_is}
use Rattle.acn_events.specs.Event.{Event}
use Rattle.acn_events.specs.Events.{events, field_events, inserted_events, own_events, presence_events, run_events}
use Rattle.acn_pack.specs.Parts.{place_events, left_of}

-- what `get` says of a place that is there
pub below : (a b : ℕ) → true ≡ ltb a b → a < b
below a b h = grind (arith, nat_tests)

module _ (root : Grammar) where
  -- a component and what is behind it
  place_first : (name : List ℕ) (g : Grammar) (presence : Presence) (default : Option (List ℕ)) (own : Option ℕ) (fs : Fields) (path : List ℕ) (k : ℕ) (p : Option Value) (ps : List (Option Value))
      → field_events root (component name g presence default own fs) path k (places_view (p ∷ ps)) ≡ place_events root g presence own (path ++ k ∷ []) (option_map data_of p) ++ field_events root fs path (suc k) (places_view ps)
  place_first name g presence default own fs path k None ps = refl
  place_first name g presence default own fs path k (Some v) ps =
      let own' = own_events (path ++ k ∷ []) own g (data_of v) in
      let asked = presence_events (path ++ k ∷ []) true presence in
      let inside = events root g (path ++ k ∷ []) (data_of v) in
      let rest = field_events root fs path (suc k) (places_view ps) in
      ap (λ (x : List Event). own' ++ x) (sym (append_assoc asked inside rest)) ∙ sym (append_assoc own' (asked ++ inside) rest)

  pub component_events : (f : OneField) (name : List ℕ) (g : Grammar) (presence : Presence) (default : Option (List ℕ)) (own : Option ℕ) (fs : Fields) (path : List ℕ) (k next : ℕ) (p : Option Value) (ps : List (Option Value))
      → f ≡ a_component name g presence default own → next < length ps → p ≡ get_or ps next p
      → field_events root (with_field f fs) path k (places_view (drop next ps)) ≡ place_events root g presence own (path ++ k ∷ []) (option_map data_of p) ++ left_of root fs path (suc k) ps (Some (next + 1))
  component_events f name g presence default own fs path k next p ps e h is =
      let more : drop next ps ≡ p ∷ drop (next + 1) ps = drop_more ps next p h ∙ ap (λ (x : Option Value). x ∷ drop (next + 1) ps) (sym is) in
      ap (λ (x : OneField). field_events root (with_field x fs) path k (places_view (drop next ps))) e
      ∙ (ap (λ (x : List (Option Value)). field_events root (component name g presence default own fs) path k (places_view x)) more ∙ place_first name g presence default own fs path k p (drop (next + 1) ps))

  -- a component without a place
  pub no_component : (f : OneField) (name : List ℕ) (g : Grammar) (presence : Presence) (default : Option (List ℕ)) (own : Option ℕ) (fs : Fields) (path : List ℕ) (k next : ℕ) (ps : List (Option Value))
      → f ≡ a_component name g presence default own → length ps ≤ next → field_events root (with_field f fs) path k (places_view (drop next ps)) ≡ []
  no_component f name g presence default own fs path k next ps e h =
      ap (λ (x : OneField). field_events root (with_field x fs) path k (places_view (drop next ps))) e ∙ ap (λ (x : List (Option Value)). field_events root (component name g presence default own fs) path k (places_view x)) (drop_of_length-le ps h)

  pub inserted_first : (f : OneField) (name : List ℕ) (g : Grammar) (slot : Option ℕ) (fs : Fields) (path : List ℕ) (k next : ℕ) (ps : List (Option Value))
      → f ≡ an_inserted name g slot → field_events root (with_field f fs) path k (places_view (drop next ps)) ≡ inserted_events slot g ++ left_of root fs path (suc k) ps (Some next)
  inserted_first f name g slot fs path k next ps e = ap (λ (x : OneField). field_events root (with_field x fs) path k (places_view (drop next ps))) e

-- an inserted field that is no number has no events
no_number : (slot : Option ℕ) (align next n i : ℕ) (ss : List Step) (a : Act) → ((leaf : NumLeaf) → a ≡ acts.Num leaf → ⊥) → inserted_events slot (node align (form_in a next n (marks i ss))) ≡ []
no_number slot align next n i ss (acts.Num leaf) h = absurd (h leaf refl)
no_number (Some s) align next n i ss (acts.Octets sizing) h = refl
no_number None align next n i ss (acts.Octets sizing) h = refl
no_number (Some s) align next n i ss (acts.Bits sizing) h = refl
no_number None align next n i ss (acts.Bits sizing) h = refl
no_number (Some s) align next n i ss (acts.Text leaf) h = refl
no_number None align next n i ss (acts.Text leaf) h = refl
no_number (Some s) align next n i ss (acts.Seq home) h = refl
no_number None align next n i ss (acts.Seq home) h = refl
no_number (Some s) align next n i ss (acts.List sizing) h = refl
no_number None align next n i ss (acts.List sizing) h = refl
no_number (Some s) align next n i ss (acts.Choice cases) h = refl
no_number None align next n i ss (acts.Choice cases) h = refl
no_number (Some s) align next n i ss (acts.Contained sizing) h = refl
no_number None align next n i ss (acts.Contained sizing) h = refl

pub inserted_none : (slot : Option ℕ) (steps : List Step) (i : ℕ) (s : Step) → StepAt steps i s → ((leaf : NumLeaf) → s.act ≡ acts.Num leaf → ⊥) → inserted_events slot (node_at steps i) ≡ []
inserted_none slot steps i s h none = ap (inserted_events slot) (node_is steps i s h) ∙ no_number slot s.align s.next (i + 1) (i + 1) (drop (i + 1) steps) s.act none

-- elements
pub element_first : (each : ℕ → Data → List Event) (k i : ℕ) (v : Value) (vs : List Value) → i < length vs → v ≡ get_or vs i v → run_events each k (elements_view (drop i vs)) ≡ each k (data_of v) ++ run_events each (suc k) (elements_view (drop (i + 1) vs))
element_first each k i v vs h is = ap (λ (x : List Value). run_events each k (elements_view x)) (drop_more vs i v h ∙ ap (λ (x : Value). x ∷ drop (i + 1) vs) (sym is))

pub no_element : (each : ℕ → Data → List Event) (k i : ℕ) (vs : List Value) → length vs ≤ i → run_events each k (elements_view (drop i vs)) ≡ []
no_element each k i vs h = ap (λ (x : List Value). run_events each k (elements_view x)) (drop_of_length-le vs h)

-- a list of which each item has one event
pub item_first : {X : Type 0} (event : X → Event) (i : ℕ) (d : X) (xs : List X) → i < length xs → map event (drop i xs) ≡ event (get_or xs i d) ∷ map event (drop (i + 1) xs)
item_first event i d xs h = at_drop_more (map event) xs i d h

pub no_item : {X : Type 0} (event : X → Event) (i : ℕ) (xs : List X) → length xs ≤ i → map event (drop i xs) ≡ []
no_item event i xs h = ap (map event) (drop_of_length-le xs h)
