-- Fields, one behind another, and the places of a value beside them.
use Rattle.std.proofs.Common.{◌≡◌, ℕ, suc, ◌+◌, ◌<◌, ◌≤◌, true, false, List, [], ◌∷◌, ◌++◌, length, drop, get_or, Option, Some, None, option_map, refl, sym, ap, ◌∙◌, subst, add-one}
use Rattle.std.proofs.lemmas.List.{drop_more, drop_all}
use Rattle.acn_grammar.specs.Grammar.{Grammar, Fields, Data, Places, no_fields, component, inserted, no_places}
use Rattle.acn_grammar.specs.Meets.{Unfit, first_of, field_breaches}
use Rattle.acn_grammar.specs.View.{data_of, places_view}
use Rattle.acn_grammar.specs.declared.value.Value.{Value}
use Rattle.acn_plan.specs.Back.{StepAt, put_field, node_at, fields_at}
use Rattle.acn_plan.specs.declared.step.Place.{Place}
use Rattle.acn_plan.specs.declared.step.Place.TheVariants as places
use Rattle.acn_plan.specs.declared.step.Step.{Step}
use Rattle.acn_plan.proofs.Marks.{fields_more, fields_none}
use Rattle.acn_tree.specs.Room.{HasRoom, FieldsHaveRoom}
use Rattle.acn_step_breach.specs.Components.{is_component, place_breaches, put_place, IsFirst}
use Rattle.acn_step_breach.specs.declared.steps.Spot.{Spot}
use Rattle.acn_step_breach.proofs.Turns.{first_here, first_later}

-- One field.

component_takes : (p : Place) (g : Grammar) (fs : Fields) (path : List ℕ) (n : ℕ) (d : Option Data) (ps : Places) → is_component p ≡ true
    → field_breaches path n (put_field p g fs) (put_place d ps) ≡ place_breaches (path ++ n ∷ []) g d ++ field_breaches path (suc n) fs ps
component_takes (places.Component name presence default own) g fs path n None ps e = refl
component_takes (places.Component name presence default own) g fs path n (Some d) ps e = refl
component_takes places.Root g fs path n d ps e = cc
component_takes (places.Inserted name slot) g fs path n d ps e = cc
component_takes (places.Alternative name tests item) g fs path n d ps e = cc
component_takes places.Element g fs path n d ps e = cc
component_takes places.Content g fs path n d ps e = cc

other_passes : (p : Place) (g : Grammar) (fs : Fields) (path : List ℕ) (n : ℕ) (ps : Places) → is_component p ≡ false → field_breaches path n (put_field p g fs) ps ≡ field_breaches path (suc n) fs ps
other_passes (places.Component name presence default own) g fs path n ps e = cc
other_passes places.Root g fs path n ps e = refl
other_passes (places.Inserted name slot) g fs path n ps e = refl
other_passes (places.Alternative name tests item) g fs path n ps e = refl
other_passes places.Element g fs path n ps e = refl
other_passes places.Content g fs path n ps e = refl

field_room : (p : Place) (g : Grammar) (fs : Fields) (k : ℕ) → FieldsHaveRoom k (put_field p g fs) → HasRoom k g × FieldsHaveRoom k fs
field_room (places.Component name presence default own) g fs k h = (h.0, h.1)
field_room places.Root g fs k h = (h.0, h.1)
field_room (places.Inserted name slot) g fs k h = (h.0, h.1)
field_room (places.Alternative name tests item) g fs k h = (h.0, h.1)
field_room places.Element g fs k h = (h.0, h.1)
field_room places.Content g fs k h = (h.0, h.1)

-- Fields among steps.

module _ (steps : List Step) (k end : ℕ) (s : Step) (is : StepAt steps k s) (less : k < end) (up : k < s.next) where
  pub step_takes : (path : List ℕ) (n : ℕ) (d : Option Data) (ps : Places) → is_component s.place ≡ true
      → field_breaches path n (fields_at steps k end) (put_place d ps) ≡ place_breaches (path ++ n ∷ []) (node_at steps k) d ++ field_breaches path (suc n) (fields_at steps s.next end) ps
  step_takes path n d ps e =
      ap (λ (fs : Fields). field_breaches path n fs (put_place d ps)) (fields_more steps k end s is less up) ∙ component_takes s.place (node_at steps k) (fields_at steps s.next end) path n d ps e

  pub step_passes : (path : List ℕ) (n : ℕ) (ps : Places) → is_component s.place ≡ false → field_breaches path n (fields_at steps k end) ps ≡ field_breaches path (n + 1) (fields_at steps s.next end) ps
  step_passes path n ps e =
      ap (λ (fs : Fields). field_breaches path n fs ps) (fields_more steps k end s is less up)
      ∙ (other_passes s.place (node_at steps k) (fields_at steps s.next end) path n ps e ∙ ap (λ (m : ℕ). field_breaches path m (fields_at steps s.next end) ps) (sym (add-one n)))

  pub step_room : (depth : ℕ) → FieldsHaveRoom depth (fields_at steps k end) → HasRoom depth (node_at steps k) × FieldsHaveRoom depth (fields_at steps s.next end)
  step_room depth h = field_room s.place (node_at steps k) (fields_at steps s.next end) depth (subst (FieldsHaveRoom depth) (fields_more steps k end s is less up) h)

pub step_none : (steps : List Step) (k end : ℕ) → end ≤ k → (path : List ℕ) (n : ℕ) (ps : Places) → field_breaches path n (fields_at steps k end) ps ≡ []
step_none steps k end le path n ps = ap (λ (fs : Fields). field_breaches path n fs ps) (fields_none steps k end le)

-- Places.

place_first : (p : Option Value) (ps : List (Option Value)) → places_view (p ∷ ps) ≡ put_place (option_map data_of p) (places_view ps)
place_first None ps = refl
place_first (Some v) ps = refl

without_places : (fs : Fields) (path : List ℕ) (n : ℕ) → field_breaches path n fs no_places ≡ []
without_places no_fields path n = refl
without_places (component name g presence default own fs) path n = refl
without_places (inserted name g slot fs) path n = without_places fs path (suc n)

pub places_end : (fs : Fields) (path : List ℕ) (n : ℕ) (ps : List (Option Value)) (i : ℕ) → length ps ≤ i → field_breaches path n fs (places_view (drop i ps)) ≡ []
places_end fs path n ps i h = ap (λ (xs : List (Option Value)). field_breaches path n fs (places_view xs)) (drop_all i ps h) ∙ without_places fs path n

module _ (steps : List Step) (k end n : ℕ) (spot : Spot) (is : IsFirst steps k end n spot) (path here : List ℕ) (same : here ≡ path) (ps : List (Option Value)) (i : ℕ) (p : Option Value) (less : i < length ps) (at : p ≡ get_or ps i p) where
  turn : field_breaches path n (fields_at steps k end) (places_view (drop i ps))
      ≡ place_breaches (path ++ spot.number ∷ []) (node_at steps spot.this) (option_map data_of p) ++ field_breaches path (suc spot.number) (fields_at steps spot.next end) (places_view (drop (i + 1) ps))
  turn =
      ap (λ (xs : List (Option Value)). field_breaches path n (fields_at steps k end) (places_view xs)) (drop_more ps i p less ∙ ap (λ (x : Option Value). x ∷ drop (i + 1) ps) (sym at))
      ∙ (ap (λ (x : Places). field_breaches path n (fields_at steps k end) x) (place_first p (drop (i + 1) ps))
      ∙ is.takes path (option_map data_of p) (places_view (drop (i + 1) ps)))

  there : (o : Option Unfit) → o ≡ first_of (place_breaches (here ++ spot.number ∷ []) (node_at steps spot.this) (option_map data_of p)) → o ≡ first_of (place_breaches (path ++ spot.number ∷ []) (node_at steps spot.this) (option_map data_of p))
  there o a = a ∙ ap (λ (x : List ℕ). first_of (place_breaches (x ++ spot.number ∷ []) (node_at steps spot.this) (option_map data_of p))) same

  pub place_here : (u : Unfit) → Some u ≡ first_of (place_breaches (here ++ spot.number ∷ []) (node_at steps spot.this) (option_map data_of p)) → Some u ≡ first_of (field_breaches path n (fields_at steps k end) (places_view (drop i ps)))
  place_here u a = first_here u _ _ (there (Some u) a) ∙ ap first_of (sym turn)

  pub place_later : None ≡ first_of (place_breaches (here ++ spot.number ∷ []) (node_at steps spot.this) (option_map data_of p))
      → first_of (field_breaches path (spot.number + 1) (fields_at steps spot.next end) (places_view (drop (i + 1) ps))) ≡ first_of (field_breaches path n (fields_at steps k end) (places_view (drop i ps)))
  place_later a =
      ap (λ (m : ℕ). first_of (field_breaches path m (fields_at steps spot.next end) (places_view (drop (i + 1) ps)))) (add-one spot.number)
      ∙ sym (ap first_of turn ∙ first_later _ _ (there None a))
