-- Places of components that are made one after another, as a list.
use Rattle.std.proofs.Common.{◌≡◌, ℕ, ◌+◌, ◌<◌, List, [], ◌∷◌, ◌++◌, length, get_or, drop, Option, Some, None, refl, sym, ap, ◌∙◌, append_assoc}
use Rattle.std.specs.Prelude.{option_map}
use Rattle.std.proofs.lemmas.List.{drop_more, append-nil}
use Rattle.acn_grammar.specs.Grammar.{Grammar, Fields, Data, Places, no_fields, component, inserted}
use Rattle.acn_grammar.specs.View.{OneField, a_component, with_field, field_of, fields_view, places_of}
use Rattle.acn_grammar.specs.declared.node.Field.{Field}
use Rattle.acn_grammar.specs.declared.node.Presence.{Presence}
use Rattle.acn_extreme_laws.specs.Best.{Way, put_way, with_place, past, best, fields_best}
use Rattle.acn_extreme_laws.specs.declared.side.Side.{Side}
use Rattle.acn_extremes.specs.Ways.{component_way, place_first, pass_first, places_left, added, left_behind}

-- Fields.

-- the fields from i on are that field and those behind it
fields_from : (fs : List Field) (i : ℕ) (f : Field) → i < length fs → f ≡ get_or fs i f → fields_view (drop i fs) ≡ with_field (field_of f) (fields_view (drop (i + 1) fs))
fields_from fs i f h e = rw (drop_more fs i f h, ← e) refl

abbrev pub as_places : Way (List (Option Data)) → Way Places
as_places w = (w.0, places_of w.1)

put_first : (d : Option Data) (o : Option (Way (List (Option Data)))) → option_map as_places (option_map (λ v. (v.0, d ∷ v.1)) o) ≡ put_way d (option_map as_places o)
put_first d None = refl
put_first None (Some v) = refl
put_first (Some d) (Some v) = refl

added_nothing : (o : Option (Way (List (Option Data)))) → added [] o ≡ o
added_nothing None = refl
added_nothing (Some w) = refl

module _ (root : Grammar) (side : Side) where
  place_turn : (o : Option (Way (Option Data))) (next : ℕ → Option (Way (List (Option Data)))) (more : ℕ → Option (Way Places)) → ((at : ℕ) → option_map as_places (next at) ≡ more at)
      → option_map as_places (place_first o next) ≡ with_place o more
  place_turn None next more h = refl
  place_turn (Some w) next more h = put_first w.1 (next w.0) ∙ ap (put_way w.1) (h w.0)

  past_turn : (o : Option (Way Data)) (next : ℕ → Option (Way (List (Option Data)))) (more : ℕ → Option (Way Places)) → ((at : ℕ) → option_map as_places (next at) ≡ more at)
      → option_map as_places (pass_first o next) ≡ past o more
  past_turn None next more h = refl
  past_turn (Some w) next more h = h w.0

  pub places_best : (fs : Fields) (at : ℕ) → option_map as_places (places_left root side fs at) ≡ fields_best root side fs at
  places_best no_fields at = refl
  places_best (component n g p def own fs) at = place_turn (component_way root side g p at) (places_left root side fs) (fields_best root side fs) (λ m. places_best fs m)
  places_best (inserted n g slot fs) at = past_turn (best root side g at) (places_left root side fs) (fields_best root side fs) (λ m. places_best fs m)

  -- a field more
  pub field_turn : (fs : List Field) (i : ℕ) (f : Field) (next : Option ℕ) (old new : List (Option Data)) (end : ℕ) (whole : Option (Way (List (Option Data)))) → i < length fs → f ≡ get_or fs i f
      → ((more : Fields) → left_behind root side next new more ≡ added old (places_left root side (with_field (field_of f) more) end))
      → added old (places_left root side (fields_view (drop i fs)) end) ≡ whole → left_behind root side next new (fields_view (drop (i + 1) fs)) ≡ whole
  field_turn fs i f next old new end whole h e step same =
      step (fields_view (drop (i + 1) fs)) ∙ (ap (λ x. added old (places_left root side x end)) (sym (fields_from fs i f h e)) ∙ same)

  -- no field more
  pub fields_end : (left : Fields) (done : List (Option Data)) (end : ℕ) (whole : Option (Way (List (Option Data)))) → left ≡ no_fields → added done (places_left root side left end) ≡ whole → Some (end, done) ≡ whole
  fields_end left done end whole e same =
      ap (λ ds. Some (end, ds)) (sym (append-nil done)) ∙ (ap (λ x. added done (places_left root side x end)) (sym e) ∙ same)

  -- what is told at the end
  pub fields_told : (fs : Fields) (at : ℕ) (done : List (Option Data)) (end : ℕ) → Some (end, done) ≡ added [] (places_left root side fs at) → Some (end, places_of done) ≡ fields_best root side fs at
  fields_told fs at done end e = ap (option_map as_places) (e ∙ added_nothing (places_left root side fs at)) ∙ places_best fs at

  pub fields_stop : (fs : Fields) (at : ℕ) → None ≡ added [] (places_left root side fs at) → None ≡ fields_best root side fs at
  fields_stop fs at e = ap (option_map as_places) (e ∙ added_nothing (places_left root side fs at)) ∙ places_best fs at

  -- a component that gains its place
  pub component_added : (f : OneField) (name : List ℕ) (g : Grammar) (p : Presence) (def : Option (List ℕ)) (own : Option ℕ) (at : ℕ) (w : Way (Option Data)) (old new : List (Option Data)) (fs : Fields) → f ≡ a_component name g p def own
      → Some w ≡ component_way root side g p at → new ≡ old ++ w.1 ∷ [] → added new (places_left root side fs w.0) ≡ added old (places_left root side (with_field f fs) at)
  component_added f name g p def own at w old new fs e is made =
      ap (λ ds. added ds (places_left root side fs w.0)) made
      ∙ (by (places_left root side fs w.0)
      ∙ (ap (λ o. added old (place_first o (places_left root side fs))) is ∙ ap (λ one. added old (places_left root side (with_field one fs) at)) (sym e)))
    where
      by : (o : Option (Way (List (Option Data)))) → added (old ++ w.1 ∷ []) o ≡ added old (option_map (λ v. (v.0, w.1 ∷ v.1)) o)
      by None = refl
      by (Some v) = ap (λ ds. Some (v.0, ds)) (append_assoc old (w.1 ∷ []) v.1)
