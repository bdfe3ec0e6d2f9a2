-- Places and fields, one after another.
use Rattle.std.proofs.Common.{◌≡◌, ℕ, zero, suc, ◌+◌, ◌<◌, ◌≤◌, Bool, true, false, ◌||◌, ◌&&◌, List, [], ◌∷◌, ◌++◌, length, map, get_or, drop, Option, Some, None, option_map, is_some, refl, sym, ap, ◌∙◌, arith, length-append}
use Rattle.std.proofs.lemmas.List.{drop_all, map-append}
use Rattle.acn_grammar.specs.Grammar.{Data, Places, component, inserted, no_places, empty, filled}
use Rattle.acn_grammar.specs.Shaped.{may_be_absent}
use Rattle.acn_grammar.specs.View.{with_field, field_of, fields_view, grammar_of, data_of, places_of, places_view}
use Rattle.acn_grammar.specs.declared.node.Field.{Field, Component, Inserted}
use Rattle.acn_grammar.specs.declared.node.Node.{Node}
use Rattle.acn_grammar.specs.declared.node.Presence.{Presence}
use Rattle.acn_grammar.specs.declared.value.Value.{Value}
use Rattle.acn_grammar.proofs.Views.{view_component, view_inserted}
use Rattle.acn_json.proofs.FieldLists.{fields_from}
use Rattle.acn_lines.specs.Taken.{component_count, no_values, is_there, behind, is_whole}

-- Fields.

pub component-here : (fs : List Field) (i : ℕ) (f : Field) (name : List ℕ) (n : Node) (presence : Presence) (default : Option (List ℕ)) (slot : Option ℕ) → i < length fs → f ≡ get_or fs i f → f ≡ Component name n presence default slot
    → fields_view (drop i fs) ≡ component name (grammar_of n) presence default slot (fields_view (drop (i + 1) fs))
component-here fs i f name n presence default slot h e is = fields_from fs i f h e ∙ ap (λ x. with_field x (fields_view (drop (i + 1) fs))) (ap field_of is ∙ view_component name n presence default slot)

pub inserted-here : (fs : List Field) (i : ℕ) (f : Field) (name : List ℕ) (n : Node) (slot : Option ℕ) → i < length fs → f ≡ get_or fs i f → f ≡ Inserted name n slot
    → fields_view (drop i fs) ≡ inserted name (grammar_of n) slot (fields_view (drop (i + 1) fs))
inserted-here fs i f name n slot h e is = fields_from fs i f h e ∙ ap (λ x. with_field x (fields_view (drop (i + 1) fs))) (ap field_of is ∙ view_inserted name n slot)

-- Empty places.

abbrev pub before_places : List (Option Data) → Places → Places
before_places [] ps = ps
before_places (None ∷ ds) ps = empty (before_places ds ps)
before_places (Some d ∷ ds) ps = filled d (before_places ds ps)

pub all-places : (ds : List (Option Data)) → before_places ds no_places ≡ places_of ds
all-places [] = refl
all-places (None ∷ ds) = ap empty (all-places ds)
all-places (Some d ∷ ds) = ap (filled d) (all-places ds)

one_more : (ds : List (Option Data)) (ps : Places) → before_places (ds ++ None ∷ []) ps ≡ before_places ds (empty ps)
one_more [] ps = refl
one_more (None ∷ ds) ps = ap empty (one_more ds ps)
one_more (Some d ∷ ds) ps = ap (filled d) (one_more ds ps)

pub empty-turn : (fs : List Field) (i : ℕ) (f : Field) (name : List ℕ) (n : Node) (presence : Presence) (default : Option (List ℕ)) (slot : Option ℕ) (vs : List (Option Value)) (whole : Places) → i < length fs → f ≡ get_or fs i f → f ≡ Component name n presence default slot
    → before_places (map (option_map data_of) vs) (no_values (fields_view (drop i fs))) ≡ whole → before_places (map (option_map data_of) (vs ++ None ∷ [])) (no_values (fields_view (drop (i + 1) fs))) ≡ whole
empty-turn fs i f name n presence default slot vs whole h e is w =
    let rest = no_values (fields_view (drop (i + 1) fs)) in
    ap (λ ds. before_places ds rest) (map-append (option_map data_of) vs (None ∷ []))
    ∙ (one_more (map (option_map data_of) vs) rest ∙ (sym (ap (λ x. before_places (map (option_map data_of) vs) (no_values x)) (component-here fs i f name n presence default slot h e is)) ∙ w))

pub empty-end : (fs : List Field) (i : ℕ) (vs : List (Option Value)) (whole : Places) → length fs ≤ i → before_places (map (option_map data_of) vs) (no_values (fields_view (drop i fs))) ≡ whole → places_view vs ≡ whole
empty-end fs i vs whole h w = sym (all-places (map (option_map data_of) vs)) ∙ (ap (λ xs. before_places (map (option_map data_of) vs) (no_values (fields_view xs))) (sym (drop_all i fs h)) ∙ w)

-- Places that are filled.

behind_more : (ps : List (Option Value)) (at : ℕ) → places_view (drop (suc at) ps) ≡ behind (places_view (drop at ps))
behind_more [] zero = refl
behind_more [] (suc at) = refl
behind_more (None ∷ ps) zero = refl
behind_more (Some v ∷ ps) zero = refl
behind_more (p ∷ ps) (suc at) = behind_more ps at

pub behind-next : (ps : List (Option Value)) (at next : ℕ) → next ≡ suc at → places_view (drop next ps) ≡ behind (places_view (drop at ps))
behind-next ps at next e = ap (λ k. places_view (drop k ps)) e ∙ behind_more ps at

pub there-here : (ps : List (Option Value)) (at : ℕ) (p : Option Value) → at < length ps → p ≡ get_or ps at p → is_some p ≡ is_there (places_view (drop at ps))
there-here [] at p h e = absurd (omega arith)
there-here (None ∷ ps) zero p h e = ap is_some e
there-here (Some v ∷ ps) zero p h e = ap is_some e
there-here (None ∷ ps) (suc at) p h e = there-here ps at p (omega arith) e
there-here (Some v ∷ ps) (suc at) p h e = there-here ps at p (omega arith) e

pub there-past : (ps : List (Option Value)) (at : ℕ) → length ps ≤ at → false ≡ is_there (places_view (drop at ps))
there-past ps at h = ap (λ xs. is_there (places_view xs)) (sym (drop_all at ps h))

pub whole-turn : (fs : List Field) (ps : List (Option Value)) (i at next : ℕ) (f : Field) (name : List ℕ) (n : Node) (presence : Presence) (default : Option (List ℕ)) (slot : Option ℕ) (whole : Bool) → i < length fs → f ≡ get_or fs i f → f ≡ Component name n presence default slot
    → next ≡ suc at → (is_there (places_view (drop at ps)) || may_be_absent presence) ≡ true → is_whole (fields_view (drop i fs)) (places_view (drop at ps)) ≡ whole → is_whole (fields_view (drop (i + 1) fs)) (places_view (drop next ps)) ≡ whole
whole-turn fs ps i at next f name n presence default slot whole h e is m met w =
    let here = places_view (drop at ps) in
    let rest = fields_view (drop (i + 1) fs) in
    ap (is_whole rest) (behind-next ps at next m)
    ∙ (sym (ap (λ x. is_whole x here) (component-here fs i f name n presence default slot h e is) ∙ ap (λ b. b && is_whole rest (behind here)) met) ∙ w)

pub whole-past : (fs : List Field) (ps : Places) (i : ℕ) (f : Field) (name : List ℕ) (n : Node) (slot : Option ℕ) (whole : Bool) → i < length fs → f ≡ get_or fs i f → f ≡ Inserted name n slot
    → is_whole (fields_view (drop i fs)) ps ≡ whole → is_whole (fields_view (drop (i + 1) fs)) ps ≡ whole
whole-past fs ps i f name n slot whole h e is w = sym (ap (λ x. is_whole x ps) (inserted-here fs i f name n slot h e is)) ∙ w

-- How many components are left.

pub count-turn : (fs : List Field) (i : ℕ) (f : Field) (name : List ℕ) (n : Node) (presence : Presence) (default : Option (List ℕ)) (slot : Option ℕ) → i < length fs → f ≡ get_or fs i f → f ≡ Component name n presence default slot
    → component_count (fields_view (drop i fs)) ≡ suc (component_count (fields_view (drop (i + 1) fs)))
count-turn fs i f name n presence default slot h e is = ap component_count (component-here fs i f name n presence default slot h e is)

pub count-past : (fs : List Field) (i : ℕ) (f : Field) (name : List ℕ) (n : Node) (slot : Option ℕ) → i < length fs → f ≡ get_or fs i f → f ≡ Inserted name n slot
    → component_count (fields_view (drop i fs)) ≡ component_count (fields_view (drop (i + 1) fs))
count-past fs i f name n slot h e is = ap component_count (inserted-here fs i f name n slot h e is)

pub empty-past : (fs : List Field) (i : ℕ) (f : Field) (name : List ℕ) (n : Node) (slot : Option ℕ) (ds : List (Option Data)) (whole : Places) → i < length fs → f ≡ get_or fs i f → f ≡ Inserted name n slot
    → before_places ds (no_values (fields_view (drop i fs))) ≡ whole → before_places ds (no_values (fields_view (drop (i + 1) fs))) ≡ whole
empty-past fs i f name n slot ds whole h e is w = sym (ap (λ x. before_places ds (no_values x)) (inserted-here fs i f name n slot h e is)) ∙ w

pub pushed : (ps : List (Option Value)) (left more whole : ℕ) → left ≡ suc more → length ps + left ≡ whole → length (ps ++ None ∷ []) + more ≡ whole
pushed ps left more whole e h = (let n = length-append ps (None ∷ []) in omega arith)
