-- The walk that notes the components that are there.
use Rattle.std.proofs.Common.{◌≡◌, ℕ, ◌+◌, ◌<◌, ◌≤◌, List, [], ◌∷◌, length, get_or, drop, Option, Some, None, option_map, Bor, Ordering, Less, Equal, Greater, nat_cmp, refl, sym, ap, subst, ◌∙◌}
use Rattle.std.specs.BTreeMap.{insert_entry}
use Rattle.std.specs.Cmp.Lexicographic.{slice_cmp}
use Rattle.std.specs.List.{slice_get}
use Rattle.std.specs.Ordering.{match_ordering}
use Rattle.std.proofs.lemmas.List.{drop_more, drop_all}
use Rattle.std.proofs.lemmas.Option.{slice_get_read}
use Rattle.serde_json.specs.Data.{Members, member, put}
use Rattle.serde_json.specs.Data as json
use Rattle.acn_grammar.specs.Grammar.{Grammar, Fields, Data, component}
use Rattle.acn_grammar.specs.View.{with_field, field_of, fields_view, places_view, grammar_of, data_of}
use Rattle.acn_grammar.specs.declared.node.Field.{Field, Component, Inserted}
use Rattle.acn_grammar.specs.declared.node.Node.{Node}
use Rattle.acn_grammar.specs.declared.node.Presence.{Presence}
use Rattle.acn_grammar.specs.declared.value.Value.{Value}
use Rattle.acn_grammar.proofs.Views.{view_component, view_inserted}
use Rattle.acn_json.specs.Lines.{json_of, fields_json}
use Rattle.acn_json.specs.Spots.{Spots, place_json, json_at, members_at, put_there, AreWithin}
use Rattle.acn_json.specs.declared.spots.Spot.{Spot}
use Rattle.acn_json.proofs.FieldLists.{fields_from}

-- Spots.

pub first-within : (m n : ℕ) (es rest : Spots) (k : Bor (List ℕ)) (s : Spot) → es ≡ (k, s) ∷ rest → AreWithin m n es → (s.field < m) × (s.place < n) × AreWithin m n rest
first-within m n es rest k s e h = subst (AreWithin m n) e h

pub first-member : (value : Spot → json.Data) (es rest : Spots) (k : Bor (List ℕ)) (s : Spot) → es ≡ (k, s) ∷ rest → members_at value es ≡ member k.now (value s) (members_at value rest)
first-member value es rest k s e = ap (members_at value) e

abbrev by_name : Bor (List ℕ) → Bor (List ℕ) → Ordering
by_name a b = slice_cmp nat_cmp a.now b.now

at-ordering : (value : Spot → json.Data) (o : Ordering) (a b c : Spots) → members_at value (match_ordering o a b c) ≡ match_ordering o (members_at value a) (members_at value b) (members_at value c)
at-ordering value Less a b c = refl
at-ordering value Equal a b c = refl
at-ordering value Greater a b c = refl

pub members-insert : (value : Spot → json.Data) (es : Spots) (k : Bor (List ℕ)) (s : Spot) → members_at value (insert_entry by_name es k s) ≡ put k.now (value s) (members_at value es)
members-insert value [] k s = refl
members-insert value (e ∷ es) k s = at-ordering value (by_name k e.0) _ _ _ ∙ rw (members-insert value es k s)

within-ordering : (m n : ℕ) (o : Ordering) (a b c : Spots) → AreWithin m n a → AreWithin m n b → AreWithin m n c → AreWithin m n (match_ordering o a b c)
within-ordering m n Less a b c p q r = p
within-ordering m n Equal a b c p q r = q
within-ordering m n Greater a b c p q r = r

pub within-insert : (m n : ℕ) (es : Spots) (k : Bor (List ℕ)) (s : Spot) → s.field < m → s.place < n → AreWithin m n es → AreWithin m n (insert_entry by_name es k s)
within-insert m n [] k s f p h = (f, p, tt)
within-insert m n (e ∷ es) k s f p h =
    within-ordering m n (by_name k e.0) ((k, s) ∷ e ∷ es) ((e.0, s) ∷ es) (e ∷ insert_entry by_name es k s) (f, p, h) (f, p, h.2) (h.0, h.1, within-insert m n es k s f p h.2)

-- the JSON of the component where a spot leads
pub json-here : (fs : List Field) (ps : List (Option Value)) (k at : ℕ) (f : Field) (p : Option Value) (s : Spot) → k < length fs → at < length ps → f ≡ get_or fs k f → p ≡ get_or ps at p → s.field ≡ k → s.place ≡ at
    → json_at fs ps s ≡ place_json (field_of f) (option_map data_of p)
json-here fs ps k at f p s h j e q field place =
    let one : slice_get fs s.field ≡ Some f = rw field (slice_get_read fs (length fs) k f refl h e) in
    let two : slice_get ps s.place ≡ Some p = rw place (slice_get_read ps (length ps) at p refl j q) in
    rw (one, two) refl

-- The walk.

abbrev pub with_member : List ℕ → Grammar → Option Data → Members → Members
with_member name g None found = found
with_member name g (Some d) found = put name (json_of g d) found

component_step : (found : Members) (name : List ℕ) (g : Grammar) (presence : Presence) (default : Option (List ℕ)) (own : Option ℕ) (fs : Fields) (p : Option Value) (ps : List (Option Value)) (whole : Members)
    → fields_json found (component name g presence default own fs) (places_view (p ∷ ps)) ≡ whole → fields_json (with_member name g (option_map data_of p) found) fs (places_view ps) ≡ whole
component_step found name g presence default own fs None ps whole w = w
component_step found name g presence default own fs (Some v) ps whole w = w

component_at : (fs : List Field) (k : ℕ) (f : Field) (name : List ℕ) (n : Node) (presence : Presence) (default : Option (List ℕ)) (own : Option ℕ) → k < length fs → f ≡ get_or fs k f → f ≡ Component name n presence default own
    → fields_view (drop k fs) ≡ component name (grammar_of n) presence default own (fields_view (drop (k + 1) fs))
component_at fs k f name n presence default own h e is =
    fields_from fs k f h e ∙ ap (λ x. with_field x (fields_view (drop (k + 1) fs))) (ap field_of is ∙ view_component name n presence default own)

pub fields-turn : (fs : List Field) (ps : List (Option Value)) (k at : ℕ) (f : Field) (name : List ℕ) (n : Node) (presence : Presence) (default : Option (List ℕ)) (own : Option ℕ) (p : Option Value) (found whole : Members)
    → k < length fs → at < length ps → f ≡ get_or fs k f → p ≡ get_or ps at p → f ≡ Component name n presence default own
    → fields_json found (fields_view (drop k fs)) (places_view (drop at ps)) ≡ whole
    → fields_json (with_member name (grammar_of n) (option_map data_of p) found) (fields_view (drop (k + 1) fs)) (places_view (drop (at + 1) ps)) ≡ whole
fields-turn fs ps k at f name n presence default own p found whole h j e q is w =
    let from = component_at fs k f name n presence default own h e is in
    let places : drop at ps ≡ p ∷ drop (at + 1) ps = drop_more ps at p j ∙ ap (λ x. x ∷ drop (at + 1) ps) (sym q) in
    component_step found name (grammar_of n) presence default own (fields_view (drop (k + 1) fs)) p (drop (at + 1) ps) whole
    (sym (ap (λ x. fields_json found x (places_view (drop at ps))) from ∙ ap (λ x. fields_json found (component name (grammar_of n) presence default own (fields_view (drop (k + 1) fs))) (places_view x)) places) ∙ w)

pub fields-skip : (fs : List Field) (ps : List (Option Value)) (k at : ℕ) (f : Field) (name : List ℕ) (n : Node) (slot : Option ℕ) (found whole : Members)
    → k < length fs → f ≡ get_or fs k f → f ≡ Inserted name n slot
    → fields_json found (fields_view (drop k fs)) (places_view (drop at ps)) ≡ whole
    → fields_json found (fields_view (drop (k + 1) fs)) (places_view (drop at ps)) ≡ whole
fields-skip fs ps k at f name n slot found whole h e is w =
    let from = fields_from fs k f h e ∙ ap (λ x. with_field x (fields_view (drop (k + 1) fs))) (ap field_of is ∙ view_inserted name n slot) in
    sym (ap (λ x. fields_json found x (places_view (drop at ps))) from) ∙ w

pub no-places-left : (fs : List Field) (ps : List (Option Value)) (k at : ℕ) (f : Field) (name : List ℕ) (n : Node) (presence : Presence) (default : Option (List ℕ)) (own : Option ℕ) (found whole : Members)
    → k < length fs → length ps ≤ at → f ≡ get_or fs k f → f ≡ Component name n presence default own
    → fields_json found (fields_view (drop k fs)) (places_view (drop at ps)) ≡ whole → found ≡ whole
no-places-left fs ps k at f name n presence default own found whole h j e is w =
    let from = component_at fs k f name n presence default own h e is in
    sym (ap (λ x. fields_json found x (places_view (drop at ps))) from ∙ ap (λ x. fields_json found (component name (grammar_of n) presence default own (fields_view (drop (k + 1) fs))) (places_view x)) (drop_all at ps j)) ∙ w

pub fields-end : (fs : List Field) (ps : List (Option Value)) (k at : ℕ) (found whole : Members) → length fs ≤ k
    → fields_json found (fields_view (drop k fs)) (places_view (drop at ps)) ≡ whole → found ≡ whole
fields-end fs ps k at found whole h w = sym (ap (λ x. fields_json found (fields_view x) (places_view (drop at ps))) (drop_all k fs h)) ∙ w

there-here : (found : Members) (name : List ℕ) (n : Node) (presence : Presence) (default : Option (List ℕ)) (own : Option ℕ) (f : Field) (p : Option Value) (j : json.Data) → f ≡ Component name n presence default own → j ≡ place_json (field_of f) (option_map data_of p)
    → put_there p name j found ≡ with_member name (grammar_of n) (option_map data_of p) found
there-here found name n presence default own f None j is h = refl
there-here found name n presence default own f (Some v) j is h =
    let view = ap field_of is ∙ view_component name n presence default own in
    ap (λ x. put name x found) (h ∙ ap (λ x. place_json x (Some (data_of v))) view)

-- a component is noted where it is there
pub note-turn : (fs : List Field) (ps : List (Option Value)) (k at : ℕ) (f : Field) (name : List ℕ) (n : Node) (presence : Presence) (default : Option (List ℕ)) (own : Option ℕ) (p : Option Value) (s : Spot) (called : List ℕ) (es new : Spots) (whole : Members)
    → k < length fs → at < length ps → f ≡ get_or fs k f → p ≡ get_or ps at p → f ≡ Component name n presence default own → s.field ≡ k → s.place ≡ at → called ≡ name
    → members_at (json_at fs ps) new ≡ put_there p called (json_at fs ps s) (members_at (json_at fs ps) es)
    → fields_json (members_at (json_at fs ps) es) (fields_view (drop k fs)) (places_view (drop at ps)) ≡ whole
    → fields_json (members_at (json_at fs ps) new) (fields_view (drop (k + 1) fs)) (places_view (drop (at + 1) ps)) ≡ whole
note-turn fs ps k at f name n presence default own p s called es new whole h j e q is field place named put-is w =
    let found = members_at (json_at fs ps) es in
    let put-here = put-is ∙ (ap (λ x. put_there p x (json_at fs ps s) found) named ∙ there-here found name n presence default own f p (json_at fs ps s) is (json-here fs ps k at f p s h j e q field place)) in
    ap (λ ms. fields_json ms (fields_view (drop (k + 1) fs)) (places_view (drop (at + 1) ps))) put-here
    ∙ fields-turn fs ps k at f name n presence default own p found whole h j e q is w
