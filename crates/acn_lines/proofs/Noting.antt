-- Fields are noted one after another.
use Rattle.std.proofs.Common.{◌≡◌, ℕ, suc, ◌+◌, ◌<◌, ◌≤◌, List, [], ◌++◌, length, get_or, drop, Option, Some, Bor, Ordering, nat_cmp, sym, ap, subst, ◌∙◌, arith}
use Rattle.std.specs.BTreeMap.{insert_entry}
use Rattle.std.specs.Cmp.Lexicographic.{slice_cmp}
use Rattle.std.proofs.lemmas.List.{drop_all, append-nil}
use Rattle.acn_grammar.specs.Grammar.{component}
use Rattle.acn_grammar.specs.View.{with_field, field_of, fields_view, alternatives_view, grammar_of}
use Rattle.acn_grammar.specs.declared.node.Alternative.{Alternative}
use Rattle.acn_grammar.specs.declared.node.Field.{Field, Component, Inserted}
use Rattle.acn_grammar.specs.declared.node.Node.{Node}
use Rattle.acn_grammar.specs.declared.node.Presence.{Presence}
use Rattle.acn_grammar.proofs.Views.{view_component, view_inserted}
use Rattle.acn_json.proofs.FieldLists.{fields_from}
use Rattle.acn_lines.specs.Order.{place_of, AreFieldOrders, AreAlternativeOrders}
use Rattle.acn_lines.specs.Spots.{Spots, AreSpots}
use Rattle.acn_lines.specs.declared.order.Order.{Order}
use Rattle.acn_lines.specs.declared.turns.Spot.{Spot}
use Rattle.acn_lines.proofs.OrderLaw.{Noted, AllPlaced, component_noted, inserted_noted, place_behind_component, place_behind_inserted, all_noted}
use Rattle.acn_lines.proofs.Parts.{field-here}

abbrev by_name : Bor (List ℕ) → Bor (List ℕ) → Ordering
by_name a b = slice_cmp nat_cmp a.now b.now

pub component-turn : (fs : List Field) (k at next : ℕ) (f : Field) (key : Bor (List ℕ)) (name : List ℕ) (n : Node) (presence : Presence) (default : Option (List ℕ)) (own : Option ℕ) (s : Spot) (es : Spots)
    → k < length fs → f ≡ get_or fs k f → f ≡ Component name n presence default own → key.now ≡ name → s.field ≡ k → s.place ≡ at → next ≡ suc at
    → Noted (fields_view fs) (fields_view (drop k fs)) at es → Noted (fields_view fs) (fields_view (drop (k + 1) fs)) next (insert_entry by_name es key s)
component-turn fs k at next f key name n presence default own s es h e is named field place m w =
    let rest = fields_view (drop (k + 1) fs) in
    let view = ap field_of is ∙ view_component name n presence default own in
    let from = fields_from fs k f h e ∙ ap (λ x. with_field x rest) view in
    let noted = subst (λ i. Noted (fields_view fs) (component name (grammar_of n) presence default own rest) i es) (sym place) (subst (λ x. Noted (fields_view fs) x at es) from w) in
    component_noted (fields_view fs) key name (grammar_of n) presence default own rest s next es named (m ∙ ap suc (sym place)) (rw field (field-here fs k f h e ∙ ap Some view)) noted

pub inserted-turn : (fs : List Field) (k at : ℕ) (f : Field) (name : List ℕ) (n : Node) (slot : Option ℕ) (es : Spots)
    → k < length fs → f ≡ get_or fs k f → f ≡ Inserted name n slot
    → Noted (fields_view fs) (fields_view (drop k fs)) at es → Noted (fields_view fs) (fields_view (drop (k + 1) fs)) at es
inserted-turn fs k at f name n slot es h e is w =
    let rest = fields_view (drop (k + 1) fs) in
    let from = fields_from fs k f h e ∙ ap (λ x. with_field x rest) (ap field_of is ∙ view_inserted name n slot) in
    inserted_noted (fields_view fs) name (grammar_of n) slot rest at es (subst (λ x. Noted (fields_view fs) x at es) from w)

pub fields-end : (fs : List Field) (k at : ℕ) (es : Spots) → length fs ≤ k → Noted (fields_view fs) (fields_view (drop k fs)) at es → AllPlaced (fields_view fs) es → AreSpots (fields_view fs) es
fields-end fs k at es h w placed = all_noted (fields_view fs) (fields_view (drop k fs)) at es (ap fields_view (drop_all k fs h)) w placed

-- The places of the fields.

pub place-behind-component : (fs : List Field) (k next : ℕ) (f : Field) (name : List ℕ) (n : Node) (presence : Presence) (default : Option (List ℕ)) (own : Option ℕ) → k < length fs → f ≡ get_or fs k f → f ≡ Component name n presence default own → next ≡ suc k
    → place_of (fields_view fs) next ≡ place_of (fields_view fs) k + 1
place-behind-component fs k next f name n presence default own h e is m =
    let one : suc (place_of (fields_view fs) k) ≡ place_of (fields_view fs) k + 1 = omega arith in
    place_behind_component (fields_view fs) k next name (grammar_of n) presence default own m (field-here fs k f h e ∙ ap Some (ap field_of is ∙ view_component name n presence default own)) ∙ one

pub place-behind-inserted : (fs : List Field) (k next : ℕ) (f : Field) (name : List ℕ) (n : Node) (slot : Option ℕ) → k < length fs → f ≡ get_or fs k f → f ≡ Inserted name n slot → next ≡ suc k
    → place_of (fields_view fs) next ≡ place_of (fields_view fs) k
place-behind-inserted fs k next f name n slot h e is m =
    place_behind_inserted (fields_view fs) k next name (grammar_of n) slot m (field-here fs k f h e ∙ ap Some (ap field_of is ∙ view_inserted name n slot))

-- What is kept of all fields, and of all alternatives.

pub all-fields : (fs : List Field) (i : ℕ) (os : List Order) → length fs ≤ i → ((ps : List Order) → AreFieldOrders (fields_view (drop i fs)) ps → AreFieldOrders (fields_view fs) (os ++ ps)) → AreFieldOrders (fields_view fs) os
all-fields fs i os n h = subst (AreFieldOrders (fields_view fs)) (append-nil os) (h [] (subst (λ xs. AreFieldOrders (fields_view xs) []) (sym (drop_all i fs n)) tt))

pub all-alternatives : (as' : List Alternative) (i : ℕ) (os : List Order) → length as' ≤ i → ((ps : List Order) → AreAlternativeOrders (alternatives_view (drop i as')) ps → AreAlternativeOrders (alternatives_view as') (os ++ ps)) → AreAlternativeOrders (alternatives_view as') os
all-alternatives as' i os n h = subst (AreAlternativeOrders (alternatives_view as')) (append-nil os) (h [] (subst (λ xs. AreAlternativeOrders (alternatives_view xs) []) (sym (drop_all i as' n)) tt))
