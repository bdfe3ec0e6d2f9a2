-- Places, elements and alternatives that are made, as lists.
use Rattle.std.proofs.Common.{◌≡◌, ℕ, zero, suc, ◌+◌, ◌<◌, Bool, true, false, List, [], ◌∷◌, ◌++◌, length, get_or, drop, Option, Some, None, refl, sym, ap, subst, ◌∙◌, arith, append_assoc, rules}
use Rattle.std.specs.Prelude.{if◌then◌else◌}
use Rattle.std.proofs.lemmas.List.{drop_more, append-nil}
use Rattle.acn_tree.specs.CanDraw.{CanDraw, FieldsCanDraw, AlternativesCanDraw}
use Rattle.acn_grammar.specs.Grammar.{Grammar, Fields, Data, no_fields, component, inserted, empty, filled, element}
use Rattle.acn_grammar.specs.ItemsNamed.{items_named, fields_items_named, alternatives_items_named, ItemsNamed, FieldsItemsNamed, AlternativesItemsNamed}
use Rattle.acn_tree.specs.Made.{Drawn, after, is, parts, elements, made, fields_made, presence, alternative_count, alternative_made}
use Rattle.acn_tree.specs.MadeParts.{place_made}
use Rattle.acn_grammar.specs.View.{OneField, a_component, an_inserted, with_field, field_of, fields_view, places_of, elements_of, alternatives_view, alternative_of, grammar_of}
use Rattle.acn_grammar.specs.declared.node.Alternative.{Alternative}
use Rattle.acn_grammar.specs.declared.node.Body.{the_lemmas as node_lemmas}
use Rattle.acn_grammar.specs.declared.node.Field.{Field}
use Rattle.acn_grammar.specs.declared.node.Presence.{Presence}
use Rattle.std.proofs.lemmas.Bool.{and_parts}
use Rattle.acn_grammar.proofs.Intervals.{alternative_of-grammar}

-- Elements.

pub elements_value : (each : ℕ → Drawn Data) (n s : ℕ) → elements_of (parts each n s).value ≡ (elements each n s).value
elements_value each zero s = refl
elements_value each (suc n) s = ap (element (each s).value) (elements_value each n (each s).state)

pub elements_state : (each : ℕ → Drawn Data) (n s : ℕ) → (parts each n s).state ≡ (elements each n s).state
elements_state each zero s = refl
elements_state each (suc n) s = elements_state each n (each s).state

-- Places.

abbrev pub places_made : Fields → ℕ → Drawn (List (Option Data))
places_made no_fields s = record { value = []; state = s }
places_made (component name g p default own fs) s = after (place_made p g s) (λ d t. is (λ ds. d ∷ ds) (places_made fs t))
places_made (inserted name g slot fs) s = places_made fs s

component_value : (there : Bool) (t : ℕ) (g : Grammar) (fs : Fields) → ((u : ℕ) → places_of (places_made fs u).value ≡ (fields_made fs u).value)
    → places_of (after (if there then is Some (made g t) else record { value = None; state = t }) (λ d u. is (λ ds. d ∷ ds) (places_made fs u))).value
    ≡ (if there then after (made g t) (λ d u. is (filled d) (fields_made fs u)) else is empty (fields_made fs t)).value
component_value true t g fs f = ap (filled (made g t).value) (f (made g t).state)
component_value false t g fs f = ap empty (f t)

pub places_value : (fs : Fields) (s : ℕ) → places_of (places_made fs s).value ≡ (fields_made fs s).value
places_value no_fields s = refl
places_value (component name g p default own fs) s = component_value (presence p s).value (presence p s).state g fs (λ u. places_value fs u)
places_value (inserted name g slot fs) s = places_value fs s

component_state : (there : Bool) (t : ℕ) (g : Grammar) (fs : Fields) → ((u : ℕ) → (places_made fs u).state ≡ (fields_made fs u).state)
    → (after (if there then is Some (made g t) else record { value = None; state = t }) (λ d u. is (λ ds. d ∷ ds) (places_made fs u))).state
    ≡ (if there then after (made g t) (λ d u. is (filled d) (fields_made fs u)) else is empty (fields_made fs t)).state
component_state true t g fs f = f (made g t).state
component_state false t g fs f = f t

pub places_state : (fs : Fields) (s : ℕ) → (places_made fs s).state ≡ (fields_made fs s).state
places_state no_fields s = refl
places_state (component name g p default own fs) s = component_state (presence p s).value (presence p s).state g fs (λ u. places_state fs u)
places_state (inserted name g slot fs) s = places_state fs s

-- the fields from i on are that field and those behind it
pub fields_from : (fs : List Field) (i : ℕ) (f : Field) → i < length fs → f ≡ get_or fs i f → fields_view (drop i fs) ≡ with_field (field_of f) (fields_view (drop (i + 1) fs))
fields_from fs i f h e = rw (drop_more fs i f h, ← e) refl

-- a component adds a place
pub component_turn : (left rest : Fields) (name : List ℕ) (g : Grammar) (p : Presence) (default : Option (List ℕ)) (own : Option ℕ) (s t : ℕ) (d : Option Data) (done whole : List (Option Data))
    → left ≡ with_field (a_component name g p default own) rest → d ≡ (place_made p g s).value → t ≡ (place_made p g s).state
    → done ++ (places_made left s).value ≡ whole → (done ++ d ∷ []) ++ (places_made rest t).value ≡ whole
component_turn left rest name g p default own s t d done whole e a b same =
    let step : done ++ (places_made left s).value ≡ done ++ (d ∷ (places_made rest t).value) = rw (e, a, b) refl in
    append_assoc done (d ∷ []) (places_made rest t).value ∙ (sym step ∙ same)

pub component_goes_on : (left rest : Fields) (name : List ℕ) (g : Grammar) (p : Presence) (default : Option (List ℕ)) (own : Option ℕ) (s t whole : ℕ)
    → left ≡ with_field (a_component name g p default own) rest → t ≡ (place_made p g s).state → (places_made left s).state ≡ whole → (places_made rest t).state ≡ whole
component_goes_on left rest name g p default own s t whole e b same =
    let step : (places_made left s).state ≡ (places_made rest t).state = rw (e, b) refl in
    sym step ∙ same

-- an inserted field adds none
pub inserted_turn : (left rest : Fields) (name : List ℕ) (g : Grammar) (slot : Option ℕ) → left ≡ with_field (an_inserted name g slot) rest → places_made left ≡ places_made rest
inserted_turn left rest name g slot e = rw e refl

-- where no field is left
pub nothing_left : (left : Fields) (s : ℕ) (done whole : List (Option Data)) → left ≡ no_fields → done ++ (places_made left s).value ≡ whole → done ≡ whole
nothing_left left s done whole e same =
    let step : done ++ (places_made left s).value ≡ done = rw e (append-nil done) in
    sym step ∙ same

pub stands_still : (left : Fields) (s whole : ℕ) → left ≡ no_fields → (places_made left s).state ≡ whole → s ≡ whole
stands_still left s whole e same =
    let step : (places_made left s).state ≡ s = rw e refl in
    sym step ∙ same

-- What the fields keep, they keep from each of them on.

pub can_component : (left rest : Fields) (name : List ℕ) (g : Grammar) (p : Presence) (default : Option (List ℕ)) (own : Option ℕ) → left ≡ with_field (a_component name g p default own) rest → FieldsCanDraw left → CanDraw g
can_component left rest name g p default own e h = (subst FieldsCanDraw e h).0

pub named_component : (left rest : Fields) (name : List ℕ) (g : Grammar) (p : Presence) (default : Option (List ℕ)) (own : Option ℕ) → left ≡ with_field (a_component name g p default own) rest → FieldsItemsNamed left → ItemsNamed g
named_component left rest name g p default own e h = (and_parts (items_named g) (fields_items_named rest) (subst FieldsItemsNamed e h)).0

can_rest : (f : OneField) (rest : Fields) → FieldsCanDraw (with_field f rest) → FieldsCanDraw rest
can_rest (a_component name g p default own) rest h = h.1
can_rest (an_inserted name g slot) rest h = h

named_rest : (f : OneField) (rest : Fields) → FieldsItemsNamed (with_field f rest) → FieldsItemsNamed rest
named_rest (a_component name g p default own) rest h = (and_parts (items_named g) (fields_items_named rest) h).1
named_rest (an_inserted name g slot) rest h = (and_parts (items_named g) (fields_items_named rest) h).1

pub can_turn : (f : OneField) (left rest : Fields) → left ≡ with_field f rest → FieldsCanDraw left → FieldsCanDraw rest
can_turn f left rest e h = can_rest f rest (subst FieldsCanDraw e h)

pub named_turn : (f : OneField) (left rest : Fields) → left ≡ with_field f rest → FieldsItemsNamed left → FieldsItemsNamed rest
named_turn f left rest e h = named_rest f rest (subst FieldsItemsNamed e h)

-- Alternatives.

pub count_view : (as' : List Alternative) → alternative_count (alternatives_view as') ≡ length as'
count_view [] = refl
count_view (a ∷ as') = ap suc (count_view as')

pub made_at : (as' : List Alternative) (i s : ℕ) (a : Alternative) → i < length as' → alternative_made (alternatives_view as') i s ≡ made (grammar_of (get_or as' i a).node) s
made_at [] i s a h = absurd (omega arith)
made_at (x ∷ xs) zero s a h = search (rules, node_lemmas)
made_at (x ∷ xs) (suc i) s a h = made_at xs i s a (omega arith)

pub can_at : (as' : List Alternative) (i : ℕ) (a : Alternative) → i < length as' → AlternativesCanDraw (alternatives_view as') → CanDraw (grammar_of (get_or as' i a).node)
can_at [] i a h k = absurd (omega arith)
can_at (x ∷ xs) zero a h k = subst CanDraw (alternative_of-grammar x) k.0
can_at (x ∷ xs) (suc i) a h k = can_at xs i a (omega arith) k.1

pub named_at : (as' : List Alternative) (i : ℕ) (a : Alternative) → i < length as' → AlternativesItemsNamed (alternatives_view as') → ItemsNamed (grammar_of (get_or as' i a).node)
named_at [] i a h k = absurd (omega arith)
named_at (x ∷ xs) zero a h k = subst ItemsNamed (alternative_of-grammar x) (and_parts (items_named (alternative_of x).grammar) (alternatives_items_named (alternatives_view xs)) k).0
named_at (x ∷ xs) (suc i) a h k = named_at xs i a (omega arith) (and_parts (items_named (alternative_of x).grammar) (alternatives_items_named (alternatives_view xs)) k).1
