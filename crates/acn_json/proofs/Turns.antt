-- The walks over elements, components and alternatives, one part at a time.
use Rattle.std.proofs.Common.{◌≡◌, ℕ, zero, suc, ◌+◌, ◌<◌, ◌≤◌, List, [], ◌∷◌, ◌++◌, length, get_or, drop, map, Option, Some, None, option_map, Result, Ok, Err, refl, sym, ap, subst, ◌∙◌, arith, rules, String, Global, Ordering, Less, Equal, Greater, nat_cmp}
use Rattle.std.proofs.lemmas.List.{drop_more, drop_all}
use Rattle.std.specs.Ordering.{match_ordering}
use Rattle.std.specs.Cmp.Lexicographic.{slice_cmp}
use Rattle.serde_json.specs.Data.{Items, item, Members, no_members, member}
use Rattle.serde_json.specs.Data as json
use Rattle.serde_json.specs.Find.{get_member}
use Rattle.serde_json.specs.View.{view, items_view, members_view}
use Rattle.serde_json.specs.declared.value.Value.{Value as Json}
use Rattle.acn_grammar.specs.Grammar.{Grammar, Fields, Data, Places, Elements, no_elements, element, no_places, empty, filled, alternative}
use Rattle.acn_grammar.specs.View.{OneField, a_component, an_inserted, with_field, field_of, fields_view, places_of, places_view, elements_of, elements_view, alternatives_view, grammar_of, data_of}
use Rattle.acn_grammar.specs.declared.node.Alternative.{Alternative}
use Rattle.acn_grammar.specs.declared.node.Body.{the_lemmas as node_lemmas}
use Rattle.acn_grammar.specs.declared.node.Field.{Field}
use Rattle.acn_grammar.specs.declared.node.Presence.{Presence}
use Rattle.acn_grammar.specs.declared.value.Value.{Value}
use Rattle.acn_json.proofs.FieldLists.{fields_from}
use Rattle.acn_json.specs.Answers.{Answers}
use Rattle.acn_json.specs.Few.{size, items_size, members_size, CanRead, FieldsCanRead}
use Rattle.acn_json.specs.Reads.{LineFault, after, made, with_place, component_from, value_from, each_from, places_from}
use Rattle.acn_json.specs.declared.trouble.Trouble.{Trouble}
use Rattle.acn_json.specs.declared.trouble.Trouble.TheVariants.{Shape, Unknown, Missing, NoMemory}

-- Parts before others.

abbrev pub elements_before : List Data → Elements → Elements
elements_before [] es = es
elements_before (d ∷ ds) es = element d (elements_before ds es)

abbrev pub places_before : List (Option Data) → Places → Places
places_before [] ps = ps
places_before (d ∷ ds) ps = with_place d (places_before ds ps)

pub all-elements : (ds : List Data) → elements_before ds no_elements ≡ elements_of ds
all-elements [] = refl
all-elements (d ∷ ds) = ap (element d) (all-elements ds)

pub all-places : (ds : List (Option Data)) → places_before ds no_places ≡ places_of ds
all-places [] = refl
all-places (None ∷ ds) = ap empty (all-places ds)
all-places (Some d ∷ ds) = ap (filled d) (all-places ds)

one_more_element : (ds : List Data) (d : Data) (es : Elements) → elements_before (ds ++ d ∷ []) es ≡ elements_before ds (element d es)
one_more_element [] d es = refl
one_more_element (x ∷ ds) d es = ap (element x) (one_more_element ds d es)

one_more_place : (ds : List (Option Data)) (d : Option Data) (ps : Places) → places_before (ds ++ d ∷ []) ps ≡ places_before ds (with_place d ps)
one_more_place [] d ps = refl
one_more_place (x ∷ ds) d ps = ap (with_place x) (one_more_place ds d ps)

push_element : (ds : List Data) (d : Data) (r : Result Elements LineFault) → made (elements_before (ds ++ d ∷ [])) r ≡ made (elements_before ds) (made (element d) r)
push_element ds d (Ok es) = ap Ok (one_more_element ds d es)
push_element ds d (Err f) = refl

push_place : (ds : List (Option Data)) (d : Option Data) (r : Result Places LineFault) → made (places_before (ds ++ d ∷ [])) r ≡ made (places_before ds) (made (with_place d) r)
push_place ds d (Ok ps) = ap Ok (one_more_place ds d ps)
push_place ds d (Err f) = refl

-- A fault of a part is that of the whole.

pub fault-passes : {A B C D : Type 0} (f : A → B) (g : C → D) (path : List ℕ) (e : Trouble) (r : Result B LineFault) (s : Result D LineFault) → ((x : LineFault) → Err x ≡ r → Err x ≡ s) → Answers {A = A} f path (Err e) r → Answers {A = C} g path (Err e) s
fault-passes f g path Shape r s h a = h _ a
fault-passes f g path (Unknown k) r s h a = h _ a
fault-passes f g path Missing r s h a = h _ a
fault-passes f g path NoMemory r s h a = tt

-- Elements.

abbrev pub Each : Type 0
Each = ℕ → json.Data → Result Data LineFault

items_from : (js : List Json) (i : ℕ) (j : Json) → i < length js → j ≡ get_or js i j → items_view (drop i js) ≡ item (view j) (items_view (drop (i + 1) js))
items_from js i j h e = rw (drop_more js i j h, ← e) refl

pub element-turn : (one : Each) (js : List Json) (k i : ℕ) (j : Json) (ds : List Data) (d : Data) (whole : Result Elements LineFault) → i < length js → j ≡ get_or js i j → Ok d ≡ one k (view j)
    → made (elements_before ds) (each_from one k (items_view (drop i js))) ≡ whole → made (elements_before (ds ++ d ∷ [])) (each_from one (k + 1) (items_view (drop (i + 1) js))) ≡ whole
element-turn one js k i j ds d whole h e is w =
    let rest = each_from one (k + 1) (items_view (drop (i + 1) js)) in
    push_element ds d rest
    ∙ (ap (λ r. made (elements_before ds) (after r (λ x. made (element x) rest))) is
    ∙ (sym (ap (λ x. made (elements_before ds) (each_from one k x)) (items_from js i j h e)) ∙ w))

pub element-fails : (one : Each) (js : List Json) (k i : ℕ) (j : Json) (ds : List Data) (x : LineFault) (whole : Result Elements LineFault) → i < length js → j ≡ get_or js i j → Err x ≡ one k (view j)
    → made (elements_before ds) (each_from one k (items_view (drop i js))) ≡ whole → Err x ≡ whole
element-fails one js k i j ds x whole h e is w =
    let rest = each_from one (k + 1) (items_view (drop (i + 1) js)) in
    ap (λ r. made (elements_before ds) (after r (λ y. made (element y) rest))) is
    ∙ (sym (ap (λ y. made (elements_before ds) (each_from one k y)) (items_from js i j h e)) ∙ w)

pub elements-end : (one : Each) (js : List Json) (k i : ℕ) (vs : List Value) (whole : Result Elements LineFault) → length js ≤ i
    → made (elements_before (map data_of vs)) (each_from one k (items_view (drop i js))) ≡ whole → Ok (elements_view vs) ≡ whole
elements-end one js k i vs whole h w =
    ap Ok (sym (all-elements (map data_of vs))) ∙ (sym (ap (λ xs. made (elements_before (map data_of vs)) (each_from one k (items_view xs))) (drop_all i js h)) ∙ w)

pub size-item : (js : List Json) (i : ℕ) (j : Json) → i < length js → size (view (get_or js i j)) < items_size (items_view js)
size-item [] i j h = absurd (omega arith)
size-item (x ∷ xs) zero j h = omega arith
size-item (x ∷ xs) (suc i) j h = (let r = size-item xs i j (omega arith) in omega arith)

pub count-items : (js : List Json) → length js ≤ items_size (items_view js)
count-items [] = omega arith
count-items (x ∷ xs) = (let r = count-items xs in omega arith)

-- Components.

pub component-turn : (path : List ℕ) (fs : List Field) (ms : Members) (k i : ℕ) (f : Field) (name : List ℕ) (g : Grammar) (presence : Presence) (default : Option (List ℕ)) (own : Option ℕ) (ds : List (Option Data)) (d : Option Data) (whole : Result Places LineFault)
    → i < length fs → f ≡ get_or fs i f → field_of f ≡ a_component name g presence default own → Ok d ≡ component_from (value_from (path ++ k ∷ []) g) (get_member name ms)
    → made (places_before ds) (places_from path k (fields_view (drop i fs)) ms) ≡ whole → made (places_before (ds ++ d ∷ [])) (places_from path (k + 1) (fields_view (drop (i + 1) fs)) ms) ≡ whole
component-turn path fs ms k i f name g presence default own ds d whole h e c is w =
    let rest = places_from path (k + 1) (fields_view (drop (i + 1) fs)) ms in
    let from = fields_from fs i f h e ∙ ap (λ x. with_field x (fields_view (drop (i + 1) fs))) c in
    push_place ds d rest
    ∙ (ap (λ r. made (places_before ds) (after r (λ x. made (with_place x) rest))) is
    ∙ (sym (ap (λ x. made (places_before ds) (places_from path k x ms)) from) ∙ w))

pub component-fails : (path : List ℕ) (fs : List Field) (ms : Members) (k i : ℕ) (f : Field) (name : List ℕ) (g : Grammar) (presence : Presence) (default : Option (List ℕ)) (own : Option ℕ) (ds : List (Option Data)) (x : LineFault) (whole : Result Places LineFault)
    → i < length fs → f ≡ get_or fs i f → field_of f ≡ a_component name g presence default own → Err x ≡ component_from (value_from (path ++ k ∷ []) g) (get_member name ms)
    → made (places_before ds) (places_from path k (fields_view (drop i fs)) ms) ≡ whole → Err x ≡ whole
component-fails path fs ms k i f name g presence default own ds x whole h e c is w =
    let rest = places_from path (k + 1) (fields_view (drop (i + 1) fs)) ms in
    let from = fields_from fs i f h e ∙ ap (λ y. with_field y (fields_view (drop (i + 1) fs))) c in
    ap (λ r. made (places_before ds) (after r (λ y. made (with_place y) rest))) is
    ∙ (sym (ap (λ y. made (places_before ds) (places_from path k y ms)) from) ∙ w)

pub inserted-turn : (path : List ℕ) (fs : List Field) (ms : Members) (k i : ℕ) (f : Field) (name : List ℕ) (g : Grammar) (slot : Option ℕ) (ds : List (Option Data)) (whole : Result Places LineFault)
    → i < length fs → f ≡ get_or fs i f → field_of f ≡ an_inserted name g slot
    → made (places_before ds) (places_from path k (fields_view (drop i fs)) ms) ≡ whole → made (places_before ds) (places_from path (k + 1) (fields_view (drop (i + 1) fs)) ms) ≡ whole
inserted-turn path fs ms k i f name g slot ds whole h e c w =
    let from = fields_from fs i f h e ∙ ap (λ y. with_field y (fields_view (drop (i + 1) fs))) c in
    sym (ap (λ y. made (places_before ds) (places_from path k y ms)) from) ∙ w

pub places-end : (path : List ℕ) (fs : List Field) (ms : Members) (k i : ℕ) (vs : List (Option Value)) (whole : Result Places LineFault) → length fs ≤ i
    → made (places_before (map (option_map data_of) vs)) (places_from path k (fields_view (drop i fs)) ms) ≡ whole → Ok (places_view vs) ≡ whole
places-end path fs ms k i vs whole h w =
    ap Ok (sym (all-places (map (option_map data_of) vs))) ∙ (sym (ap (λ xs. made (places_before (map (option_map data_of) vs)) (places_from path k (fields_view xs) ms)) (drop_all i fs h)) ∙ w)

pub can-turn : (k : ℕ) (fs : List Field) (i : ℕ) (f : Field) → i < length fs → f ≡ get_or fs i f → FieldsCanRead k (fields_view (drop i fs)) → FieldsCanRead k (with_field (field_of f) (fields_view (drop (i + 1) fs)))
can-turn k fs i f h e c = subst (FieldsCanRead k) (fields_from fs i f h e) c

pub can-component : (k : ℕ) (f : OneField) (fs : Fields) (name : List ℕ) (g : Grammar) (presence : Presence) (default : Option (List ℕ)) (own : Option ℕ) → f ≡ a_component name g presence default own → FieldsCanRead k (with_field f fs) → CanRead k g
can-component k f fs name g presence default own e c = (subst (λ x. FieldsCanRead k (with_field x fs)) e c).0

pub can-rest : (k : ℕ) (f : OneField) (fs : Fields) → FieldsCanRead k (with_field f fs) → FieldsCanRead k fs
can-rest k (a_component name g presence default own) fs c = c.1
can-rest k (an_inserted name g slot) fs c = c

-- Members.

size-member_at : (o : Ordering) (n : ℕ) (found : Option json.Data) (e j : json.Data) → ((j : json.Data) → found ≡ Some j → size j < n) → match_ordering o found (Some e) found ≡ Some j → size j < 1 + (size e + n)
size-member_at Less n found e j h m = (let r = h j m in omega arith)
size-member_at Equal n found e j h m = (let same : e ≡ j = cc in let s = ap size same in omega arith)
size-member_at Greater n found e j h m = (let r = h j m in omega arith)

pub size-member : (name : List ℕ) (ms : Members) (j : json.Data) → get_member name ms ≡ Some j → size j < members_size ms
size-member name no_members j h = absurd (cc)
size-member name (member k e ms) j h = size-member_at (slice_cmp nat_cmp name k) (members_size ms) (get_member name ms) e j (λ i m. size-member name ms i m) h

pub count-members : (es : List (String Global × Json)) → length es ≤ members_size (members_view es)
count-members [] = omega arith
count-members (e ∷ es) = (let r = count-members es in omega arith)

-- Alternatives.

one_alternative : (a : Alternative) (as' : List Alternative) → alternatives_view (a ∷ as') ≡ alternative a.name (grammar_of a.node) a.tests (alternatives_view as')
one_alternative a as' = search (rules, node_lemmas)

pub alternatives_from : (as' : List Alternative) (i : ℕ) (a : Alternative) → i < length as' → a ≡ get_or as' i a → alternatives_view (drop i as') ≡ alternative a.name (grammar_of a.node) a.tests (alternatives_view (drop (i + 1) as'))
alternatives_from as' i a h e = rw (drop_more as' i a h, ← e) (one_alternative a (drop (i + 1) as'))
