-- Fields, places and what is kept of them, by their numbers.
use Rattle.std.proofs.Common.{◌≡◌, ℕ, zero, suc, ◌<◌, ◌≤◌, Bool, true, List, [], ◌∷◌, ◌++◌, length, get_or, Option, Some, None, option_map, refl, sym, ap, subst, ◌∙◌, arith, rules}
use Rattle.serde_json.specs.Data.{Members}
use Rattle.serde_json.specs.Written.{compact_text, comma_if, members_text}
use Rattle.acn_grammar.specs.Grammar.{Fields, Data}
use Rattle.acn_grammar.specs.View.{OneField, a_component, an_inserted, with_field, field_of, fields_view, places_view, alternatives_view, grammar_of, data_of}
use Rattle.acn_grammar.specs.declared.node.Alternative.{Alternative}
use Rattle.acn_grammar.specs.declared.node.Body.{the_lemmas as node_lemmas}
use Rattle.acn_grammar.specs.declared.node.Field.{Field}
use Rattle.acn_grammar.specs.declared.value.Value.{Value}
use Rattle.acn_json.specs.Lines.{json_of}
use Rattle.acn_json.proofs.Texts.{members-turn}
use Rattle.acn_lines.specs.Names.{NamesDiffer, AlternativesNamesDiffer}
use Rattle.acn_lines.specs.Order.{field_at, place_at, member_at, HasKey, IsNodeOrder, IsFieldOrder, AreFieldOrders, AreAlternativeOrders, field_json}
use Rattle.acn_lines.specs.declared.order.Order.{Order}

-- Places.

pub place-here : (ps : List (Option Value)) (k : ℕ) (p : Option Value) → k < length ps → p ≡ get_or ps k p → option_map data_of p ≡ place_at (places_view ps) k
place-here [] k p h e = absurd (omega arith)
place-here (None ∷ ps) zero p h e = ap (option_map data_of) e
place-here (Some v ∷ ps) zero p h e = ap (option_map data_of) e
place-here (None ∷ ps) (suc k) p h e = place-here ps k p (omega arith) e
place-here (Some v ∷ ps) (suc k) p h e = place-here ps k p (omega arith) e

pub place-past : (ps : List (Option Value)) (k : ℕ) → length ps ≤ k → None ≡ place_at (places_view ps) k
place-past [] k h = refl
place-past (p ∷ ps) zero h = absurd (omega arith)
place-past (None ∷ ps) (suc k) h = place-past ps k (omega arith)
place-past (Some v ∷ ps) (suc k) h = place-past ps k (omega arith)

-- Fields.

first_field : (x : OneField) (fs : Fields) → field_at (with_field x fs) zero ≡ Some x
first_field (a_component name g presence default own) fs = refl
first_field (an_inserted name g slot) fs = refl

later_field : (x : OneField) (fs : Fields) (k : ℕ) → field_at (with_field x fs) (suc k) ≡ field_at fs k
later_field (a_component name g presence default own) fs k = refl
later_field (an_inserted name g slot) fs k = refl

pub field-here : (fs : List Field) (k : ℕ) (f : Field) → k < length fs → f ≡ get_or fs k f → field_at (fields_view fs) k ≡ Some (field_of f)
field-here [] k f h e = absurd (omega arith)
field-here (x ∷ xs) zero f h e = first_field (field_of x) (fields_view xs) ∙ ap (λ y. Some (field_of y)) (sym e)
field-here (x ∷ xs) (suc k) f h e = later_field (field_of x) (fields_view xs) k ∙ field-here xs k f (omega arith) e

pub field-within : (fs : List Field) (k : ℕ) (key : List ℕ) → HasKey (field_at (fields_view fs) k) key → k < length fs
field-within [] k key h = absurd h
field-within (x ∷ xs) zero key h = omega arith
field-within (x ∷ xs) (suc k) key h =
    let rest = field-within xs k key (subst (λ o. HasKey o key) (later_field (field_of x) (fields_view xs) k) h) in
    omega arith

-- What is kept of fields.

abbrev Split : OneField → Fields → List Order → Type 0
Split x fs [] = ⊥
Split x fs (o ∷ os) = IsFieldOrder x o × AreFieldOrders fs os

split : (x : OneField) (fs : Fields) (os : List Order) → AreFieldOrders (with_field x fs) os → Split x fs os
split (a_component name g presence default own) fs [] h = h
split (a_component name g presence default own) fs (o ∷ os) h = h
split (an_inserted name g slot) fs [] h = h
split (an_inserted name g slot) fs (o ∷ os) h = h

pub join : (x : OneField) (fs : Fields) (o : Order) (os : List Order) → IsFieldOrder x o → AreFieldOrders fs os → AreFieldOrders (with_field x fs) (o ∷ os)
join (a_component name g presence default own) fs o os p h = (p, h)
join (an_inserted name g slot) fs o os p h = (p, h)

pub orders-within : (fs : List Field) (os : List Order) (k : ℕ) → AreFieldOrders (fields_view fs) os → k < length fs → k < length os
orders-within [] os k h n = absurd (omega arith)
orders-within (x ∷ xs) [] k h n = absurd (split (field_of x) (fields_view xs) [] h)
orders-within (x ∷ xs) (o ∷ os) zero h n = omega arith
orders-within (x ∷ xs) (o ∷ os) (suc k) h n =
    let rest = orders-within xs os k (split (field_of x) (fields_view xs) (o ∷ os) h).1 (omega arith) in
    omega arith

pub order-here : (fs : List Field) (os : List Order) (k : ℕ) (f : Field) (o : Order) → AreFieldOrders (fields_view fs) os → k < length fs → f ≡ get_or fs k f → o ≡ get_or os k o → IsFieldOrder (field_of f) o
order-here [] os k f o h n e i = absurd (omega arith)
order-here (x ∷ xs) [] k f o h n e i = absurd (split (field_of x) (fields_view xs) [] h)
order-here (x ∷ xs) (p ∷ ps) zero f o h n e i =
    subst (λ y. IsFieldOrder (field_of y) o) (sym e) (subst (λ y. IsFieldOrder (field_of x) y) (sym i) (split (field_of x) (fields_view xs) (p ∷ ps) h).0)
order-here (x ∷ xs) (p ∷ ps) (suc k) f o h n e i = order-here xs ps k f o (split (field_of x) (fields_view xs) (p ∷ ps) h).1 (omega arith) e i

-- What is kept of alternatives.

pub alternatives-within : (as' : List Alternative) (os : List Order) (k : ℕ) → AreAlternativeOrders (alternatives_view as') os → k < length as' → k < length os
alternatives-within [] os k h n = absurd (omega arith)
alternatives-within (x ∷ xs) [] k h n = absurd h
alternatives-within (x ∷ xs) (o ∷ os) zero h n = omega arith
alternatives-within (x ∷ xs) (o ∷ os) (suc k) h n = (let rest = alternatives-within xs os k h.1 (omega arith) in omega arith)

first_alternative : (x : Alternative) (xs : List Alternative) (o : Order) (os : List Order) → AreAlternativeOrders (alternatives_view (x ∷ xs)) (o ∷ os) → IsNodeOrder (grammar_of x.node) o
first_alternative x xs o os h = search (rules, node_lemmas)

pub alternative-here : (as' : List Alternative) (os : List Order) (k : ℕ) (a : Alternative) (o : Order) → AreAlternativeOrders (alternatives_view as') os → k < length as' → a ≡ get_or as' k a → o ≡ get_or os k o → IsNodeOrder (grammar_of a.node) o
alternative-here [] os k a o h n e i = absurd (omega arith)
alternative-here (x ∷ xs) [] k a o h n e i = absurd h
alternative-here (x ∷ xs) (p ∷ ps) zero a o h n e i =
    subst (λ y. IsNodeOrder (grammar_of y.node) o) (sym e) (subst (λ y. IsNodeOrder (grammar_of x.node) y) (sym i) (first_alternative x xs p ps h))
alternative-here (x ∷ xs) (p ∷ ps) (suc k) a o h n e i = alternative-here xs ps k a o h.1 (omega arith) e i

first_names : (x : Alternative) (xs : List Alternative) → AlternativesNamesDiffer (alternatives_view (x ∷ xs)) → NamesDiffer (grammar_of x.node)
first_names x xs h = search (rules, node_lemmas)

pub alternative-names : (as' : List Alternative) (k : ℕ) (a : Alternative) → AlternativesNamesDiffer (alternatives_view as') → k < length as' → a ≡ get_or as' k a → NamesDiffer (grammar_of a.node)
alternative-names [] k a h n e = absurd (omega arith)
alternative-names (x ∷ xs) zero a h n e = subst (λ y. NamesDiffer (grammar_of y.node)) (sym e) (first_names x xs h)
alternative-names (x ∷ xs) (suc k) a h n e = alternative-names xs k a h.1 (omega arith) e

-- Members.

turn_text : (x : OneField) (d : Data) (key : List ℕ) (later : Bool) (ms : Members) (out mid keyed new : List ℕ) → HasKey (Some x) key → mid ≡ out ++ comma_if later → keyed ≡ mid ++ key → new ≡ keyed ++ compact_text (field_json x d)
    → new ++ members_text true ms ≡ out ++ members_text later (member_at (Some x) (Some d) ms)
turn_text (a_component name g presence default own) d key later ms out mid keyed new k p q r = members-turn later name (json_of g d) ms out mid keyed new _ p (q ∙ ap (λ t. mid ++ t) k) r refl
turn_text (an_inserted name g slot) d key later ms out mid keyed new k p q r = absurd k

pub turn-text : (o : Option OneField) (p : Option Data) (x : OneField) (d : Data) (key : List ℕ) (later : Bool) (ms : Members) (out mid keyed new : List ℕ) → o ≡ Some x → Some d ≡ p → HasKey o key → mid ≡ out ++ comma_if later → keyed ≡ mid ++ key → new ≡ keyed ++ compact_text (field_json x d)
    → new ++ members_text true ms ≡ out ++ members_text later (member_at o p ms)
turn-text o p x d key later ms out mid keyed new f v k a b c =
    turn_text x d key later ms out mid keyed new (subst (λ y. HasKey y key) f k) a b c
    ∙ ap (λ y. out ++ members_text later y) (ap (λ y. member_at (Some x) y ms) v ∙ ap (λ y. member_at y p ms) (sym f))

pub no-turn : (o : Option OneField) (p : Option Data) (later : Bool) (ms : Members) (out : List ℕ) → None ≡ p → out ++ members_text later ms ≡ out ++ members_text later (member_at o p ms)
no-turn o p later ms out e = ap (λ y. out ++ members_text later y) (nothing_there o ∙ ap (λ y. member_at o y ms) e)
  where
    nothing_there : (o : Option OneField) → ms ≡ member_at o None ms
    nothing_there None = refl
    nothing_there (Some (a_component name g presence default own)) = refl
    nothing_there (Some (an_inserted name g slot)) = refl
