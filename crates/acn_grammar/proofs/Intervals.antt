-- Sums and hulls of bounds.
use Rattle.std.proofs.Common.{List, length, get_or, drop, refl, ap, ◌<◌, ◌≡◌, ℕ, ◌+◌, ◌^◌, ◌≤◌, arith}
use Rattle.acn_grammar.specs.Grammar.{Grammar, Fields, Alternatives, node, no_fields, component, inserted, no_alternatives, alternative}
use Rattle.std.proofs.lemmas.List.{drop_more}
use Rattle.acn_grammar.specs.View.{OneField, a_component, an_inserted, with_field, field_of, fields_view, alternative_of, alternatives_view, grammar_of}
use Rattle.acn_grammar.specs.declared.node.Field.{Field}
use Rattle.acn_grammar.specs.declared.node.Alternative.{Alternative}
use Rattle.acn_grammar.specs.declared.node.Body.{the_lemmas as node_lemmas}
use Rattle.std.proofs.Common.{rules}
use Rattle.acn_grammar.specs.Interval.{field_span, plus, hull, exactly, span, fields_span, alternatives_span}
use Rattle.acn_grammar.specs.declared.bounds.Bounds.{Bounds}

pub same_bounds : (a b : Bounds) → a.least ≡ b.least → a.greatest ≡ b.greatest → a ≡ b
same_bounds a b p q = λ i. record { least = p i; greatest = q i }

pub plus_assoc : (a b c : Bounds) → plus (plus a b) c ≡ plus a (plus b c)
plus_assoc a b c = same_bounds _ _ (omega arith) (omega arith)

pub hull_assoc : (a b c : Bounds) → hull (hull a b) c ≡ hull a (hull b c)
hull_assoc a b c = same_bounds _ _ (omega arith) (omega arith)

abbrev pub IsHeld : Bounds → Type 0
IsHeld b = (b.least ≤ 2 ^ 40) × (b.greatest ≤ 2 ^ 40)

pub none_plus : (b : Bounds) → IsHeld b → plus (exactly 0) b ≡ b
none_plus b h = same_bounds _ _ (omega arith) (omega arith)

pub plus_none : (b : Bounds) → IsHeld b → plus b (exactly 0) ≡ b
plus_none b h = same_bounds _ _ (omega arith) (omega arith)

pub none_hull : (b : Bounds) → IsHeld b → hull (alternatives_span no_alternatives) b ≡ b
none_hull b h = same_bounds _ _ (omega arith) (omega arith)

pub hull_none : (b : Bounds) → IsHeld b → hull b (alternatives_span no_alternatives) ≡ b
hull_none b h = same_bounds _ _ (omega arith) (omega arith)

pub span_held : (g : Grammar) → IsHeld (span g)
span_held (node align form) = (omega arith, omega arith)

pub fields_held : (fs : Fields) → IsHeld (fields_span fs)
fields_held no_fields = (omega arith, omega arith)
fields_held (component name g presence default own fs) = (omega arith, omega arith)
fields_held (inserted name g slot fs) = (omega arith, omega arith)

pub alternatives_held : (as' : Alternatives) → IsHeld (alternatives_span as')
alternatives_held no_alternatives = (omega arith, omega arith)
alternatives_held (alternative name g tests more) =
    let h = span_held g in
    let k = alternatives_held more in
    (omega arith, omega arith)

fields_span-with_field : (f : OneField) (fs : Fields) → fields_span (with_field f fs) ≡ plus (field_span f) (fields_span fs)
fields_span-with_field (a_component name g presence default own) fs = refl
fields_span-with_field (an_inserted name g slot) fs = refl

-- one field further
pub fields_span-drop : (fs : List Field) (i : ℕ) (f : Field) → i < length fs → f ≡ get_or fs i f → fields_span (fields_view (drop i fs)) ≡ plus (field_span (field_of f)) (fields_span (fields_view (drop (i + 1) fs)))
fields_span-drop fs i f h e = rw (drop_more fs i f h, ← e) (fields_span-with_field (field_of f) _)

pub alternative_of-grammar : (a : Alternative) → (alternative_of a).grammar ≡ grammar_of a.node
alternative_of-grammar a = search (rules, node_lemmas)

pub alternatives_span-drop : (as' : List Alternative) (i : ℕ) (a : Alternative) → i < length as' → a ≡ get_or as' i a → alternatives_span (alternatives_view (drop i as')) ≡ hull (span (grammar_of a.node)) (alternatives_span (alternatives_view (drop (i + 1) as')))
alternatives_span-drop as' i a h e = rw (drop_more as' i a h, ← e) (ap (λ g. hull (span g) (alternatives_span (alternatives_view (drop (i + 1) as')))) (alternative_of-grammar a))
