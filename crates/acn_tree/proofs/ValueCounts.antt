-- Values of fields and alternatives, one after another.
use Rattle.std.proofs.Common.{◌≡◌, ℕ, ◌+◌, ◌^◌, ◌<◌, ◌≤◌, List, length, get_or, drop, refl, arith}
use Rattle.std.specs.Prelude.{max}
use Rattle.std.proofs.lemmas.List.{drop_more}
use Rattle.acn_grammar.specs.Grammar.{Fields, no_fields, component, inserted}
use Rattle.acn_grammar.specs.Interval.{held, value_count, field_values, alternative_values, with_field_values}
use Rattle.acn_grammar.specs.View.{OneField, a_component, an_inserted, with_field, grammar_of, field_of, fields_view, alternatives_view}
use Rattle.acn_grammar.specs.declared.node.Alternative.{Alternative}
use Rattle.acn_grammar.specs.declared.node.Field.{Field}
use Rattle.acn_grammar.proofs.Intervals.{alternative_of-grammar}

pub fields-held : (fs : Fields) → field_values fs ≤ 2 ^ 40
fields-held no_fields = omega arith
fields-held (component name g presence default own fs) = omega arith
fields-held (inserted name g slot fs) = fields-held fs

one-turn : (all : ℕ) (f : OneField) (fs : Fields) → all ≤ 2 ^ 40 → held (with_field_values all f + field_values fs) ≡ held (all + field_values (with_field f fs))
one-turn all (a_component name g presence default own) fs h = omega arith
one-turn all (an_inserted name g slot) fs h = refl

pub values-turn : (all : ℕ) (fs : List Field) (i : ℕ) (f : Field) → i < length fs → f ≡ get_or fs i f → all ≤ 2 ^ 40 → held (with_field_values all (field_of f) + field_values (fields_view (drop (i + 1) fs))) ≡ held (all + field_values (fields_view (drop i fs)))
values-turn all fs i f h e s = rw (drop_more fs i f h, ← e) (one-turn all (field_of f) (fields_view (drop (i + 1) fs)) s)

pub alternatives-turn : (most : ℕ) (as' : List Alternative) (i : ℕ) (a : Alternative) → i < length as' → a ≡ get_or as' i a → max (max most (value_count (grammar_of a.node))) (alternative_values (alternatives_view (drop (i + 1) as'))) ≡ max most (alternative_values (alternatives_view (drop i as')))
alternatives-turn most as' i a h e =
    rw (drop_more as' i a h, ← e, alternative_of-grammar a) (omega arith)
