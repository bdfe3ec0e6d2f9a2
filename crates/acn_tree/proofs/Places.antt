-- The node at a place, from the rows of fields and alternatives.
use Rattle.std.proofs.Common.{◌≡◌, ℕ, zero, suc, ◌<◌, ◌≤◌, List, [], ◌∷◌, length, get_or, Some, None, refl, ◌∙◌, arith, rules}
use Rattle.acn_grammar.specs.Grammar.{Fields}
use Rattle.acn_grammar.specs.Paths.{grammar_in, field_at, alternative_at}
use Rattle.acn_grammar.specs.View.{OneField, a_component, an_inserted, with_field, grammar_of, field_of, fields_view, alternatives_view}
use Rattle.acn_grammar.specs.declared.node.Alternative.{Alternative}
use Rattle.acn_grammar.specs.declared.node.Field.{Field}
use Rattle.acn_grammar.specs.declared.node.Body.{the_lemmas as node_lemmas}

first_field : (f : OneField) (fs : Fields) → field_at (with_field f fs) zero ≡ Some (grammar_in f)
first_field (a_component name g presence default own) fs = refl
first_field (an_inserted name g slot) fs = refl

next_field : (f : OneField) (fs : Fields) (k : ℕ) → field_at (with_field f fs) (suc k) ≡ field_at fs k
next_field (a_component name g presence default own) fs k = refl
next_field (an_inserted name g slot) fs k = refl

pub field_at-some : (fs : List Field) (k : ℕ) (f : Field) → k < length fs → field_at (fields_view fs) k ≡ Some (grammar_in (field_of (get_or fs k f)))
field_at-some [] k f h = absurd (omega arith)
field_at-some (x ∷ xs) zero f h = first_field (field_of x) (fields_view xs)
field_at-some (x ∷ xs) (suc k) f h = next_field (field_of x) (fields_view xs) k ∙ field_at-some xs k f (omega arith)

pub field_at-past : (fs : List Field) (k : ℕ) → length fs ≤ k → field_at (fields_view fs) k ≡ None
field_at-past [] k h = refl
field_at-past (x ∷ xs) zero h = absurd (omega arith)
field_at-past (x ∷ xs) (suc k) h = next_field (field_of x) (fields_view xs) k ∙ field_at-past xs k (omega arith)

pub alternative_at-some : (as' : List Alternative) (k : ℕ) (a : Alternative) → k < length as' → alternative_at (alternatives_view as') k ≡ Some (grammar_of (get_or as' k a).node)
alternative_at-some [] k a h = absurd (omega arith)
alternative_at-some (x ∷ xs) zero a h = search (rules, node_lemmas)
alternative_at-some (x ∷ xs) (suc k) a h = alternative_at-some xs k a (omega arith)

pub alternative_at-past : (as' : List Alternative) (k : ℕ) → length as' ≤ k → alternative_at (alternatives_view as') k ≡ None
alternative_at-past [] k h = refl
alternative_at-past (x ∷ xs) zero h = absurd (omega arith)
alternative_at-past (x ∷ xs) (suc k) h = alternative_at-past xs k (omega arith)
