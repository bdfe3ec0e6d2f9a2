-- Fields and alternatives, counted.
use Rattle.std.specs.Cmp.Lexicographic.{pointwise, unequal}
use Rattle.std.proofs.Common.{◌≡◌, ℕ, suc, ◌+◌, ◌<◌, ◌≤◌, Bool, true, false, ◌&&◌, List, [], ◌∷◌, length, get_or, drop, drop_of_length-le, refl, sym, ap, ◌∙◌}
use Rattle.std.proofs.lemmas.List.{drop_more}
use Rattle.acn_grammar.specs.Fails.{count_of}
use Rattle.acn_grammar.specs.Grammar.{Fields}
use Rattle.acn_grammar.specs.View.{OneField, a_component, an_inserted, with_field, field_of, fields_view, alternatives_view}
use Rattle.acn_grammar.specs.declared.node.Alternative.{Alternative}
use Rattle.acn_grammar.specs.declared.node.Field.{Field}
use Rattle.acn_grammar.specs.Walk.{conditions_of}
use Rattle.acn_grammar.specs.declared.node.Test.{Test}
use Rattle.acn_compare.specs.Accepts.{Head, heads}
use Rattle.acn_compare.specs.Tests.{together, head_of, condition_of, same_place}

head_first : (f : OneField) (fs : Fields) → heads (with_field f fs) ≡ head_of f ∷ heads fs
head_first (a_component name g presence default own) fs = refl
head_first (an_inserted name g slot) fs = refl

heads_long : (fs : List Field) → length (heads (fields_view fs)) ≡ length fs
heads_long [] = refl
heads_long (f ∷ fs) = ap length (head_first (field_of f) (fields_view fs)) ∙ ap suc (heads_long fs)

pub cases_long : (cs : List Alternative) → count_of (alternatives_view cs) ≡ length cs
cases_long [] = refl
cases_long (c ∷ cs) = ap suc (cases_long cs)

-- SEQUENCEs with other counts of fields aren't alike
pub rows_unequal : (fs gs : List Field) → (length fs ≡ length gs → ⊥) → pointwise same_place (heads (fields_view fs)) (heads (fields_view gs)) ≡ false
rows_unequal fs gs n = unequal same_place (heads (fields_view fs)) (heads (fields_view gs)) (λ e. n (sym (heads_long fs) ∙ e ∙ heads_long gs))

-- Where the other list has ended, nothing more is compared.

no_more : {A : Type 0} (p : A → A → Bool) (xs : List A) → together p xs [] ≡ true
no_more p [] = refl
no_more p (x ∷ xs) = refl

pub fields_ended : (p : Head → Head → Bool) (fs gs : List Field) (k : ℕ) → length gs ≤ k → together p (heads (fields_view (drop k fs))) (heads (fields_view (drop k gs))) ≡ true
fields_ended p fs gs k l = ap (λ z. together p (heads (fields_view (drop k fs))) (heads (fields_view z))) (drop_of_length-le gs l) ∙ no_more p (heads (fields_view (drop k fs)))

pub cases_ended : (p : (List ℕ × List Test) → (List ℕ × List Test) → Bool) (cs ds : List Alternative) (k : ℕ) → length ds ≤ k → together p (conditions_of (alternatives_view (drop k cs))) (conditions_of (alternatives_view (drop k ds))) ≡ true
cases_ended p cs ds k l = ap (λ z. together p (conditions_of (alternatives_view (drop k cs))) (conditions_of (alternatives_view z))) (drop_of_length-le ds l) ∙ no_more p (conditions_of (alternatives_view (drop k cs)))

-- one turn of a loop over alternatives
pub cases_turn : (p : (List ℕ × List Test) → (List ℕ × List Test) → Bool) (cs ds : List Alternative) (k : ℕ) (x y : Alternative) → k < length cs → k < length ds → x ≡ get_or cs k x → y ≡ get_or ds k y
    → together p (conditions_of (alternatives_view (drop k cs))) (conditions_of (alternatives_view (drop k ds))) ≡ (p (condition_of x) (condition_of y) && together p (conditions_of (alternatives_view (drop (k + 1) cs))) (conditions_of (alternatives_view (drop (k + 1) ds))))
cases_turn p cs ds k x y l m e f =
    ap (λ z. together p (conditions_of (alternatives_view z)) (conditions_of (alternatives_view (drop k ds)))) (drop_more cs k x l ∙ ap (λ q. q ∷ drop (k + 1) cs) (sym e))
    ∙ ap (λ z. together p (conditions_of (alternatives_view (x ∷ drop (k + 1) cs))) (conditions_of (alternatives_view z))) (drop_more ds k y m ∙ ap (λ q. q ∷ drop (k + 1) ds) (sym f))
