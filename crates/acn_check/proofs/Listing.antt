-- Lists of facts that are fit, and their parts.
use Rattle.std.proofs.Common.{◌≡◌, ℕ, ◌+◌, ◌<◌, ◌≤◌, ◌^◌, true, false, None, List, [], ◌∷◌, ◌++◌, length, drop, nat_le, nat_lt, sym, ap, ◌∙◌, arith, length-append, append_assoc, subst, add-one, get_or}
use Rattle.std.specs.List.{list_all}
use Rattle.std.proofs.lemmas.Bool.Decides.{nat_tests}
use Rattle.acn_grammar.proofs.TreeRules.{list_all-append}
use Rattle.std.proofs.lemmas.List.{drop_more}
use Rattle.acn_grammar.specs.Grammar.{Grammar, Fields, node}
use Rattle.acn_grammar.specs.View.{OneField, OneAlternative, a_component, an_inserted, with_field, fields_view, field_of, alternatives_view, alternative_of}
use Rattle.acn_grammar.specs.Walk.{presence_tests}
use Rattle.acn_grammar.specs.declared.node.Field.{Field}
use Rattle.acn_grammar.specs.declared.node.Alternative.{Alternative}
use Rattle.acn_check.specs.Facts.{Facts, Tag, Fit, fits, facts, field_facts, alternative_facts, one_field, one_alternative}
use Rattle.std.proofs.lemmas.Bool.{and_parts}

pub fit_left : (a b : List Facts) → Fit (a ++ b) → Fit a
fit_left a b f = record { each = (list_all-append fits a b f.each).0; few = (let n = length-append a b in let m = f.few in omega arith) }

pub fit_right : (a b : List Facts) → Fit (a ++ b) → Fit b
fit_right a b f = record { each = (list_all-append fits a b f.each).1; few = (let n = length-append a b in let m = f.few in omega arith) }

pub fit_behind : (x : Facts) (l : List Facts) → Fit (x ∷ l) → Fit l
fit_behind x l f = record { each = (and_parts (fits x) (list_all fits l) f.each).1; few = (let m = f.few in omega arith) }

pub fit_path : (x : Facts) (l : List Facts) → Fit (x ∷ l) → length x.path ≤ 64
fit_path x l f =
    let p = and_parts (nat_le (length x.path) 64) (nat_lt x.at_home (2 ^ 32)) (and_parts (fits x) (list_all fits l) f.each).0 in
    le (length x.path) p.0
  where
    le : (n : ℕ) → nat_le n 64 ≡ true → n ≤ 64
    le n h = grind (arith, nat_tests)

pub fit_home : (x : Facts) (l : List Facts) → Fit (x ∷ l) → x.at_home < 2 ^ 32
fit_home x l f =
    let p = and_parts (nat_le (length x.path) 64) (nat_lt x.at_home (2 ^ 32)) (and_parts (fits x) (list_all fits l) f.each).0 in
    lt x.at_home p.1
  where
    lt : (n : ℕ) → nat_lt n (2 ^ 32) ≡ true → n < 2 ^ 32
    lt n h = grind (arith, nat_tests)

-- Steps of the loops over fields and alternatives.

pub record Stepped (new start whole rest : List Facts) (k : ℕ) : Type 0 where
  pub done : new ++ rest ≡ start ++ whole
  pub fit : Fit rest
  pub steps : k + 1 + length rest ≤ 65536

pub stepped : (old new start whole one rest all : List Facts) (k : ℕ) → all ≡ one ++ rest → new ≡ old ++ one → old ++ all ≡ start ++ whole → Fit all → k + length all ≤ 65536 → 1 ≤ length one → Stepped new start whole rest k
stepped old new start whole one rest all k e n done f small some = record {
  done = ap (λ l. l ++ rest) n ∙ (append_assoc old one rest ∙ (ap (λ l. old ++ l) (sym e) ∙ done));
  fit = fit_right one rest (subst Fit e f);
  steps = (let l = length-append one rest in let m = ap length e in omega arith);
}

some_facts : (tag : Tag) (path : List ℕ) (around : ℕ) (g : Grammar) → 1 ≤ length (facts tag path around g)
some_facts tag path around (node align form) = omega arith

some_field : (path : List ℕ) (around k : ℕ) (f : OneField) → 1 ≤ length (one_field path around k f)
some_field path around k (a_component name g presence default own) = some_facts (record { tests = presence_tests presence; component = true; slot = own }) (path ++ k ∷ []) around g
some_field path around k (an_inserted name g slot) = some_facts (record { tests = []; component = false; slot = slot }) (path ++ k ∷ []) around g

first_field : (path : List ℕ) (around k : ℕ) (f : OneField) (fs : Fields) → field_facts path around k (with_field f fs) ≡ one_field path around k f ++ field_facts path around (k + 1) fs
first_field path around k (a_component name g presence default own) fs = ap (λ m. one_field path around k (a_component name g presence default own) ++ field_facts path around m fs) (sym (add-one k))
first_field path around k (an_inserted name g slot) fs = ap (λ m. one_field path around k (an_inserted name g slot) ++ field_facts path around m fs) (sym (add-one k))

pub next_field : (path : List ℕ) (around k : ℕ) (fs : List Field) (i : ℕ) (x : Field) → i < length fs → x ≡ get_or fs i x → (old new start whole : List Facts)
    → new ≡ old ++ one_field path around k (field_of x) → old ++ field_facts path around k (fields_view (drop i fs)) ≡ start ++ whole → Fit (field_facts path around k (fields_view (drop i fs))) → k + length (field_facts path around k (fields_view (drop i fs))) ≤ 65536
    → Stepped new start whole (field_facts path around (k + 1) (fields_view (drop (i + 1) fs))) k
next_field path around k fs i x h e old new start whole n done f small =
    let split : drop i fs ≡ x ∷ drop (i + 1) fs = drop_more fs i x h ∙ ap (λ y. y ∷ drop (i + 1) fs) (sym e) in
    stepped old new start whole (one_field path around k (field_of x)) (field_facts path around (k + 1) (fields_view (drop (i + 1) fs))) (field_facts path around k (fields_view (drop i fs))) k
    (ap (λ l. field_facts path around k (fields_view l)) split ∙ first_field path around k (field_of x) (fields_view (drop (i + 1) fs))) n done f small (some_field path around k (field_of x))

some_alternative : (path : List ℕ) (around k : ℕ) (a : OneAlternative) → 1 ≤ length (one_alternative path around k a)
some_alternative path around k a = some_facts (record { tests = a.tests; component = false; slot = None }) (path ++ k ∷ []) around a.grammar

pub next_alternative : (path : List ℕ) (around k : ℕ) (as' : List Alternative) (i : ℕ) (x : Alternative) → i < length as' → x ≡ get_or as' i x → (old new start whole : List Facts)
    → new ≡ old ++ one_alternative path around k (alternative_of x) → old ++ alternative_facts path around k (alternatives_view (drop i as')) ≡ start ++ whole → Fit (alternative_facts path around k (alternatives_view (drop i as'))) → k + length (alternative_facts path around k (alternatives_view (drop i as'))) ≤ 65536
    → Stepped new start whole (alternative_facts path around (k + 1) (alternatives_view (drop (i + 1) as'))) k
next_alternative path around k as' i x h e old new start whole n done f small =
    let split : drop i as' ≡ x ∷ drop (i + 1) as' = drop_more as' i x h ∙ ap (λ y. y ∷ drop (i + 1) as') (sym e) in
    stepped old new start whole (one_alternative path around k (alternative_of x)) (alternative_facts path around (k + 1) (alternatives_view (drop (i + 1) as'))) (alternative_facts path around k (alternatives_view (drop i as'))) k
    (ap (λ l. alternative_facts path around k (alternatives_view l)) split ∙ ap (λ m. one_alternative path around k (alternative_of x) ++ alternative_facts path around m (alternatives_view (drop (i + 1) as'))) (sym (add-one k))) n done f small (some_alternative path around k (alternative_of x))
