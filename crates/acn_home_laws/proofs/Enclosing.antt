-- What a SEQUENCE encloses, by paths.
use Rattle.std.proofs.Common.{◌≡◌, ℕ, ◌+◌, ◌≤◌, nat_eq, Bool, true, false, not, ◌&&◌, ◌||◌, cond, List, [], ◌∷◌, filter, count_by, refl, sym, ap, ap₂, ◌∙◌, arith}
use Rattle.std.specs.List.{AllByRecursion, list_all}
use Rattle.std.proofs.lemmas.Bool.Decides.{nat_tests}
use Rattle.std.proofs.lemmas.List.Sums.{sum_by-cons}
use Rattle.acn_grammar.specs.Grammar.{Grammar}
use Rattle.acn_grammar.specs.Tree.{is_about, is_seq, encloses}
use Rattle.acn_grammar.specs.Walk.{Stand, nodes_of, inside}
use Rattle.acn_home_laws.specs.Laws.{stands_below}
use Rattle.acn_home_laws.proofs.Inside.{inside_goes_on, each}

same_sum : (c a b : ℕ) → nat_eq (c + a) (c + b) ≡ nat_eq a b
same_sum c a b = grind (arith, nat_tests)

no_sum : (a b : ℕ) → a ≤ b → nat_eq a (1 + b) ≡ false
no_sum a b h = grind (arith, nat_tests)

module _ (p q : Stand → Bool) where
  abbrev one : Stand → ℕ
  one x = cond (p x) 1 0

  count_cons : (x : Stand) (xs : List Stand) → count_by p (x ∷ xs) ≡ one x + count_by p xs
  count_cons x xs = sum_by-cons one x xs

  fewer : (xs : List Stand) → count_by p (filter q xs) ≤ count_by p xs
  fewer [] = omega arith
  fewer (x ∷ xs) = by (q x) (fewer xs)
    where
      by : (t : Bool) → count_by p (filter q xs) ≤ count_by p xs → count_by p (cond t (x ∷ filter q xs) (filter q xs)) ≤ count_by p (x ∷ xs)
      by true h = (let a = count_cons x (filter q xs) in let b = count_cons x xs in omega (arith, h, a, b))
      by false h = (let b = count_cons x xs in omega (arith, h, b))

  pub all_counted : (xs : List Stand) → nat_eq (count_by p (filter q xs)) (count_by p xs) ≡ list_all (λ x. not (p x) || q x) xs
  all_counted [] = refl
  all_counted (x ∷ xs) = by (q x) (p x) refl (all_counted xs)
    where
      by : (t u : Bool) → p x ≡ u → nat_eq (count_by p (filter q xs)) (count_by p xs) ≡ list_all (λ x. not (p x) || q x) xs
          → nat_eq (count_by p (cond t (x ∷ filter q xs) (filter q xs))) (count_by p (x ∷ xs)) ≡ ((not u || t) && list_all (λ x. not (p x) || q x) xs)
      by true true e h = ap₂ nat_eq (count_cons x (filter q xs)) (count_cons x xs) ∙ (same_sum (one x) (count_by p (filter q xs)) (count_by p xs) ∙ h)
      by true false e h = ap₂ nat_eq (count_cons x (filter q xs)) (count_cons x xs) ∙ (same_sum (one x) (count_by p (filter q xs)) (count_by p xs) ∙ h)
      by false true e h = ap (nat_eq (count_by p (filter q xs))) (count_cons x xs ∙ ap (λ (t : Bool). cond t 1 0 + count_by p xs) e) ∙ no_sum (count_by p (filter q xs)) (count_by p xs) (fewer xs)
      by false false e h = ap (nat_eq (count_by p (filter q xs))) (count_cons x xs ∙ (ap (λ (t : Bool). cond t 1 0 + count_by p xs) e ∙ omega arith)) ∙ h

pub encloses_by_paths : (root : Grammar) (s : ℕ) → AllByRecursion (λ at. encloses (nodes_of root) s at ≡ (is_seq at.form && list_all (λ x. not (is_about s x) || stands_below at x) (nodes_of root))) (nodes_of root)
encloses_by_paths root s =
    each (λ at. inside at ≡ filter (stands_below at) (nodes_of root)) (λ at. encloses (nodes_of root) s at ≡ (is_seq at.form && list_all (λ x. not (is_about s x) || stands_below at x) (nodes_of root)))
    (λ at e. ap (λ (b : Bool). is_seq at.form && b) (ap (λ (zs : List Stand). nat_eq (count_by (is_about s) zs) (count_by (is_about s) (nodes_of root))) e ∙ all_counted (is_about s) (stands_below at) (nodes_of root)))
    (nodes_of root) (inside_goes_on root)
