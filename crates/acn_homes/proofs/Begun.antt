-- The steps with which paths begin.
use Rattle.std.proofs.Common.{◌≡◌, ℕ, nat_eq, Bool, true, false, if◌then◌else◌, List, [], ◌∷◌, ◌++◌, map, fold, append_assoc, append-nil, refl, sym, ap, subst, ◌∙◌, arith}
use Rattle.std.proofs.lemmas.Bool.Decides.{nat_tests}
use Rattle.std.specs.List.{AllByRecursion}
use Rattle.acn_homes.specs.declared.uses.Use.{Use}
use Rattle.acn_homes.specs.Homes.{Path, above, shared, users, home}
use Rattle.acn_homes.specs.Laws.{Begins, IsSmallest}

same_number : (a b : ℕ) → nat_eq a b ≡ true → a ≡ b
same_number a b h = grind (arith, nat_tests)

is_itself : (a : ℕ) → nat_eq a a ≡ true
is_itself a = grind (arith, nat_tests)

one_more : (a : ℕ) (q p : Path) → Begins q p → Begins (a ∷ q) (a ∷ p)
one_more a q p h = (h.0, ap (λ (z : Path). a ∷ z) h.1)

shared_first : (p q : Path) → Begins (shared p q) p
shared_first [] q = ([], refl)
shared_first (a ∷ p) [] = (a ∷ p, refl)
shared_first (a ∷ p) (b ∷ q) = by (nat_eq a b) (shared_first p q)
  where
    by : (t : Bool) → Begins (shared p q) p → Begins (if t then a ∷ shared p q else []) (a ∷ p)
    by true h = one_more a (shared p q) p h
    by false h = (a ∷ p, refl)

shared_second : (p q : Path) → Begins (shared p q) q
shared_second [] q = (q, refl)
shared_second (a ∷ p) [] = ([], refl)
shared_second (a ∷ p) (b ∷ q) = by (nat_eq a b) refl (shared_second p q)
  where
    by : (t : Bool) → nat_eq a b ≡ t → Begins (shared p q) q → Begins (if t then a ∷ shared p q else []) (b ∷ q)
    by true e h = subst (λ (z : ℕ). Begins (a ∷ shared p q) (z ∷ q)) (same_number a b e) (one_more a (shared p q) q h)
    by false e h = (b ∷ q, refl)

fronts_shared : (r x y : Path) → Begins r (shared (r ++ x) (r ++ y))
fronts_shared [] x y = (shared x y, refl)
fronts_shared (c ∷ r) x y =
    subst (λ (t : Bool). Begins (c ∷ r) (if t then c ∷ shared (r ++ x) (r ++ y) else [])) (sym (is_itself c)) (one_more c r (shared (r ++ x) (r ++ y)) (fronts_shared r x y))

shared_longest : (r p q : Path) → Begins r p → Begins r q → Begins r (shared p q)
shared_longest r p q h k =
    subst (λ (z : Path). Begins r (shared z q)) (sym h.1) (subst (λ (z : Path). Begins r (shared (r ++ h.0) z)) (sym k.1) (fronts_shared r h.0 k.0))

begins_through : (a b c : Path) → Begins a b → Begins b c → Begins a c
begins_through a b c h k = (h.0 ++ k.0, k.1 ∙ (ap (λ (z : Path). z ++ k.0) h.1 ∙ append_assoc a h.0 k.0))

-- what all of these leave of a path
abbrev left : Path → List Path → Path
left a us = fold shared a (map above us)

left_first : (us : List Path) (a : Path) → Begins (left a us) a
left_first [] a = ([], sym (append-nil a))
left_first (u ∷ us) a = begins_through (left (shared a (above u)) us) (shared a (above u)) a (left_first us (shared a (above u))) (shared_first a (above u))

left_each : (us : List Path) (a : Path) → AllByRecursion (λ u. Begins (left a us) (above u)) us
left_each [] a = tt
left_each (u ∷ us) a =
    (begins_through (left (shared a (above u)) us) (shared a (above u)) (above u) (left_first us (shared a (above u))) (shared_second a (above u)), left_each us (shared a (above u)))

left_longest : (q : Path) (us : List Path) (a : Path) → Begins q a → AllByRecursion (λ u. Begins q (above u)) us → Begins q (left a us)
left_longest q [] a h k = h
left_longest q (u ∷ us) a h k = left_longest q us (shared a (above u)) (shared_longest q a (above u) h k.0) k.1

pub home_smallest : (uses : List Use) (field : Path) → IsSmallest field (users uses field) (home uses field)
home_smallest uses field = record {
  round_field = left_first (users uses field) (above field);
  round_users = left_each (users uses field) (above field);
  smallest = λ q h k. left_longest q (users uses field) (above field) h k;
}
