-- Slots in a list.
use Rattle.std.proofs.Common.{◌≡◌, ℕ, zero, suc, ◌<◌, Bool, true, false, List, [], ◌∷◌, ◌++◌, length, get_or, refl, ap, ◌∙◌, arith, nat_eq, ◌||◌}
use Rattle.std.specs.Prelude.{Contains}
use Rattle.std.proofs.lemmas.Bool.Decides.{nat_tests}
use Rattle.std.proofs.lemmas.Bool.{or_left, or_right, eqb-true}
use Rattle.acn_grammar.specs.Tree.{holds}
use Rattle.acn_grammar.proofs.WholeTests.{either}

pub same_eq : (s : ℕ) → nat_eq s s ≡ true
same_eq s = grind (arith, nat_tests)

pub or_assoc : (a b c : Bool) → (a || (b || c)) ≡ ((a || b) || c)
or_assoc true b c = refl
or_assoc false b c = refl

pub or_swap : (a b c : Bool) → (b || (a || c)) ≡ (a || (b || c))
or_swap true true c = refl
or_swap true false c = refl
or_swap false true c = refl
or_swap false false c = refl

pub or_twice : (b c : Bool) → (b || c) ≡ (b || (b || c))
or_twice true c = refl
or_twice false c = refl

pub get_holds : (xs : List ℕ) (k s : ℕ) → k < length xs → get_or xs k s ≡ s → holds xs s ≡ true
get_holds [] k s h e = absurd (omega arith)
get_holds (x ∷ xs) zero s h e = or_left (nat_eq x s) (holds xs s) (ap (λ y. nat_eq y s) e ∙ same_eq s)
get_holds (x ∷ xs) (suc k) s h e = or_right (nat_eq x s) (holds xs s) (get_holds xs k s (omega arith) e)

pub contains_holds : (xs : List ℕ) (s : ℕ) → Contains xs s → holds xs s ≡ true
contains_holds xs s c = get_holds xs c.0 s c.1 c.2

pub holds_contains : (xs : List ℕ) (s : ℕ) → holds xs s ≡ true → Contains xs s
holds_contains [] s h = cc
holds_contains (x ∷ xs) s h = either {F = Contains (x ∷ xs) s} (nat_eq x s) (holds xs s) h
    (λ q. (zero, omega arith, eqb-true x s q))
    (λ q. let r = holds_contains xs s q in (suc r.0, omega (arith, r.1), r.2))

pub holds-append : (xs ys : List ℕ) (s : ℕ) → holds (xs ++ ys) s ≡ (holds xs s || holds ys s)
holds-append [] ys s = refl
holds-append (x ∷ xs) ys s = rw (holds-append xs ys s) (or_assoc (nat_eq x s) (holds xs s) (holds ys s))
