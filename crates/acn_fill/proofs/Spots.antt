-- Changes of one spot.
use Rattle.std.proofs.Common.{◌≡◌, ℕ, zero, suc, ◌+◌, ◌<◌, ℤ, Bool, true, false, List, [], ◌∷◌, ◌++◌, length, not, get_or, set, remove, Option, Some, None, nat_eq, ◌||◌, if◌then◌else◌, refl, sym, ap, ◌∙◌, subst, arith}
use Rattle.std.specs.Prelude.{slice_get}
use Rattle.std.proofs.lemmas.Bool.Decides.{nat_tests}
use Rattle.acn_bits.specs.Overwrite.{Gap}
use Rattle.acn_fill.specs.declared.spot.Spot.{Spot}
use denote.Bor.{Bor}
use Rattle.acn_grammar.specs.Asks.{Ask}
use Rattle.acn_fill.specs.Table.{KeepsIn, KeepsSpot, Permits, set_of, has_spot, place, spot_of, without, purged, frames, avoided_on, Distinct, Clean}

pub eq_true : (a b : ℕ) → nat_eq a b ≡ true → a ≡ b
eq_true a b h = grind (arith, nat_tests)

pub eq_self : (a b : ℕ) → a ≡ b → nat_eq a b ≡ true
eq_self a b h = grind (arith, nat_tests)

pub eq_not : (a b : ℕ) → (a ≡ b → ⊥) → nat_eq a b ≡ false
eq_not a b h = grind (arith, nat_tests)

pub not_eq : (a b : ℕ) → nat_eq a b ≡ false → a ≡ b → ⊥
not_eq a b h e = grind (arith, nat_tests)

pub eq_turn : (a b : ℕ) → nat_eq a b ≡ false → nat_eq b a ≡ false
eq_turn a b h = grind (arith, nat_tests)

or_false : (a b : Bool) → (a || b) ≡ false → (a ≡ false) × (b ≡ false)
or_false true b h = cc
or_false false b h = (refl, h)

or_last : (a b c : Bool) → (a || (b || c)) ≡ ((a || b) || c)
or_last true b c = refl
or_last false b c = refl

if_yes : {A : Type 0} (b : Bool) (x y : A) → b ≡ true → (if b then x else y) ≡ x
if_yes true x y h = refl
if_yes false x y h = cc

if_no : {A : Type 0} (b : Bool) (x y : A) → b ≡ false → (if b then x else y) ≡ y
if_no true x y h = cc
if_no false x y h = refl

-- Spots by their slots alone.

pub same_has : (s : ℕ) (xs ys : List Spot) → frames xs ≡ frames ys → has_spot s xs ≡ has_spot s ys
same_has s [] [] e = refl
same_has s [] (y ∷ ys) e = cc
same_has s (x ∷ xs) [] e = cc
same_has s (x ∷ xs) (y ∷ ys) e =
    let a : x.slot ≡ y.slot = cc in
    let b : frames xs ≡ frames ys = cc in
    let c : has_spot s xs ≡ has_spot s ys = same_has s xs ys b in
    cc

pub same_distinct : (xs ys : List Spot) → frames xs ≡ frames ys → Distinct xs → Distinct ys
same_distinct [] [] e h = tt
same_distinct [] (y ∷ ys) e h = cc
same_distinct (x ∷ xs) [] e h = cc
same_distinct (x ∷ xs) (y ∷ ys) e h =
    let a : x.slot ≡ y.slot = cc in
    let b : frames xs ≡ frames ys = cc in
    let c : has_spot x.slot ys ≡ has_spot x.slot xs = sym (same_has x.slot xs ys b) in
    let d : has_spot y.slot ys ≡ has_spot x.slot ys = ap (λ z. has_spot z ys) (sym a) in
    (d ∙ (c ∙ h.0), same_distinct xs ys b h.1)

pub same_place : (s : ℕ) (xs ys : List Spot) → frames xs ≡ frames ys → place s xs ≡ place s ys
same_place s [] [] e = refl
same_place s [] (y ∷ ys) e = cc
same_place s (x ∷ xs) [] e = cc
same_place s (x ∷ xs) (y ∷ ys) e =
    let a : x.slot ≡ y.slot = cc in
    let b : frames xs ≡ frames ys = cc in
    let c : place s xs ≡ place s ys = same_place s xs ys b in
    cc

pub same_length : (xs ys : List Spot) → frames xs ≡ frames ys → length xs ≡ length ys
same_length [] [] e = refl
same_length [] (y ∷ ys) e = cc
same_length (x ∷ xs) [] e = cc
same_length (x ∷ xs) (y ∷ ys) e =
    let b : frames xs ≡ frames ys = cc in
    ap suc (same_length xs ys b)

-- One more.

pub has_spot-push : (t : ℕ) (es : List Spot) (e : Spot) → has_spot t (es ++ e ∷ []) ≡ (has_spot t es || nat_eq e.slot t)
has_spot-push t [] e = last (nat_eq e.slot t)
  where
    last : (b : Bool) → (b || false) ≡ b
    last true = refl
    last false = refl
has_spot-push t (y ∷ es) e = ap (λ z. nat_eq y.slot t || z) (has_spot-push t es e) ∙ or_last (nat_eq y.slot t) (has_spot t es) (nat_eq e.slot t)

pub distinct-push : (es : List Spot) (e : Spot) → Distinct es → has_spot e.slot es ≡ false → Distinct (es ++ e ∷ [])
distinct-push [] e d h = (refl, tt)
distinct-push (y ∷ es) e d h =
    let o = or_false (nat_eq y.slot e.slot) (has_spot e.slot es) h in
    (has_spot-push y.slot es e ∙ both (has_spot y.slot es) (nat_eq e.slot y.slot) d.0 (eq_turn y.slot e.slot o.0), distinct-push es e d.1 o.1)
  where
    both : (a b : Bool) → a ≡ false → b ≡ false → (a || b) ≡ false
    both a b p q = cc

pub spot_of-push : (s : ℕ) (es : List Spot) (e : Spot) → has_spot s es ≡ false → e.slot ≡ s → spot_of s (es ++ e ∷ []) ≡ Some e
spot_of-push s [] e h k = if_yes (nat_eq e.slot s) (Some e) None (eq_self e.slot s k)
spot_of-push s (y ∷ es) e h k =
    let o = or_false (nat_eq y.slot s) (has_spot s es) h in
    if_no (nat_eq y.slot s) (Some y) (spot_of s (es ++ e ∷ [])) o.0 ∙ spot_of-push s es e o.1 k

pub spot_of-push_other : (t : ℕ) (es : List Spot) (e : Spot) → nat_eq e.slot t ≡ false → spot_of t (es ++ e ∷ []) ≡ spot_of t es
spot_of-push_other t [] e h = if_no (nat_eq e.slot t) (Some e) None h
spot_of-push_other t (y ∷ es) e h = ap (λ z. if nat_eq y.slot t then Some y else z) (spot_of-push_other t es e h)

pub frames-push : (es : List Spot) (e : Spot) → frames (es ++ e ∷ []) ≡ frames es ++ e.slot ∷ []
frames-push [] e = refl
frames-push (y ∷ es) e = ap (λ z. y.slot ∷ z) (frames-push es e)

pub clean-push : (es : List Spot) (e : Spot) (pool : List (ℕ × ℤ)) → Clean es pool → Clean (es ++ e ∷ []) pool
clean-push es e pool c t h = c t (or_false (has_spot t es) (nat_eq e.slot t) (sym (has_spot-push t es e) ∙ h)).0

-- Another in its place.

pub spot_of-place : (s : ℕ) (xs : List Spot) (d : Spot) → has_spot s xs ≡ true → spot_of s xs ≡ Some (get_or xs (place s xs) d)
spot_of-place s [] d h = cc
spot_of-place s (e ∷ es) d h = go (nat_eq e.slot s) h (spot_of-place s es d)
  where
    go : (b : Bool) → (b || has_spot s es) ≡ true → (has_spot s es ≡ true → spot_of s es ≡ Some (get_or es (place s es) d)) → (if b then Some e else spot_of s es) ≡ Some (get_or (e ∷ es) (if b then 0 else suc (place s es)) d)
    go true k f = refl
    go false k f = f k

pub spot-here : (s : ℕ) (xs : List Spot) (i : ℕ) (e : Spot) → has_spot s xs ≡ true → i ≡ place s xs → e ≡ get_or xs i e → spot_of s xs ≡ Some e
spot-here s xs i e h p k = spot_of-place s xs e h ∙ ap Some (sym (k ∙ ap (λ j. get_or xs j e) p))

pub slot-here : (s : ℕ) (xs : List Spot) (e : Spot) → spot_of s xs ≡ Some e → e.slot ≡ s
slot-here s [] e k = cc
slot-here s (y ∷ ys) e k = go (nat_eq y.slot s) refl k (slot-here s ys e)
  where
    go : (b : Bool) → nat_eq y.slot s ≡ b → (if b then Some y else spot_of s ys) ≡ Some e → (spot_of s ys ≡ Some e → e.slot ≡ s) → e.slot ≡ s
    go true g k f = let z : y ≡ e = cc in ap (λ x. x.slot) (sym z) ∙ eq_true y.slot s g
    go false g k f = f k

pub spot_of-set : (s : ℕ) (xs : List Spot) (e' : Spot) → has_spot s xs ≡ true → e'.slot ≡ s → spot_of s (set xs (place s xs) e') ≡ Some e'
spot_of-set s [] e' h k = cc
spot_of-set s (e ∷ es) e' h k = go (nat_eq e.slot s) refl h (λ q. spot_of-set s es e' q k)
  where
    go : (b : Bool) → nat_eq e.slot s ≡ b → (b || has_spot s es) ≡ true → (has_spot s es ≡ true → spot_of s (set es (place s es) e') ≡ Some e') → spot_of s (set (e ∷ es) (if b then 0 else suc (place s es)) e') ≡ Some e'
    go true _ q f = ap (λ t. if t then Some e' else spot_of s es) (eq_self e'.slot s k)
    go false g q f = ap (λ t. if t then Some e else spot_of s (set es (place s es) e')) g ∙ f q

pub spot_of-set_other : (s t : ℕ) (xs : List Spot) (e' : Spot) → has_spot s xs ≡ true → e'.slot ≡ s → nat_eq t s ≡ false → spot_of t (set xs (place s xs) e') ≡ spot_of t xs
spot_of-set_other s t [] e' h k n = cc
spot_of-set_other s t (e ∷ es) e' h k n = go (nat_eq e.slot s) refl h (λ q. spot_of-set_other s t es e' q k n)
  where
    go : (b : Bool) → nat_eq e.slot s ≡ b → (b || has_spot s es) ≡ true → (has_spot s es ≡ true → spot_of t (set es (place s es) e') ≡ spot_of t es) → spot_of t (set (e ∷ es) (if b then 0 else suc (place s es)) e') ≡ (if nat_eq e.slot t then Some e else spot_of t es)
    go true g q f =
        let p : e.slot ≡ s = eq_true e.slot s g in
        let a : nat_eq e'.slot t ≡ false = eq_not e'.slot t (λ z. not_eq t s n (sym z ∙ k)) in
        let b : nat_eq e.slot t ≡ false = eq_not e.slot t (λ z. not_eq t s n (sym z ∙ p)) in
        ap (λ z. if z then Some e' else spot_of t es) a ∙ sym (ap (λ z. if z then Some e else spot_of t es) b)
    go false g q f = ap (λ z. if nat_eq e.slot t then Some e else z) (f q)

pub frames-set : (s : ℕ) (xs : List Spot) (e' : Spot) → has_spot s xs ≡ true → e'.slot ≡ s → frames (set xs (place s xs) e') ≡ frames xs
frames-set s [] e' h k = cc
frames-set s (e ∷ es) e' h k = go (nat_eq e.slot s) refl h (λ q. frames-set s es e' q k)
  where
    go : (b : Bool) → nat_eq e.slot s ≡ b → (b || has_spot s es) ≡ true → (has_spot s es ≡ true → frames (set es (place s es) e') ≡ frames es) → frames (set (e ∷ es) (if b then 0 else suc (place s es)) e') ≡ frames (e ∷ es)
    go true g q f = ap (λ z. z ∷ frames es) (k ∙ sym (eq_true e.slot s g))
    go false _ q f = ap (λ z. e.slot ∷ z) (f q)

-- One less.

pub remove-place : (s : ℕ) (xs : List Spot) → has_spot s xs ≡ true → remove xs (place s xs) ≡ without s xs
remove-place s [] h = cc
remove-place s (e ∷ es) h = go (nat_eq e.slot s) h (remove-place s es)
  where
    go : (b : Bool) → (b || has_spot s es) ≡ true → (has_spot s es ≡ true → remove es (place s es) ≡ without s es) → remove (e ∷ es) (if b then 0 else suc (place s es)) ≡ (if b then es else e ∷ without s es)
    go true k f = refl
    go false k f = ap (λ z. e ∷ z) (f k)

pub has_spot-without : (s : ℕ) (xs : List Spot) → Distinct xs → has_spot s (without s xs) ≡ false
has_spot-without s [] d = refl
has_spot-without s (e ∷ es) d = go (nat_eq e.slot s) refl (has_spot-without s es d.1)
  where
    go : (b : Bool) → nat_eq e.slot s ≡ b → has_spot s (without s es) ≡ false → has_spot s (if b then es else e ∷ without s es) ≡ false
    go true g r = ap (λ z. has_spot z es) (sym (eq_true e.slot s g)) ∙ d.0
    go false g r = ap (λ z. z || has_spot s (without s es)) g ∙ r

pub has_spot-without_other : (s t : ℕ) (xs : List Spot) → nat_eq t s ≡ false → has_spot t (without s xs) ≡ has_spot t xs
has_spot-without_other s t [] n = refl
has_spot-without_other s t (e ∷ es) n = go (nat_eq e.slot s) refl (has_spot-without_other s t es n)
  where
    go : (b : Bool) → nat_eq e.slot s ≡ b → has_spot t (without s es) ≡ has_spot t es → has_spot t (if b then es else e ∷ without s es) ≡ (nat_eq e.slot t || has_spot t es)
    go true g f =
        let b : nat_eq e.slot t ≡ false = eq_not e.slot t (λ z. not_eq t s n (sym z ∙ eq_true e.slot s g)) in
        sym (ap (λ z. z || has_spot t es) b)
    go false g f = ap (λ z. nat_eq e.slot t || z) f

pub distinct-without : (s : ℕ) (xs : List Spot) → Distinct xs → Distinct (without s xs)
distinct-without s [] d = tt
distinct-without s (e ∷ es) d = go (nat_eq e.slot s) refl (distinct-without s es d.1)
  where
    go : (b : Bool) → nat_eq e.slot s ≡ b → Distinct (without s es) → Distinct (if b then es else e ∷ without s es)
    go true g f = d.1
    go false g f = (has_spot-without_other s e.slot es g ∙ d.0, f)

pub spot_of-without_other : (s t : ℕ) (xs : List Spot) → nat_eq t s ≡ false → spot_of t (without s xs) ≡ spot_of t xs
spot_of-without_other s t [] n = refl
spot_of-without_other s t (e ∷ es) n = go (nat_eq e.slot s) refl (spot_of-without_other s t es n)
  where
    go : (b : Bool) → nat_eq e.slot s ≡ b → spot_of t (without s es) ≡ spot_of t es → spot_of t (if b then es else e ∷ without s es) ≡ (if nat_eq e.slot t then Some e else spot_of t es)
    go true g f =
        let b : nat_eq e.slot t ≡ false = eq_not e.slot t (λ z. not_eq t s n (sym z ∙ eq_true e.slot s g)) in
        sym (ap (λ z. if z then Some e else spot_of t es) b)
    go false g f = ap (λ z. if nat_eq e.slot t then Some e else z) f

pub gap-without_other : (s t : ℕ) (xs : List Spot) (gaps : List (Option Gap)) → length gaps ≡ length xs → has_spot s xs ≡ true → nat_eq t s ≡ false
    → slice_get (remove gaps (place s xs)) (place t (without s xs)) ≡ slice_get gaps (place t xs)
gap-without_other s t [] gaps l h n = cc
gap-without_other s t (e ∷ es) [] l h n = cc
gap-without_other s t (e ∷ es) (g ∷ gs) l h n = go (nat_eq e.slot s) (nat_eq e.slot t) refl refl h (λ k. gap-without_other s t es gs (let m : length gs ≡ length es = omega (arith, l) in m) k n)
  where
    go : (b c : Bool) → nat_eq e.slot s ≡ b → nat_eq e.slot t ≡ c → (b || has_spot s es) ≡ true → (has_spot s es ≡ true → slice_get (remove gs (place s es)) (place t (without s es)) ≡ slice_get gs (place t es))
        → slice_get (remove (g ∷ gs) (if b then 0 else suc (place s es))) (place t (if b then es else e ∷ without s es)) ≡ slice_get (g ∷ gs) (if c then 0 else suc (place t es))
    go true true p q k f = absurd (not_eq t s n (sym (eq_true e.slot t q) ∙ eq_true e.slot s p))
    go true false p q k f = refl
    go false true p q k f = ap (λ z. slice_get (g ∷ remove gs (place s es)) (if z then 0 else suc (place t (without s es)))) q
    go false false p q k f = ap (λ z. slice_get (g ∷ remove gs (place s es)) (if z then 0 else suc (place t (without s es)))) q ∙ f k

pub length-without : (s : ℕ) (xs : List Spot) → has_spot s xs ≡ true → length (without s xs) + 1 ≡ length xs
length-without s [] h = cc
length-without s (e ∷ es) h = go (nat_eq e.slot s) h (length-without s es)
  where
    go : (b : Bool) → (b || has_spot s es) ≡ true → (has_spot s es ≡ true → length (without s es) + 1 ≡ length es) → length (if b then es else e ∷ without s es) + 1 ≡ suc (length es)
    go true k f = omega arith
    go false k f = let r = f k in omega (arith, r)

-- Numbers to avoid.

pub avoided_on-push : (s : ℕ) (pool : List (ℕ × ℤ)) (k : ℤ) → avoided_on s (pool ++ (s, k) ∷ []) ≡ avoided_on s pool ++ k ∷ []
avoided_on-push s [] k = if_yes (nat_eq s s) (k ∷ []) [] (eq_self s s refl)
avoided_on-push s (e ∷ es) k = go (nat_eq e.0 s) (avoided_on-push s es k)
  where
    go : (b : Bool) → avoided_on s (es ++ (s, k) ∷ []) ≡ avoided_on s es ++ k ∷ [] → (if b then e.1 ∷ avoided_on s (es ++ (s, k) ∷ []) else avoided_on s (es ++ (s, k) ∷ [])) ≡ (if b then e.1 ∷ avoided_on s es else avoided_on s es) ++ k ∷ []
    go true f = ap (λ z. e.1 ∷ z) f
    go false f = f

pub avoided_on-push_other : (t s : ℕ) (pool : List (ℕ × ℤ)) (k : ℤ) → nat_eq t s ≡ false → avoided_on t (pool ++ (s, k) ∷ []) ≡ avoided_on t pool
avoided_on-push_other t s [] k n = if_no (nat_eq s t) (k ∷ []) [] (eq_turn t s n)
avoided_on-push_other t s (e ∷ es) k n = ap (λ z. if nat_eq e.0 t then e.1 ∷ z else z) (avoided_on-push_other t s es k n)

pub avoided_on-purged : (s : ℕ) (pool : List (ℕ × ℤ)) → avoided_on s (purged s pool) ≡ []
avoided_on-purged s [] = refl
avoided_on-purged s (e ∷ es) = go (nat_eq e.0 s) refl (avoided_on-purged s es)
  where
    go : (b : Bool) → nat_eq e.0 s ≡ b → avoided_on s (purged s es) ≡ [] → avoided_on s (if not b then e ∷ purged s es else purged s es) ≡ []
    go true g f = f
    go false g f = if_no (nat_eq e.0 s) (e.1 ∷ avoided_on s (purged s es)) (avoided_on s (purged s es)) g ∙ f

pub avoided_on-purged_other : (t s : ℕ) (pool : List (ℕ × ℤ)) → nat_eq t s ≡ false → avoided_on t (purged s pool) ≡ avoided_on t pool
avoided_on-purged_other t s [] n = refl
avoided_on-purged_other t s (e ∷ es) n = go (nat_eq e.0 s) refl (avoided_on-purged_other t s es n)
  where
    go : (b : Bool) → nat_eq e.0 s ≡ b → avoided_on t (purged s es) ≡ avoided_on t es → avoided_on t (if not b then e ∷ purged s es else purged s es) ≡ (if nat_eq e.0 t then e.1 ∷ avoided_on t es else avoided_on t es)
    go true g f =
        let b : nat_eq e.0 t ≡ false = eq_not e.0 t (λ z. not_eq t s n (sym z ∙ eq_true e.0 s g)) in
        f ∙ sym (if_no (nat_eq e.0 t) (e.1 ∷ avoided_on t es) (avoided_on t es) b)
    go false g f = ap (λ z. if nat_eq e.0 t then e.1 ∷ z else z) f

truth : {F : Type 0} (b : Bool) → (b ≡ true → F) → (b ≡ false → F) → F
truth true f g = f refl
truth false f g = g refl

pub clean-without : (s : ℕ) (xs : List Spot) (pool : List (ℕ × ℤ)) → Clean xs pool → Clean (without s xs) (purged s pool)
clean-without s xs pool c t h = truth {F = avoided_on t (purged s pool) ≡ []} (nat_eq t s)
    (λ e. ap (λ z. avoided_on z (purged s pool)) (eq_true t s e) ∙ avoided_on-purged s pool)
    (λ n. avoided_on-purged_other t s pool n ∙ c t (sym (has_spot-without_other s t xs n) ∙ h))

pub clean-pool : (s : ℕ) (xs : List Spot) (pool : List (ℕ × ℤ)) (k : ℤ) → has_spot s xs ≡ true → Clean xs pool → Clean xs (pool ++ (s, k) ∷ [])
clean-pool s xs pool k b c t h = avoided_on-push_other t s pool k (eq_not t s (λ e. not_both (ap (λ z. has_spot z xs) e ∙ b) h)) ∙ c t h
  where
    not_both : has_spot t xs ≡ true → has_spot t xs ≡ false → ⊥
    not_both p q = cc

pub clean-same : (xs ys : List Spot) (pool : List (ℕ × ℤ)) → frames xs ≡ frames ys → Clean xs pool → Clean ys pool
clean-same xs ys pool e c t h = c t (same_has t xs ys e ∙ h)

-- What is kept at a spot.

pub keeps_at : (set : List (ℤ × ℤ)) (wanted : List Ask) (s : ℕ) (xs : List Spot) (pool : List (ℕ × ℤ)) (e : Spot) (av : List ℤ) → spot_of s xs ≡ Some e → avoided_on s pool ≡ av → KeepsIn set wanted e av → KeepsSpot set wanted (spot_of s xs) (avoided_on s pool)
keeps_at set wanted s xs pool e av p q k =
    subst (λ (o : Option Spot). KeepsSpot set wanted o (avoided_on s pool)) (sym p) (subst (λ (a : List ℤ). KeepsIn set wanted e a) (sym q) k)

pub kept_at : (set : List (ℤ × ℤ)) (wanted : List Ask) (s : ℕ) (xs : List Spot) (pool : List (ℕ × ℤ)) (e : Spot) → spot_of s xs ≡ Some e → KeepsSpot set wanted (spot_of s xs) (avoided_on s pool) → KeepsIn set wanted e (avoided_on s pool)
kept_at set wanted s xs pool e p k = subst (λ (o : Option Spot). KeepsSpot set wanted o (avoided_on s pool)) p k

pub permits_is : (o : Option (Bor (List (ℤ × ℤ)))) (fixed : Bool) (set : List (ℤ × ℤ)) → Permits o fixed set → fixed ≡ false → set_of o ≡ set
permits_is None fixed set p f = cc
permits_is (Some own) fixed set p f = p

pub permits_fixed : (o : Option (Bor (List (ℤ × ℤ)))) (fixed : Bool) (set : List (ℤ × ℤ)) → Permits o fixed set → Permits o true set
permits_fixed None fixed set p = refl
permits_fixed (Some own) fixed set p = p

pub length-remove : {A : Type 0} (xs : List A) (i : ℕ) → i < length xs → suc (length (remove xs i)) ≡ length xs
length-remove [] i h = absurd (omega arith)
length-remove (x ∷ xs) zero h = refl
length-remove (x ∷ xs) (suc i) h = ap suc (length-remove xs i (omega arith))

place-within : (s : ℕ) (xs : List Spot) → has_spot s xs ≡ true → place s xs < length xs
place-within s [] h = cc
place-within s (e ∷ es) h = go (nat_eq e.slot s) h (place-within s es)
  where
    go : (b : Bool) → (b || has_spot s es) ≡ true → (has_spot s es ≡ true → place s es < length es) → (if b then 0 else suc (place s es)) < suc (length es)
    go true k f = omega arith
    go false k f = let r = f k in omega (arith, r)

pub remove-length : (s i : ℕ) (xs : List Spot) (gaps gaps' : List (Option Gap)) → has_spot s xs ≡ true → i ≡ place s xs → length gaps ≡ length xs → gaps' ≡ remove gaps i → suc (length gaps') ≡ length gaps
remove-length s i xs gaps gaps' b p l q =
    let w : place s xs < length xs = place-within s xs b in
    ap (λ (z : List (Option Gap)). suc (length z)) q ∙ length-remove gaps i (omega (arith, w, p, l))

-- The hole of one more.

pub has_spot-last : (s : ℕ) (es : List Spot) (e : Spot) → e.slot ≡ s → has_spot s (es ++ e ∷ []) ≡ true
has_spot-last s es e k = has_spot-push s es e ∙ last (has_spot s es) (nat_eq e.slot s) (eq_self e.slot s k)
  where
    last : (a b : Bool) → b ≡ true → (a || b) ≡ true
    last true b h = refl
    last false b h = h

pub has_spot-other : (t : ℕ) (es : List Spot) (e : Spot) → nat_eq e.slot t ≡ false → has_spot t (es ++ e ∷ []) ≡ has_spot t es
has_spot-other t es e n = has_spot-push t es e ∙ (ap (λ z. has_spot t es || z) n ∙ none (has_spot t es))
  where
    none : (a : Bool) → (a || false) ≡ a
    none true = refl
    none false = refl

pub gap-last : (s : ℕ) (es : List Spot) (e : Spot) (gaps : List (Option Gap)) (g : Option Gap) → length gaps ≡ length es → has_spot s es ≡ false → e.slot ≡ s → slice_get (gaps ++ g ∷ []) (place s (es ++ e ∷ [])) ≡ Some g
gap-last s [] e [] g l h k = ap (λ z. slice_get (g ∷ []) (if z then 0 else 1)) (eq_self e.slot s k)
gap-last s [] e (x ∷ gaps) g l h k = cc
gap-last s (y ∷ es) e [] g l h k = cc
gap-last s (y ∷ es) e (x ∷ gaps) g l h k =
    let o = or_false (nat_eq y.slot s) (has_spot s es) h in
    ap (λ z. slice_get (x ∷ (gaps ++ g ∷ [])) (if z then 0 else suc (place s (es ++ e ∷ [])))) o.0 ∙ gap-last s es e gaps g (omega (arith, l)) o.1 k

pub gap-front : (t : ℕ) (es : List Spot) (e : Spot) (gaps : List (Option Gap)) (g : Option Gap) → length gaps ≡ length es → has_spot t es ≡ true → slice_get (gaps ++ g ∷ []) (place t (es ++ e ∷ [])) ≡ slice_get gaps (place t es)
gap-front t [] e gaps g l h = cc
gap-front t (y ∷ es) e [] g l h = cc
gap-front t (y ∷ es) e (x ∷ gaps) g l h = go (nat_eq y.slot t) h (λ k. gap-front t es e gaps g (let m : length gaps ≡ length es = omega (arith, l) in m) k)
  where
    go : (b : Bool) → (b || has_spot t es) ≡ true → (has_spot t es ≡ true → slice_get (gaps ++ g ∷ []) (place t (es ++ e ∷ [])) ≡ slice_get gaps (place t es))
        → slice_get (x ∷ (gaps ++ g ∷ [])) (if b then 0 else suc (place t (es ++ e ∷ []))) ≡ slice_get (x ∷ gaps) (if b then 0 else suc (place t es))
    go true k f = refl
    go false k f = f k

-- the slot of a spot that stands in the table
pub has_here : (xs : List Spot) (i : ℕ) (e : Spot) → i < length xs → e ≡ get_or xs i e → has_spot e.slot xs ≡ true
has_here [] i e h k = absurd (omega arith)
has_here (x ∷ xs) zero e h k = ap (λ z. z || has_spot e.slot xs) (eq_self x.slot e.slot (ap (λ z. z.slot) (sym k)))
has_here (x ∷ xs) (suc i) e h k = last (nat_eq x.slot e.slot) (has_spot e.slot xs) (has_here xs i e (omega arith) k)
  where
    last : (a b : Bool) → b ≡ true → (a || b) ≡ true
    last true b q = refl
    last false b q = q
