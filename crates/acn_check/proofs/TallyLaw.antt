-- What the table says of a slot is what the uses of the whole tree say of it.
use Rattle.std.proofs.Common.{◌≡◌, ℕ, zero, suc, ◌+◌, ◌-◌, ◌^◌, ◌<◌, ◌≤◌, min, Bool, true, false, List, [], ◌∷◌, ◌++◌, length, map, Option, Some, None, refl, sym, ap, ◌∙◌, arith, nat_eq, ◌||◌, cond}
use Rattle.std.specs.Prelude.{slice_get, slice_set, count_by, if◌then◌else◌}
use Rattle.std.specs.List.{flat_map}
use Rattle.std.proofs.lemmas.Bool.Decides.{nat_tests}
use Rattle.std.proofs.lemmas.List.Recursion.{is_count_by}
use Rattle.acn_grammar.specs.Check.{is_equals_on, equals_on}
use Rattle.acn_grammar.specs.Grammar.{Grammar}
use Rattle.acn_grammar.specs.Tree.{holds}
use Rattle.acn_grammar.specs.Walk.{Stand, Use, condition, item_of, size_of, slot_of, uses, nodes_of}
use Rattle.acn_grammar.specs.declared.node.Test.TheVariants.{Flag, Equals}
use Rattle.acn_check.specs.Facts.{seen}
use Rattle.acn_check.specs.First.{Det, Tally, dets, is_equals, raised, tallied_at, tallied_one, tallied, no_tallies, uses_of}
use Rattle.acn_check.specs.Order.{lines_of, tallies_of}
use Rattle.std.proofs.lemmas.Bool.{eqb-true, eqb-false}

-- One slot of the table.

get-set-same : {A : Type 0} (xs : List A) (i : ℕ) (x y : A) → slice_get xs i ≡ Some y → slice_get (slice_set xs i x) i ≡ Some x
get-set-same [] i x y e = cc
get-set-same (z ∷ xs) zero x y e = refl
get-set-same (z ∷ xs) (suc i) x y e = get-set-same xs i x y e

get-set-other : {A : Type 0} (xs : List A) (i j : ℕ) (x : A) → (i ≡ j → ⊥) → slice_get (slice_set xs i x) j ≡ slice_get xs j
get-set-other [] i j x n = refl
get-set-other (z ∷ xs) zero zero x n = absurd (n refl)
get-set-other (z ∷ xs) zero (suc j) x n = refl
get-set-other (z ∷ xs) (suc i) zero x n = refl
get-set-other (z ∷ xs) (suc i) (suc j) x n = get-set-other xs i j x (λ e. n (ap suc e))

abbrev hits : Use → ℕ → Bool
hits u s = nat_eq (slot_of u) s

-- a slot's tally behind these uses
abbrev raise_all : ℕ → List Use → Tally → Tally
raise_all s [] t = t
raise_all s (u ∷ us) t = raise_all s us (if hits u s then raised u t else t)

one_raised : (ts : List Tally) (u : Use) (s : ℕ) (t : Tally) → slice_get ts s ≡ Some t → slice_get (tallied_one ts u) s ≡ Some (if hits u s then raised u t else t)
one_raised ts u s t e = by (hits u s) refl
  where
    other : (o : Option Tally) → (slot_of u ≡ s → ⊥) → slice_get (tallied_at ts u o) s ≡ slice_get ts s
    other None n = refl
    other (Some x) n = get-set-other ts (slot_of u) s (raised u x) n

    by : (b : Bool) → hits u s ≡ b → slice_get (tallied_one ts u) s ≡ Some (if b then raised u t else t)
    by true h =
        let same : slot_of u ≡ s = eqb-true (slot_of u) s h in
        let e' : slice_get ts (slot_of u) ≡ Some t = ap (slice_get ts) same ∙ e in
        ap (λ o. slice_get (tallied_at ts u o) s) e' ∙ (ap (slice_get (slice_set ts (slot_of u) (raised u t))) (sym same) ∙ get-set-same ts (slot_of u) (raised u t) t e')
    by false h = other (slice_get ts (slot_of u)) (eqb-false (slot_of u) s h) ∙ e

all_raised : (us : List Use) (ts : List Tally) (s : ℕ) (t : Tally) → slice_get ts s ≡ Some t → slice_get (tallied ts us) s ≡ Some (raise_all s us t)
all_raised [] ts s t e = e
all_raised (u ∷ us) ts s t e = all_raised us (tallied_one ts u) s (if hits u s then raised u t else t) (one_raised ts u s t e)

-- how many conditions of these uses compare the slot with a number
abbrev equals_in : ℕ → List Use → ℕ
equals_in s [] = 0
equals_in s (u ∷ us) = (if is_equals_on s u then 1 else 0) + equals_in s us

named-all : (us : List Use) (s : ℕ) (t : Tally) → (raise_all s us t).used ≡ (t.used || holds (map slot_of us) s)
named-all [] s t = or_none t.used
  where
    or_none : (b : Bool) → b ≡ (b || false)
    or_none true = refl
    or_none false = refl
named-all (u ∷ us) s t = named-all us s (if hits u s then raised u t else t) ∙ by (hits u s) t.used
  where
    by : (b c : Bool) → ((if b then raised u t else t).used || holds (map slot_of us) s) ≡ (t.used || (b || holds (map slot_of us) s))
    by true c = or_true t.used (holds (map slot_of us) s)
      where
        or_true : (a b : Bool) → (true || b) ≡ (a || (true || b))
        or_true true b = refl
        or_true false b = refl
    by false c = refl

is_on : (u : Use) (s : ℕ) → is_equals_on s u ≡ (if hits u s then is_equals u else false)
is_on (condition (Flag t)) s = by (nat_eq t s)
  where
    by : (b : Bool) → false ≡ (if b then false else false)
    by true = refl
    by false = refl
is_on (condition (Equals t k)) s = by t s
  where
    turned : (t s : ℕ) → nat_eq s t ≡ nat_eq t s
    turned t s = grind (arith, nat_tests)

    as_test : (b : Bool) → b ≡ (if b then true else false)
    as_test true = refl
    as_test false = refl

    by : (t s : ℕ) → nat_eq s t ≡ (if nat_eq t s then true else false)
    by t s = turned t s ∙ as_test (nat_eq t s)
is_on (item_of t) s = by (nat_eq t s)
  where
    by : (b : Bool) → false ≡ (if b then false else false)
    by true = refl
    by false = refl
is_on (size_of t) s = by (nat_eq t s)
  where
    by : (b : Bool) → false ≡ (if b then false else false)
    by true = refl
    by false = refl

counted : (us : List Use) (s : ℕ) (t : Tally) → t.equals ≤ 2 ^ 32 - 1 → (raise_all s us t).equals ≡ min (t.equals + equals_in s us) (2 ^ 32 - 1)
counted [] s t le = omega arith
counted (u ∷ us) s t le =
    counted us s (if hits u s then raised u t else t) (kept (hits u s) (is_equals u))
    ∙ (by (hits u s) (is_equals u) (equals_in s us) ∙ ap (λ b. min (t.equals + ((if b then 1 else 0) + equals_in s us)) (2 ^ 32 - 1)) (sym (is_on u s)))
  where
    kept : (b d : Bool) → (if b then record { used = true; equals = if d then min (t.equals + 1) (2 ^ 32 - 1) else t.equals } else t).equals ≤ 2 ^ 32 - 1
    kept true true = omega arith
    kept true false = le
    kept false d = le

    by : (b d : Bool) (m : ℕ) → min ((if b then record { used = true; equals = if d then min (t.equals + 1) (2 ^ 32 - 1) else t.equals } else t).equals + m) (2 ^ 32 - 1) ≡ min (t.equals + ((if (if b then d else false) then 1 else 0) + m)) (2 ^ 32 - 1)
    by true true m = omega arith
    by true false m = omega arith
    by false d m = omega arith

blank_at : (n s : ℕ) → s < n → slice_get (no_tallies n) s ≡ Some (record { used = false; equals = 0 })
blank_at zero s h = absurd (omega arith)
blank_at (suc n) zero h = refl
blank_at (suc n) (suc s) h = blank_at n s (omega arith)

get_some : {A : Type 0} (xs : List A) (i : ℕ) (x : A) → slice_get xs i ≡ Some x → i < length xs
get_some [] i x e = cc
get_some (y ∷ xs) zero x e = omega arith
get_some (y ∷ xs) (suc i) x e = (let r = get_some xs i x e in omega (arith, r))

seen_uses : (l : List Stand) → flat_map uses_of (map seen l) ≡ flat_map uses l
seen_uses [] = refl
seen_uses (at ∷ l) = ap (λ us. uses at ++ us) (seen_uses l)

counts : (us : List Use) (s : ℕ) → equals_in s us ≡ count_by (is_equals_on s) us
counts us s = is_count_by (equals_in s) (is_equals_on s) refl (λ u vs. by (is_equals_on s u) (equals_in s vs)) us
  where
    by : (b : Bool) (m : ℕ) → (if b then 1 else 0) + m ≡ cond b (1 + m) m
    by true m = refl
    by false m = omega arith

-- a slot of the tree, in the table
pub record Tallied (root : Grammar) (s : ℕ) : Type 0 where
  pub tally : Tally
  pub is_here : slice_get (tallies_of (lines_of root)) s ≡ Some tally
  pub used : tally.used ≡ holds (map slot_of (flat_map uses (nodes_of root))) s
  pub equals : tally.equals ≡ min (equals_on root s) (2 ^ 32 - 1)

pub tallied_law : (root : Grammar) (s : ℕ) (d : Det) → slice_get (dets 0 (lines_of root)) s ≡ Some d → Tallied root s
tallied_law root s d e =
    let blank : Tally = record { used = false; equals = 0 } in
    let us = flat_map uses_of (lines_of root) in
    let t = raise_all s us blank in
    let same = seen_uses (nodes_of root) in
    record {
      tally = t;
      is_here = all_raised us (no_tallies (length (dets 0 (lines_of root)))) s blank (blank_at (length (dets 0 (lines_of root))) s (get_some (dets 0 (lines_of root)) s d e));
      used = named-all us s blank ∙ ap (λ vs. holds (map slot_of vs) s) same;
      equals = counted us s blank (omega arith) ∙ (ap (λ n. min n (2 ^ 32 - 1)) (zero_on (equals_in s us) ∙ (counts us s ∙ ap (count_by (is_equals_on s)) same)));
    }
  where
    zero_on : (n : ℕ) → 0 + n ≡ n
    zero_on n = omega arith
