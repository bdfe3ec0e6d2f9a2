-- The numbers from the least to the greatest of a set have its ends and hold all that it holds.
use Rattle.std.proofs.Common.{◌≡◌, Bool, true, false, ◌&&◌, ◌||◌, [], ◌∷◌, Option, Some, None, refl, sym, ap, subst, ◌∙◌, ℤ, pos, arith}
use Rattle.std.proofs.lemmas.Int.{ints, clamps}
use Rattle.std.specs.Prelude.{int_le, if◌then◌else◌, ◌≤ℤ◌, ◌-ℤ◌, ◌+ℤ◌, Result, Ok, Err, IfOk}
use Rattle.acn_num.specs.Ranges.{Ranges, has, is_in, Above, AreRanges, some_range, least, greatest, bottom, top}
use Rattle.acn_num.proofs.Members.{le_true, not_below, and_false}
use Rattle.acn_constraint.specs.Sets.{nearest, above, below, between}
use Rattle.acn_constraint.specs.Hull.{IsHull}

or_true : (b : Bool) → (b || true) ≡ true
or_true true = refl
or_true false = refl

pub from_low : (b x : ℤ) (r : ℤ × ℤ) (rest : Ranges) → Above b (r ∷ rest) → has (r ∷ rest) x ≡ true → r.0 ≤ℤ x
from_low b x r rest h there =
    let out : x ≤ℤ (r.0 -ℤ pos 1) → has (r ∷ rest) x ≡ false = (λ (le : x ≤ℤ (r.0 -ℤ pos 1)). not_below (r.0 -ℤ pos 1) x (r ∷ rest) (omega (arith, ints), h.1, h.2, h.3) le) in
    grind (arith, ints, out)

-- the greatest number of a set that isn't empty
pub record Last (r : ℤ × ℤ) (rest : Ranges) : Type 0 where
  pub number : ℤ
  pub is : greatest (r ∷ rest) ≡ Some number
  pub order : r.0 ≤ℤ number
  pub within : number ≤ℤ top
  pub there : has (r ∷ rest) number ≡ true
  pub last : (x : ℤ) → has (r ∷ rest) x ≡ true → x ≤ℤ number

pub one_last : (r : ℤ × ℤ) (x : ℤ) → has (r ∷ []) x ≡ true → x ≤ℤ r.1
one_last r x there = grind (arith, ints)

pub more_last : (r : ℤ × ℤ) (rest : Ranges) (g x : ℤ) → r.1 ≤ℤ g → (has rest x ≡ true → x ≤ℤ g) → has (r ∷ rest) x ≡ true → x ≤ℤ g
more_last r rest g x le behind there = grind (arith, ints, behind)

high_in : (r : ℤ × ℤ) → r.0 ≤ℤ r.1 → has (r ∷ []) r.1 ≡ true
high_in r le = grind (arith, ints)

later_in : (r : ℤ × ℤ) (rest : Ranges) (x : ℤ) → has rest x ≡ true → has (r ∷ rest) x ≡ true
later_in r rest x there = ap (λ b. is_in x r || b) there ∙ or_true (is_in x r)

pub last_of : (b : ℤ) (r : ℤ × ℤ) (rest : Ranges) → Above b (r ∷ rest) → Last r rest
last_of b r [] h = record { number = r.1; is = refl; order = h.1; within = h.2; there = high_in r h.1; last = one_last r }
last_of b r (q ∷ rest) h =
    let behind = last_of (r.1 +ℤ pos 1) q rest h.3 in
    let low : r.1 ≤ℤ behind.number = (let p = h.3.0 in let o = behind.order in omega (arith, ints)) in
    record { number = behind.number; is = behind.is; order = (let o = h.1 in omega (arith, ints)); within = behind.within; there = later_in r (q ∷ rest) behind.number behind.there; last = λ x. more_last r (q ∷ rest) behind.number x low (behind.last x) }

pub near : (x : ℤ) → bottom ≤ℤ x → x ≤ℤ top → nearest x ≡ x
near x low high = omega (arith, ints, clamps)

pub some_is : (low high : ℤ) → low ≤ℤ high → some_range low high ≡ (low, high) ∷ []
some_is low high h = ap (λ b. if b then (low, high) ∷ [] else []) (le_true low high h)

abbrev hull : Ranges → Ranges
hull s = between (least s) false (greatest s) false

hull_is : (r : ℤ × ℤ) (rest : Ranges) → AreRanges (r ∷ rest) → (last : Last r rest) → hull (r ∷ rest) ≡ (r.0, last.number) ∷ []
hull_is r rest h last =
    ap (λ o. between (Some r.0) false o false) last.is
    ∙ (ap (λ y. some_range y (nearest last.number)) (near r.0 (let p = h.0 in omega (arith, ints)) (let p = last.order in let q = last.within in omega (arith, ints)))
    ∙ (ap (λ y. some_range r.0 y) (near last.number (let p = h.0 in let q = last.order in omega (arith, ints)) last.within)
    ∙ some_is r.0 last.number last.order))

pub in_one : (low high x : ℤ) → low ≤ℤ x → x ≤ℤ high → has ((low, high) ∷ []) x ≡ true
in_one low high x p q = grind (arith, ints)

one_hull : (r : ℤ × ℤ) (rest : Ranges) → AreRanges (r ∷ rest) → (last : Last r rest) → IsHull (r ∷ rest) ((r.0, last.number) ∷ [])
one_hull r rest h last = record {
  ordered = (h.0, last.order, last.within, tt);
  ends = record { low = refl; high = sym last.is };
  inside = λ x there. in_one r.0 last.number x (from_low (bottom -ℤ pos 1) x r rest h there) (last.last x there);
}

hull_of : (s : Ranges) → AreRanges s → IsHull s (hull s)
hull_of [] h = record { ordered = tt; ends = record { low = refl; high = refl }; inside = λ x there. there }
hull_of (r ∷ rest) h =
    let last = last_of (bottom -ℤ pos 1) r rest h in
    subst (λ t. IsHull (r ∷ rest) t) (sym (hull_is r rest h last)) (one_hull r rest h last)

pub hull_answered : {E : Type 0} (s ranges : Ranges) (low high : Option ℤ) (answer : Result Ranges E) → ranges ≡ s → AreRanges ranges → low ≡ least s → high ≡ greatest s → IfOk answer (λ t. t ≡ between low false high false) → IfOk answer (λ t. IsHull s t)
hull_answered s ranges low high (Err e) same ordered p q h = h
hull_answered s ranges low high (Ok t) same ordered p q h =
    let is : t ≡ hull s = h ∙ (ap (λ o. between o false high false) p ∙ ap (λ o. between (least s) false o false) q) in
    subst (λ (z : Ranges). IsHull s z) (sym is) (hull_of s (subst AreRanges same ordered))

-- ---- the ends of a range

-- whether a number lies at or over an end, and at or under one
abbrev pub over : Option ℤ → Bool → ℤ → Bool
over None out x = false
over (Some low) out x = int_le (above out (nearest low)) x

abbrev pub under : Option ℤ → Bool → ℤ → Bool
under None out x = false
under (Some high) out x = int_le x (below out (nearest high))

in_some : (low high x : ℤ) → has (some_range low high) x ≡ (int_le low x && int_le x high)
in_some low high x = grind (arith, ints)

pub between_has : (low : Option ℤ) (low_out : Bool) (high : Option ℤ) (high_out : Bool) (x : ℤ) → has (between low low_out high high_out) x ≡ (over low low_out x && under high high_out x)
between_has None low_out high high_out x = refl
between_has (Some low) low_out None high_out x = sym (and_false (over (Some low) low_out x))
between_has (Some low) low_out (Some high) high_out x = in_some (above low_out (nearest low)) (below high_out (nearest high)) x

-- no number of a set lies below the least or above the greatest one
pub over_least : (s : Ranges) (x : ℤ) → AreRanges s → has s x ≡ true → over (least s) false x ≡ true
over_least [] x h there = cc
over_least (r ∷ rest) x h there =
    let low = from_low (bottom -ℤ pos 1) x r rest h there in
    let p = h.0 in
    le_true (nearest r.0) x (omega (arith, ints, clamps))

pub under_greatest : (s : Ranges) (x : ℤ) → AreRanges s → has s x ≡ true → under (greatest s) false x ≡ true
under_greatest [] x h there = cc
under_greatest (r ∷ rest) x h there =
    let last = last_of (bottom -ℤ pos 1) r rest h in
    let high = last.last x there in
    let p = last.within in
    ap (λ o. under o false x) last.is ∙ le_true x (nearest last.number) (omega (arith, ints, clamps))
