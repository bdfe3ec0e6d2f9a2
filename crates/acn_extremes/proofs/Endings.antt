-- The least and the greatest number of ranges in order.
use Rattle.std.proofs.Common.{◌≡◌, ℤ, pos, ◌&&◌, Bool, true, false, [], ◌∷◌, Some, None, refl, sym, ap, ◌∙◌, arith, cond}
use Rattle.std.proofs.lemmas.Bool.{or_left, or_right, and_parts}
use Rattle.std.proofs.lemmas.Int.{ints}
use Rattle.std.specs.Prelude.{◌≤ℤ◌, ◌<ℤ◌, ◌+ℤ◌, int_le, int_lt}
use Rattle.std.specs.Int.{int_max, int_min}
use Rattle.acn_num.specs.Ranges.{Ranges, has, Above, least, greatest, IsMeet}
use Rattle.acn_grammar.specs.Images.{ends, ends_from}
use Rattle.acn_single.proofs.Ordered.{in_range, self}
use Rattle.acn_num.specs.declared.limits.TheConstants.{MOST_SIZE}
use Rattle.acn_grammar.specs.Leaves.{sizes_fine}
use Rattle.acn_extremes.specs.Ways.{AreSizes}
use Rattle.acn_grammar.proofs.RangeEnds.{lies_within}
use Rattle.acn_grammar.proofs.TextRules.{size_rules}
use Rattle.acn_grammar.proofs.WholeTests.{lt_fact}

-- the ends
pub greatest_in : (b : ℤ) (rs : Ranges) (z : ℤ) → Above b rs → greatest rs ≡ Some z → has rs z ≡ true
greatest_in b [] z h e = cc
greatest_in b (r ∷ []) z h e =
    let is : r.1 ≡ z = cc in
    rw (← is) (or_left (int_le r.0 r.1 && int_le r.1 r.1) (has [] r.1) (in_range r.0 r.1 r.1 h.1 (self r.1)))
greatest_in b (r ∷ q ∷ rs) z h e = or_right (int_le r.0 z && int_le z r.1) (has (q ∷ rs) z) (greatest_in (r.1 +ℤ pos 1) (q ∷ rs) z h.3 e)

min_is : (a b : ℤ) → a ≤ℤ b → int_min a b ≡ a
min_is a b h = by (int_lt b a) refl
  where
    by : (t : Bool) → int_lt b a ≡ t → cond t b a ≡ a
    by true e = (let l = lt_fact b a e in absurd (omega (arith, ints)))
    by false e = refl

max_is : (a b : ℤ) → a ≤ℤ b → int_max a b ≡ b
max_is a b h = by (int_lt b a) refl
  where
    by : (t : Bool) → int_lt b a ≡ t → cond t a b ≡ b
    by true e = (let l = lt_fact b a e in absurd (omega (arith, ints)))
    by false e = refl

-- a range behind another begins above it, and ends above it
ends_turn : (e r : ℤ × ℤ) → e.0 ≤ℤ e.1 → (e.1 +ℤ pos 1) <ℤ r.0 → r.0 ≤ℤ r.1 → (int_min e.0 r.0 ≡ e.0) × (int_max e.1 r.1 ≡ r.1)
ends_turn e r a b c = (min_is e.0 r.0 (omega (arith, ints)), max_is e.1 r.1 (omega (arith, ints)))

ends_behind : (e : ℤ × ℤ) (rs : Ranges) (z : ℤ) → e.0 ≤ℤ e.1 → Above (e.1 +ℤ pos 1) rs → greatest (e ∷ rs) ≡ Some z → ends_from e rs ≡ (e.0, z)
ends_behind e [] z a h g = (let is : e.1 ≡ z = cc in ap (λ x. (e.0, x)) is)
ends_behind e (r ∷ rs) z a h g =
    let t = ends_turn e r a h.0 h.1 in
    ap (λ x. ends_from x rs) (ap (λ x. (x, int_max e.1 r.1)) t.0 ∙ ap (λ x. (e.0, x)) t.1) ∙ ends_behind (e.0, r.1) rs z (whole a h.0 h.1) h.3 (moved rs r z h.3 g)
  where
    whole : e.0 ≤ℤ e.1 → (e.1 +ℤ pos 1) <ℤ r.0 → r.0 ≤ℤ r.1 → e.0 ≤ℤ r.1
    whole a b c = omega (arith, ints)

    moved : (rs : Ranges) (r : ℤ × ℤ) (z : ℤ) → Above (r.1 +ℤ pos 1) rs → greatest (r ∷ rs) ≡ Some z → greatest ((e.0, r.1) ∷ rs) ≡ Some z
    moved [] r z h g = g
    moved (q ∷ rs) r z h g = g

pub ends_are : (b : ℤ) (rs : Ranges) (x z : ℤ) → Above b rs → least rs ≡ Some x → greatest rs ≡ Some z → ends rs ≡ Some (x, z)
ends_are b [] x z h e g = cc
ends_are b (r ∷ rs) x z h e g =
    let is : r.0 ≡ x = cc in
    ap Some (ends_behind r rs z h.1 h.3 g ∙ ap (λ n. (n, z)) is)

pub no_ends : (rs : Ranges) → least rs ≡ None → ends rs ≡ None
no_ends [] e = refl
no_ends (r ∷ rs) e = cc

pub some_greatest : (r : ℤ × ℤ) (rs : Ranges) → greatest (r ∷ rs) ≡ None → ⊥
some_greatest r [] e = cc
some_greatest r (q ∷ rs) e = some_greatest q rs e

pub both_or_none : (rs : Ranges) (x : ℤ) → least rs ≡ Some x → greatest rs ≡ None → ⊥
both_or_none [] x e g = cc
both_or_none (r ∷ rs) x e g = some_greatest r rs g

-- Sizes.

pub sizes_small : (rs : Ranges) → sizes_fine rs ≡ true → AreSizes rs
sizes_small rs fine x h = lies_within rs (pos 0) (pos MOST_SIZE) x (size_rules rs fine).small h

pub meet_small : (a b s : Ranges) → sizes_fine a ≡ true → IsMeet a b s → AreSizes s
meet_small a b s fine met x h = sizes_small a fine x (and_parts (has a x) (has b x) (sym (met x) ∙ h)).0
