-- Ranges in order, and the least number in them.
use Rattle.std.proofs.Common.{◌≡◌, ℤ, pos, ◌&&◌, true, [], ◌∷◌, Some, refl, arith}
use Rattle.std.proofs.lemmas.Bool.{or_left}
use Rattle.std.proofs.lemmas.Int.{ints}
use Rattle.std.specs.Prelude.{◌≤ℤ◌, ◌+ℤ◌, int_le}
use Rattle.acn_num.specs.Ranges.{Ranges, has, Above, least, all_within}
use Rattle.acn_grammar.proofs.RangeEnds.{lies_within}
use Rattle.acn_grammar.proofs.WholeTests.{le_test}
use Rattle.acn_extreme_laws.specs.Laws.{Ordered}

pub ordered : (b : ℤ) (rs : Ranges) → Above b rs → Ordered rs
ordered b [] h = tt
ordered b (r ∷ rs) h = (h.1, ordered (r.1 +ℤ pos 1) rs h.3)

pub in_range : (a b x : ℤ) → a ≤ℤ x → x ≤ℤ b → (int_le a x && int_le x b) ≡ true
in_range a b x h k = rw (le_test a x h, le_test x b k) refl

pub self : (x : ℤ) → x ≤ℤ x
self x = omega (arith, ints)

-- the least number
pub least_in : (b : ℤ) (rs : Ranges) (z : ℤ) → Above b rs → least rs ≡ Some z → has rs z ≡ true
least_in b [] z h e = cc
least_in b (r ∷ rs) z h e =
    let is : r.0 ≡ z = cc in
    rw (← is) (or_left (int_le r.0 r.0 && int_le r.0 r.1) (has rs r.0) (in_range r.0 r.1 r.0 (self r.0) h.1))

pub least_within : (b : ℤ) (rs : Ranges) (low high x : ℤ) → Above b rs → all_within low high rs ≡ true → least rs ≡ Some x → (low ≤ℤ x) × (x ≤ℤ high)
least_within b rs low high x above h e = lies_within rs low high x h (least_in b rs x above e)
