-- Whole numbers and sets lie between their ends.
use Rattle.std.proofs.Common.{◌≡◌, true, ℤ, pos, negsuc, ◌≤ℤ◌, ◌<ℤ◌, ◌+ℤ◌, ◌-ℤ◌, [], ◌∷◌, Option, Some, None, refl, arith}
use Rattle.std.proofs.lemmas.Bool.{and_parts}
use Rattle.std.proofs.lemmas.Bool.Decides.{nat_tests}
use Rattle.std.proofs.lemmas.Int.{ints, clamps}
use Rattle.std.specs.Prelude.{◌&&◌, int_le}
use Rattle.std.specs.Int.{int_max}
use Rattle.acn_num.specs.Ranges.{Ranges, Above, AreRanges, bottom, top, least, greatest}
use Rattle.acn_grammar.specs.Leaves.{is_number, line_fine}
use Rattle.acn_codings.specs.Left.{end_or}
use Rattle.acn_codings.specs.Tables.{Line}

pub low : (x : ℤ) → is_number x ≡ true → negsuc 9223372036854775807 ≤ℤ x
low x h = grind (arith, ints, nat_tests)

pub high : (x : ℤ) → is_number x ≡ true → x ≤ℤ pos 18446744073709551615
high x h = grind (arith, ints, nat_tests)

greatest_from : (b : ℤ) (s : Ranges) (x : ℤ) → Above b s → greatest s ≡ Some x → (b <ℤ x) × (x ≤ℤ top)
greatest_from b [] x h e = cc
greatest_from b (r ∷ []) x h e = let p = h.0 in let q = h.1 in let u = h.2 in let i : r.1 ≡ x = cc in (omega (arith, ints, i), omega (arith, ints, i))
greatest_from b (r ∷ q ∷ s) x h e = let k = greatest_from (r.1 +ℤ pos 1) (q ∷ s) x h.3 e in let p = h.0 in let o = h.1 in let m = k.0 in (omega (arith, ints), k.1)

-- where a set has no greatest number, it is the lower end
pub greatest_within : (s : Ranges) → AreRanges s → (bottom ≤ℤ end_or bottom (greatest s)) × (end_or bottom (greatest s) ≤ℤ top)
greatest_within s h = by (greatest s) refl
  where
    by : (o : Option ℤ) → greatest s ≡ o → (bottom ≤ℤ end_or bottom o) × (end_or bottom o ≤ℤ top)
    by None e = (omega (arith, ints), omega (arith, ints))
    by (Some x) e = let k = greatest_from (bottom -ℤ pos 1) s x h e in let m = k.0 in (omega (arith, ints), k.1)

pub least_within : (s : Ranges) → AreRanges s → (bottom ≤ℤ end_or top (least s)) × (end_or top (least s) ≤ℤ top)
least_within [] h = (omega (arith, ints), omega (arith, ints))
least_within (r ∷ s) h = let p = h.0 in let q = h.1 in let u = h.2 in (omega (arith, ints), omega (arith, ints))

-- the greater of the first key and another number is no less than the lower end
pub first_or_above : (l : Line) (x z : ℤ) → line_fine l ≡ true → z ≡ int_max l.0 x → bottom ≤ℤ z
first_or_above l x z h e =
    let a = and_parts (int_le l.0 l.1) (is_number l.0 && (is_number l.1 && (is_number l.2 && is_number (l.2 +ℤ (l.1 -ℤ l.0))))) h in
    let b = and_parts (is_number l.0) (is_number l.1 && (is_number l.2 && is_number (l.2 +ℤ (l.1 -ℤ l.0)))) a.1 in
    let d = low l.0 b.0 in
    omega (arith, ints, clamps, e, d)
