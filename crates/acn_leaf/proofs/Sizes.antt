-- Sets in order and least widths, as tests.
use Rattle.std.proofs.Common.{◌≡◌, ℕ, ◌-◌, ◌^◌, ◌<◌, ◌≤◌, ℤ, pos, true, false, List, [], ◌∷◌, length, refl, arith}
use Rattle.std.specs.Prelude.{int_le, ◌+ℤ◌, ◌<ℤ◌}
use Rattle.std.proofs.lemmas.Bool.Decides.{nat_tests}
use Rattle.std.proofs.lemmas.Int.{ints}
use Rattle.std.proofs.Math.Nat.{pow-le-pow_right}
use Rattle.acn_num.specs.Bits.{is_least_width}
use Rattle.acn_num.specs.Ranges.{Above, AreRanges, are_ranges, are_ranges_above, count}
use Rattle.acn_grammar.specs.Leaves.{holds_characters}
use Rattle.acn_grammar.proofs.WholeTests.{lt_test, le_test}

above_test : (b : ℤ) (rs : List (ℤ × ℤ)) → Above b rs → are_ranges_above b rs ≡ true
above_test b [] h = refl
above_test b (r ∷ rs) h = rw (lt_test b r.0 h.0, le_test r.0 r.1 h.1) (above_test (r.1 +ℤ pos 1) rs h.3)

pub in_order : (rs : List (ℤ × ℤ)) → AreRanges rs → are_ranges rs ≡ true
in_order [] h = refl
in_order (r ∷ rs) h = rw (le_test r.0 r.1 h.1) (above_test (r.1 +ℤ pos 1) rs h.3)

pub some_counted : (rs : List (ℤ × ℤ)) → 0 < length rs → 0 < count rs
some_counted [] h = absurd (omega arith)
some_counted (r ∷ rs) h = omega arith

-- as many characters as the numbers up to the last one
pub counted_width : (n width : ℕ) → 0 < n → is_least_width (n - 1) width ≡ holds_characters n width
counted_width n width h = grind (arith, nat_tests)

-- no width beyond 128 is the least of a number that 128 bits hold
pub beyond_width : (span width : ℕ) → span < 2 ^ 128 → 128 < width → is_least_width span width ≡ false
beyond_width span width small h =
    let g : 128 ≤ width - 1 = omega arith in
    let k : 2 ^ 128 ≤ 2 ^ (width - 1) = pow-le-pow_right {n = 2} (omega arith) g in
    grind (arith, nat_tests)

pub not_past : (width : ℕ) (x : ℤ) → x <ℤ pos (2 ^ 127) → 127 ≤ width → int_le (pos (2 ^ width)) x ≡ false
not_past width x small h =
    let k : 2 ^ 127 ≤ 2 ^ width = pow-le-pow_right {n = 2} (omega arith) h in
    grind (arith, ints)

pub is_power : (width : ℕ) → width < 127 → 2 ^ width < 2 ^ 127
is_power width h =
    let g : width ≤ 126 = omega arith in
    let k : 2 ^ width ≤ 2 ^ 126 = pow-le-pow_right {n = 2} (omega arith) g in
    omega arith
