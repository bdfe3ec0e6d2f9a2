-- The ranges of a set are its parts.
use Rattle.std.proofs.Common.{◌≡◌, ℤ, pos, ◌&&◌, true, [], ◌∷◌, refl}
use Rattle.std.proofs.lemmas.Bool.{or_left, or_right}
use Rattle.std.specs.Prelude.{◌+ℤ◌, int_le}
use Rattle.acn_num.specs.Ranges.{Ranges, has, Above, AreRanges}
use Rattle.acn_grammar.proofs.WholeTests.{le_test}
use Rattle.acn_extreme_numbers.specs.Picked.{AreParts}

parts_of : (set rs : Ranges) (b : ℤ) → Above b rs → ((x : ℤ) → has rs x ≡ true → has set x ≡ true) → AreParts set rs
parts_of set [] b o h = tt
parts_of set (r ∷ rs) b o h = (
  record { order = o.1; within = λ x low high. h x (or_left (int_le r.0 x && int_le x r.1) (has rs x) (rw (le_test r.0 x low, le_test x r.1 high) refl)) },
  parts_of set rs (r.1 +ℤ pos 1) o.3 (λ x q. h x (or_right (int_le r.0 x && int_le x r.1) (has rs x) q)),
)

pub are_parts : (set : Ranges) → AreRanges set → AreParts set set
are_parts set h = parts_of set set _ h (λ x q. q)
