-- Patterns and the first octet of a terminator.
use Rattle.std.proofs.Common.{◌≡◌, ◌+◌, ◌*◌, ◌≤◌, Bool, true, false, List, [], ◌∷◌, length, take, get_or, nat_eq, ◌||◌, refl, arith}
use Rattle.std.proofs.lemmas.Bool.Decides.{nat_tests}
use Rattle.std.specs.Cmp.Lexicographic.{pointwise}
use mathlib.Core.Bool.{beq}
use Rattle.acn_num.specs.Bits.{number, weight}
use Rattle.acn_grammar.specs.Leaves.{same_bits, begins_number, from_to, is_terminator}
use Rattle.acn_grammar.specs.Spell.{octet_numbers}

pub same_by_bit : (xs ys : List Bool) → pointwise beq xs ys ≡ same_bits xs ys
same_by_bit [] [] = refl
same_by_bit [] (y ∷ ys) = refl
same_by_bit (true ∷ xs) [] = refl
same_by_bit (false ∷ xs) [] = refl
same_by_bit (true ∷ xs) (true ∷ ys) = same_by_bit xs ys
same_by_bit (true ∷ xs) (false ∷ ys) = refl
same_by_bit (false ∷ xs) (true ∷ ys) = refl
same_by_bit (false ∷ xs) (false ∷ ys) = same_by_bit xs ys

pub eight_bits : (bs : List Bool) → 8 ≤ length bs → weight (get_or bs 0 false) * 128 + weight (get_or bs 1 false) * 64 + weight (get_or bs 2 false) * 32 + weight (get_or bs 3 false) * 16 + weight (get_or bs 4 false) * 8 + weight (get_or bs 5 false) * 4 + weight (get_or bs 6 false) * 2 + weight (get_or bs 7 false) ≡ number (take 8 bs)
eight_bits (a ∷ b ∷ c ∷ d ∷ e ∷ f ∷ g ∷ h ∷ rest) more = omega arith
eight_bits [] more = absurd (omega arith)
eight_bits (a ∷ []) more = absurd (omega arith)
eight_bits (a ∷ b ∷ []) more = absurd (omega arith)
eight_bits (a ∷ b ∷ c ∷ []) more = absurd (omega arith)
eight_bits (a ∷ b ∷ c ∷ d ∷ []) more = absurd (omega arith)
eight_bits (a ∷ b ∷ c ∷ d ∷ e ∷ []) more = absurd (omega arith)
eight_bits (a ∷ b ∷ c ∷ d ∷ e ∷ f ∷ []) more = absurd (omega arith)
eight_bits (a ∷ b ∷ c ∷ d ∷ e ∷ f ∷ g ∷ []) more = absurd (omega arith)

pub whole_octet : (end : List Bool) → is_terminator end ≡ true → 8 ≤ length end
whole_octet end h = grind (arith, nat_tests)

pub first_begins : (end : List Bool) → 8 ≤ length end → begins_number (octet_numbers end) ≡ (from_to 48 57 (number (take 8 end)) || (nat_eq (number (take 8 end)) 43 || nat_eq (number (take 8 end)) 45))
first_begins (a ∷ b ∷ c ∷ d ∷ e ∷ f ∷ g ∷ h ∷ rest) more = refl
first_begins [] more = absurd (omega arith)
first_begins (a ∷ []) more = absurd (omega arith)
first_begins (a ∷ b ∷ []) more = absurd (omega arith)
first_begins (a ∷ b ∷ c ∷ []) more = absurd (omega arith)
first_begins (a ∷ b ∷ c ∷ d ∷ []) more = absurd (omega arith)
first_begins (a ∷ b ∷ c ∷ d ∷ e ∷ []) more = absurd (omega arith)
first_begins (a ∷ b ∷ c ∷ d ∷ e ∷ f ∷ []) more = absurd (omega arith)
first_begins (a ∷ b ∷ c ∷ d ∷ e ∷ f ∷ g ∷ []) more = absurd (omega arith)
