-- The first octet of a pattern.
use Rattle.std.proofs.Common.{◌≡◌, ◌+◌, ◌*◌, ◌<◌, ◌≤◌, Bool, false, List, [], ◌∷◌, length, get_or, take, Some, None, refl, arith}
use Rattle.std.specs.Prelude.{option_map, slice_get}
use Rattle.acn_num.specs.Bits.{number, weight}
use Rattle.acn_grammar.specs.Code.{in_octets}

pub eight_bits : (bs : List Bool) → 8 ≤ length bs → weight (get_or bs 0 false) * 128 + weight (get_or bs 1 false) * 64 + weight (get_or bs 2 false) * 32 + weight (get_or bs 3 false) * 16 + weight (get_or bs 4 false) * 8 + weight (get_or bs 5 false) * 4 + weight (get_or bs 6 false) * 2 + weight (get_or bs 7 false) ≡ number (take 8 bs)
eight_bits (a ∷ b ∷ c ∷ d ∷ e ∷ f ∷ g ∷ h ∷ rest) more = omega arith
eight_bits [] more = absurd (omega arith)
eight_bits (a ∷ []) more = absurd (omega arith)
eight_bits (a ∷ b ∷ []) more = absurd (omega arith)
eight_bits (a ∷ b ∷ c ∷ []) more = absurd (omega arith)
eight_bits (a ∷ b ∷ c ∷ d ∷ []) more = absurd (omega arith)
eight_bits (a ∷ b ∷ c ∷ d ∷ e ∷ []) more = absurd (omega arith)
eight_bits (a ∷ b ∷ c ∷ d ∷ e ∷ f ∷ []) more = absurd (omega arith)
eight_bits (a ∷ b ∷ c ∷ d ∷ e ∷ f ∷ g ∷ []) more = absurd (omega arith)

pub first_there : (bs : List Bool) → 8 ≤ length bs → option_map number (slice_get (in_octets bs) 0) ≡ Some (number (take 8 bs))
first_there (a ∷ b ∷ c ∷ d ∷ e ∷ f ∷ g ∷ h ∷ rest) more = refl
first_there [] more = absurd (omega arith)
first_there (a ∷ []) more = absurd (omega arith)
first_there (a ∷ b ∷ []) more = absurd (omega arith)
first_there (a ∷ b ∷ c ∷ []) more = absurd (omega arith)
first_there (a ∷ b ∷ c ∷ d ∷ []) more = absurd (omega arith)
first_there (a ∷ b ∷ c ∷ d ∷ e ∷ []) more = absurd (omega arith)
first_there (a ∷ b ∷ c ∷ d ∷ e ∷ f ∷ []) more = absurd (omega arith)
first_there (a ∷ b ∷ c ∷ d ∷ e ∷ f ∷ g ∷ []) more = absurd (omega arith)

pub first_away : (bs : List Bool) → length bs < 8 → option_map number (slice_get (in_octets bs) 0) ≡ None
first_away (a ∷ b ∷ c ∷ d ∷ e ∷ f ∷ g ∷ h ∷ rest) few = absurd (omega arith)
first_away [] few = refl
first_away (a ∷ []) few = refl
first_away (a ∷ b ∷ []) few = refl
first_away (a ∷ b ∷ c ∷ []) few = refl
first_away (a ∷ b ∷ c ∷ d ∷ []) few = refl
first_away (a ∷ b ∷ c ∷ d ∷ e ∷ []) few = refl
first_away (a ∷ b ∷ c ∷ d ∷ e ∷ f ∷ []) few = refl
first_away (a ∷ b ∷ c ∷ d ∷ e ∷ f ∷ g ∷ []) few = refl
