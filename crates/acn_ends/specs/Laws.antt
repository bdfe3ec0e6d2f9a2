-- Laws about steps: a way has one end, and one that comes back has none.
use Rattle.std.specs.Prelude.{◌≡◌, ℕ, suc, Option, Some}
use Rattle.acn_ends.specs.declared.spot.Spot.{Spot}
use Rattle.acn_ends.specs.Ends.{after, EndsAt, IsEndless}

-- the steps from a place end at one place, after one number of steps
abbrev pub EndsAreUnique : Type 0
EndsAreUnique = (next : Spot → Option Spot) (n m : ℕ) (p q r : Spot) → EndsAt next n p q → EndsAt next m p r → (n ≡ m) × (q ≡ r)

-- a place to which its own steps lead back has no end
abbrev pub EndlessWaysHaveNoEnd : Type 0
EndlessWaysHaveNoEnd = (next : Spot → Option Spot) (n : ℕ) (p : Spot) → after next (suc n) p ≡ Some p → IsEndless next p
