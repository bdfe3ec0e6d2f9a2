-- Steps from place to place, and where they end.
use Rattle.std.specs.Prelude.{◌≡◌, ℕ, zero, suc, Bool, ◌&&◌, nat_eq, Option, Some, None, option_and_then}
use Rattle.std.specs.HashMap.{get}
use Rattle.acn_ends.specs.declared.spot.Spot.{Spot}
use Rattle.acn_ends.specs.declared.spot.End.{End}
use Rattle.acn_ends.specs.declared.spot.End.TheVariants as end
use Rattle.acn_ends.specs.declared.ends.Ends.{Ends}

abbrev pub is_same : Spot → Spot → Bool
is_same p q = nat_eq p.group q.group && nat_eq p.item q.item

-- where so many steps from a place lead
unfoldable pub after : (Spot → Option Spot) → ℕ → Spot → Option Spot
after next zero p = Some p
after next (suc n) p = option_and_then (after next n) (next p)

-- the steps from a place end at another, after so many
pub record EndsAt (next : Spot → Option Spot) (n : ℕ) (p q : Spot) : Type 0 where
  pub way : after next n p ≡ Some q
  pub end : next q ≡ None

-- the steps from a place don't end
pub record IsEndless (next : Spot → Option Spot) (p : Spot) : Type 0 where
  pub none : (n : ℕ) (q : Spot) → EndsAt next n p q → ⊥

-- this is how they end
abbrev pub IsRight : (Spot → Option Spot) → Spot → End → Type 0
IsRight next p (end.At q n) = EndsAt next n p q
IsRight next p end.Never = IsEndless next p

-- how the steps from a place end, where it is noted
abbrev pub end_of : Ends → Spot → Option End
end_of ends p = get is_same ends.noted p

-- what is noted is so
abbrev pub AreRight : (Spot → Option Spot) → Ends → Type 0
AreRight next ends = ((p q : Spot) (n : ℕ) → end_of ends p ≡ Some (end.At q n) → EndsAt next n p q) × ((p : Spot) → end_of ends p ≡ Some end.Never → IsEndless next p)

-- one of two ends is behind one step more
abbrev pub OneMore : End → End → Type 0
OneMore (end.At q n) e = e ≡ end.At q (suc n)
OneMore end.Never e = e ≡ end.Never
