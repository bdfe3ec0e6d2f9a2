-- What is in hand of an input. (This profile's own.)
use Rattle.std.specs.Prelude.{◌≡◌, ◌+◌, ◌<◌, ℕ, List, [], ◌∷◌, ◌++◌, length, Option, Result, Ok, Err}
use Rattle.acn_outside.specs.Moves.{Takes, IsUsedUp}
use Rattle.acn_outside.specs.declared.traits.Failed.{Failed}
use Rattle.acn_supply.specs.declared.supply.More.{More}
use Rattle.acn_supply.specs.declared.supply.More.TheVariants.{Bytes, End, PastLimit}

-- the bytes in hand, and how many more may be taken
pub record Supplied : Type 0 where
  pub hand : List ℕ
  pub left : ℕ

-- some bytes more are in hand
pub record Grows (before after : Supplied) (i i' : Option (List ℕ)) : Type 0 where
  pub given : List ℕ
  pub some : 0 < length given
  pub taken : Takes i i' given
  pub added : after.hand ≡ before.hand ++ given
  pub counted : after.left + length given ≡ before.left

-- nothing changed: the input is used up
pub record Ends (before after : Supplied) (i i' : Option (List ℕ)) : Type 0 where
  pub same : after ≡ before
  pub taken : Takes i i' []
  pub used_up : IsUsedUp i'

-- no more bytes may be taken, and one more came
pub record Passes (before after : Supplied) (i i' : Option (List ℕ)) : Type 0 where
  pub same : after ≡ before
  pub none_left : before.left ≡ 0
  pub byte : ℕ
  pub taken : Takes i i' (byte ∷ [])

-- what a read did
abbrev pub Reads : Result More Failed → Supplied → Supplied → Option (List ℕ) → Option (List ℕ) → Type 0
Reads (Ok Bytes) before after i i' = Grows before after i i'
Reads (Ok End) before after i i' = Ends before after i i'
Reads (Ok PastLimit) before after i i' = Passes before after i i'
Reads (Err failed) before after i i' = (after ≡ before) × (i' ≡ i)
