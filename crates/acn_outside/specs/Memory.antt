-- What is known of the devices in memory.
use Rattle.std.specs.Prelude.{ℕ, ◌+◌, Bool, nat_eq, nat_le, nat_lt, List, ◌++◌, Option, Some, None, length, if◌then◌else◌}
use Rattle.std.specs.List.{list_any}

-- the call with this number stands among those that fail
abbrev pub fails : List ℕ → ℕ → Bool
fails numbers call = list_any (λ number. nat_eq number call) numbers

-- a count of 64 bits after one more; it stands still at its greatest number
abbrev pub one_more : ℕ → ℕ
one_more count = if nat_lt count 18446744073709551615 then count + 1 else count

-- what an input in memory still gives, and at most how much of it in a call
pub record Feeding : Type 0 where
  pub rest : List ℕ
  pub piece : ℕ

-- what an output in memory took, while all of it fitted, how much it has room for, and at most how much it takes in a call
pub record Filling : Type 0 where
  pub taken : Option (List ℕ)
  pub size : ℕ
  pub piece : ℕ

-- what is told after some more bytes: all of them, while they fit
abbrev pub fitting : ℕ → Option (List ℕ) → List ℕ → Option (List ℕ)
fitting size None more = None
fitting size (Some taken) more = if nat_le (length (taken ++ more)) size then Some (taken ++ more) else None
