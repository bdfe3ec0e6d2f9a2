-- The least and the greatest of the numbers that pass a test.
use Rattle.std.specs.Prelude.{◌≡◌, Bool, true, false, ℤ, ◌≤ℤ◌, Option, Some, None}

-- it passes, and no lesser number does
pub record IsLeastThat (test : ℤ → Bool) (x : ℤ) : Type 0 where
  pub passes : test x ≡ true
  pub least : (y : ℤ) → test y ≡ true → x ≤ℤ y

pub record IsGreatestThat (test : ℤ → Bool) (x : ℤ) : Type 0 where
  pub passes : test x ≡ true
  pub greatest : (y : ℤ) → test y ≡ true → y ≤ℤ x

-- the least number that passes; none exactly where no number does
abbrev pub IsLeast : (ℤ → Bool) → Option ℤ → Type 0
IsLeast test None = (y : ℤ) → test y ≡ false
IsLeast test (Some x) = IsLeastThat test x

abbrev pub IsGreatest : (ℤ → Bool) → Option ℤ → Type 0
IsGreatest test None = (y : ℤ) → test y ≡ false
IsGreatest test (Some x) = IsGreatestThat test x
