-- The numbers of a set that are nearest to a number.
use Rattle.std.specs.Prelude.{◌≡◌, true, [], ◌∷◌, ℤ, ◌≤ℤ◌}
use Rattle.acn_num.specs.Ranges.{Ranges, has}

-- the least number of a set that isn't below x
pub record IsFirstFrom (s : Ranges) (x p : ℤ) : Type 0 where
  pub there : has s p ≡ true
  pub from : x ≤ℤ p
  pub first : (y : ℤ) → has s y ≡ true → x ≤ℤ y → p ≤ℤ y

-- the greatest number of a set that isn't above x
pub record IsLastTo (s : Ranges) (x p : ℤ) : Type 0 where
  pub there : has s p ≡ true
  pub to : p ≤ℤ x
  pub last : (y : ℤ) → has s y ≡ true → y ≤ℤ x → y ≤ℤ p

-- the first range doesn't end below x
abbrev pub Begins : Ranges → ℤ → Type 0
Begins [] x = Unit {0}
Begins (r ∷ rest) x = x ≤ℤ r.1

-- the last range doesn't begin above x
abbrev pub Ended : Ranges → ℤ → Type 0
Ended [] x = Unit {0}
Ended (r ∷ []) x = r.0 ≤ℤ x
Ended (r ∷ q ∷ rest) x = Ended (q ∷ rest) x
