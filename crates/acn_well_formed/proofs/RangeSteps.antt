-- Numbers from one on, one by one.
use Rattle.std.proofs.Common.{◌≡◌, ℕ, suc, ◌+◌, ◌-◌, ◌<◌, Bool, true, false, ◌∷◌, ap, arith}
use Rattle.std.specs.List.{list_all, range_with_len}

pub range_step : (a n : ℕ) → a < n → range_with_len a (n - a) ≡ a ∷ range_with_len (a + 1) (n - (a + 1))
range_step a n h =
    let e : n - a ≡ suc (n - (a + 1)) = omega arith in
    ap (λ (k : ℕ). range_with_len a k) e

pub range_turn : (p : ℕ → Bool) (a n : ℕ) (goal : Bool) → a < n → p a ≡ true → list_all p (range_with_len a (n - a)) ≡ goal → list_all p (range_with_len (a + 1) (n - (a + 1))) ≡ goal
range_turn p a n goal h there same = (let e = range_step a n h in (rw (e, there) at same))

pub range_stop : (p : ℕ → Bool) (a n : ℕ) (goal : Bool) → a < n → p a ≡ false → list_all p (range_with_len a (n - a)) ≡ goal → false ≡ goal
range_stop p a n goal h away same = (let e = range_step a n h in (rw (e, away) at same))
