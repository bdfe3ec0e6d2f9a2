-- Line feeds, counted.
use Rattle.std.proofs.Common.{◌≡◌, ◌⊎◌, inl, inr, ℕ, ◌+◌, ◌≤◌, suc, Bool, true, false, List, [], ◌∷◌, ◌++◌, if◌then◌else◌, refl, arith}
use Rattle.std.specs.Prelude.{◌==◌}
use Rattle.acn_advice.specs.Page.{feeds}

split : (b : Bool) → (b ≡ true) ⊎ (b ≡ false)
split true = inl refl
split false = inr refl

pub feeds_push : (xs : List ℕ) (b : ℕ) → feeds (xs ++ b ∷ []) ≡ feeds xs + feeds (b ∷ [])
feeds_push [] b = omega arith
feeds_push (x ∷ xs) b =
    let more = feeds_push xs b in
    elim (split (x == 10)) [ inl e ↦ (rw e (omega (arith, more))) | inr e ↦ (rw e (omega (arith, more))) ]
