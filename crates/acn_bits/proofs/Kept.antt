-- What is kept of holes, where one is taken out.
use Rattle.std.proofs.Common.{◌≡◌, ℕ, zero, suc, List, [], ◌∷◌, map, remove, refl, ap}
use Rattle.acn_bits.specs.Kept.{kept_gap}
use Rattle.acn_bits.specs.declared.write_cursor.Kept.{Kept}

pub gaps-remove : (ks : List Kept) (i : ℕ) → map kept_gap (remove ks i) ≡ remove (map kept_gap ks) i
gaps-remove [] zero = refl
gaps-remove [] (suc i) = refl
gaps-remove (k ∷ ks) zero = refl
gaps-remove (k ∷ ks) (suc i) = ap (λ z. kept_gap k ∷ z) (gaps-remove ks i)
