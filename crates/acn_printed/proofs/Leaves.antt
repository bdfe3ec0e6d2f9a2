-- Leaves whose values are numbers.
use Rattle.std.proofs.Common.{◌≡◌, ℕ, zero, suc, ◌<◌, ℤ, List, [], ◌∷◌, length, get_or, sym, ap, arith}
use Rattle.acn_json.specs.Lines.{item_name}

pub item-here : (xs : List (List ℕ × ℤ)) (i : ℕ) (x : List ℕ × ℤ) → i < length xs → x ≡ get_or xs i x → item_name xs i ≡ x.0
item-here [] i x h e = absurd (omega arith)
item-here (y ∷ xs) zero x h e = ap (λ p. p.0) (sym e)
item-here (y ∷ xs) (suc i) x h e = item-here xs i x (omega arith) e
