-- The digits of the written number of greatest magnitude.
use Rattle.std.proofs.Common.{◌≡◌, ℕ, ◌+◌, ◌-◌, ◌^◌, ◌<◌, ◌≤◌, ℤ, List, [], ◌∷◌, ◌++◌, length, drop, get_or, ap, subst, arith, max, nat_abs, nat_le}
use Rattle.std.specs.List.{flat_map}
use Rattle.std.proofs.lemmas.List.{drop_more}
use Rattle.std.proofs.Math.Nat.{pow-le-pow_right}
use Rattle.acn_grammar.specs.LeafFails.{most_digits}
use Rattle.acn_grammar.specs.Length.{digit_count}
use Rattle.acn_grammar.proofs.Counts.{counts, le_false}
use Rattle.std.proofs.lemmas.Bool.{le-leb}

pub most-some : (rs : List (ℤ × ℤ)) → 1 ≤ most_digits rs
most-some [] = omega arith
most-some (r ∷ rs) = let h = most-some rs in omega arith

pub most-append : (a b : List (ℤ × ℤ)) → most_digits (a ++ b) ≡ max (most_digits a) (most_digits b)
most-append [] b = let h = most-some b in omega arith
most-append (r ∷ a) b = let h = most-append a b in omega arith

pub most_first : (g : ℕ) (rs : List (ℤ × ℤ)) → g ≡ 1 → max g (most_digits rs) ≡ most_digits rs
most_first g rs e = let h = most-some rs in omega arith

pub most_last : (g goal : ℕ) (rs : List (ℤ × ℤ)) → rs ≡ [] → 1 ≤ g → max g (most_digits rs) ≡ goal → g ≡ goal
most_last g goal rs e some h = let f = ap most_digits e in omega arith

module _ {X : Type 0} (f : X → List (ℤ × ℤ)) where
  -- one item of a list more
  pub most_step : (xs : List X) (i : ℕ) (d : X) (g g' goal : ℕ) → i < length xs → g' ≡ max g (most_digits (f (get_or xs i d))) → max g (most_digits (flat_map f (drop i xs))) ≡ goal → max g' (most_digits (flat_map f (drop (i + 1) xs))) ≡ goal
  most_step xs i d g g' goal inside is before =
      let here : max g (most_digits (f (get_or xs i d) ++ flat_map f (drop (i + 1) xs))) ≡ goal = subst (λ (t : List X). max g (most_digits (flat_map f t)) ≡ goal) (drop_more xs i d inside) before in
      let both = most-append (f (get_or xs i d)) (flat_map f (drop (i + 1) xs)) in
      omega arith

pub most_step_in : (rs : List (ℤ × ℤ)) (i : ℕ) (d : ℤ × ℤ) (g g' : ℕ) → i < length rs → g' ≡ max g (max (digit_count (nat_abs (get_or rs i d).0)) (digit_count (nat_abs (get_or rs i d).1))) → max g (most_digits (drop i rs)) ≡ most_digits rs → max g' (most_digits (drop (i + 1) rs)) ≡ most_digits rs
most_step_in rs i d g g' inside is before =
    let here : max g (most_digits (get_or rs i d ∷ drop (i + 1) rs)) ≡ most_digits rs = subst (λ (t : List (ℤ × ℤ)). max g (most_digits t) ≡ most_digits rs) (drop_more rs i d inside) before in
    omega arith

-- how many digits a number has, or 20
pub digits_are : (k i : ℕ) → 1 ≤ i → i ≤ 20 → (1 < i → 10 ^ (i - 1) ≤ k) → (i < 20 → k < 10 ^ i) → i ≡ digit_count k
digits_are k i some few low high =
    let m = counts (λ j. nat_le (10 ^ j) k) 1 19 (i - 1) (omega arith)
    (λ j u v. le-leb (10 ^ j) k (omega (arith, low (omega arith), pow-le-pow_right {n = 10} (omega arith) {i = j} {j = i - 1} (omega arith))))
    (λ j u v. le_false (10 ^ j) k (omega (arith, high (omega arith), pow-le-pow_right {n = 10} (omega arith) {i = i} {j = j} (omega arith)))) in
    omega arith
