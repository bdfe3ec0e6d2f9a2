-- Windows over bits that go on by an octet.
use Rattle.std.proofs.Common.{◌≡◌, ℕ, ◌+◌, ◌-◌, ◌*◌, ◌/◌, ◌%◌, ◌^◌, ◌<◌, ◌≤◌, Bool, List, ◌++◌, length, take, drop, sym, ap, ◌∙◌, arith, length-drop, subst}
use Rattle.std.proofs.lemmas.List.{drop-drop, length-take-le}
use Rattle.std.proofs.Math.Seq.{take-add}
use Rattle.std.proofs.lemmas.Nat.{div-mul-add, mod-mul-add}
use Rattle.acn_num.specs.Bits.{number}
use Rattle.acn_num.proofs.BitLists.{number_below, number-append}

window_in_two : (w : ℕ) (l : List Bool) → 8 ≤ w → take w l ≡ take 8 l ++ take (w - 8) (drop 8 l)
window_in_two w l h = let e : w ≡ 8 + (w - 8) = omega arith in ap (λ k. take k l) e ∙ take-add 8 (w - 8) l

window_and_next : (w : ℕ) (l : List Bool) → 8 ≤ w → take w (drop 8 l) ≡ take (w - 8) (drop 8 l) ++ take 8 (drop w l)
window_and_next w l h =
    let e : w ≡ (w - 8) + 8 = omega arith in
    let f : (w - 8) + 8 ≡ w = omega arith in
    ap (λ k. take k (drop 8 l)) e ∙ (take-add (w - 8) 8 (drop 8 l) ∙ ap (λ t. take (w - 8) (drop 8 l) ++ take 8 t) (drop-drop (w - 8) 8 l ∙ ap (λ k. drop k l) (omega arith)))

module _ (w : ℕ) (l : List Bool) (some : 8 ≤ w) (inside : w ≤ length l) where
  behind_long : length (take (w - 8) (drop 8 l)) ≡ w - 8
  behind_long = let d = length-drop 8 l in length-take-le (w - 8) (drop 8 l) (omega arith)

  behind_below : number (take (w - 8) (drop 8 l)) < 2 ^ (w - 8)
  behind_below = subst (λ k. number (take (w - 8) (drop 8 l)) < 2 ^ k) behind_long (number_below (take (w - 8) (drop 8 l)))

  whole : number (take w l) ≡ number (take 8 l) * 2 ^ (w - 8) + number (take (w - 8) (drop 8 l))
  whole = ap number (window_in_two w l some) ∙ (number-append (take 8 l) (take (w - 8) (drop 8 l)) ∙ ap (λ k. number (take 8 l) * 2 ^ k + number (take (w - 8) (drop 8 l))) behind_long)

  pub first_of_window : number (take w l) / 2 ^ (w - 8) ≡ number (take 8 l)
  first_of_window = ap (λ x. x / 2 ^ (w - 8)) whole ∙ div-mul-add (number (take 8 l)) (2 ^ (w - 8)) (number (take (w - 8) (drop 8 l))) behind_below

  pub next_window : 8 ≤ length (drop w l) → number (take w l) % 2 ^ (w - 8) * 256 + number (take 8 (drop w l)) ≡ number (take w (drop 8 l))
  next_window more =
      let rest : number (take w l) % 2 ^ (w - 8) ≡ number (take (w - 8) (drop 8 l)) = ap (λ x. x % 2 ^ (w - 8)) whole ∙ mod-mul-add (number (take 8 l)) (2 ^ (w - 8)) (number (take (w - 8) (drop 8 l))) behind_below in
      let long = length-take-le 8 (drop w l) more in
      ap (λ x. x * 256 + number (take 8 (drop w l))) rest ∙ sym (ap number (window_and_next w l some) ∙ (number-append (take (w - 8) (drop 8 l)) (take 8 (drop w l)) ∙ ap (λ k. number (take (w - 8) (drop 8 l)) * 2 ^ k + number (take 8 (drop w l))) long))
