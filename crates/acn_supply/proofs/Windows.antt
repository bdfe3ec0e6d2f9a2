-- The bytes of a window, moved to the front of its room and read on.
use Rattle.std.proofs.Common.{◌≡◌, ℕ, ◌+◌, ◌-◌, ◌≤◌, List, ◌++◌, length, take, drop, sym, ap, ◌∙◌, arith}
use Rattle.std.proofs.lemmas.List.{drop-take, length-drop}
use Rattle.std.proofs.lemmas.List.Edits.{take-paste}
use Rattle.std.proofs.Math.Seq.{paste, take-add}

pub moved : (xs : List ℕ) (start end : ℕ) → start ≤ end → end ≤ length xs → take (end - start) (paste xs 0 (drop start xs) (end - start)) ≡ drop start (take end xs)
moved xs start end ordered within =
    let n = end - start in
    let same : n ≡ 0 + n = omega arith in
    let parts : start + n ≡ end = omega arith in
    ap (λ k. take k (paste xs 0 (drop start xs) n)) same
    ∙ take-paste xs 0 (drop start xs) n (omega arith) (omega (arith, length-drop start xs))
    ∙ sym (drop-take start n xs) ∙ ap (λ k. drop start (take k xs)) parts

-- what is in hand, and what was read behind it
pub read_on : (xs ys : List ℕ) (held n : ℕ) → take held ys ≡ take held xs → take (held + n) ys ≡ take held xs ++ take n (drop held ys)
read_on xs ys held n kept = take-add held n ys ∙ ap (λ (t : List ℕ). t ++ take n (drop held ys)) kept
