-- Pieces one behind another, one for each item.
use Rattle.std.proofs.Common.{◌≡◌, ◌<◌, List, [], ◌∷◌, ◌++◌, length, subst, sym, ap, refl, ◌∙◌, arith, length-append, append_assoc, append-nil}
use Rattle.std.proofs.lemmas.List.{append_cancel_left}
use Rattle.std.specs.List.{AllByRecursion}
use Rattle.acn_stream.specs.Recording.{Joined}

-- what two lists begin with, where these are of one length
pub same_front : {B : Type 0} (p q r s : List B) → length p ≡ length q → p ++ r ≡ q ++ s → p ≡ q
same_front [] [] r s l e = refl
same_front [] (y ∷ q) r s l e = absurd (omega (arith, l))
same_front (x ∷ p) [] r s l e = absurd (omega (arith, l))
same_front (x ∷ p) (y ∷ q) r s l e =
    let head : x ≡ y = cc in
    let tails : p ++ r ≡ q ++ s = cc in
    let next = same_front p q r s (omega (arith, l)) tails in cc

pub all_behind : {A : Type 0} (P : A → Type 0) (xs ys : List A) → AllByRecursion P (xs ++ ys) → AllByRecursion P ys
all_behind P [] ys h = h
all_behind P (x ∷ xs) ys h = all_behind P xs ys h.1

module _ {A B : Type 0} (P : A → List B → Type 0) where
  -- the first items of `ys` are `xs`, and the pieces of the others are the rest
  pub record GoesOn (xs ys : List A) (rest : List B) : Type 0 where
    pub others : List A
    pub whole : ys ≡ xs ++ others
    pub behind : Joined P others rest

  -- pieces, none of which begins another, and none of which is empty
  module _ (parts : (x y : A) (p q r s : List B) → P x p → P y q → p ++ r ≡ q ++ s → (x ≡ y) × (p ≡ q)) (some : (x : A) (p : List B) → P x p → 0 < length p) where
    pub goes_on : (xs ys : List A) (front rest : List B) → Joined P xs front → Joined P ys (front ++ rest) → GoesOn xs ys rest
    goes_on [] ys front rest h k = record { others = ys; whole = refl; behind = subst (λ (t : List B). Joined P ys (t ++ rest)) h k }
    goes_on (x ∷ xs) [] front rest h k = absurd (omega (arith, some x h.piece h.first, ap length h.parts, length-append h.piece h.rest, ap length k, length-append front rest))
    goes_on (x ∷ xs) (y ∷ ys) front rest h k =
        let cut : h.piece ++ (h.rest ++ rest) ≡ k.piece ++ k.rest = sym (append_assoc h.piece h.rest rest) ∙ ap (λ (t : List B). t ++ rest) (sym h.parts) ∙ k.parts in
        let same = parts x y h.piece k.piece (h.rest ++ rest) k.rest h.first k.first cut in
        let rests : h.rest ++ rest ≡ k.rest = append_cancel_left h.piece (h.rest ++ rest) k.rest (cut ∙ ap (λ (t : List B). t ++ k.rest) (sym same.1)) in
        let next = goes_on xs ys h.rest rest h.second (subst (Joined P ys) (sym rests) k.second) in
        record { others = next.others; whole = ap (λ (z : A). z ∷ ys) (sym same.0) ∙ ap (λ (zs : List A). x ∷ zs) next.whole; behind = next.behind }

    -- no pieces are of no items
    none : (xs : List A) → Joined P xs [] → xs ≡ []
    none [] h = refl
    none (x ∷ xs) h = absurd (omega (arith, some x h.piece h.first, ap length h.parts, length-append h.piece h.rest))

    pub one_list : (xs ys : List A) (whole : List B) → Joined P xs whole → Joined P ys whole → ys ≡ xs
    one_list xs ys whole h k =
        let on = goes_on xs ys whole [] h (subst (Joined P ys) (sym (append-nil whole)) k) in
        on.whole ∙ ap (λ (zs : List A). xs ++ zs) (none on.others on.behind) ∙ append-nil xs

  -- these pieces, and behind them those of more items
  pub record Splits (more : List A) (front whole : List B) : Type 0 where
    pub back : List B
    pub parts : whole ≡ front ++ back
    pub behind : Joined P more back

  -- an item has one piece
  module _ (one : (x : A) (p q : List B) → P x p → P x q → p ≡ q) where
    pub splits : (xs more : List A) (front whole : List B) → Joined P xs front → Joined P (xs ++ more) whole → Splits more front whole
    splits [] more front whole h k = record { back = whole; parts = ap (λ (t : List B). t ++ whole) (sym h); behind = k }
    splits (x ∷ xs) more front whole h k =
        let next = splits xs more h.rest k.rest h.second k.second in
        record {
          back = next.back;
          parts = k.parts ∙ ap (λ (t : List B). t ++ k.rest) (one x k.piece h.piece k.first h.first) ∙ ap (λ (t : List B). h.piece ++ t) next.parts ∙ sym (append_assoc h.piece h.rest next.back) ∙ ap (λ (t : List B). t ++ next.back) (sym h.parts);
          behind = next.behind;
        }

    pub one_whole : (xs : List A) (a b : List B) → Joined P xs a → Joined P xs b → b ≡ a
    one_whole [] a b h k = k ∙ sym h
    one_whole (x ∷ xs) a b h k =
        k.parts ∙ ap (λ (t : List B). t ++ k.rest) (one x k.piece h.piece k.first h.first) ∙ ap (λ (t : List B). h.piece ++ t) (one_whole xs h.rest k.rest h.second k.second) ∙ sym h.parts
