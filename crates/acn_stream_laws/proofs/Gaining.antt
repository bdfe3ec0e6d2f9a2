-- What was taken of an input, and what an output gained.
use Rattle.std.proofs.Common.{◌≡◌, ℕ, ◌≤◌, List, [], ◌∷◌, ◌++◌, length, Option, None, Some, subst, ap, refl, ◌∙◌, arith, append_assoc, append-nil, length-append}
use Rattle.acn_outside.specs.Moves.{Takes, Gains, IsUsedUp}
use Rattle.acn_outside.specs.Whole.{GainsFront}

-- what is left of these bytes behind those that were taken
pub record Left (bytes given : List ℕ) (i' : Option (List ℕ)) : Type 0 where
  pub left : List ℕ
  pub is : i' ≡ Some left
  pub whole : bytes ≡ given ++ left

pub left_of : (bytes given : List ℕ) (i' : Option (List ℕ)) → Takes (Some bytes) i' given → Left bytes given i'
left_of bytes given None t = absurd cc
left_of bytes given (Some left) t = record { left = left; is = refl; whole = cc }

pub none_left : (bytes given : List ℕ) (i' : Option (List ℕ)) (l : Left bytes given i') → IsUsedUp i' → l.left ≡ []
none_left bytes given i' l u = subst IsUsedUp l.is u

pub all_given : (bytes given : List ℕ) (i' : Option (List ℕ)) → Left bytes given i' → IsUsedUp i' → bytes ≡ given
all_given bytes given i' l u = l.whole ∙ ap (λ (t : List ℕ). given ++ t) (none_left bytes given i' l u) ∙ append-nil given

-- no more bytes come than there are
pub not_past : (bytes given : List ℕ) (byte limit : ℕ) (i' : Option (List ℕ)) → Takes (Some bytes) i' (given ++ byte ∷ []) → length given ≡ limit → length bytes ≤ limit → ⊥
not_past bytes given byte limit i' t full few =
    let l = left_of bytes (given ++ byte ∷ []) i' t in
    omega (arith, full, few, ap length l.whole, length-append (given ++ byte ∷ []) l.left, length-append given (byte ∷ []))

-- all of the bytes in front were gained, or a front of them
pub gains_front : (o o' : Option (List ℕ)) (front back : List ℕ) → Gains o o' front → GainsFront o o' (front ++ back)
gains_front o o' front back h = (front, back, refl, h)

pub front_more : (o o' : Option (List ℕ)) (front back : List ℕ) → GainsFront o o' front → GainsFront o o' (front ++ back)
front_more o o' front back (x, y, e, h) = (x, y ++ back, ap (λ (t : List ℕ). t ++ back) e ∙ append_assoc x y back, h)
