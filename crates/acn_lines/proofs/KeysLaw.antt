-- Short keys are those of their keys.
use Rattle.std.proofs.Common.{◌≡◌, ℕ, suc, ◌≤◌, nat_le, Bool, true, false, List, [], ◌∷◌, ◌++◌, length, take, drop, replicate, IfSome, refl, ap, arith}
use Rattle.std.proofs.lemmas.Bool.Decides.{nat_tests}
use Rattle.acn_lines.specs.Keys.{short_if, IsShortKey, AreShort}
use Rattle.acn_lines.specs.Spots.{Spots, turns_at}
use Rattle.acn_lines.specs.Order.{key_text}
use Rattle.acn_lines.specs.declared.keys.TheConstants.{KEY_ROOM, MOST_KEY}

front_taken : (xs ys : List ℕ) → take (length xs) (xs ++ ys) ≡ xs
front_taken [] ys = refl
front_taken (x ∷ xs) ys = ap (λ zs. x ∷ zs) (front_taken xs ys)

short_is : (key : List ℕ) (long : Bool) → nat_le MOST_KEY (length key) ≡ long → IfSome (short_if long key) (λ s. IsShortKey s key)
short_is key true e = tt
short_is key false e = record {
  few = (let room : suc (length key) ≤ MOST_KEY = grind (arith, nat_tests) in room);
  shown = ap (λ xs. 44 ∷ xs) (front_taken key (drop (suc (length key)) (replicate KEY_ROOM 0)));
}

pub all_short : (es : Spots) → AreShort (turns_at es)
all_short [] = tt
all_short (e ∷ es) = (short_is (key_text e.0.now) (nat_le MOST_KEY (length (key_text e.0.now))) refl, all_short es)
