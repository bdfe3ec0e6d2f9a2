-- A short key and a short value, put behind a text by one store each.
use Rattle.std.proofs.Common.{◌≡◌, ℕ, zero, suc, ◌+◌, ◌≤◌, List, [], ◌∷◌, ◌++◌, length, take, drop, Option, Some, IfSome, refl, sym, ap, subst, ◌∙◌, arith, append_assoc, length-append, length-take, length-drop}
use Rattle.std.proofs.lemmas.Grind.{common_steps}
use Rattle.acn_lines.specs.Keys.{IsShortKey, IsShort}
use Rattle.acn_lines.specs.declared.keys.ShortKey.{ShortKey}
use Rattle.acn_lines.specs.declared.turns.Turn.{Turn}

taken_behind : (xs ys : List ℕ) (n k : ℕ) → n ≡ length xs + k → take n (xs ++ ys) ≡ xs ++ take k ys
taken_behind [] ys n k e = (let same : n ≡ k = omega arith in ap (λ m. take m ys) same)
taken_behind (x ∷ xs) ys zero k e = absurd (omega arith)
taken_behind (x ∷ xs) ys (suc n) k e = ap (λ zs. x ∷ zs) (taken_behind xs ys n k (omega arith))

taken_inside : (xs ys : List ℕ) (n : ℕ) → n ≤ length xs → take n (xs ++ ys) ≡ take n xs
taken_inside xs ys zero h = refl
taken_inside [] ys (suc n) h = absurd (omega arith)
taken_inside (x ∷ xs) ys (suc n) h = ap (λ zs. x ∷ zs) (taken_inside xs ys n (omega arith))

-- the value stands over what isn't meant of the key's octets
pub both_put : (old key value mid over new : List ℕ) (at kept count : ℕ) → mid ≡ old ++ key → at ≡ length old + kept → kept ≤ length key → count ≤ length value → over ≡ take at mid ++ value ++ drop (at + length value) mid → new ≡ take (at + count) over → new ≡ old ++ take kept key ++ take count value
both_put old key value mid over new at kept count m a k c o n =
    let front : take at mid ≡ old ++ take kept key = ap (λ t. take at t) m ∙ taken_behind old key at kept a in
    let rest = drop (at + length value) mid in
    let whole : over ≡ (old ++ take kept key) ++ (value ++ rest) = o ∙ (ap (λ t. t ++ value ++ rest) front ∙ append_assoc (old ++ take kept key) value rest) in
    let long : length (old ++ take kept key) ≡ at = length-append old (take kept key) ∙ (let t = length_taken key kept k in omega arith) in
    n ∙ (ap (λ t. take (at + count) t) whole ∙ (taken_behind (old ++ take kept key) (value ++ rest) (at + count) count (omega arith) ∙ ap (λ t. (old ++ take kept key) ++ t) (taken_inside value rest count c)))
  where
    length_taken : (xs : List ℕ) (n : ℕ) → n ≤ length xs → length (take n xs) ≡ n
    length_taken xs zero h = refl
    length_taken [] (suc n) h = absurd (omega arith)
    length_taken (x ∷ xs) (suc n) h = ap suc (length_taken xs n (omega arith))

-- what a turn keeps of its key
pub short_there : (turn : Turn) (short : ShortKey) → turn.short ≡ Some short → IsShort turn → IsShortKey short turn.key
short_there turn short e h = subst (λ (o : Option ShortKey). IfSome o (λ s. IsShortKey s turn.key)) e h

pub key_said : (old octets key new : List ℕ) → new ≡ old ++ octets → octets ≡ 44 ∷ key → new ≡ old ++ (44 ∷ []) ++ key
key_said old octets key new n o = n ∙ (ap (λ t. old ++ t) o ∙ sym (append_assoc old (44 ∷ []) key))

-- what is put over octets leaves as many
pub long_still : (mid value over : List ℕ) (at : ℕ) → at + length value ≤ length mid → over ≡ take at mid ++ value ++ drop (at + length value) mid → length over ≡ length mid
long_still mid value over at h o =
    let whole = ap length o in
    let a = length-append (take at mid ++ value) (drop (at + length value) mid) in
    let b = length-append (take at mid) value in
    let t = length-take at mid in
    let d = length-drop (at + length value) mid in
    grind (arith, common_steps)
