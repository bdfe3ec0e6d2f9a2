-- Texts and terminators, octet by octet.
use Rattle.std.proofs.Common.{◌≡◌, ℕ, suc, ◌+◌, ◌-◌, ◌*◌, ◌^◌, ◌<◌, ◌≤◌, cond, Bool, true, false, List, [], ◌∷◌, ◌++◌, length, get_or, take, drop, Some, refl, ap, ◌∙◌, arith, nat_eq, ◌&&◌, length-drop}
use Rattle.std.specs.List.{find, range_with_len}
use Rattle.std.proofs.lemmas.Grind.{common_steps}
use Rattle.std.proofs.lemmas.List.{drop_more, take_more, get_or-take, get_or-drop, drop-drop}
use Rattle.std.proofs.Math.Nat.{pow-le-pow_right, pow-succ'}
use Rattle.acn_num.specs.Bits.{number, weight}
use Rattle.acn_grammar.specs.Asks.{same_name}
use Rattle.acn_grammar.specs.Spell.{octet_numbers}
use Rattle.acn_num.proofs.BitLists.{number_below}

-- two texts from a place on
pub same_name-turn : (xs ys : List ℕ) (k : ℕ) → k < length xs → k < length ys → same_name (drop k xs) (drop k ys) ≡ (nat_eq (get_or xs k 0) (get_or ys k 0) && same_name (drop (k + 1) xs) (drop (k + 1) ys))
same_name-turn xs ys k h j = rw (drop_more xs k 0 h, drop_more ys k 0 j)

-- one bit more
pub number-push : (bs : List Bool) (b : Bool) → number (bs ++ b ∷ []) ≡ 2 * number bs + weight b
number-push [] true = refl
number-push [] false = refl
number-push (true ∷ bs) b =
    let l : length (bs ++ b ∷ []) ≡ suc (length bs) = grind (arith, common_steps) in
    rw (l, number-push bs b) (omega (arith, pow-succ' 2 (length bs)))
number-push (false ∷ bs) b = rw (number-push bs b) (omega arith)

pub number-more : (bs : List Bool) (i : ℕ) (b : Bool) → i < length bs → number (take (i + 1) bs) ≡ 2 * number (take i bs) + weight (get_or bs i b)
number-more bs i b h = rw (take_more bs i b h) (number-push (take i bs) (get_or bs i b))

-- the octets of a terminator, one at a time
pub octet_numbers-turn : (bs : List Bool) → 8 ≤ length bs → octet_numbers bs ≡ number (take 8 bs) ∷ octet_numbers (drop 8 bs)
octet_numbers-turn (a ∷ b ∷ c ∷ d ∷ e ∷ f ∷ g ∷ h ∷ rest) l = refl
octet_numbers-turn [] l = absurd (omega arith)
octet_numbers-turn (a ∷ []) l = absurd (omega arith)
octet_numbers-turn (a ∷ b ∷ []) l = absurd (omega arith)
octet_numbers-turn (a ∷ b ∷ c ∷ []) l = absurd (omega arith)
octet_numbers-turn (a ∷ b ∷ c ∷ d ∷ []) l = absurd (omega arith)
octet_numbers-turn (a ∷ b ∷ c ∷ d ∷ e ∷ []) l = absurd (omega arith)
octet_numbers-turn (a ∷ b ∷ c ∷ d ∷ e ∷ f ∷ []) l = absurd (omega arith)
octet_numbers-turn (a ∷ b ∷ c ∷ d ∷ e ∷ f ∷ g ∷ []) l = absurd (omega arith)

pub octet_numbers-none : (bs : List Bool) → length bs < 8 → octet_numbers bs ≡ []
octet_numbers-none (a ∷ b ∷ c ∷ d ∷ e ∷ f ∷ g ∷ h ∷ rest) l = absurd (omega arith)
octet_numbers-none [] l = refl
octet_numbers-none (a ∷ []) l = refl
octet_numbers-none (a ∷ b ∷ []) l = refl
octet_numbers-none (a ∷ b ∷ c ∷ []) l = refl
octet_numbers-none (a ∷ b ∷ c ∷ d ∷ []) l = refl
octet_numbers-none (a ∷ b ∷ c ∷ d ∷ e ∷ []) l = refl
octet_numbers-none (a ∷ b ∷ c ∷ d ∷ e ∷ f ∷ []) l = refl
octet_numbers-none (a ∷ b ∷ c ∷ d ∷ e ∷ f ∷ g ∷ []) l = refl

-- the first number that passes, from one on
pub find-turn : (p : ℕ → Bool) (i n m : ℕ) → n ≡ suc m → find p (range_with_len i n) ≡ cond (p i) (Some i) (find p (range_with_len (i + 1) m))
find-turn p i n m e = rw e

-- the terminator and what stands at a place of the text and the terminator behind it
pub ends-turn : (zs ys : List ℕ) (i k : ℕ) → k < length ys → length ys + i ≤ length zs → same_name (drop k (take (length ys) (drop i zs))) (drop k ys) ≡ (nat_eq (get_or zs (i + k) 0) (get_or ys k 0) && same_name (drop (k + 1) (take (length ys) (drop i zs))) (drop (k + 1) ys))
ends-turn zs ys i k h l =
    let e = get_or-take (length ys) (drop i zs) k 0 h in
    let f = get_or-drop i zs k 0 in
    let m : length (drop i zs) ≡ length zs - i = length-drop i zs in
    let n : k < length (take (length ys) (drop i zs)) = grind (arith, common_steps) in
    same_name-turn (take (length ys) (drop i zs)) ys k n h ∙ ap (λ x. nat_eq x (get_or ys k 0) && same_name (drop (k + 1) (take (length ys) (drop i zs))) (drop (k + 1) ys)) (e ∙ f)

pub octet-small : (bs : List Bool) (i : ℕ) → i < 8 → i ≤ length bs → number (take i bs) < 128
octet-small bs i h l =
    let b = number_below (take i bs) in
    let n : length (take i bs) ≡ i = grind (arith, common_steps) in
    let p = pow-le-pow_right {n = 2} (omega arith) {i = i} {j = 7} (omega arith) in
    let m : 2 ^ length (take i bs) ≡ 2 ^ i = ap (λ x. 2 ^ x) n in
    omega arith

pub octets-turn : (bs : List Bool) (at next n : ℕ) (o : ℕ) → at + 8 ≡ next → next ≤ length bs → n ≡ 8 → o ≡ number (take n (drop at bs)) → octet_numbers (drop at bs) ≡ o ∷ octet_numbers (drop next bs)
octets-turn bs at next n o e l m is =
    let long : 8 ≤ length (drop at bs) = (let d = length-drop at bs in omega arith) in
    rw (is, m, ← e, ← drop-drop 8 at bs) (octet_numbers-turn (drop at bs) long)

pub octets-end : (bs : List Bool) (at : ℕ) → length bs < at + 8 → octet_numbers (drop at bs) ≡ []
octets-end bs at l =
    let d = length-drop at bs in
    octet_numbers-none (drop at bs) (omega arith)
