-- The bits of octets, and the octets of bits.
use Rattle.std.proofs.Common.{◌≡◌, ℕ, zero, suc, ◌%◌, ◌<◌, Bool, true, List, [], ◌∷◌, length, refl, sym, ap, ◌∙◌, arith, nat_lt, ◌+◌, ◌*◌, ◌≤◌, ◌++◌, take, drop, length-drop, take-append-drop}
use Rattle.std.proofs.lemmas.Bool.Decides.{nat_tests}
use Rattle.acn_num.specs.Bits.{number, low_bits, bits as bits_of}
use Rattle.acn_grammar.specs.Shaped.{are_octets}
use Rattle.acn_grammar.proofs.Prefix.{same_front}
use Rattle.std.proofs.lemmas.Bool.{and_parts}
use Rattle.std.proofs.lemmas.List.{length-take-le}
use Rattle.acn_num.proofs.BitLists.{number_same, number-low_bits}
use Rattle.acn_grammar.specs.LeafFails.{octet_values}
use Rattle.acn_grammar.specs.Spell.{octet_numbers}

-- octets are told by their bits
pub octet_one : (x y : ℕ) → x < 256 → y < 256 → low_bits 8 x ≡ low_bits 8 y → x ≡ y
octet_one x y h k e =
    let p : x % 256 ≡ y % 256 = sym (number-low_bits 8 x) ∙ (ap number e ∙ number-low_bits 8 y) in
    omega arith

pub octet_below : (x : ℕ) → nat_lt x 256 ≡ true → x < 256
octet_below x h = grind (arith, nat_tests)

pub bits_one : (xs ys : List ℕ) → are_octets xs ≡ true → are_octets ys ≡ true → length xs ≡ length ys → bits_of xs ≡ bits_of ys → xs ≡ ys
bits_one [] [] h k l e = refl
bits_one [] (y ∷ ys) h k l e = absurd (omega arith)
bits_one (x ∷ xs) [] h k l e = absurd (omega arith)
bits_one (x ∷ xs) (y ∷ ys) h k l e =
    let p = and_parts (nat_lt x 256) (are_octets xs) h in
    let q = and_parts (nat_lt y 256) (are_octets ys) k in
    let parts = same_front (low_bits 8 x) (low_bits 8 y) (bits_of xs) (bits_of ys) refl e in
    let first : x ≡ y = octet_one x y (octet_below x p.0) (octet_below y q.0) parts.0 in
    let rest : xs ≡ ys = bits_one xs ys p.1 q.1 (omega arith) parts.1 in
    cc

-- Octets of bits.

pub octets_few : (l : List Bool) → 8 * length (octet_values l) ≤ length l
octets_few [] = omega arith
octets_few (a ∷ []) = omega arith
octets_few (a ∷ b ∷ []) = omega arith
octets_few (a ∷ b ∷ c ∷ []) = omega arith
octets_few (a ∷ b ∷ c ∷ d ∷ []) = omega arith
octets_few (a ∷ b ∷ c ∷ d ∷ e ∷ []) = omega arith
octets_few (a ∷ b ∷ c ∷ d ∷ e ∷ f ∷ []) = omega arith
octets_few (a ∷ b ∷ c ∷ d ∷ e ∷ f ∷ g ∷ []) = omega arith
octets_few (a ∷ b ∷ c ∷ d ∷ e ∷ f ∷ g ∷ h ∷ l) = omega (arith, octets_few l)

pub octets_most : (l : List Bool) → length l < 8 * length (octet_values l) + 8
octets_most [] = omega arith
octets_most (a ∷ []) = omega arith
octets_most (a ∷ b ∷ []) = omega arith
octets_most (a ∷ b ∷ c ∷ []) = omega arith
octets_most (a ∷ b ∷ c ∷ d ∷ []) = omega arith
octets_most (a ∷ b ∷ c ∷ d ∷ e ∷ []) = omega arith
octets_most (a ∷ b ∷ c ∷ d ∷ e ∷ f ∷ []) = omega arith
octets_most (a ∷ b ∷ c ∷ d ∷ e ∷ f ∷ g ∷ []) = omega arith
octets_most (a ∷ b ∷ c ∷ d ∷ e ∷ f ∷ g ∷ h ∷ l) = omega (arith, octets_most l)

pub octets_count : (k : ℕ) (l : List Bool) → length l ≡ 8 * k → length (octet_values l) ≡ k
octets_count k l e = let a = octets_few l in let b = octets_most l in omega arith

eight_more : (m : ℕ) → 8 * suc m ≡ suc (suc (suc (suc (suc (suc (suc (suc (8 * m))))))))
eight_more m = omega arith

pub octets-take : (m : ℕ) (l : List Bool) → octet_values (take (8 * m) l) ≡ take m (octet_values l)
octets-take zero l = refl
octets-take (suc m) [] = rw (eight_more m) refl
octets-take (suc m) (a ∷ []) = rw (eight_more m) refl
octets-take (suc m) (a ∷ b ∷ []) = rw (eight_more m) refl
octets-take (suc m) (a ∷ b ∷ c ∷ []) = rw (eight_more m) refl
octets-take (suc m) (a ∷ b ∷ c ∷ d ∷ []) = rw (eight_more m) refl
octets-take (suc m) (a ∷ b ∷ c ∷ d ∷ e ∷ []) = rw (eight_more m) refl
octets-take (suc m) (a ∷ b ∷ c ∷ d ∷ e ∷ f ∷ []) = rw (eight_more m) refl
octets-take (suc m) (a ∷ b ∷ c ∷ d ∷ e ∷ f ∷ g ∷ []) = rw (eight_more m) refl
octets-take (suc m) (a ∷ b ∷ c ∷ d ∷ e ∷ f ∷ g ∷ h ∷ l) = rw (eight_more m) (ap (λ os. number (a ∷ b ∷ c ∷ d ∷ e ∷ f ∷ g ∷ h ∷ []) ∷ os) (octets-take m l))

pub octets-drop : (m : ℕ) (l : List Bool) → octet_values (drop (8 * m) l) ≡ drop m (octet_values l)
octets-drop zero l = refl
octets-drop (suc m) [] = rw (eight_more m) refl
octets-drop (suc m) (a ∷ []) = rw (eight_more m) refl
octets-drop (suc m) (a ∷ b ∷ []) = rw (eight_more m) refl
octets-drop (suc m) (a ∷ b ∷ c ∷ []) = rw (eight_more m) refl
octets-drop (suc m) (a ∷ b ∷ c ∷ d ∷ []) = rw (eight_more m) refl
octets-drop (suc m) (a ∷ b ∷ c ∷ d ∷ e ∷ []) = rw (eight_more m) refl
octets-drop (suc m) (a ∷ b ∷ c ∷ d ∷ e ∷ f ∷ []) = rw (eight_more m) refl
octets-drop (suc m) (a ∷ b ∷ c ∷ d ∷ e ∷ f ∷ g ∷ []) = rw (eight_more m) refl
octets-drop (suc m) (a ∷ b ∷ c ∷ d ∷ e ∷ f ∷ g ∷ h ∷ l) = rw (eight_more m) (octets-drop m l)

pub octet_first : (f rest : List Bool) → length f ≡ 8 → octet_values (f ++ rest) ≡ number f ∷ octet_values rest
octet_first (a ∷ b ∷ c ∷ d ∷ e ∷ f ∷ g ∷ h ∷ []) rest l = refl
octet_first _ rest l = absurd (omega arith)

-- the first octet, and those behind it
pub octet_next : (l : List Bool) → 8 ≤ length l → octet_values l ≡ number (take 8 l) ∷ octet_values (drop 8 l)
octet_next l h = ap octet_values (sym (take-append-drop 8 l)) ∙ octet_first (take 8 l) (drop 8 l) (length-take-le 8 l h)

same_heads : {x y : ℕ} {xs ys : List ℕ} → x ∷ xs ≡ y ∷ ys → (x ≡ y) × (xs ≡ ys)
same_heads e = (cc, cc)

-- octets tell their bits
pub octets_tell : (k : ℕ) (a b : List Bool) → length a ≡ 8 * k → length b ≡ 8 * k → octet_values a ≡ octet_values b → a ≡ b
octets_tell zero [] [] l m e = refl
octets_tell zero (x ∷ a) b l m e = absurd (omega arith)
octets_tell zero [] (y ∷ b) l m e = absurd (omega arith)
octets_tell (suc k) a b l m e =
    let p = octet_next a (omega arith) in
    let q = octet_next b (omega arith) in
    let s = same_heads (sym p ∙ (e ∙ q)) in
    let la = length-take-le 8 a (omega arith) in
    let lb = length-take-le 8 b (omega arith) in
    let da = length-drop 8 a in
    let db = length-drop 8 b in
    let front = number_same (take 8 a) (take 8 b) (la ∙ sym lb) s.0 in
    let back = octets_tell k (drop 8 a) (drop 8 b) (omega arith) (omega arith) s.1 in
    sym (take-append-drop 8 a) ∙ (joined front back ∙ take-append-drop 8 b)
  where
    joined : {x y z w : List Bool} → x ≡ y → z ≡ w → x ++ z ≡ y ++ w
    joined f g = cc

pub octets_whole : (end : List Bool) → length end % 8 ≡ 0 → length end ≡ 8 * length (octet_numbers end)
octets_whole end h = let a = octets_few end in let b = octets_most end in omega arith
