-- Runs whose ends, which may overlap, are the same.
use Rattle.std.proofs.Common.{◌≡◌, ℕ, zero, suc, ◌+◌, ◌-◌, ◌<◌, ◌≤◌, List, [], ◌∷◌, ◌++◌, length, take, drop, get_or, refl, sym, ap, ◌∙◌, arith, length-drop}
use Rattle.std.specs.Int.{w32, w64, from_le_bytes}
use Rattle.std.proofs.lemmas.Nat.{le_bytes_4, le_bytes_8}
use Rattle.std.proofs.lemmas.List.{take-append-drop, length-take-le}

drop_none : (k : ℕ) → drop {A = ℕ} k [] ≡ []
drop_none zero = refl
drop_none (suc k) = refl

drop_sum : (m k : ℕ) (xs : List ℕ) → drop (m + k) xs ≡ drop k (drop m xs)
drop_sum zero k xs = let same : zero + k ≡ k = omega arith in ap (λ (n : ℕ). drop n xs) same
drop_sum (suc m) k [] = drop_none (suc m + k) ∙ sym (drop_none k)
drop_sum (suc m) k (x ∷ xs) = let same : suc m + k ≡ suc (m + k) = omega arith in rw same (drop_sum m k xs)

-- the first n and the last n octets are the same, and there are no others
same_ends : (n : ℕ) (xs ys : List ℕ) → length xs ≡ length ys → length ys ≤ n + n → n ≤ length ys → take n xs ≡ take n ys → drop (length xs - n) xs ≡ drop (length ys - n) ys → xs ≡ ys
same_ends n xs ys long few some first last =
    let m = length ys - n in
    let k = n - m in
    let sum : m + k ≡ n = omega arith in
    let from : length xs - n ≡ m = omega arith in
    let cut = λ (zs : List ℕ). ap (λ (i : ℕ). drop i zs) (sym sum) ∙ drop_sum m k zs in
    let same : drop m xs ≡ drop m ys = ap (λ (i : ℕ). drop i xs) (sym from) ∙ last in
    sym (take-append-drop n xs)
    ∙ (ap (λ zs. zs ++ drop n xs) first
    ∙ (ap (λ zs. take n ys ++ zs) (cut xs ∙ (ap (drop k) same ∙ sym (cut ys)))
    ∙ take-append-drop n ys))

-- Words of octets.

abbrev AreOctets : List ℕ → Type 0
AreOctets xs = (i : ℕ) → get_or xs i 0 < 256

octets_take : (n : ℕ) (xs : List ℕ) → AreOctets xs → AreOctets (take n xs)
octets_take zero xs h i = omega arith
octets_take (suc n) [] h i = h i
octets_take (suc n) (x ∷ xs) h zero = h zero
octets_take (suc n) (x ∷ xs) h (suc i) = octets_take n xs (λ j. h (suc j)) i

octets_drop : (n : ℕ) (xs : List ℕ) → AreOctets xs → AreOctets (drop n xs)
octets_drop zero xs h i = h i
octets_drop (suc n) [] h i = h i
octets_drop (suc n) (x ∷ xs) h i = octets_drop n xs (λ j. h (suc j)) i

one_word_4 : (xs ys : List ℕ) → length xs ≡ 4 → length ys ≡ 4 → AreOctets xs → AreOctets ys → from_le_bytes w32 xs ≡ from_le_bytes w32 ys → xs ≡ ys
one_word_4 xs ys l k h i e = sym (le_bytes_4 xs (from_le_bytes w32 xs) l h refl) ∙ le_bytes_4 ys (from_le_bytes w32 xs) k i e

one_word_8 : (xs ys : List ℕ) → length xs ≡ 8 → length ys ≡ 8 → AreOctets xs → AreOctets ys → from_le_bytes w64 xs ≡ from_le_bytes w64 ys → xs ≡ ys
one_word_8 xs ys l k h i e = sym (le_bytes_8 xs (from_le_bytes w64 xs) l h refl) ∙ le_bytes_8 ys (from_le_bytes w64 xs) k i e

end_long : (n : ℕ) (xs : List ℕ) → n ≤ length xs → length (drop (length xs - n) xs) ≡ n
end_long n xs h = omega (arith, length-drop (length xs - n) xs)

-- the first and the last word are the same, and there are no others
pub same-fours : (xs ys : List ℕ) → AreOctets xs → AreOctets ys → length xs ≡ length ys → length ys ≤ 8 → 4 ≤ length ys → from_le_bytes w32 (take 4 xs) ≡ from_le_bytes w32 (take 4 ys)
    → from_le_bytes w32 (drop (length xs - 4) xs) ≡ from_le_bytes w32 (drop (length ys - 4) ys) → xs ≡ ys
same-fours xs ys h i long few some first last =
    let p : 4 ≤ length xs = omega arith in
    same_ends 4 xs ys long few some
    (one_word_4 (take 4 xs) (take 4 ys) (length-take-le 4 xs p) (length-take-le 4 ys some) (octets_take 4 xs h) (octets_take 4 ys i) first)
    (one_word_4 (drop (length xs - 4) xs) (drop (length ys - 4) ys) (end_long 4 xs p) (end_long 4 ys some) (octets_drop (length xs - 4) xs h) (octets_drop (length ys - 4) ys i) last)

pub same-eights : (xs ys : List ℕ) → AreOctets xs → AreOctets ys → length xs ≡ length ys → length ys ≤ 16 → 8 ≤ length ys → from_le_bytes w64 (take 8 xs) ≡ from_le_bytes w64 (take 8 ys)
    → from_le_bytes w64 (drop (length xs - 8) xs) ≡ from_le_bytes w64 (drop (length ys - 8) ys) → xs ≡ ys
same-eights xs ys h i long few some first last =
    let p : 8 ≤ length xs = omega arith in
    same_ends 8 xs ys long few some
    (one_word_8 (take 8 xs) (take 8 ys) (length-take-le 8 xs p) (length-take-le 8 ys some) (octets_take 8 xs h) (octets_take 8 ys i) first)
    (one_word_8 (drop (length xs - 8) xs) (drop (length ys - 8) ys) (end_long 8 xs p) (end_long 8 ys some) (octets_drop (length xs - 8) xs h) (octets_drop (length ys - 8) ys i) last)
