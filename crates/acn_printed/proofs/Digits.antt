-- Hexadecimal digits, which stand for themselves in a string.
use Rattle.std.proofs.Common.{◌≡◌, ℕ, zero, suc, ◌+◌, ◌<◌, ◌/◌, ◌%◌, Bool, true, not, ◌&&◌, ◌==◌, nat_lt, List, [], ◌∷◌, ◌++◌, length, drop, get_or, slice_index, refl, sym, ap, ◌∙◌, append_assoc, arith}
use Rattle.std.specs.Char.{digit_char}
use Rattle.std.specs.List.{list_all}
use Rattle.std.proofs.lemmas.Bool.{and_parts, eqb-true, cases_lt}
use Rattle.std.proofs.Common.{inl, inr}
use Rattle.hex.specs.Hex.{encode_lower, encode_with, lower_digits}
use Rattle.json.specs.Print.{escape, escape_byte}
use Rattle.std.proofs.lemmas.List.{drop_more}
use Rattle.std.proofs.lemmas.List.Concat.{flat_map-append}
use Rattle.acn_json.proofs.Escapes.{plain-escape}

abbrev plain : ℕ → Bool
plain o = nat_lt 31 o && (not (o == 34) && not (o == 92))

-- the digit of a number is that of the table, and plain
abbrev fine : ℕ → Bool
fine n = (digit_char n == slice_index lower_digits n) && plain (slice_index lower_digits n)

abbrev all_fine : ℕ → Bool
all_fine zero = true
all_fine (suc n) = fine n && all_fine n

fine-at : (n k : ℕ) → all_fine n ≡ true → k < n → fine k ≡ true
fine-at zero k h lt = absurd (omega arith)
fine-at (suc n) k h lt =
    let parts = and_parts (fine n) (all_fine n) h in
    elim (cases_lt k n) [
      | inl below ↦ fine-at n k parts.1 below
      | inr top ↦
          let e : k ≡ n = omega arith in
          rw e parts.0
    ]

abbrev two : (n : ℕ) → n < 16 → (digit_char n == slice_index lower_digits n) ≡ true × plain (slice_index lower_digits n) ≡ true
two n h = and_parts (digit_char n == slice_index lower_digits n) (plain (slice_index lower_digits n)) (fine-at 16 n refl h)

digit_is : (n : ℕ) → n < 16 → digit_char n ≡ slice_index lower_digits n
digit_is n h = eqb-true (digit_char n) (slice_index lower_digits n) (two n h).0

both_plain : (x y : ℕ) → plain x ≡ true → plain y ≡ true → list_all plain (x ∷ y ∷ []) ≡ true
both_plain x y p q = rw (p, q) refl

same_pair : (x y v w : ℕ) → x ≡ v → y ≡ w → v ∷ w ∷ [] ≡ x ∷ y ∷ []
same_pair x y v w e f = rw (e, f) refl

pub pair-is : (b : ℕ) → b < 256 → escape (encode_lower (b ∷ [])) ≡ digit_char (b / 16) ∷ digit_char (b % 16) ∷ []
unfolding encode_with
pair-is b h =
    let high = slice_index lower_digits (b / 16) in
    let low = slice_index lower_digits (b % 16) in
    let p : b / 16 < 16 = omega arith in
    let q : b % 16 < 16 = omega arith in
    plain-escape (high ∷ low ∷ []) (both_plain high low (two (b / 16) p).1 (two (b % 16) q).1)
    ∙ same_pair (digit_char (b / 16)) (digit_char (b % 16)) high low (digit_is (b / 16) p) (digit_is (b % 16) q)

-- Digits of octets one behind another.

encode_append : (t a b : List ℕ) → encode_with t (a ++ b) ≡ encode_with t a ++ encode_with t b
unfolding encode_with
encode_append t [] b = refl
encode_append t (x ∷ a) b = ap (λ r. slice_index t (x / 16) ∷ slice_index t (x % 16) ∷ r) (encode_append t a b)

pub digits_append : (a b : List ℕ) → escape (encode_lower (a ++ b)) ≡ escape (encode_lower a) ++ escape (encode_lower b)
digits_append a b = ap escape (encode_append _ a b) ∙ flat_map-append escape_byte (encode_lower a) (encode_lower b)

pub no-digits : escape (encode_lower []) ≡ []
unfolding encode_with
no-digits = refl

-- one octet more, of the next two digits
pub pair-next : (text octets : List ℕ) (at b : ℕ) → at + 1 < length text → b < 256 → get_or text at 0 ≡ digit_char (b / 16) → get_or text (at + 1) 0 ≡ digit_char (b % 16) → text ≡ escape (encode_lower octets) ++ drop at text
    → text ≡ escape (encode_lower (octets ++ b ∷ [])) ++ drop (at + 2) text
pair-next text octets at b more small high low so_far =
    let front = escape (encode_lower octets) in
    let rest = drop (at + 1 + 1) text in
    let x = get_or text at 0 in
    let y = get_or text (at + 1) 0 in
    let here : at < length text = omega arith in
    let last : at + 1 + 1 ≡ at + 2 = omega arith in
    let next : drop at text ≡ x ∷ y ∷ rest = drop_more text at 0 here ∙ ap (λ t. x ∷ t) (drop_more text (at + 1) 0 more) in
    let pair : escape (encode_lower (b ∷ [])) ≡ x ∷ y ∷ [] = pair-is b small ∙ same_pair x y (digit_char (b / 16)) (digit_char (b % 16)) high low in
    so_far
    ∙ (ap (λ t. front ++ t) next
    ∙ (ap (λ t. front ++ (t ++ rest)) (sym pair)
    ∙ (sym (append_assoc front (escape (encode_lower (b ∷ []))) rest)
    ∙ (ap (λ t. t ++ rest) (sym (digits_append octets (b ∷ [])))
    ∙ ap (λ n. escape (encode_lower (octets ++ b ∷ [])) ++ drop n text) last))))
