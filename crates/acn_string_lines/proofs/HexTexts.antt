-- Octets that were read, and put as hexadecimal digits.
use Rattle.std.proofs.Common.{Bool, ◌≡◌, ℕ, zero, suc, ◌+◌, ◌*◌, ◌/◌, ◌%◌, ◌^◌, ◌<◌, ◌≤◌, true, nat_lt, List, [], ◌∷◌, ◌++◌, length, take, get_or, refl, sym, ap, ◌∙◌, arith, subst, append-nil, append_assoc, length-append}
use Rattle.std.specs.Char.{digit_char}
use Rattle.std.specs.Int.{w16, w32, w64, to_be_bytes, from_be_bytes}
use Rattle.std.proofs.lemmas.Bool.{and_parts}
use Rattle.std.proofs.lemmas.Bool.Decides.{nat_tests}
use Rattle.std.proofs.lemmas.List.{length-take-le}
use Rattle.std.proofs.lemmas.Nat.{from_be_bytes-to_be_bytes_2, from_be_bytes-to_be_bytes_4, from_be_bytes-to_be_bytes_8}
use Rattle.hex.specs.Hex.{encode_lower, encode_with}
use Rattle.json.specs.Print.{escape, quoted}
use Rattle.acn_num.specs.Bits.{number, bits}
use Rattle.acn_num.proofs.BitLists.{number_below, number_same, length-bits, bits-append}
use Rattle.acn_bits.proofs.Loads.{eight, number-bits_cons}
use Rattle.acn_bits.proofs.Readings.{reads_passed, reads_nothing, reads_join}
use Rattle.acn_printed.proofs.Digits.{digits_append, pair-is}
use Rattle.acn_bits.specs.Reading.{Reading, Reads, passed}
use Rattle.acn_grammar.specs.Shaped.{are_octets}
use Rattle.acn_reads.specs.Steps.{AreOctets}
use Rattle.acn_reads.proofs.StringReads.{no_octets, octets_more, octet_small}

-- so many octets were read, and their digits put
abbrev pub PutsOctets : ℕ → (text text' : List ℕ) → Reading → Reading → Type 0
PutsOctets n text text' a b = (os : List ℕ) × Reads (AreOctets n os) a b × (text' ≡ text ++ escape (encode_lower os))

octets_both : (a b : List ℕ) → are_octets a ≡ true → are_octets b ≡ true → are_octets (a ++ b) ≡ true
octets_both [] b h k = k
octets_both (x ∷ a) b h k = (let p = and_parts (nat_lt x 256) (are_octets a) h in rw (p.0, octets_both a b p.1 k) refl)

pub none_put : (text : List ℕ) (a : Reading) → PutsOctets 0 text text a a
unfolding encode_with
none_put text a = ([], reads_nothing (AreOctets 0 []) a a refl (record { size = refl; octets = refl; same = refl }), sym (append-nil text))

pub more_put : (n m k : ℕ) (s t u : List ℕ) (a b c : Reading) → k ≡ n + m → PutsOctets n s t a b → PutsOctets m t u b c → PutsOctets k s u a c
more_put n m k s t u a b c is p q = (
  p.0 ++ q.0,
  reads_join (AreOctets n p.0) (AreOctets m q.0) (AreOctets k (p.0 ++ q.0)) a b c
      (λ x y f g. record {
        size = length-append p.0 q.0 ∙ (ap (λ (i : ℕ). i + length q.0) f.size ∙ (ap (λ (i : ℕ). n + i) g.size ∙ sym is));
        octets = octets_both p.0 q.0 f.octets g.octets;
        same = ap (λ r. r ++ y) f.same ∙ (ap (λ r. bits p.0 ++ r) g.same ∙ sym (bits-append p.0 q.0));
      }) p.1 q.1,
  q.2 ∙ (ap (λ r. r ++ escape (encode_lower q.0)) p.2 ∙ (append_assoc s (escape (encode_lower p.0)) (escape (encode_lower q.0)) ∙ ap (λ r. s ++ r) (sym (digits_append p.0 q.0)))),
)

-- the octets that are left are there
pub room_left : (n m k : ℕ) (s t : List ℕ) (a b : Reading) → n + m ≤ k → 8 * k ≤ length a.rest → PutsOctets n s t a b → 8 * m ≤ length b.rest
room_left n m k s t a b h room p =
    let l = ap length p.1.split ∙ length-append p.1.front b.rest in
    let f = ap length p.1.holds.same ∙ (length-bits p.0 ∙ ap (λ (i : ℕ). 8 * i) p.1.holds.size) in
    omega (arith, l, f, room, h)

pub octet_put : (v : ℕ) (s t : List ℕ) (a b : Reading) → 8 ≤ length a.rest → v ≡ number (take 8 a.rest) → b ≡ passed 8 a → t ≡ s ++ digit_char (v / 16) ∷ digit_char (v % 16) ∷ [] → PutsOctets 1 s t a b
octet_put v s t a b room e moved put =
    let small : v < 256 = subst (λ (k : ℕ). k < 256) (sym e) (octet_small a.rest room) in
    (v ∷ [], (octets_more 1 0 [] v a a b (omega arith) (no_octets 1 a (omega (arith, room))) e moved).read, put ∙ ap (λ r. s ++ r) (sym (pair-is v small)))

-- the digits of octets, two for each
abbrev pub spelled : List ℕ → List ℕ
spelled [] = []
spelled (o ∷ os) = digit_char (o / 16) ∷ digit_char (o % 16) ∷ spelled os

pub spelled_is : (os : List ℕ) → are_octets os ≡ true → escape (encode_lower os) ≡ spelled os
unfolding encode_with
spelled_is [] h = refl
spelled_is (o ∷ os) h =
    let p = and_parts (nat_lt o 256) (are_octets os) h in
    let small : o < 256 = (let q = p.0 in grind (arith, nat_tests)) in
    digits_append (o ∷ []) os ∙ (ap (λ r. r ++ escape (encode_lower os)) (pair-is o small) ∙ ap (λ r. digit_char (o / 16) ∷ digit_char (o % 16) ∷ r) (spelled_is os p.1))

low_octet : (m : ℕ) → nat_lt (m % 256) 256 ≡ true
low_octet m = grind (arith, nat_tests)

pub word_octets : (v : ℕ) → are_octets (to_be_bytes w64 v) ≡ true
word_octets v = rw (low_octet (v / 72057594037927936), low_octet (v / 281474976710656), low_octet (v / 1099511627776), low_octet (v / 4294967296), low_octet (v / 16777216), low_octet (v / 65536), low_octet (v / 256), low_octet v) refl

small_item : (os : List ℕ) (k : ℕ) → are_octets os ≡ true → get_or os k 0 < 256
small_item [] k h = omega arith
small_item (o ∷ os) zero h = (let q = (and_parts (nat_lt o 256) (are_octets os) h).0 in grind (arith, nat_tests))
small_item (o ∷ os) (suc k) h = small_item os k (and_parts (nat_lt o 256) (are_octets os) h).1

pub word_put : (v : ℕ) (s t : List ℕ) (a b : Reading) → 64 ≤ length a.rest → v ≡ number (take 64 a.rest) → b ≡ passed 64 a → t ≡ s ++ escape (encode_lower (to_be_bytes w64 v)) → PutsOctets 8 s t a b
word_put v s t a b room e moved put =
    let os = to_be_bytes w64 v in
    let long = length-take-le 64 a.rest room in
    let small : v < 2 ^ 64 = subst (λ (k : ℕ). k < 2 ^ 64) (sym e) (subst (λ (k : ℕ). number (take 64 a.rest) < 2 ^ k) long (number_below (take 64 a.rest))) in
    let value = sym e ∙ (sym (from_be_bytes-to_be_bytes_8 v small) ∙ eight os refl (λ k h. small_item os k (word_octets v))) in
    (os, reads_passed (AreOctets 8 os) 64 a b room moved (record { size = refl; octets = word_octets v; same = number_same (take 64 a.rest) (bits os) (long ∙ sym (length-bits os)) value }), put)

pub word_small : (n : ℕ) (bs : List Bool) → n ≤ length bs → number (take n bs) < 2 ^ n
word_small n bs h = subst (λ (k : ℕ). number (take n bs) < 2 ^ k) (length-take-le n bs h) (number_below (take n bs))

-- Two octets.

pub two_octets : (v : ℕ) → are_octets (to_be_bytes w16 v) ≡ true
two_octets v = rw (low_octet (v / 256), low_octet v) refl

two_number : (a b : ℕ) → a < 256 → b < 256 → from_be_bytes w16 (a ∷ b ∷ []) ≡ number (bits (a ∷ b ∷ []))
two_number a b ha hb = omega (arith, number-bits_cons a (b ∷ []) ha, number-bits_cons b [] hb)

two : (os : List ℕ) → length os ≡ 2 → ((k : ℕ) → get_or os k 0 < 256) → from_be_bytes w16 os ≡ number (bits os)
two (a ∷ b ∷ []) long each = two_number a b (each 0) (each 1)
two _ long each = absurd (omega arith)

pub two_put : (v : ℕ) (s t : List ℕ) (a b : Reading) → 16 ≤ length a.rest → v ≡ number (take 16 a.rest) → b ≡ passed 16 a → t ≡ s ++ escape (encode_lower (to_be_bytes w16 v)) → PutsOctets 2 s t a b
two_put v s t a b room e moved put =
    let os = to_be_bytes w16 v in
    let long = length-take-le 16 a.rest room in
    let small : v < 2 ^ 16 = subst (λ (k : ℕ). k < 2 ^ 16) (sym e) (word_small 16 a.rest room) in
    let value = sym e ∙ (sym (from_be_bytes-to_be_bytes_2 v small) ∙ two os refl (λ k. small_item os k (two_octets v))) in
    (os, reads_passed (AreOctets 2 os) 16 a b room moved (record { size = refl; octets = two_octets v; same = number_same (take 16 a.rest) (bits os) (long ∙ sym (length-bits os)) value }), put)

-- Four octets.

pub four_octets : (v : ℕ) → are_octets (to_be_bytes w32 v) ≡ true
four_octets v = rw (low_octet (v / 16777216), low_octet (v / 65536), low_octet (v / 256), low_octet v) refl

four_number : (a b c d : ℕ) → a < 256 → b < 256 → c < 256 → d < 256 → from_be_bytes w32 (a ∷ b ∷ c ∷ d ∷ []) ≡ number (bits (a ∷ b ∷ c ∷ d ∷ []))
four_number a b c d ha hb hc hd = omega (arith, number-bits_cons a (b ∷ c ∷ d ∷ []) ha, number-bits_cons b (c ∷ d ∷ []) hb, number-bits_cons c (d ∷ []) hc, number-bits_cons d [] hd)

four : (os : List ℕ) → length os ≡ 4 → ((k : ℕ) → get_or os k 0 < 256) → from_be_bytes w32 os ≡ number (bits os)
four (a ∷ b ∷ c ∷ d ∷ []) long each = four_number a b c d (each 0) (each 1) (each 2) (each 3)
four _ long each = absurd (omega arith)

pub four_put : (v : ℕ) (s t : List ℕ) (a b : Reading) → 32 ≤ length a.rest → v ≡ number (take 32 a.rest) → b ≡ passed 32 a → t ≡ s ++ escape (encode_lower (to_be_bytes w32 v)) → PutsOctets 4 s t a b
four_put v s t a b room e moved put =
    let os = to_be_bytes w32 v in
    let long = length-take-le 32 a.rest room in
    let small : v < 2 ^ 32 = subst (λ (k : ℕ). k < 2 ^ 32) (sym e) (word_small 32 a.rest room) in
    let value = sym e ∙ (sym (from_be_bytes-to_be_bytes_4 v small) ∙ four os refl (λ k. small_item os k (four_octets v))) in
    (os, reads_passed (AreOctets 4 os) 32 a b room moved (record { size = refl; octets = four_octets v; same = number_same (take 32 a.rest) (bits os) (long ∙ sym (length-bits os)) value }), put)

-- the string of so many octets, with its quotes
pub string_put : (n m k : ℕ) (s t u v w : List ℕ) (a b c : Reading) → k ≡ n + m → t ≡ s ++ 34 ∷ [] → PutsOctets n t u a b → PutsOctets m u v b c → w ≡ v ++ 34 ∷ [] → (os : List ℕ) × Reads (AreOctets k os) a c × (w ≡ s ++ quoted (encode_lower os))
string_put n m k s t u v w a b c is begun p q ended =
    let r = more_put n m k t u v a b c is p q in
    let digits = escape (encode_lower r.0) in
    (r.0, r.1, ended ∙ (ap (λ x. x ++ 34 ∷ []) (r.2 ∙ ap (λ x. x ++ digits) begun) ∙ (append_assoc (s ++ 34 ∷ []) digits (34 ∷ []) ∙ append_assoc s (34 ∷ []) (digits ++ 34 ∷ []))))
