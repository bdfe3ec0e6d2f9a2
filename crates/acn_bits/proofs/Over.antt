-- Bits written over others within a word of eight octets.
use Rattle.std.proofs.Common.{◌≡◌, ℕ, ◌+◌, ◌-◌, ◌*◌, ◌/◌, ◌%◌, ◌^◌, ◌<◌, ◌≤◌, Bool, false, List, ◌++◌, length, take, drop, replicate, refl, sym, ap, ◌∙◌, arith, length-drop, take-append-drop, append_assoc, bit_and, subst}
use Rattle.std.specs.Int.{w64, to_be_bytes, from_be_bytes}
use Rattle.std.proofs.lemmas.List.{take-append-le, length-take-le, take_rest, drop-drop}
use Rattle.std.proofs.lemmas.Nat.{pow_pos, shl_whole, mod_below, mod-pow-add, from_be_bytes-to_be_bytes_8}
use Rattle.acn_num.specs.Bits.{number, low_bits, bits}
use Rattle.acn_bits.specs.Overwrite.{overwritten}
use Rattle.acn_bits.specs.Words.{word_bits}
use Rattle.acn_num.proofs.BitLists.{number_same, number-low_bits, length-low_bits, low_bits-number, length-bits, bits-append}
use Rattle.acn_bits.proofs.Loads.{small, masked, be_number, take-bits}
use Rattle.acn_bits.proofs.Parts.{low_bits-mod, length-overwritten, overwritten-inside, part_number, spelled}

-- a number in three parts: what stands above so many bits, these bits, and those behind them
three_parts : (w n b : ℕ) → w ≡ w / 2 ^ (n + b) * 2 ^ (n + b) + w / 2 ^ b % 2 ^ n * 2 ^ b + w % 2 ^ b
three_parts w n b = (let e = mod-pow-add w n b in let p = pow_pos (n + b) in omega arith)

-- what is taken from a word, and what stands in its place
taken : (x n behind : ℕ) → n + behind ≤ 64 → bit_and x (18446744073709551615 / 2 ^ (64 - n)) * 2 ^ behind % 2 ^ 64 ≡ x % 2 ^ n * 2 ^ behind
taken x n behind within =
    let same : 64 - (64 - n) ≡ n = omega arith in
    let ones : bit_and x (18446744073709551615 / 2 ^ (64 - n)) ≡ x % 2 ^ n = masked x (64 - n) (omega arith) ∙ ap (λ (k : ℕ). x % 2 ^ k) same in
    ap (λ (k : ℕ). k * 2 ^ behind % 2 ^ 64) ones ∙ shl_whole (x % 2 ^ n) n behind 64 (mod_below x (2 ^ n) (pow_pos n)) within

pub can_take : (word behind n : ℕ) → behind + n ≤ 64 → bit_and (word / 2 ^ behind) (18446744073709551615 / 2 ^ (64 - n)) * 2 ^ behind % 2 ^ 64 ≤ word
can_take word behind n within = (let e = three_parts word n behind in let t = taken (word / 2 ^ behind) n behind (omega arith) in omega arith)

-- the word that with_bits makes
pub bits_changed : (word behind n v new : ℕ) → behind + n ≤ 64 → word < 2 ^ 64
    → new ≡ word - bit_and (word / 2 ^ behind) (18446744073709551615 / 2 ^ (64 - n)) * 2 ^ behind % 2 ^ 64 + bit_and v (18446744073709551615 / 2 ^ (64 - n)) * 2 ^ behind % 2 ^ 64
    → (new < 2 ^ 64) × (low_bits 64 new ≡ overwritten (low_bits 64 word) (64 - (behind + n)) (low_bits n v))
bits_changed word behind n v new within below is =
    let part = part_number 64 word (64 - (behind + n)) n (v % 2 ^ n) (omega arith) below (mod_below v (2 ^ n) (pow_pos n)) in
    let above : 64 - (64 - (behind + n)) ≡ n + behind = omega arith in
    let rest : n + behind - n ≡ behind = omega arith in
    let part' = rw (above, rest, low_bits-mod n v) at part in
    let three = three_parts word n behind in
    let old = taken (word / 2 ^ behind) n behind (omega arith) in
    let put = taken v n behind (omega arith) in
    let long : length (overwritten (low_bits 64 word) (64 - (behind + n)) (low_bits n v)) ≡ 64 =
    length-overwritten (low_bits 64 word) (64 - (behind + n)) (low_bits n v) (rw (length-low_bits, length-low_bits) (omega arith)) ∙ length-low_bits 64 word in
    let e : new ≡ number (overwritten (low_bits 64 word) (64 - (behind + n)) (low_bits n v)) =
    is ∙ (rw (old, put) (exchanged word (word / 2 ^ (n + behind) * 2 ^ (n + behind)) (word / 2 ^ behind % 2 ^ n * 2 ^ behind) (word % 2 ^ behind) (v % 2 ^ n * 2 ^ behind) three) ∙ sym part') in
    spelled 64 (overwritten (low_bits 64 word) (64 - (behind + n)) (low_bits n v)) new long e
  where
    exchanged : (w a m r p : ℕ) → w ≡ a + m + r → w - m + p ≡ a + p + r
    exchanged w a m r p h = omega arith

-- the octets of a word are its bits
octets_of_word : (n : ℕ) → n < 2 ^ 64 → bits (to_be_bytes w64 n) ≡ low_bits 64 n
octets_of_word n below =
    let spelled : from_be_bytes w64 (to_be_bytes w64 n) ≡ number (bits (to_be_bytes w64 n)) = be_number _ _ _ _ _ _ _ _ (octet _) (octet _) (octet _) (octet _) (octet _) (octet _) (octet _) (octet _) in
    number_same (bits (to_be_bytes w64 n)) (low_bits 64 n) (length-bits (to_be_bytes w64 n) ∙ sym (length-low_bits 64 n))
    (sym spelled ∙ from_be_bytes-to_be_bytes_8 n below ∙ sym (number-low_bits 64 n ∙ small n (2 ^ 64) below))
  where
    octet : (k : ℕ) → k % 256 < 256
    octet k = mod_below k 256 (omega arith)

-- eight octets in place of others
pub word_changed : (buf octets changed : List ℕ) (at skip n v behind word new : ℕ) → skip + n ≤ 64 → at + 8 ≤ length buf → behind ≡ 64 - skip - n
    → word ≡ number (word_bits (take (length buf - at) (drop at buf))) → new < 2 ^ 64 → low_bits 64 new ≡ overwritten (low_bits 64 word) (64 - (behind + n)) (low_bits n v)
    → octets ≡ to_be_bytes w64 new
    → changed ≡ (take at buf ++ octets) ++ drop (at + length octets) buf
    → bits changed ≡ overwritten (bits buf) (8 * at + skip) (low_bits n v)
word_changed buf octets changed at skip n v behind word new within inside behind_is word_is below new_is octets_are is =
    let long : length octets ≡ 8 = ap length octets_are in
    let rest = ap (λ (t : List ℕ). number (word_bits t)) (take_rest buf at) in
    let enough : 8 ≤ length (drop at buf) = simp length-drop (omega arith) in
    let cut : word_bits (drop at buf) ≡ bits (take 8 (drop at buf)) = take-append-le 64 (bits (drop at buf)) (replicate 64 false) (rw length-bits (omega arith)) ∙ take-bits 8 (drop at buf) in
    let long8 : length (bits (take 8 (drop at buf))) ≡ 64 = length-bits (take 8 (drop at buf)) ∙ ap (λ (k : ℕ). 8 * k) (length-take-le 8 (drop at buf) enough) in
    let old_is : low_bits 64 word ≡ bits (take 8 (drop at buf)) =
    ap (low_bits 64) (word_is ∙ rest ∙ ap number cut) ∙ subst (λ (k : ℕ). low_bits k (number (bits (take 8 (drop at buf)))) ≡ bits (take 8 (drop at buf))) long8 (low_bits-number (bits (take 8 (drop at buf)))) in
    let put : bits octets ≡ low_bits 64 new = ap bits octets_are ∙ octets_of_word new below in
    let front : 64 - (behind + n) ≡ skip = rw behind_is (omega arith) in
    let middle : bits octets ≡ overwritten (bits (take 8 (drop at buf))) skip (low_bits n v) = put ∙ new_is ∙ rw (old_is, front) refl in
    let before : buf ≡ take at buf ++ (take 8 (drop at buf) ++ drop (at + 8) buf) =
    sym (take-append-drop at buf) ∙ ap (λ (t : List ℕ). take at buf ++ t) (sym (take-append-drop 8 (drop at buf)) ∙ ap (λ (t : List ℕ). take 8 (drop at buf) ++ t) (drop-drop 8 at buf)) in
    let split : bits buf ≡ bits (take at buf) ++ (bits (take 8 (drop at buf)) ++ bits (drop (at + 8) buf)) =
    ap bits before ∙ bits-append (take at buf) (take 8 (drop at buf) ++ drop (at + 8) buf) ∙ ap (λ (t : List Bool). bits (take at buf) ++ t) (bits-append (take 8 (drop at buf)) (drop (at + 8) buf)) in
    let after : bits changed ≡ bits (take at buf) ++ (bits octets ++ bits (drop (at + 8) buf)) =
    ap bits (is ∙ append_assoc (take at buf) octets (drop (at + length octets) buf) ∙ ap (λ (k : ℕ). take at buf ++ (octets ++ drop (at + k) buf)) long) ∙ bits-append (take at buf) (octets ++ drop (at + 8) buf)
    ∙ ap (λ (t : List Bool). bits (take at buf) ++ t) (bits-append octets (drop (at + 8) buf)) in
    let place : length (bits (take at buf)) ≡ 8 * at = length-bits (take at buf) ∙ ap (λ (k : ℕ). 8 * k) (length-take-le at buf (omega arith)) in
    let inner = overwritten-inside (bits (take at buf)) (bits (take 8 (drop at buf))) (bits (drop (at + 8) buf)) (low_bits n v) skip (rw (length-low_bits, long8) within) in
    after ∙ ap (λ (t : List Bool). bits (take at buf) ++ (t ++ bits (drop (at + 8) buf))) middle ∙ sym (rw (place, ← split) at inner)
