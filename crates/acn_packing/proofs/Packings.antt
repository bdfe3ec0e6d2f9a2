-- What stands in front of a buffer's bits, as octets, and what follows from it.
use Rattle.std.proofs.Common.{◌≡◌, ℕ, zero, suc, ◌-◌, ◌*◌, ◌<◌, ◌&&◌, Bool, true, false, List, [], ◌∷◌, ◌++◌, length, take, drop, replicate, refl, sym, ap, ◌∙◌, subst, arith, append_assoc, get_or, length-append, nat_lt}
use Rattle.std.proofs.lemmas.Bool.{and_parts}
use Rattle.std.proofs.lemmas.Bool.Decides.{nat_tests}
use Rattle.std.proofs.lemmas.List.{take-append-drop, take_at}
use Rattle.std.proofs.Math.Seq.{take-append_seam}
use Rattle.acn_num.specs.Bits.{bits, low_bits, octets}
use Rattle.acn_num.proofs.BitLists.{drop-bits, length-bits}
use Rattle.acn_grammar.specs.Code.{Any}
use Rattle.acn_grammar.specs.Front.{Front, IsWritten}
use Rattle.acn_grammar.specs.Grammar.{Grammar, Data}
use Rattle.acn_grammar.specs.Shaped.{are_octets}
use Rattle.acn_grammar.specs.Spell.{Spell}
use Rattle.acn_grammar.proofs.Octets.{bits_one}
use Rattle.acn_packet_laws.specs.Laws.{FrontsExcludeFailures, IsAccepted, OneFront, OneWriting, WrittenIsRead}
use Rattle.acn_reads.specs.Answers.{IsReadAgain}
use Rattle.acn_packing.specs.Packed.{IsPacked, PackedIsReadAgain}
use Rattle.acn_packing.specs.Tries.{StandsInFront}

take-bits : (q : ℕ) (bytes : List ℕ) → take (8 * q) (bits bytes) ≡ bits (take q bytes)
take-bits zero bytes = refl
take-bits (suc q) [] = let e : 8 * suc q ≡ suc (suc (suc (suc (suc (suc (suc (suc (8 * q)))))))) = omega arith in rw e refl
take-bits (suc q) (b ∷ bytes) =
    let e : 8 * suc q ≡ suc (suc (suc (suc (suc (suc (suc (suc (8 * q)))))))) = omega arith in rw e (ap (λ t. low_bits 8 b ++ t) (take-bits q bytes))

-- items that are below 256 are octets
pub octets_fit : (xs : List ℕ) → ((i : ℕ) → get_or xs i 0 < 256) → are_octets xs ≡ true
octets_fit [] h = refl
octets_fit (x ∷ xs) h = both (nat_lt x 256) (are_octets xs) (small x (h 0)) (octets_fit xs (λ i. h (suc i)))
  where
    small : (x : ℕ) → x < 256 → nat_lt x 256 ≡ true
    small x l = grind (arith, nat_tests, l)

    both : (a b : Bool) → a ≡ true → b ≡ true → (a && b) ≡ true
    both a b e f = cc

octets_left : (k : ℕ) (xs : List ℕ) → are_octets xs ≡ true → are_octets (drop k xs) ≡ true
octets_left zero xs h = h
octets_left (suc k) [] h = refl
octets_left (suc k) (x ∷ xs) h = octets_left k xs (and_parts (nat_lt x 256) (are_octets xs) h).1

pub is_packed : OneWriting → (root : Grammar) (d : Data) (n : ℕ) (before after : List ℕ) → IsAccepted root → are_octets before ≡ true → are_octets after ≡ true → StandsInFront root d n (bits before) (bits after) → IsPacked root d n before after
is_packed one root d n before after accepted b a s =
    let o = octets n in
    let bits_same : bits (drop o after) ≡ bits (drop o before) = sym (drop-bits o after) ∙ (s.later ∙ drop-bits o before) in
    let l = ap length bits_same in
    let la = length-bits (drop o after) in
    let lb = length-bits (drop o before) in
    record {
      spelling = s.spelling;
      written = s.written;
      only = λ other w. one root d other s.spelling accepted w s.written;
      counted = s.counted;
      first = sym (take-bits o after) ∙ s.first;
      later = bits_one (drop o after) (drop o before) (octets_left o after a) (octets_left o before b) (omega (arith, l, la, lb)) bits_same;
    }

-- what is written is read again
read_again : WrittenIsRead → OneFront → FrontsExcludeFailures → (root : Grammar) (d : Data) (bs : List Bool) → IsAccepted root → IsWritten root d bs → IsReadAgain root d bs
read_again read one exclude root d bs accepted w more =
    let front : Front root (bs ++ more) d (length bs) = record {
      within = (let l = length-append bs more in omega (arith, l));
      spelled = subst (λ xs. Spell root Any root [] d 0 xs) (sym (take-append_seam bs more)) (read root d bs accepted.formed w);
    } in
    (front, (λ e m f. one root (bs ++ more) e d m (length bs) accepted f front, λ fault reach r. exclude root (bs ++ more) d (length bs) fault reach accepted front r))

pub packed_read : WrittenIsRead → OneFront → FrontsExcludeFailures → (root : Grammar) (d : Data) (n : ℕ) (before : List Bool) (after : List ℕ) → IsAccepted root → StandsInFront root d n before (bits after) → PackedIsReadAgain root d n after
packed_read read one exclude root d n before after accepted s =
    let all = bits after in
    let o = 8 * octets n in
    let zeros = replicate (8 * octets (length s.spelling) - length s.spelling) false in
    let whole : all ≡ s.spelling ++ (zeros ++ drop o all) = sym (take-append-drop o all) ∙ (ap (λ z. z ++ drop o all) s.first ∙ append_assoc s.spelling zeros (drop o all)) in
    let front : take n all ≡ s.spelling = ap (take n) whole ∙ take_at s.spelling (zeros ++ drop o all) n (sym s.counted) in
    subst (λ bs. IsReadAgain root d bs) (sym front) (read_again read one exclude root d s.spelling accepted s.written)
