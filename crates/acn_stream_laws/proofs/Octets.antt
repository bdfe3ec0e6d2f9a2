-- Packets of values: there are some, and they are one list.
use Rattle.std.proofs.Common.{◌≡◌, ℕ, zero, suc, ◌-◌, ◌*◌, ◌<◌, Bool, true, false, IsTrue, nat_lt, List, [], ◌∷◌, ◌++◌, length, take, drop, replicate, sym, ap, refl, ◌∙◌, arith, length-append, length-take, length-drop, take-append-drop}
use Rattle.std.proofs.lemmas.Bool.{and_parts}
use Rattle.std.proofs.lemmas.List.{append_cancel_left}
use Rattle.std.proofs.lemmas.Bool.Decides.{nat_tests}
use Rattle.std.specs.List.{AllByRecursion}
use Rattle.acn_num.specs.Bits.{number, low_bits, bits, octets, filled}
use Rattle.acn_num.proofs.BitLists.{number-low_bits, low_bits-number, length-low_bits, bits-append}
use Rattle.acn_grammar.specs.Grammar.{Grammar, Data}
use Rattle.acn_grammar.specs.Shaped.{are_octets}
use Rattle.acn_packet_laws.specs.Laws.{IsAccepted, OneWriting}
use Rattle.acn_stream.specs.Encoding.{IsWrittenPacket, Packets}
use Rattle.acn_stream_laws.proofs.Pieces.{same_front}
use Rattle.acn_stream_laws.proofs.Writings.{HasWriting}

-- ---- octets of bits

-- n octets of bits
abbrev packed : ℕ → List Bool → List ℕ
packed zero bs = []
packed (suc n) bs = number (take 8 bs) ∷ packed n (drop 8 bs)

packed_bits : (n : ℕ) (bs : List Bool) → length bs ≡ 8 * n → bits (packed n bs) ≡ bs
packed_bits zero [] l = refl
packed_bits zero (b ∷ bs) l = absurd (omega (arith, l))
packed_bits (suc n) bs l =
    let long : length (take 8 bs) ≡ 8 = simp length-take (omega (arith, l)) in
    let first : low_bits 8 (number (take 8 bs)) ≡ take 8 bs = ap (λ (k : ℕ). low_bits k (number (take 8 bs))) (sym long) ∙ low_bits-number (take 8 bs) in
    let others = packed_bits n (drop 8 bs) (simp length-drop (omega (arith, l))) in
    ap (λ (t : List Bool). t ++ bits (packed n (drop 8 bs))) first ∙ ap (λ (t : List Bool). take 8 bs ++ t) others ∙ take-append-drop 8 bs

long_zeros : (n : ℕ) → length (replicate n false) ≡ n
long_zeros zero = refl
long_zeros (suc n) = ap suc (long_zeros n)

long_filled : (bs : List Bool) → length (filled bs) ≡ 8 * octets (length bs)
long_filled bs = omega (arith, length-append bs (replicate (8 * octets (length bs) - length bs) false), long_zeros (8 * octets (length bs) - length bs))

-- ---- packets that are there

module _ (g : Grammar) where
  pub packets_there : (values : List Data) → AllByRecursion (HasWriting g) values → (packets : List ℕ) × Packets g values packets
  packets_there [] h = ([], refl)
  packets_there (d ∷ values) h =
      let spelling = h.0.0 in
      let piece = packed (octets (length spelling)) (filled spelling) in
      let others = packets_there values h.1 in (
        piece ++ others.0,
        record {
          piece = piece;
          rest = others.0;
          parts = refl;
          first = record { spelling = spelling; written = h.0.1; whole = packed_bits (octets (length spelling)) (filled spelling) (long_filled spelling) };
          second = others.1;
        },
      )

  -- ---- they are one

  piece_bits : IsAccepted g → OneWriting → (d : Data) (p q : List ℕ) → IsWrittenPacket g d p → IsWrittenPacket g d q → bits q ≡ bits p
  piece_bits accepted law d p q h k = k.whole ∙ ap filled (law g d k.spelling h.spelling accepted k.written h.written) ∙ sym h.whole

  pub one_bits : IsAccepted g → OneWriting → (values : List Data) (packets others : List ℕ) → Packets g values packets → Packets g values others → bits others ≡ bits packets
  one_bits accepted law [] packets others h k = ap bits (k ∙ sym h)
  one_bits accepted law (d ∷ values) packets others h k =
      ap bits k.parts ∙ bits-append k.piece k.rest ∙ ap (λ (t : List Bool). t ++ bits k.rest) (piece_bits accepted law d h.piece k.piece h.first k.first)
      ∙ ap (λ (t : List Bool). bits h.piece ++ t) (one_bits accepted law values h.rest k.rest h.second k.second) ∙ sym (bits-append h.piece h.rest) ∙ ap bits (sym h.parts)

-- an octet is told by its bits
octet_is : (a : ℕ) → nat_lt a 256 ≡ true → number (low_bits 8 a) ≡ a
octet_is a h =
    let below : a < 256 = grind (arith, nat_tests) in
    number-low_bits 8 a ∙ omega (arith, below)

pub one_octets : (a b : List ℕ) → IsTrue (are_octets a) → IsTrue (are_octets b) → bits b ≡ bits a → b ≡ a
one_octets [] [] x y e = refl
one_octets [] (q ∷ b) x y e = absurd (omega (arith, ap length e, length-append (low_bits 8 q) (bits b), length-low_bits 8 q))
one_octets (p ∷ a) [] x y e = absurd (omega (arith, ap length e, length-append (low_bits 8 p) (bits a), length-low_bits 8 p))
one_octets (p ∷ a) (q ∷ b) x y e =
    let s = and_parts (nat_lt p 256) (are_octets a) x in
    let t = and_parts (nat_lt q 256) (are_octets b) y in
    let first : low_bits 8 q ≡ low_bits 8 p = same_front (low_bits 8 q) (low_bits 8 p) (bits b) (bits a) refl e in
    let head : q ≡ p = sym (octet_is q t.0) ∙ ap number first ∙ octet_is p s.0 in
    let tails : bits b ≡ bits a = append_cancel_left (low_bits 8 p) (bits b) (bits a) (ap (λ (u : List Bool). u ++ bits b) (sym first) ∙ e) in
    ap (λ (c : ℕ). c ∷ b) head ∙ ap (λ (u : List ℕ). p ∷ u) (one_octets a b s.1 t.1 tails)
