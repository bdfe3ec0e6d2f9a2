-- Packets that are worked by hand: sizes in front of strings, a size in an inner SEQUENCE, and a size that no number can say.
use Rattle.std.specs.Prelude.{◌≡◌, ℕ, pos, Bool, true, false, List, [], ◌∷◌, take, replicate, None}
use Rattle.acn_num.specs.Bits.{bits as bits_of}
use Rattle.acn_grammar.specs.Asks.{Equal}
use Rattle.acn_grammar.specs.Fails.{Refusal}
use Rattle.acn_grammar.specs.Front.{IsWritten}
use Rattle.acn_grammar.specs.Grammar.{Grammar, Data, node, bits, seq, no_fields, int, octet_string, bit_string, record_of, no_places, filled}
use Rattle.acn_grammar.specs.Interval.{span}
use Rattle.acn_grammar.specs.LeafFails.{short, size_out_of_range}
use Rattle.acn_grammar.specs.Meets.{conflict}
use Rattle.acn_grammar.specs.Refused.{Refused}
use Rattle.acn_grammar.specs.Tree.{is_tree}
use Rattle.acn_grammar.specs.declared.node.NumCoding.TheVariants.{Range, PosInt}
use Rattle.acn_grammar.specs.declared.node.Presence.TheVariants.{Always}
use Rattle.acn_grammar.specs.declared.node.SizeRule.TheVariants.{Prefix, Slot}
use Rattle.acn_packet_laws.specs.ListRows.{up_to_three}
use Rattle.acn_packet_laws.specs.WorkedRows.{integer, u8, field, in_slot, two, up_to_sixteen}

-- BIT STRING (SIZE (0..5))
abbrev pub up_to_five_bits : Grammar
up_to_five_bits = node 1 (bits (record { sizes = (pos 0, pos 5) ∷ []; rule = Prefix 0 3 }))

-- OCTET STRING (SIZE (0..3))
abbrev pub counted_octets : Grammar
counted_octets = up_to_three (Prefix 0 2)

-- The bits 101 are 6 bits of 74, c0 has the size 6, and six bits are never written. "aa" in octets is 10 bits of 6a 80, and
-- 80 aa ends inside the second of its two octets.
pub record SizesStandInFrontOfStrings : Type 0 where
  pub tree : is_tree up_to_five_bits ≡ true
  pub written : IsWritten up_to_five_bits (bit_string (true ∷ false ∷ true ∷ [])) (take 6 (bits_of (116 ∷ [])))
  pub refused : Refusal up_to_five_bits (bits_of (192 ∷ [])) (record { path = []; reason = size_out_of_range 6; at = 0 }) 3
  pub never : (bs : List Bool) → IsWritten up_to_five_bits (bit_string (replicate 6 true)) bs → ⊥
  pub in_octets : IsWritten counted_octets (octet_string (170 ∷ [])) (take 10 (bits_of (106 ∷ 128 ∷ [])))
  pub cut : Refusal counted_octets (bits_of (128 ∷ 170 ∷ [])) (record { path = []; reason = short; at = 0 }) 16

-- SEQUENCE { h SEQUENCE { x INTEGER (0..1) }, d OCTET STRING (SIZE (0..3)) }, with { h [] { len INTEGER u8, x [] }, d [size h.len] }
abbrev pub by_head : Grammar
by_head = node 1 (seq (field 104 (node 1 (seq (in_slot 108 u8 0 (field 120 (integer (pos 0) (pos 1) (Range (pos 0) 1)) Always no_fields)) [])) Always (field 100 (up_to_three (Slot 0)) Always no_fields)) (0 ∷ []))

-- {"h":{"x":1},"d":"aa"}
abbrev pub headed : Data
headed = two (record_of (filled (int (pos 1)) no_places)) (octet_string (170 ∷ []))

-- It is 17 bits of 01 d5 00, and never 9 bits of 00 80, where the size is 0. 04 80 says four octets, which aren't permitted.
pub record ASizeStandsInAnInnerSequence : Type 0 where
  pub tree : is_tree by_head ≡ true
  pub bounds : span by_head ≡ record { least = 9; greatest = 33 }
  pub written : IsWritten by_head headed (take 17 (bits_of (1 ∷ 213 ∷ 0 ∷ [])))
  pub refused : Refusal by_head (bits_of (4 ∷ 128 ∷ [])) (record { path = 1 ∷ []; reason = size_out_of_range 4; at = 9 }) 9
  pub never : IsWritten by_head headed (take 9 (bits_of (0 ∷ 128 ∷ []))) → ⊥

-- data OCTET STRING (SIZE (0..16)), with { len INTEGER (0..3) [size 2, encoding pos-int], data [size len] }
abbrev pub narrow_size : Grammar
narrow_size = node 1 (seq (in_slot 108 (integer (pos 0) (pos 3) (PosInt 2)) 0 (field 100 (up_to_sixteen (Slot 0)) Always no_fields)) (0 ∷ []))

abbrev pub zeros_in : ℕ → Data
zeros_in n = record_of (filled (octet_string (replicate n 0)) no_places)

-- Four octets ask for a number that len never has, and nothing was asked before: they are refused, and never written.
pub record ASizeNeedsItsNumber : Type 0 where
  pub tree : is_tree narrow_size ≡ true
  pub refused : Refused narrow_size (zeros_in 4) (record { path = 1 ∷ []; why = conflict (0 ∷ []) None (Equal (pos 4)) })
  pub never : (bs : List Bool) → IsWritten narrow_size (zeros_in 4) bs → ⊥
