-- Packets that are worked by hand: where a failure is named, and the bits that it begins at.
use Rattle.std.specs.Prelude.{ℕ, pos, Bool, List, [], ◌∷◌, take, None}
use Rattle.acn_num.specs.Bits.{bits as bits_of}
use Rattle.acn_grammar.specs.Fails.{Refusal}
use Rattle.acn_grammar.specs.Front.{IsWritten, Front}
use Rattle.acn_grammar.specs.Grammar.{Grammar, Data, node, seq, list, no_fields, int, list_of, element, no_elements}
use Rattle.acn_grammar.specs.LeafFails.{short, out_of_range}
use Rattle.acn_grammar.specs.declared.node.NumCoding.TheVariants.{Range}
use Rattle.acn_grammar.specs.declared.node.Presence.TheVariants.{Always, Bit}
use Rattle.acn_grammar.specs.declared.node.SizeRule.TheVariants.{Prefix}
use Rattle.acn_packet_laws.specs.WorkedRows.{integer, truth, field, aligned}

-- SEQUENCE { x INTEGER (0..127), y SEQUENCE { a INTEGER (0..7) OPTIONAL, b BOOLEAN OPTIONAL } }
abbrev pub late_bits : Grammar
late_bits =
    node 1 (seq (field 120 (integer (pos 0) (pos 127) (Range (pos 0) 7)) Always (field 121 (node 1 (seq (field 97 (integer (pos 0) (pos 7) (Range (pos 0) 3)) Bit (field 98 (truth None None) Bit no_fields)) [])) Always no_fields)) [])

-- 0b has one bit for the two presence bits of y, which begins at bit 7, and no value stands at its front
pub record PresenceBitsMayBeShort : Type 0 where
  pub refused : Refusal late_bits (bits_of (11 ∷ [])) (record { path = 1 ∷ []; reason = short; at = 7 }) 8
  pub never : (d : Data) (n : ℕ) → Front late_bits (bits_of (11 ∷ [])) d n → ⊥

-- a0 has five bits for the thirteen of padding before b, which is named at bit 3, where its padding begins, and no value
-- stands at its front
pub record PaddingMayBeShort : Type 0 where
  pub refused : Refusal aligned (bits_of (160 ∷ [])) (record { path = 1 ∷ []; reason = short; at = 3 }) 8
  pub never : (d : Data) (n : ℕ) → Front aligned (bits_of (160 ∷ [])) d n → ⊥

-- SEQUENCE (SIZE (0..5)) OF INTEGER (0..9)
abbrev pub digits : Grammar
digits = node 1 (list (record { sizes = (pos 0, pos 5) ∷ []; rule = Prefix 0 3 }) (integer (pos 0) (pos 9) (Range (pos 0) 4)))

-- [1,7] is 11 bits of 42 e0. In 43 80 the second element is 12, which isn't permitted, and in 42 it has one bit of four; both
-- are named at bit 7, where it begins. An element of 12 is never written.
pub record AnElementIsNamedByItsPlace : Type 0 where
  pub written : IsWritten digits (list_of (element (int (pos 1)) (element (int (pos 7)) no_elements))) (take 11 (bits_of (66 ∷ 224 ∷ [])))
  pub refused : Refusal digits (bits_of (67 ∷ 128 ∷ [])) (record { path = 1 ∷ []; reason = out_of_range (pos 12); at = 7 }) 11
  pub cut : Refusal digits (bits_of (66 ∷ [])) (record { path = 1 ∷ []; reason = short; at = 7 }) 8
  pub never : (bs : List Bool) → IsWritten digits (list_of (element (int (pos 1)) (element (int (pos 12)) no_elements))) bs → ⊥
