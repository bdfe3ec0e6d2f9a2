-- Packets that are worked by hand: a CHOICE by its index, by conditions, and by the item of a determinant.
use Rattle.std.specs.Prelude.{◌≡◌, ℕ, ℤ, pos, Bool, true, false, List, [], ◌∷◌, take, None}
use Rattle.acn_num.specs.Bits.{bits as bits_of}
use Rattle.acn_grammar.specs.Fails.{Refusal}
use Rattle.acn_grammar.specs.Front.{IsWritten}
use Rattle.acn_grammar.specs.Grammar.{Grammar, Data, node, num, seq, choice, no_fields, no_alternatives, alternative, int, alt, record_of, no_places, filled}
use Rattle.acn_grammar.specs.Interval.{span}
use Rattle.acn_grammar.specs.LeafFails.{short, no_alternative}
use Rattle.acn_grammar.specs.Tree.{is_tree}
use Rattle.acn_grammar.specs.declared.node.ChoiceRule.{ChoiceRule}
use Rattle.acn_grammar.specs.declared.node.ChoiceRule.TheVariants.{Index, Tests, Item}
use Rattle.acn_grammar.specs.declared.node.NumCoding.TheVariants.{Range}
use Rattle.acn_grammar.specs.declared.node.NumKind.TheVariants.{Enumerated}
use Rattle.acn_grammar.specs.declared.node.Presence.TheVariants.{Always}
use Rattle.acn_grammar.specs.declared.node.Test.{Test}
use Rattle.acn_grammar.specs.declared.node.Test.TheVariants.{Equals}
use Rattle.acn_packet_laws.specs.WorkedRows.{integer, truth, u8, field, in_slot}

-- INTEGER (0..3)
abbrev pub two_bits : Grammar
two_bits = integer (pos 0) (pos 3) (Range (pos 0) 2)

-- CHOICE { p INTEGER (0..3), q INTEGER (0..3), r BOOLEAN }
abbrev pub by_index : Grammar
by_index = node 1 (choice (alternative (112 ∷ []) two_bits [] (alternative (113 ∷ []) two_bits [] (alternative (114 ∷ []) (truth None None) [] no_alternatives))) (Index 2))

-- {"q":3} is 4 bits of 70, and never those of 30, where the index is that of p. c0 has the index 3, which is that of no
-- alternative, and nothing is written for a fourth.
pub record AnIndexChooses : Type 0 where
  pub tree : is_tree by_index ≡ true
  pub bounds : span by_index ≡ record { least = 3; greatest = 4 }
  pub written : IsWritten by_index (alt 1 (int (pos 3))) (take 4 (bits_of (112 ∷ [])))
  pub refused : Refusal by_index (bits_of (192 ∷ [])) (record { path = []; reason = no_alternative; at = 0 }) 2
  pub never : IsWritten by_index (alt 1 (int (pos 3))) (take 4 (bits_of (48 ∷ []))) → ⊥
  pub no_fourth : (d : Data) (bs : List Bool) → IsWritten by_index (alt 3 d) bs → ⊥

-- CHOICE { p INTEGER (0..3), q INTEGER (0..3) }, each with its conditions
abbrev pub p_or_q : ChoiceRule → (p q : List Test) → Grammar
p_or_q rule p q = node 1 (choice (alternative (112 ∷ []) two_bits p (alternative (113 ∷ []) two_bits q no_alternatives)) rule)

-- {"c":{..}}
abbrev pub chosen : (i k : ℕ) → Data
chosen i k = record_of (filled (alt i (int (pos k))) no_places)

-- SEQUENCE { c CHOICE { p, q } }, with { t INTEGER u8, c [] { p [present-when t==1], q [present-when t==2] } }
abbrev pub by_conditions : Grammar
by_conditions = node 1 (seq (in_slot 116 u8 0 (field 99 (p_or_q Tests (Equals 0 (pos 1) ∷ []) (Equals 0 (pos 2) ∷ [])) Always no_fields)) (0 ∷ []))

-- {"c":{"q":3}} is 10 bits of 02 c0, and never those of 01 c0, where t is 1. With 03 00, where t is 3, no alternative has
-- its conditions, and 02 ends before q, which is named by its place among the alternatives.
pub record ConditionsChoose : Type 0 where
  pub tree : is_tree by_conditions ≡ true
  pub bounds : span by_conditions ≡ record { least = 10; greatest = 10 }
  pub written : IsWritten by_conditions (chosen 1 3) (take 10 (bits_of (2 ∷ 192 ∷ [])))
  pub refused : Refusal by_conditions (bits_of (3 ∷ 0 ∷ [])) (record { path = 1 ∷ []; reason = no_alternative; at = 8 }) 8
  pub cut : Refusal by_conditions (bits_of (2 ∷ [])) (record { path = 1 ∷ 1 ∷ []; reason = short; at = 8 }) 8
  pub never : IsWritten by_conditions (chosen 1 3) (take 10 (bits_of (1 ∷ 192 ∷ []))) → ⊥

-- ENUMERATED { p, q } and ENUMERATED { p, q, r }
abbrev pub enumerated : (high : ℤ) (width : ℕ) (items : List (List ℕ × ℤ)) → Grammar
enumerated high width items = node 1 (num (record { kind = Enumerated; set = (pos 0, high) ∷ []; coding = Range (pos 0) width; little = false; table = None; items = record { items = items; values = false } }))

abbrev pub two_kinds : Grammar
two_kinds = enumerated (pos 1) 1 ((112 ∷ [], pos 0) ∷ (113 ∷ [], pos 1) ∷ [])

abbrev pub three_kinds : Grammar
three_kinds = enumerated (pos 2) 2 ((112 ∷ [], pos 0) ∷ (113 ∷ [], pos 1) ∷ (114 ∷ [], pos 2) ∷ [])

-- SEQUENCE { c CHOICE { p, q } }, with { kind Kind [], c [determinant kind] }
abbrev pub by_item : (kind : Grammar) → Grammar
by_item kind = node 1 (seq (in_slot 107 kind 0 (field 99 (p_or_q (Item 0) [] []) Always no_fields)) (0 ∷ []))

-- {"c":{"p":2}} is 3 bits of 40, and never those of c0, where the kind is q. With a third kind, 80 has the kind r, and no
-- alternative has that name.
pub record AnItemChooses : Type 0 where
  pub tree : is_tree (by_item two_kinds) ≡ true
  pub bounds : span (by_item two_kinds) ≡ record { least = 3; greatest = 3 }
  pub written : IsWritten (by_item two_kinds) (chosen 0 2) (take 3 (bits_of (64 ∷ [])))
  pub third : is_tree (by_item three_kinds) ≡ true
  pub refused : Refusal (by_item three_kinds) (bits_of (128 ∷ [])) (record { path = 1 ∷ []; reason = no_alternative; at = 2 }) 2
  pub never : IsWritten (by_item two_kinds) (chosen 0 2) (take 3 (bits_of (192 ∷ []))) → ⊥
