-- Packets that are worked by hand: elements of a list that a pattern ends, and elements that have their own sizes.
use Rattle.std.specs.Prelude.{◌≡◌, ℕ, pos, Bool, true, List, [], ◌∷◌, take, replicate}
use Rattle.acn_num.specs.Bits.{bits as bits_of}
use Rattle.acn_grammar.specs.Fails.{Refusal}
use Rattle.acn_grammar.specs.Front.{IsWritten}
use Rattle.acn_grammar.specs.Grammar.{Grammar, Data, node, octets, seq, list, no_fields, int, octet_string, record_of, no_places, filled, list_of, element, no_elements}
use Rattle.acn_grammar.specs.Interval.{span}
use Rattle.acn_grammar.specs.LeafFails.{short, out_of_range, size_out_of_range}
use Rattle.acn_grammar.specs.Tree.{is_tree}
use Rattle.acn_grammar.specs.declared.node.Presence.TheVariants.{Always}
use Rattle.acn_grammar.specs.declared.node.SizeRule.{SizeRule}
use Rattle.acn_grammar.specs.declared.node.SizeRule.TheVariants.{Prefix, Slot}
use Rattle.acn_packet_laws.specs.RequestRows.{ended_list}
use Rattle.acn_packet_laws.specs.WorkedRows.{u8, field, in_slot}

-- [1] is 01 ff. Behind 01 02 a third element or the pattern is wanted, and the failure is the third element's; in c9 ff the
-- first element is 201, which isn't permitted. 01 alone is never written.
pub record AnEndedListNamesItsElements : Type 0 where
  pub written : IsWritten (ended_list 0) (list_of (element (int (pos 1)) no_elements)) (bits_of (1 ∷ 255 ∷ []))
  pub wanting : Refusal (ended_list 0) (bits_of (1 ∷ 2 ∷ [])) (record { path = 2 ∷ []; reason = short; at = 16 }) 24
  pub refused : Refusal (ended_list 0) (bits_of (201 ∷ 255 ∷ [])) (record { path = 0 ∷ []; reason = out_of_range (pos 201); at = 0 }) 8
  pub never : IsWritten (ended_list 0) (list_of (element (int (pos 1)) no_elements)) (bits_of (1 ∷ [])) → ⊥

-- OCTET STRING (SIZE (0..3))
abbrev pub up_to_three : SizeRule → Grammar
up_to_three rule = node 1 (octets (record { sizes = (pos 0, pos 3) ∷ []; rule = rule }))

-- SEQUENCE (SIZE (0..3)) OF SEQUENCE { d OCTET STRING (SIZE (0..3)) }, each element with { n INTEGER u8, d [size n] }
abbrev pub sized_element : Grammar
sized_element = node 1 (seq (in_slot 110 u8 0 (field 100 (up_to_three (Slot 0)) Always no_fields)) (0 ∷ []))

abbrev pub sized_elements : Grammar
sized_elements = node 1 (list (record { sizes = (pos 0, pos 3) ∷ []; rule = Prefix 0 2 }) sized_element)

-- {"d":it}
abbrev pub holding : List ℕ → Data
holding os = record_of (filled (octet_string os) no_places)

-- [{"d":"aa"},{"d":""}] is 26 bits of 80 6a 80 00, with a size in each element. In 80 01 00 the second element says four octets,
-- which aren't permitted, and four octets are never written.
pub record EachElementHasItsSize : Type 0 where
  pub tree : is_tree sized_elements ≡ true
  pub bounds : span sized_elements ≡ record { least = 2; greatest = 98 }
  pub written : IsWritten sized_elements (list_of (element (holding (170 ∷ [])) (element (holding []) no_elements))) (take 26 (bits_of (128 ∷ 106 ∷ 128 ∷ 0 ∷ [])))
  pub refused : Refusal sized_elements (bits_of (128 ∷ 1 ∷ 0 ∷ [])) (record { path = 1 ∷ 1 ∷ []; reason = size_out_of_range 4; at = 18 }) 18
  pub never : (bs : List Bool) → IsWritten sized_elements (list_of (element (holding (replicate 4 0)) no_elements)) bs → ⊥
