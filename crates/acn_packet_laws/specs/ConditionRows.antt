-- Packets that are worked by hand: conditions that are missed, and a size that meets one of them.
use Rattle.std.specs.Prelude.{◌≡◌, pos, Bool, true, List, [], ◌∷◌, Some}
use Rattle.acn_num.specs.Bits.{bits as bits_of}
use Rattle.acn_grammar.specs.Asks.{Equal, Avoid}
use Rattle.acn_grammar.specs.Front.{IsWritten, Front}
use Rattle.acn_grammar.specs.Grammar.{Grammar, Data, node, seq, no_fields, null, octet_string, record_of, no_places, empty, filled}
use Rattle.acn_grammar.specs.Interval.{span}
use Rattle.acn_grammar.specs.Meets.{conflict}
use Rattle.acn_grammar.specs.Refused.{Refused}
use Rattle.acn_grammar.specs.Tree.{is_tree}
use Rattle.acn_grammar.specs.declared.node.Presence.TheVariants.{Always, When}
use Rattle.acn_grammar.specs.declared.node.SizeRule.TheVariants.{Slot}
use Rattle.acn_grammar.specs.declared.node.Test.TheVariants.{Equals}
use Rattle.acn_packet_laws.specs.ListRows.{up_to_three}
use Rattle.acn_packet_laws.specs.WorkedRows.{u8, field, in_slot, nothing}

-- SEQUENCE { p NULL OPTIONAL, q NULL OPTIONAL }, with { x INTEGER u8, p [present-when x==0], q [present-when x==1] }
abbrev pub zero_or_one : Grammar
zero_or_one = node 1 (seq (in_slot 120 u8 0 (field 112 nothing (When (Equals 0 (pos 0) ∷ [])) (field 113 nothing (When (Equals 0 (pos 1) ∷ [])) no_fields))) (0 ∷ []))

abbrev pub neither : Data
neither = record_of (empty (empty no_places))

-- {} is 02, since x is the least number that is neither 0 nor 1, and never 07, which is read as {} too. {"q":null} is 01.
pub record TheLeastThatIsMissed : Type 0 where
  pub tree : is_tree zero_or_one ≡ true
  pub bounds : span zero_or_one ≡ record { least = 8; greatest = 8 }
  pub written : IsWritten zero_or_one neither (bits_of (2 ∷ []))
  pub read : Front zero_or_one (bits_of (7 ∷ [])) neither 8
  pub present : IsWritten zero_or_one (record_of (empty (filled null no_places))) (bits_of (1 ∷ []))
  pub never : IsWritten zero_or_one neither (bits_of (7 ∷ [])) → ⊥

-- SEQUENCE { p NULL OPTIONAL, d OCTET STRING (SIZE (0..3)) }, with { x INTEGER u8, p [present-when x==1], d [size x] }
abbrev pub size_and_condition : Grammar
size_and_condition = node 1 (seq (in_slot 120 u8 0 (field 112 nothing (When (Equals 0 (pos 1) ∷ [])) (field 100 (up_to_three (Slot 0)) Always no_fields))) (0 ∷ []))

abbrev pub one_octet : Data
one_octet = record_of (empty (filled (octet_string (170 ∷ [])) no_places))

-- {"d":"aa"} is a conflict at d: without p x isn't 1, and is to be 1. It is never written.
pub record ASizeMeetsACondition : Type 0 where
  pub tree : is_tree size_and_condition ≡ true
  pub refused : Refused size_and_condition one_octet (record { path = 2 ∷ []; why = conflict (0 ∷ []) (Some (Avoid (pos 1))) (Equal (pos 1)) })
  pub never : (bs : List Bool) → IsWritten size_and_condition one_octet bs → ⊥
