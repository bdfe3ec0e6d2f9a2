-- Packets that are worked by hand: lists that a pattern ends, and components that are determinants; and nodes that are not sound.
use Rattle.std.specs.Prelude.{◌≡◌, ℕ, pos, Bool, true, false, List, [], ◌∷◌, Option, Some, None}
use Rattle.acn_num.specs.Bits.{low_bits, bits as bits_of}
use Rattle.acn_grammar.specs.Asks.{Equal}
use Rattle.acn_grammar.specs.Fails.{Refusal}
use Rattle.acn_grammar.specs.Front.{IsWritten}
use Rattle.acn_grammar.specs.Grammar.{Grammar, Fields, node, num, octets, list, seq, choice, no_fields, component, inserted, no_alternatives, alternative, int, octet_string, list_of, element, no_elements}
use Rattle.acn_grammar.specs.Interval.{span, value_count}
use Rattle.acn_grammar.specs.LeafFails.{too_long, size_out_of_range}
use Rattle.acn_grammar.specs.Meets.{conflict}
use Rattle.acn_grammar.specs.Refused.{Refused}
use Rattle.acn_grammar.specs.Sound.{Sound}
use Rattle.acn_grammar.specs.Tree.{is_tree}
use Rattle.acn_grammar.specs.declared.node.ChoiceRule.TheVariants.{Item}
use Rattle.acn_grammar.specs.declared.node.NumCoding.TheVariants.{Range, PosInt}
use Rattle.acn_grammar.specs.declared.node.NumKind.TheVariants.{Enumerated}
use Rattle.acn_grammar.specs.declared.node.Presence.{Presence}
use Rattle.acn_grammar.specs.declared.node.Presence.TheVariants.{Always, Bit, When}
use Rattle.acn_grammar.specs.declared.node.SizeRule.TheVariants.{Prefix, Slot, Ended}
use Rattle.acn_grammar.specs.declared.node.Test.TheVariants.{Equals}
use Rattle.acn_packet_laws.specs.WorkedRows.{integer, u8, up_to_sixteen, two}

-- SEQUENCE (SIZE (low..3)) OF INTEGER (0..200), ended by 'FF'H
abbrev pub small : Grammar
small = integer (pos 0) (pos 200) (Range (pos 0) 8)

abbrev pub ended : (low : ℕ) → (pattern : List Bool) → Grammar
ended low pattern = node 1 (list (record { sizes = (pos low, pos 3) ∷ []; rule = Ended pattern }) small)

abbrev pub ended_list : (low : ℕ) → Grammar
ended_list low = ended low (low_bits 8 255)

-- [1,2] is 01 02 ff and [] is ff; ff alone has no element where one has to be there, and 01 02 03 04 has no end behind the third
pub record APatternEndsTheList : Type 0 where
  pub tree : is_tree (ended_list 0) ≡ true
  pub bounds : span (ended_list 0) ≡ record { least = 8; greatest = 32 }
  pub values : value_count (ended_list 0) ≡ 4
  pub written : IsWritten (ended_list 0) (list_of (element (int (pos 1)) (element (int (pos 2)) no_elements))) (bits_of (1 ∷ 2 ∷ 255 ∷ []))
  pub empty : IsWritten (ended_list 0) (list_of no_elements) (low_bits 8 255)
  pub too_few : Refusal (ended_list 1) (low_bits 8 255) (record { path = []; reason = size_out_of_range 0; at = 0 }) 8
  pub too_many : Refusal (ended_list 0) (bits_of (1 ∷ 2 ∷ 3 ∷ 4 ∷ [])) (record { path = []; reason = too_long; at = 0 }) 32
  pub only_lists : is_tree (up_to_sixteen (Ended (low_bits 8 255))) ≡ false
  pub some_bits : is_tree (ended 0 []) ≡ false

-- SEQUENCE { n INTEGER (0..255), d OCTET STRING (SIZE (0..16)) } with { n [], d [size n] }
abbrev pub counted : Presence → Option ℕ → (home : List ℕ) → Grammar
counted presence slot home = node 1 (seq (component (110 ∷ []) (integer (pos 0) (pos 255) (Range (pos 0) 8)) presence None slot (component (100 ∷ []) (up_to_sixteen (Slot 0)) Always None None no_fields)) home)

abbrev pub counted_octets : Grammar
counted_octets = counted Always (Some 0) (0 ∷ [])

-- {"n":2,"d":"a1b2"} is 02 a1 b2; {"n":3,"d":"a1"} is a conflict at d. A component that is a determinant is always there, has a home and a use.
pub record AComponentDetermines : Type 0 where
  pub tree : is_tree counted_octets ≡ true
  pub bounds : span counted_octets ≡ record { least = 8; greatest = 136 }
  pub written : IsWritten counted_octets (two (int (pos 2)) (octet_string (161 ∷ 178 ∷ []))) (bits_of (2 ∷ 161 ∷ 178 ∷ []))
  pub refused : Refused counted_octets (two (int (pos 3)) (octet_string (161 ∷ []))) (record { path = 1 ∷ []; why = conflict (0 ∷ []) (Some (Equal (pos 3))) (Equal (pos 1)) })
  pub not_optional : is_tree (counted Bit (Some 0) (0 ∷ [])) ≡ false
  pub no_home : is_tree (counted Always (Some 0) []) ≡ false
  pub no_slot : is_tree (counted Always None []) ≡ false
  pub no_use : is_tree (node 1 (seq (component (110 ∷ []) (integer (pos 0) (pos 255) (Range (pos 0) 8)) Always None (Some 0) no_fields) (0 ∷ []))) ≡ false

-- A node that is sound, and some that are not.

abbrev pub IsSound : Grammar → Type 0
IsSound root = Sound root 0 [] (λ s. false) root

-- len INTEGER u8 in front of some fields
abbrev pub behind_len : Fields → Grammar
behind_len fs = node 1 (seq (inserted (108 ∷ []) u8 (Some 0) fs) (0 ∷ []))

abbrev pub octets_by_len : (name : ℕ) → Fields → Fields
octets_by_len name fs = component (name ∷ []) (up_to_sixteen (Slot 0)) Always None None fs

-- the field of an outer slot inside a component that may be absent
abbrev pub leaving : Grammar
leaving = node 1 (seq (component (97 ∷ []) (node 1 (seq (inserted (108 ∷ []) u8 (Some 0) no_fields) [])) Bit None None (octets_by_len 120 no_fields)) (0 ∷ []))

-- the alternative b under a determinant whose one item is a
abbrev pub kinds : Grammar
kinds = node 1 (num (record { kind = Enumerated; set = (pos 0, pos 0) ∷ []; coding = PosInt 8; little = false; table = None; items = record { items = (97 ∷ [], pos 0) ∷ []; values = false } }))

abbrev pub without_item : Grammar
without_item = node 1 (seq (inserted (107 ∷ []) kinds (Some 0) (component (99 ∷ []) (node 1 (choice (alternative (98 ∷ []) u8 [] no_alternatives) (Item 0))) Always None None no_fields)) (0 ∷ []))

pub record UnsoundNodesAreTold : Type 0 where
  -- two sizes in one field
  pub sound : IsSound (behind_len (octets_by_len 120 (octets_by_len 121 no_fields)))
  -- a size in front in more bits than its range needs
  pub wide_prefix : IsSound (up_to_sixteen (Prefix 0 70)) → ⊥
  -- two conditions on one component
  pub two_conditions : IsSound (behind_len (component (120 ∷ []) u8 (When (Equals 0 (pos 1) ∷ Equals 0 (pos 2) ∷ [])) None None no_fields)) → ⊥
  -- a size before its field
  pub size_before : IsSound (node 1 (seq (octets_by_len 120 (inserted (108 ∷ []) u8 (Some 0) no_fields)) (0 ∷ []))) → ⊥
  -- a slot with two fields
  pub two_fields : IsSound (behind_len (inserted (109 ∷ []) u8 (Some 0) (octets_by_len 120 no_fields))) → ⊥
  -- a slot at home that has no field inside
  pub no_field : IsSound (node 1 (seq (component (120 ∷ []) u8 Always None None no_fields) (0 ∷ []))) → ⊥
  -- a slot at home in a SEQUENCE and in one inside it
  pub two_homes : IsSound (node 1 (seq (component (97 ∷ []) (behind_len (octets_by_len 120 no_fields)) Always None None no_fields) (0 ∷ []))) → ⊥
  -- an inserted number that says no slot and isn't a NULL
  pub not_null : IsSound (node 1 (seq (inserted (108 ∷ []) u8 None no_fields) [])) → ⊥
  -- two components of one name
  pub names_alike : IsSound (behind_len (octets_by_len 120 (octets_by_len 120 no_fields))) → ⊥
  pub field_leaves : IsSound leaving → ⊥
  pub no_item : IsSound without_item → ⊥
  -- nothing tells an octet string from the pattern that ends the list
  pub untold : IsSound (node 1 (list (record { sizes = (pos 0, pos 4) ∷ []; rule = Ended (false ∷ true ∷ []) }) (node 1 (octets (record { sizes = (pos 2, pos 2) ∷ []; rule = Prefix 2 0 }))))) → ⊥
