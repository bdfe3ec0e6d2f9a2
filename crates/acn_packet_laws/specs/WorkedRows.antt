-- Packets that are worked by hand: small grammars, what is written for a value, what bits are refused, and a case that must not hold.
use Rattle.std.specs.Prelude.{◌≡◌, ◌≢◌, ℕ, zero, suc, ◌^◌, ◌-◌, ℤ, pos, neg_ℤ, Bool, true, false, List, [], ◌∷◌, length, take, replicate, Option, Some, None, IsFalse}
use Rattle.acn_num.specs.Bits.{bits as bits_of, IsSigned}
use Rattle.acn_grammar.specs.Asks.{Equal, Avoid}
use Rattle.acn_grammar.specs.Code.{Any, IsMinimal}
use Rattle.acn_grammar.specs.Env.{Env}
use Rattle.acn_grammar.specs.Fails.{Refusal}
use Rattle.acn_grammar.specs.Front.{IsWritten, Front}
use Rattle.acn_grammar.specs.Grammar.{Grammar, Fields, Data, Elements, node, num, octets, text, seq, list, contained, no_fields, component, inserted, int, boolean, item, octet_string, characters, record_of, list_of, no_places, empty, filled, no_elements, element}
use Rattle.acn_grammar.specs.Interval.{span}
use Rattle.acn_grammar.specs.LeafFails.{short, not_minimal, bad_digit, bad_character, bad_pattern, too_long, size_out_of_range, content_size}
use Rattle.acn_grammar.specs.Meets.{conflict, breach, terminator_inside, bad_character as wrong_character}
use Rattle.acn_grammar.specs.Refused.{Refused}
use Rattle.acn_grammar.specs.Shaped.{fits}
use Rattle.acn_grammar.specs.Spell.{Spell}
use Rattle.acn_grammar.specs.Tree.{is_tree}
use Rattle.acn_grammar.specs.declared.node.NumCoding.{NumCoding}
use Rattle.acn_grammar.specs.declared.node.NumCoding.TheVariants.{Range, CountedSigned, PosInt, Bcd, BcdEnded, Ascii, Flag, Fixed}
use Rattle.acn_grammar.specs.declared.node.NumKind.TheVariants.{Integer, Boolean, Null, Enumerated}
use Rattle.acn_grammar.specs.declared.node.Presence.{Presence}
use Rattle.acn_grammar.specs.declared.node.Presence.TheVariants.{Always, Bit, When}
use Rattle.acn_grammar.specs.declared.node.SizeRule.{SizeRule}
use Rattle.acn_grammar.specs.declared.node.SizeRule.TheVariants.{Prefix, Slot}
use Rattle.acn_grammar.specs.declared.node.Test.TheVariants.{Flag as IsOn, Equals}

-- Short forms. A name is the number of its one letter.

abbrev pub integer : (low high : ℤ) → NumCoding → Grammar
integer low high coding = node 1 (num (record { kind = Integer; set = (low, high) ∷ []; coding = coding; little = false; table = None; items = record { items = []; values = false } }))

abbrev pub truth : (yes' no' : Option (List Bool)) → Grammar
truth p q = node 1 (num (record { kind = Boolean; set = (pos 0, pos 1) ∷ []; coding = Flag p q; little = false; table = None; items = record { items = []; values = false } }))

abbrev pub nothing : Grammar
nothing = node 1 (num (record { kind = Null; set = (pos 0, pos 0) ∷ []; coding = Range (pos 0) 0; little = false; table = None; items = record { items = []; values = false } }))

abbrev pub up_to_sixteen : SizeRule → Grammar
up_to_sixteen rule = node 1 (octets (record { sizes = (pos 0, pos 16) ∷ []; rule = rule }))

abbrev pub u8 : Grammar
u8 = integer (pos 0) (pos 255) (PosInt 8)

abbrev pub field : (name : ℕ) → Grammar → Presence → Fields → Fields
field name g presence fs = component (name ∷ []) g presence None None fs

abbrev pub in_slot : (name : ℕ) → Grammar → (slot : ℕ) → Fields → Fields
in_slot name g slot fs = inserted (name ∷ []) g (Some slot) fs

abbrev pub two : Data → Data → Data
two a b = record_of (filled a (filled b no_places))

-- SEQUENCE { a INTEGER (0..255), b INTEGER (0..7) }
abbrev pub two_integers : Grammar
two_integers = node 1 (seq (field 97 (integer (pos 0) (pos 255) (Range (pos 0) 8)) Always (field 98 (integer (pos 0) (pos 7) (Range (pos 0) 3)) Always no_fields)) [])

-- {"a":5,"b":3} is 11 bits of 05 60, and b is never 9
pub record FieldsFollowEachOther : Type 0 where
  pub written : IsWritten two_integers (two (int (pos 5)) (int (pos 3))) (take 11 (bits_of (5 ∷ 96 ∷ [])))
  pub bounds : span two_integers ≡ record { least = 11; greatest = 11 }
  pub never : (bs : List Bool) → IsWritten two_integers (two (int (pos 5)) (int (pos 9))) bs → ⊥

-- 05 alone is Short at b, which begins at bit 8, and no value stands at its front
pub record AnEndOfBitsIsShort : Type 0 where
  pub refused : Refusal two_integers (bits_of (5 ∷ [])) (record { path = 1 ∷ []; reason = short; at = 8 }) 8
  pub never : (d : Data) (n : ℕ) → Front two_integers (bits_of (5 ∷ [])) d n → ⊥

-- data OCTET STRING (SIZE (0..16)), with { len INTEGER u8, data [size len] }
abbrev pub sized_octets : Grammar
sized_octets = node 1 (seq (in_slot 108 u8 0 (field 100 (up_to_sixteen (Slot 0)) Always no_fields)) (0 ∷ []))

-- {"data":"a1b2"} is 02 a1 b2, and seventeen octets are refused and never written
pub record ASizeStandsInItsField : Type 0 where
  pub written : IsWritten sized_octets (record_of (filled (octet_string (161 ∷ 178 ∷ [])) no_places)) (bits_of (2 ∷ 161 ∷ 178 ∷ []))
  pub refused : Refusal sized_octets (bits_of (17 ∷ replicate 17 0)) (record { path = 1 ∷ []; reason = size_out_of_range 17; at = 8 }) 8
  pub never : (bs : List Bool) → IsWritten sized_octets (record_of (filled (octet_string (replicate 17 0)) no_places)) bs → ⊥

-- x and y OCTET STRING (SIZE (0..16)), both with [size len]
abbrev pub one_size : Grammar
one_size = node 1 (seq (in_slot 108 u8 0 (field 120 (up_to_sixteen (Slot 0)) Always (field 121 (up_to_sixteen (Slot 0)) Always no_fields))) (0 ∷ []))

abbrev pub uneven : Data
uneven = two (octet_string (1 ∷ [])) (octet_string (2 ∷ 3 ∷ []))

-- {"x":"01","y":"0203"} is a conflict at y: len is 1 already, and is to be 2. It is never written.
pub record SizesInOneFieldAgree : Type 0 where
  pub refused : Refused one_size uneven (record { path = 2 ∷ []; why = conflict (0 ∷ []) (Some (Equal (pos 1))) (Equal (pos 2)) })
  pub never : (bs : List Bool) → IsWritten one_size uneven bs → ⊥

-- data OCTET STRING (SIZE (0..16)) OPTIONAL, with { flag BOOLEAN, len INTEGER u8, data [present-when flag, size len] }
abbrev pub flagged : Grammar
flagged = node 1 (seq (in_slot 102 (truth None None) 0 (in_slot 108 u8 1 (field 100 (up_to_sixteen (Slot 1)) (When (IsOn 0 ∷ [])) no_fields))) (0 ∷ 1 ∷ []))

-- {} is 9 bits of 00 00 and {"data":"a1"} 17 bits of 80 d0 80; 04 80, where len is 9, is read as {}; data that isn't
-- there has no octets behind len
pub record WhatNothingAsksAboutIsLeast : Type 0 where
  pub absent : IsWritten flagged (record_of (empty no_places)) (take 9 (bits_of (0 ∷ 0 ∷ [])))
  pub present : IsWritten flagged (record_of (filled (octet_string (161 ∷ [])) no_places)) (take 17 (bits_of (128 ∷ 208 ∷ 128 ∷ [])))
  pub read : Front flagged (bits_of (4 ∷ 128 ∷ [])) (record_of (empty no_places)) 9
  pub never : (bs : List Bool) → IsWritten flagged (record_of (empty no_places)) bs → length bs ≢ 9 → ⊥

-- INTEGER (0..999) in three decimal digits of 4 bits: 42 is 042 and 0a 20 has a digit ten. A thousand has no room.
pub record EachDigitIsBelowTen : Type 0 where
  pub written : IsWritten (integer (pos 0) (pos 999) (Bcd 12)) (int (pos 42)) (take 12 (bits_of (4 ∷ 32 ∷ [])))
  pub refused : Refusal (integer (pos 0) (pos 999) (Bcd 12)) (bits_of (10 ∷ 32 ∷ [])) (record { path = []; reason = bad_digit; at = 0 }) 12
  pub never : IsFalse (is_tree (integer (pos 0) (pos 1000) (Bcd 12)))

-- IA5String (SIZE (0..3)) with 00 at its end
abbrev pub ended_text : Grammar
ended_text = node 1 (text (record { sized = record { sizes = (pos 0, pos 3) ∷ []; rule = Prefix 0 0 }; ended = Some (bits_of (0 ∷ [])); alphabet = (pos 0, pos 127) ∷ []; width = 8; indexed = false }))

-- "ab" is 61 62 00; 61 62 63 64 00 has no end among its first four octets; a text with 00 inside is never written
pub record ATerminatorEndsTheText : Type 0 where
  pub written : IsWritten ended_text (characters (97 ∷ 98 ∷ [])) (bits_of (97 ∷ 98 ∷ 0 ∷ []))
  pub refused : Refusal ended_text (bits_of (97 ∷ 98 ∷ 99 ∷ 100 ∷ 0 ∷ [])) (record { path = []; reason = too_long; at = 0 }) 32
  pub unfit : breach ended_text (characters (97 ∷ 0 ∷ [])) ≡ Some (record { path = []; why = terminator_inside 1 })
  pub never : (bs : List Bool) → IsWritten ended_text (characters (97 ∷ 0 ∷ [])) bs → ⊥

-- x in one bit, p NULL OPTIONAL where x is 0, q NULL OPTIONAL where x is 1
abbrev pub one_of_two : Grammar
one_of_two = node 1 (seq (in_slot 120 (integer (pos 0) (pos 1) (PosInt 1)) 0 (field 112 nothing (When (Equals 0 (pos 0) ∷ [])) (field 113 nothing (When (Equals 0 (pos 1) ∷ [])) no_fields))) (0 ∷ []))

-- {} is a conflict at q: x isn't 0 already, and isn't to be 1. It is never written.
pub record ConditionsThatAreMissedAreAvoided : Type 0 where
  pub refused : Refused one_of_two (record_of (empty (empty no_places))) (record { path = 2 ∷ []; why = conflict (0 ∷ []) None (Avoid (pos 1)) })
  pub never : (bs : List Bool) → IsWritten one_of_two (record_of (empty (empty no_places))) bs → ⊥

-- SEQUENCE { a INTEGER (0..7), b INTEGER (0..255) }, b aligned to 16 bits
abbrev pub aligned : Grammar
aligned = node 1 (seq (field 97 (integer (pos 0) (pos 7) (Range (pos 0) 3)) Always (component (98 ∷ []) (node 16 (num (record { kind = Integer; set = (pos 0, pos 255) ∷ []; coding = Range (pos 0) 8; little = false; table = None; items = record { items = []; values = false } }))) Always None None no_fields)) [])

-- {"a":5,"b":1} is a0 00 01, and bf ff 01 is read as it; without padding it is neither
pub record PaddingIsReadInAnyWay : Type 0 where
  pub written : IsWritten aligned (two (int (pos 5)) (int (pos 1))) (bits_of (160 ∷ 0 ∷ 1 ∷ []))
  pub read : Front aligned (bits_of (191 ∷ 255 ∷ 1 ∷ [])) (two (int (pos 5)) (int (pos 1))) 24
  pub bounds : span aligned ≡ record { least = 11; greatest = 26 }
  pub never : (bs : List Bool) → Spell aligned Any aligned [] (two (int (pos 5)) (int (pos 1))) 0 bs → length bs ≢ 24 → ⊥

-- INTEGER
abbrev pub free : Grammar
free = integer (neg_ℤ (pos (2 ^ 63))) (pos (2 ^ 63 - 1)) CountedSigned

-- 128 is 02 00 80; 02 00 05 has an octet too many; one octet never holds 128
pub record ACountIsTheLeast : Type 0 where
  pub written : IsWritten free (int (pos 128)) (bits_of (2 ∷ 0 ∷ 128 ∷ []))
  pub refused : Refusal free (bits_of (2 ∷ 0 ∷ 5 ∷ [])) (record { path = []; reason = not_minimal; at = 0 }) 24
  pub never : (octet : List Bool) → IsSigned 8 (pos 128) octet → ⊥

-- BOOLEAN with 'A5'H for true: false is written as 5a, and 00 is read as it. With '00'H for false too, 01 is neither,
-- and one pattern is never both.
pub record APatternHasAComplement : Type 0 where
  pub written : IsWritten (truth (Some (bits_of (165 ∷ []))) None) (boolean false) (bits_of (90 ∷ []))
  pub read : Front (truth (Some (bits_of (165 ∷ []))) None) (bits_of (0 ∷ [])) (boolean false) 8
  pub refused : Refusal (truth (Some (bits_of (165 ∷ []))) (Some (bits_of (0 ∷ [])))) (bits_of (1 ∷ [])) (record { path = []; reason = bad_pattern; at = 0 }) 8
  pub never : IsFalse (is_tree (truth (Some (bits_of (165 ∷ []))) (Some (bits_of (165 ∷ [])))))

-- INTEGER (-99..99) in three characters: -7 is -07, and -00 isn't minimal. Numbers that are none below 0 have no sign.
pub record ZeroHasNoMinus : Type 0 where
  pub written : IsWritten (integer (neg_ℤ (pos 99)) (pos 99) (Ascii 24 true)) (int (neg_ℤ (pos 7))) (bits_of (45 ∷ 48 ∷ 55 ∷ []))
  pub refused : Refusal (integer (neg_ℤ (pos 99)) (pos 99) (Ascii 24 true)) (bits_of (45 ∷ 48 ∷ 48 ∷ [])) (record { path = []; reason = not_minimal; at = 0 }) 24
  pub never : IsFalse (is_tree (integer (pos 0) (pos 99) (Ascii 24 true)))

-- INTEGER (0..9999) in decimal digits with an end: 120 is 12 0f, and 01 2f has a zero in front, as no least digits have
pub record DigitsWithAnEndAreLeast : Type 0 where
  pub written : IsWritten (integer (pos 0) (pos 9999) BcdEnded) (int (pos 120)) (bits_of (18 ∷ 15 ∷ []))
  pub refused : Refusal (integer (pos 0) (pos 9999) BcdEnded) (bits_of (1 ∷ 47 ∷ [])) (record { path = []; reason = not_minimal; at = 0 }) 16
  pub bounds : span (integer (pos 0) (pos 9999) BcdEnded) ≡ record { least = 8; greatest = 20 }
  pub never : IsMinimal (0 ∷ 1 ∷ 2 ∷ []) → ⊥

-- IA5String (SIZE (2)) (FROM ("a".."c")), in 2 bits a character
abbrev pub letters : (indexed : Bool) → Grammar
letters indexed = node 1 (text (record { sized = record { sizes = (pos 2, pos 2) ∷ []; rule = Prefix 2 0 }; ended = None; alphabet = (pos 97, pos 99) ∷ []; width = 2; indexed = indexed }))

-- "ca" is 4 bits of 80, c0 has a fourth character, and "cd" isn't permitted; without places the characters don't fit
pub record CharactersStandByTheirPlaces : Type 0 where
  pub written : IsWritten (letters true) (characters (99 ∷ 97 ∷ [])) (take 4 (bits_of (128 ∷ [])))
  pub refused : Refusal (letters true) (bits_of (192 ∷ [])) (record { path = []; reason = bad_character; at = 0 }) 4
  pub unfit : breach (letters true) (characters (99 ∷ 100 ∷ [])) ≡ Some (record { path = []; why = wrong_character 1 })
  pub never : IsFalse (is_tree (letters false))

-- SEQUENCE { a INTEGER (0..7) OPTIONAL, b BOOLEAN }
abbrev pub optional : Grammar
optional = node 1 (seq (field 97 (integer (pos 0) (pos 7) (Range (pos 0) 3)) Bit (field 98 (truth None None) Always no_fields)) [])

-- {"b":true} is 2 bits of 40 and {"a":5,"b":false} 5 bits of d0; b is never left out
pub record PresenceBitsStandInFront : Type 0 where
  pub absent : IsWritten optional (record_of (empty (filled (boolean true) no_places))) (take 2 (bits_of (64 ∷ [])))
  pub present : IsWritten optional (two (int (pos 5)) (boolean false)) (take 5 (bits_of (208 ∷ [])))
  pub bounds : span optional ≡ record { least = 2; greatest = 5 }
  pub never : IsFalse (fits optional (record_of (filled (int (pos 5)) (empty no_places))))

-- SEQUENCE (SIZE (0..5)) OF INTEGER (0..15)
abbrev pub up_to_five : Grammar
up_to_five = node 1 (list (record { sizes = (pos 0, pos 5) ∷ []; rule = Prefix 0 3 }) (integer (pos 0) (pos 15) (Range (pos 0) 4)))

abbrev pub zeros : ℕ → Elements
zeros zero = no_elements
zeros (suc n) = element (int (pos 0)) (zeros n)

-- [1,2] is 11 bits of 42 40, c0 has the size 6, and six elements are never written
pub record ASizeStandsInFront : Type 0 where
  pub written : IsWritten up_to_five (list_of (element (int (pos 1)) (element (int (pos 2)) no_elements))) (take 11 (bits_of (66 ∷ 64 ∷ [])))
  pub refused : Refusal up_to_five (bits_of (192 ∷ [])) (record { path = []; reason = size_out_of_range 6; at = 0 }) 3
  pub bounds : span up_to_five ≡ record { least = 3; greatest = 23 }
  pub never : (bs : List Bool) → IsWritten up_to_five (list_of (zeros 6)) bs → ⊥

-- A primary header (CCSDS 133.0-B-2) and its contents.

abbrev pub fixed : (name : ℕ) → List Bool → Fields → Fields
fixed name pattern fs =
    inserted (name ∷ []) (node 1 (num (record { kind = Null; set = (pos 0, pos 0) ∷ []; coding = Fixed pattern; little = false; table = None; items = record { items = []; values = false } }))) None fs

-- length INTEGER (1..65536) [size 16, encoding pos-int], written as one less
abbrev pub one_less : Grammar
one_less = node 1 (num (record { kind = Integer; set = (pos 1, pos 65536) ∷ []; coding = PosInt 16; little = false; table = Some (record { name = 109 ∷ []; lines = (pos 1, pos 65536, pos 0) ∷ [] }); items = record { items = []; values = false } }))

-- ENUMERATED { off(0), safe(1), nominal(2) }
abbrev pub mode : Grammar
mode = node 1 (num (record { kind = Enumerated; set = (pos 0, pos 2) ∷ []; coding = Range (pos 0) 2; little = false; table = None; items = record { items = (111 ∷ [], pos 0) ∷ (115 ∷ [], pos 1) ∷ (110 ∷ [], pos 2) ∷ []; values = false } }))

-- SEQUENCE { time INTEGER (0..4095), mode, temp INTEGER (-40..87) }
abbrev pub housekeeping : Grammar
housekeeping = node 1 (seq (field 116 (integer (pos 0) (pos 4095) (Range (pos 0) 12)) Always (field 109 mode Always (field 117 (integer (neg_ℤ (pos 40)) (pos 87) (Range (neg_ℤ (pos 40)) 7)) Always no_fields))) [])

-- OCTET STRING (CONTAINING it)
abbrev pub body : Grammar
body = node 1 (contained (record { sizes = (pos 0, pos 65536) ∷ []; rule = Slot 0 }) housekeeping)

abbrev pub telemetry : Grammar
telemetry =
    node 1 (seq
    (fixed 118 (false ∷ false ∷ false ∷ [])
    (fixed 121 (false ∷ [])
    (fixed 115 (false ∷ [])
    (field 97 (integer (pos 0) (pos 2047) (PosInt 11)) Always
    (fixed 102 (true ∷ true ∷ [])
    (field 99 (integer (pos 0) (pos 16383) (PosInt 14)) Always
    (in_slot 108 one_less 0
    (field 98 body Always no_fields))))))))
    (0 ∷ []))

-- 00 64 c0 07 00 03 3e 89 48 00 says four octets and has contents of 21 bits, so the last one is left over. Without it
-- the body is Short. Contents of 21 bits never fill four octets.
pub record ContentsFillTheirOctets : Type 0 where
  pub refused : Refusal telemetry (bits_of (0 ∷ 100 ∷ 192 ∷ 7 ∷ 0 ∷ 3 ∷ 62 ∷ 137 ∷ 72 ∷ 0 ∷ [])) (record { path = 7 ∷ []; reason = content_size 4 21; at = 48 }) 80
  pub cut : Refusal telemetry (bits_of (0 ∷ 100 ∷ 192 ∷ 7 ∷ 0 ∷ 3 ∷ 62 ∷ 137 ∷ 72 ∷ [])) (record { path = 7 ∷ []; reason = short; at = 48 }) 72
  pub never : (env : Env) (bs : List Bool) → Spell telemetry Any body env (record_of (filled (int (pos 1000)) (filled (item 2) (filled (int (pos 1)) no_places)))) 48 bs → length bs ≢ 32
