-- Packets that are worked by hand: codings of numbers.
use Rattle.std.specs.Prelude.{◌≡◌, ℕ, ◌^◌, ◌-◌, ℤ, pos, neg_ℤ, Bool, true, false, [], ◌∷◌, take, Some, None, IsFalse}
use Rattle.acn_num.specs.Bits.{low_bits, bits as bits_of}
use Rattle.acn_grammar.specs.Fails.{Refusal}
use Rattle.acn_grammar.specs.Front.{IsWritten}
use Rattle.acn_grammar.specs.Grammar.{Grammar, node, num, int, item}
use Rattle.acn_grammar.specs.Interval.{span}
use Rattle.acn_grammar.specs.LeafFails.{short, out_of_range, not_minimal, bad_digit, too_long}
use Rattle.acn_grammar.specs.Tree.{is_tree}
use Rattle.acn_grammar.specs.declared.node.NumCoding.{NumCoding}
use Rattle.acn_grammar.specs.declared.node.NumCoding.TheVariants.{Range, CountedFrom, PosInt, Twos, BcdEnded, AsciiEnded}
use Rattle.acn_grammar.specs.declared.node.NumKind.TheVariants.{Integer, Enumerated}
use Rattle.acn_packet_laws.specs.WorkedRows.{integer}

-- INTEGER (0..1000) with [size .., encoding pos-int, endianness little]
abbrev pub little : (width : ℕ) → Grammar
little width = node 1 (num (record { kind = Integer; set = (pos 0, pos 1000) ∷ []; coding = PosInt width; little = true; table = None; items = record { items = []; values = false } }))

-- In two octets 258 is 02 01, and never 01 02. e9 03 is 1001, which isn't permitted. The octets have to be whole.
pub record LittleTurnsTheOctets : Type 0 where
  pub tree : is_tree (little 16) ≡ true
  pub written : IsWritten (little 16) (int (pos 258)) (bits_of (2 ∷ 1 ∷ []))
  pub refused : Refusal (little 16) (bits_of (233 ∷ 3 ∷ [])) (record { path = []; reason = out_of_range (pos 1001); at = 0 }) 16
  pub never : IsWritten (little 16) (int (pos 258)) (bits_of (1 ∷ 2 ∷ [])) → ⊥
  pub whole : IsFalse (is_tree (little 12))

-- INTEGER (low..2047) with [size 12, encoding twos-complement]
abbrev pub signed : (low : ℤ) → Grammar
signed low = integer low (pos 2047) (Twos 12)

-- -1 is 12 bits of ff f0, and never those of 00 10. 80 00 begins with -2048, which isn't permitted where the least is -2000.
-- -2049 has no room.
pub record TwosComplementHasASign : Type 0 where
  pub tree : is_tree (signed (neg_ℤ (pos 2048))) ≡ true
  pub written : IsWritten (signed (neg_ℤ (pos 2048))) (int (neg_ℤ (pos 1))) (take 12 (bits_of (255 ∷ 240 ∷ [])))
  pub refused : Refusal (signed (neg_ℤ (pos 2000))) (bits_of (128 ∷ 0 ∷ [])) (record { path = []; reason = out_of_range (neg_ℤ (pos 2048)); at = 0 }) 12
  pub never : IsWritten (signed (neg_ℤ (pos 2048))) (int (neg_ℤ (pos 1))) (take 12 (bits_of (0 ∷ 16 ∷ []))) → ⊥
  pub no_room : IsFalse (is_tree (signed (neg_ℤ (pos 2049))))

-- INTEGER (5..MAX)
abbrev pub from_five : Grammar
from_five = integer (pos 5) (pos (2 ^ 64 - 1)) (CountedFrom (pos 5))

-- 5 is 01 00 and 261 is 02 01 00: what stands behind the count is the difference from 5. 02 00 05 has an octet too many, 00
-- has none, 09 says more than eight, and 02 01 ends inside the octets. 5 is never 01 05.
pub record ACountBeginsAtTheLowest : Type 0 where
  pub tree : is_tree from_five ≡ true
  pub least : IsWritten from_five (int (pos 5)) (bits_of (1 ∷ 0 ∷ []))
  pub written : IsWritten from_five (int (pos 261)) (bits_of (2 ∷ 1 ∷ 0 ∷ []))
  pub refused : Refusal from_five (bits_of (2 ∷ 0 ∷ 5 ∷ [])) (record { path = []; reason = not_minimal; at = 0 }) 24
  pub none : Refusal from_five (bits_of (0 ∷ [])) (record { path = []; reason = not_minimal; at = 0 }) 8
  pub nine : Refusal from_five (bits_of (9 ∷ [])) (record { path = []; reason = too_long; at = 0 }) 8
  pub cut : Refusal from_five (bits_of (2 ∷ 1 ∷ [])) (record { path = []; reason = short; at = 0 }) 16
  pub never : IsWritten from_five (int (pos 5)) (bits_of (1 ∷ 5 ∷ [])) → ⊥

-- INTEGER (-99..99) with [encoding ASCII, size null-terminated]
abbrev pub ended_digits : Grammar
ended_digits = integer (neg_ℤ (pos 99)) (pos 99) (AsciiEnded (low_bits 8 0) true)

-- -7 is 2d 37 00 and 42 is 2b 34 32 00. 2d 30 00 is a zero with a minus, 2b 30 37 00 has a zero in front, 37 00 has no sign,
-- 2b 31 32 33 00 has three digits, and 2b 34 has no end. -7 is never 2d 30 37 00.
pub record CharactersWithAnEndAreLeast : Type 0 where
  pub tree : is_tree ended_digits ≡ true
  pub bounds : span ended_digits ≡ record { least = 24; greatest = 32 }
  pub written : IsWritten ended_digits (int (neg_ℤ (pos 7))) (bits_of (45 ∷ 55 ∷ 0 ∷ []))
  pub positive : IsWritten ended_digits (int (pos 42)) (bits_of (43 ∷ 52 ∷ 50 ∷ 0 ∷ []))
  pub minus_zero : Refusal ended_digits (bits_of (45 ∷ 48 ∷ 0 ∷ [])) (record { path = []; reason = not_minimal; at = 0 }) 24
  pub leading_zero : Refusal ended_digits (bits_of (43 ∷ 48 ∷ 55 ∷ 0 ∷ [])) (record { path = []; reason = not_minimal; at = 0 }) 32
  pub no_sign : Refusal ended_digits (bits_of (55 ∷ 0 ∷ [])) (record { path = []; reason = bad_digit; at = 0 }) 8
  pub three_digits : Refusal ended_digits (bits_of (43 ∷ 49 ∷ 50 ∷ 51 ∷ 0 ∷ [])) (record { path = []; reason = too_long; at = 0 }) 32
  pub no_end : Refusal ended_digits (bits_of (43 ∷ 52 ∷ [])) (record { path = []; reason = short; at = 0 }) 16
  pub never : IsWritten ended_digits (int (neg_ℤ (pos 7))) (bits_of (45 ∷ 48 ∷ 55 ∷ 0 ∷ [])) → ⊥

-- ENUMERATED { a(5), b, c(1) }: b has the number 0, and the items stand in the order of their numbers, so that a is the third
abbrev pub letters : NumCoding → (values : Bool) → Grammar
letters coding values = node 1 (num (record { kind = Enumerated; set = (pos 0, pos 2) ∷ []; coding = coding; little = false; table = None; items = record { items = (98 ∷ [], pos 0) ∷ (99 ∷ [], pos 1) ∷ (97 ∷ [], pos 5) ∷ []; values = values } }))

-- "a" is 2 bits of 80, its place, and c0 has a fourth place. With [encode-values, size 8, encoding pos-int] it is 05, its number,
-- and never 02, which is the number of no item.
pub record ItemsHavePlacesAndNumbers : Type 0 where
  pub tree : is_tree (letters (Range (pos 0) 2) false) ≡ true
  pub written : IsWritten (letters (Range (pos 0) 2) false) (item 2) (take 2 (bits_of (128 ∷ [])))
  pub no_place : Refusal (letters (Range (pos 0) 2) false) (bits_of (192 ∷ [])) (record { path = []; reason = out_of_range (pos 3); at = 0 }) 2
  pub numbered : is_tree (letters (PosInt 8) true) ≡ true
  pub value : IsWritten (letters (PosInt 8) true) (item 2) (bits_of (5 ∷ []))
  pub no_number : Refusal (letters (PosInt 8) true) (bits_of (2 ∷ [])) (record { path = []; reason = out_of_range (pos 2); at = 0 }) 8
  pub never : IsWritten (letters (PosInt 8) true) (item 2) (bits_of (2 ∷ [])) → ⊥

-- INTEGER (0..9999) with [size null-terminated, encoding BCD]
abbrev pub ended_nibbles : Grammar
ended_nibbles = integer (pos 0) (pos 9999) BcdEnded

-- 0 is 8 bits of 0f. 12 has no end, f0 has no digit, the second digit of 1a is ten, and 12 34 5f has five digits. 120 is never
-- 20 bits of 01 20 f0.
pub record DigitsHaveAnEnd : Type 0 where
  pub written : IsWritten ended_nibbles (int (pos 0)) (bits_of (15 ∷ []))
  pub no_end : Refusal ended_nibbles (bits_of (18 ∷ [])) (record { path = []; reason = short; at = 0 }) 8
  pub no_digit : Refusal ended_nibbles (bits_of (240 ∷ [])) (record { path = []; reason = bad_digit; at = 0 }) 4
  pub refused : Refusal ended_nibbles (bits_of (26 ∷ [])) (record { path = []; reason = bad_digit; at = 0 }) 8
  pub five_digits : Refusal ended_nibbles (bits_of (18 ∷ 52 ∷ 95 ∷ [])) (record { path = []; reason = too_long; at = 0 }) 20
  pub never : IsWritten ended_nibbles (int (pos 120)) (take 20 (bits_of (1 ∷ 32 ∷ 240 ∷ []))) → ⊥

-- INTEGER (1..4) with [size 8, encoding pos-int, mapping-function m] and m { 1..3 = 0 4 = 7 }
abbrev pub mapped : Grammar
mapped = node 1 (num (record { kind = Integer; set = (pos 1, pos 4) ∷ []; coding = PosInt 8; little = false; table = Some (record { name = 109 ∷ []; lines = (pos 1, pos 3, pos 0) ∷ (pos 4, pos 4, pos 7) ∷ [] }); items = record { items = []; values = false } }))

-- 3 is 02 and 4 is 07, and never 03, which no number has under m: what is refused is the number that stands there
pub record ATableMapsTheNumbers : Type 0 where
  pub tree : is_tree mapped ≡ true
  pub written : IsWritten mapped (int (pos 3)) (bits_of (2 ∷ []))
  pub apart : IsWritten mapped (int (pos 4)) (bits_of (7 ∷ []))
  pub refused : Refusal mapped (bits_of (3 ∷ [])) (record { path = []; reason = out_of_range (pos 3); at = 0 }) 8
  pub never : IsWritten mapped (int (pos 4)) (bits_of (3 ∷ [])) → ⊥
