-- The leaf that a site with numbers, or of a text, is. (X.680 clauses 18 to 20, 24 and 41; default codes are X.691's in its unaligned variant; the other codings
-- are ACN's, as this profile has them.)
use Rattle.std.specs.Prelude.{ℕ, ◌-◌, Bool, true, false, ◌||◌, ℤ, pos, List, [], ◌∷◌, map, Option, Some, None, option_map, if◌then◌else◌}
use Rattle.std.specs.Int.{int_max}
use Rattle.acn_num.specs.Ranges.{Ranges, least, greatest, distance, count}
use Rattle.acn_acn_syntax.specs.Mirror.{Field}
use Rattle.acn_acn_syntax.specs.declared.maps.MapTable.{MapTable}
use Rattle.acn_asn_syntax.specs.declared.types.Item.{Item}
use Rattle.acn_asn_syntax.specs.Mirror.{AsnBase, boolean, null, integer, enumerated}
use Rattle.acn_codings.specs.Codings.{fits}
use Rattle.acn_codings.specs.Items.{or_zero}
use Rattle.acn_codings.specs.Tables.{line_of}
use Rattle.acn_codings.specs.declared.coding.Coding as codings
use Rattle.acn_codings.specs.declared.coding.Coding.TheVariants as coding
use Rattle.acn_grammar.specs.Leaves.{is_beyond}
use Rattle.acn_grammar.specs.declared.node.Items.{Items}
use Rattle.acn_grammar.specs.declared.node.NumCoding.{NumCoding}
use Rattle.acn_grammar.specs.declared.node.NumCoding.TheVariants.{Range, CountedFrom, CountedSigned, PosInt, Twos, Bcd, BcdEnded, Ascii, AsciiEnded, Flag, Fixed}
use Rattle.acn_grammar.specs.declared.node.NumKind.TheVariants.{Integer, Boolean, Enumerated, Null}
use Rattle.acn_grammar.specs.declared.node.NumLeaf.{NumLeaf}
use Rattle.acn_grammar.specs.declared.node.Table.{Table}
use Rattle.acn_index.specs.World.{World}
use Rattle.acn_reasons.specs.Classes.{size_attr, encoding_attr, is_ended, is_ascii}
use Rattle.acn_sites.specs.Sites.{Site, base_of}
use Rattle.acn_sites.specs.declared.attributes.AttrKind.TheVariants as kind
use Rattle.acn_slots.specs.Slots.{braces_origin, braces_at}
use Rattle.acn_written.specs.Ends.{end_of}
use Rattle.acn_written.specs.Items.{Numbered}
use Rattle.acn_written.specs.Numbers.{Numbers, numbers_at, values_of, least_of}
use Rattle.acn_written.specs.Patterns.{pattern_attr, bits_given}
use Rattle.acn_written.specs.Says.{table_attr, is_little, has_values}
use Rattle.acn_leaves.specs.Ordered.{items_in_order}
use Rattle.acn_leaves.specs.Widths.{least_width}

-- ---- codings

-- a constrained whole number (X.691, 11.5)
abbrev pub range_from : (low high : ℤ) → NumCoding
range_from low high = Range low (least_width (distance low high))

abbrev pub low_end : Ranges → ℤ
low_end s = or_zero (least s)

abbrev pub high_end : Ranges → ℤ
high_end s = or_zero (greatest s)

-- without a size, by the ends of the set that are open (X.691, 11.5, 11.7 and 11.8)
abbrev pub default_coding : (open_below open_above : Bool) → Ranges → NumCoding
default_coding true above s = CountedSigned
default_coding false true s = CountedFrom (low_end s)
default_coding false false s = range_from (low_end s) (high_end s)

-- the default one, or the one that `size` and `encoding` give, with the end of an ended number
abbrev pub as_said : NumCoding → (end : List Bool) → codings.Coding → NumCoding
as_said default end coding.Default = default
as_said default end (coding.PosInt n) = PosInt n
as_said default end (coding.Twos n) = Twos n
as_said default end (coding.Bcd n) = Bcd n
as_said default end coding.BcdEnded = BcdEnded
as_said default end (coding.Ascii n sign) = Ascii n sign
as_said default end (coding.AsciiEnded sign) = AsciiEnded end sign

-- A width that the coding hasn't is a reason against the site.
abbrev pub written_as : NumCoding → (end : List Bool) → codings.Coding → NumCoding
written_as default end c = if fits c then as_said default end c else default

-- ---- INTEGER

abbrev pub no_items : Items
no_items = record { items = []; values = false }

abbrev pub table_of : MapTable → Table
table_of t = record { name = t.name; lines = map line_of t.lines }

abbrev pub integer_coding : Site → Numbers → NumCoding
integer_coding s n = written_as (default_coding n.set.open_below n.set.open_above n.left) (end_of s) n.coding

abbrev pub integer_leaf : World → Site → Numbers → NumLeaf
integer_leaf w s n = record { kind = Integer; set = n.left; coding = integer_coding s n; little = is_little s; table = option_map table_of (table_attr w s); items = no_items }

-- ---- ENUMERATED: the index, or with `encode-values` the number, from the least one

abbrev pub greater_of : Option ℤ → ℤ → ℤ
greater_of None x = x
greater_of (Some y) x = int_max x y

-- the greatest number, where this is the greatest one before
abbrev pub greatest_behind : Option ℤ → List Numbered → Option ℤ
greatest_behind best [] = best
greatest_behind best (i ∷ is) = greatest_behind (Some (greater_of best i.1)) is

abbrev pub greatest_of : List Numbered → Option ℤ
greatest_of is = greatest_behind None is

abbrev pub values_range : List Numbered → NumCoding
values_range is = range_from (or_zero (least_of is)) (or_zero (greatest_of is))

abbrev pub items_coding : Site → List Numbered → Numbers → NumCoding
items_coding s is n = written_as (if has_values s then values_range is else range_from (low_end n.left) (high_end n.left)) (end_of s) n.coding

abbrev pub enumerated_leaf : Site → List Item → Option (List Field) → Numbers → NumLeaf
enumerated_leaf s items braces n = record { kind = Enumerated; set = n.left; coding = items_coding s (values_of items braces) n; little = is_little s; table = None; items = record { items = items_in_order items braces; values = has_values s } }

-- ---- BOOLEAN and NULL

abbrev pub boolean_leaf : Site → NumLeaf
boolean_leaf s = record { kind = Boolean; set = (pos 0, pos 1) ∷ []; coding = Flag (bits_given (pattern_attr kind.TrueValue s)) (bits_given (pattern_attr kind.FalseValue s)); little = false; table = None; items = no_items }

abbrev pub null_coding : Option (List Bool) → NumCoding
null_coding None = Range (pos 0) 0
null_coding (Some pattern) = Fixed pattern

abbrev pub null_leaf : Site → NumLeaf
null_leaf s = record { kind = Null; set = (pos 0, pos 0) ∷ []; coding = null_coding (bits_given (pattern_attr kind.Pattern s)); little = false; table = None; items = no_items }

-- ---- a site: none where its type has no numbers, or its constraints are at fault

abbrev pub leaf_of_base : World → Site → AsnBase → Option NumLeaf
leaf_of_base w s (integer ns) = option_map (integer_leaf w s) (numbers_at w s)
leaf_of_base w s (enumerated items) = option_map (enumerated_leaf s items (braces_at s.used (braces_origin s.chain s.used))) (numbers_at w s)
leaf_of_base w s boolean = Some (boolean_leaf s)
leaf_of_base w s null = Some (null_leaf s)
leaf_of_base w s _ = None

unfoldable pub leaf_at : World → Site → Option NumLeaf
leaf_at w s = leaf_of_base w s (base_of s)

-- ---- IA5String

-- How a character is written.
pub record Characters : Type 0 where
  pub width : ℕ
  pub indexed : Bool

-- an octet
abbrev pub octets_each : Characters
octets_each = record { width = 8; indexed = false }

-- in the least width that has a number for each permitted one; by its index where the greatest one is beyond that width (X.691 clause 30)
abbrev pub fewest_in : (width : ℕ) → Ranges → Characters
fewest_in width alphabet = record { width = width; indexed = is_beyond width (greatest alphabet) }

abbrev pub fewest : Ranges → Characters
fewest alphabet = fewest_in (least_width (count alphabet - 1)) alphabet

abbrev pub has_octets : Site → Bool
has_octets s = is_ended (size_attr s) || is_ascii (encoding_attr s)

unfoldable pub characters_written : Site → (alphabet : Ranges) → Characters
characters_written s alphabet = if has_octets s then octets_each else fewest alphabet
