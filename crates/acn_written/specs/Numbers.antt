-- The numbers of an INTEGER or an ENUMERATED, how they are written, and which can't be. (X.680 clauses 19 and 20; codings are this profile's own.)
use Rattle.std.specs.Prelude.{◌^◌, nat_lt, Bool, false, not, ◌&&◌, if◌then◌else◌, ℤ, pos, int_le, ◌-ℤ◌, List, [], ◌∷◌, map, filter, filter_map, find, length, Option, Some, None, option_map, option_and_then, Result, Ok, Err}
use Rattle.std.specs.Str.{bytes_eq}
use Rattle.acn_num.specs.Names.{Name}
use Rattle.acn_num.specs.Ranges.{Ranges, some_range, least, distance}
use Rattle.acn_asn_syntax.specs.Mirror.{AsnBase, integer, enumerated}
use Rattle.acn_asn_syntax.specs.declared.types.Item.{Item}
use Rattle.acn_acn_syntax.specs.Mirror.{Field}
use Rattle.acn_acn_syntax.specs.declared.maps.MapTable.{MapTable}
use Rattle.acn_index.specs.World.{World}
use Rattle.acn_constraint.specs.Constraints.{Opened, Fault, starts_negative, range_of}
use Rattle.acn_codings.specs.Codings.{coding_of, fits, numbers}
use Rattle.acn_codings.specs.Left.{left_of, least_lost}
use Rattle.acn_codings.specs.Tables.{keys_to, lesser}
use Rattle.acn_codings.specs.declared.coding.Coding.{Coding}
use Rattle.acn_codings.specs.declared.coding.Coding.TheVariants.{Default}
use Rattle.acn_grammar.specs.Leaves.{is_number}
use Rattle.acn_reasons.specs.Classes.{size_attr, encoding_attr}
use Rattle.acn_sites.specs.Sites.{Site, base_of}
use Rattle.acn_slots.specs.Slots.{braces_origin, braces_at}
use Rattle.acn_written.specs.Items.{Numbered, item_numbers, field_numbers}
use Rattle.acn_written.specs.Says.{table_attr, has_values}

-- How numbers are written; the numbers that the constraints leave, with their open ends; what is left of these where the coding can't write all; and the
-- least number that is to be written and can't be.
pub record Numbers : Type 0 where
  pub coding : Coding
  pub set : Opened
  pub left : Ranges
  pub lost : Option ℤ

-- ---- the numbers that can be written: none where the width isn't one that the coding has

-- with a table they are the keys whose images can be written
abbrev pub through : Option MapTable → ℤ × ℤ → Ranges
through None ends = some_range ends.0 ends.1
through (Some t) ends = keys_to ends.0 ends.1 t.lines

abbrev pub can_write : Coding → Option MapTable → Ranges
can_write c t = if fits c then through t (numbers c) else []

abbrev pub written_so : Coding → Opened → Ranges → Numbers
written_so c s can = record { coding = c; set = s; left = left_of s can; lost = least_lost s can }

-- ---- INTEGER

-- a number has a sign where its set isn't open below and has a number below 0
abbrev pub has_sign : Opened → Bool
has_sign s = not s.open_below && starts_negative (least s.numbers)

abbrev pub coded : Opened → Option MapTable → Coding → Numbers
coded s t c = written_so c s (can_write c t)

abbrev pub integer_numbers : World → Site → Opened → Numbers
integer_numbers w s set = coded set (table_attr w s) (coding_of (has_sign set) (size_attr s) (encoding_attr s))

-- ---- ENUMERATED: the indices of its items are written, or with `encode-values` their numbers

abbrev pub closed_set : Ranges → Opened
closed_set r = record { numbers = r; open_below = false; open_above = false }

abbrev pub indices : List Item → Ranges
indices items = some_range (pos 0) (pos (length items) -ℤ pos 1)

-- the number that braces in ACN give a name
abbrev pub number_named : List Numbered → Name → Option ℤ
number_named given name = option_map (λ (g : Numbered). g.1) (find (λ (g : Numbered). bytes_eq name g.0) given)

abbrev pub renumbered : List Numbered → Item → Option Numbered
renumbered given i = option_map (λ (x : ℤ). (i.name, x)) (number_named given i.name)

-- each item with the number that `encode-values` writes: that of ACN, where there are braces, and else that of ASN.1
abbrev pub values_of : List Item → Option (List Field) → List Numbered
values_of items None = item_numbers items
values_of items (Some fs) = filter_map (renumbered (field_numbers fs)) items

-- the least number, where this is the least one before
abbrev pub least_behind : Option ℤ → List Numbered → Option ℤ
least_behind best [] = best
least_behind best (i ∷ is) = least_behind (lesser (Some i.1) best) is

abbrev pub least_of : List Numbered → Option ℤ
least_of is = least_behind None is

abbrev pub is_among : ℤ × ℤ → ℤ → Bool
is_among ends x = int_le ends.0 x && int_le x ends.1

-- Without a width they are numbers of 64 bits, and less than 2^64 above the least one.
abbrev pub is_word_from : Option ℤ → ℤ → Bool
is_word_from None x = false
is_word_from (Some low) x = is_number x && nat_lt (distance low x) (2 ^ 64)

abbrev pub is_value : Coding → Option ℤ → ℤ → Bool
is_value Default low x = is_word_from low x
is_value c low x = fits c && is_among (numbers c) x

abbrev pub lost_values : Coding → List Numbered → List Numbered
lost_values c is = filter (λ (i : Numbered). not (is_value c (least_of is) i.1)) is

abbrev pub valued : List Item → List Numbered → Coding → Numbers
valued items is c = record { coding = c; set = closed_set (indices items); left = indices items; lost = least_of (lost_values c is) }

abbrev pub indexed : List Item → Coding → Numbers
indexed items c = written_so c (closed_set (indices items)) (can_write c None)

-- the numbers of an enumeration have no sign
abbrev pub enumerated_numbers : Site → List Item → Option (List Field) → Numbers
enumerated_numbers s items bs = if has_values s then valued items (values_of items bs) (coding_of false (size_attr s) (encoding_attr s)) else indexed items (coding_of false (size_attr s) (encoding_attr s))

-- ---- a site: none where the constraints are at fault, or the type has no numbers

abbrev pub if_left : Result Opened Fault → Option Opened
if_left (Ok s) = Some s
if_left (Err f) = None

abbrev pub numbers_of_base : World → Site → AsnBase → Option Numbers
numbers_of_base w s (integer ns) = option_map (integer_numbers w s) (if_left (range_of w s.chain))
numbers_of_base w s (enumerated items) = Some (enumerated_numbers s items (braces_at s.used (braces_origin s.chain s.used)))
numbers_of_base w s _ = None

unfoldable pub numbers_at : World → Site → Option Numbers
numbers_at w s = numbers_of_base w s (base_of s)

-- TooNarrow: the least number that is to be written and can't be
unfoldable pub too_narrow : World → Site → Option ℤ
too_narrow w s = option_and_then (λ (n : Numbers). n.lost) (numbers_at w s)
