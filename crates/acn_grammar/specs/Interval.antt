-- The least and the greatest number of bits of a node, and the greatest number of values of a packet. (This profile's own.)
use Rattle.std.specs.Prelude.{ℕ, ◌+◌, ◌-◌, ◌*◌, ◌/◌, ◌^◌, ℤ, pos, negsuc, min, max, nat_eq, int_lt, if◌then◌else◌, Bool, List, [], ◌∷◌, length, Option, Some, None}
use Rattle.acn_num.specs.Ranges.{least, greatest}
use Rattle.acn_grammar.specs.Grammar.{Grammar, Form, Fields, Alternatives, node, num, octets, bits, text, seq, list, choice, contained, no_fields, component, inserted, no_alternatives, alternative}
use Rattle.acn_grammar.specs.View.{OneField, a_component, an_inserted}
use Rattle.acn_grammar.specs.Images.{images_of}
use Rattle.acn_grammar.specs.Length.{rule_width, ending, index_width, flag_width, coding_length}
use Rattle.acn_grammar.specs.declared.bounds.Bounds.{Bounds}
use Rattle.acn_grammar.specs.declared.node.NumLeaf.{NumLeaf}
use Rattle.acn_grammar.specs.declared.node.Sizing.{Sizing}
use Rattle.acn_grammar.specs.declared.node.TextLeaf.{TextLeaf}
use Rattle.acn_grammar.specs.declared.node.Presence.{Presence}
use Rattle.acn_grammar.specs.declared.node.Presence.TheVariants.{Always, Bit, When}
use Rattle.acn_grammar.specs.declared.node.NumCoding.{NumCoding}
use Rattle.acn_grammar.specs.declared.node.NumCoding.TheVariants.{Range, CountedFrom, CountedSigned, PosInt, Twos, Bcd, BcdEnded, Ascii, AsciiEnded, Flag, Fixed}
use Rattle.acn_num.specs.declared.limits.TheConstants.{MOST_SIZE}

-- every sum and product is held down to this
abbrev pub held : ℕ → ℕ
held n = min n (2 ^ 40)

abbrev pub exactly : ℕ → Bounds
exactly n = record { least = held n; greatest = held n }

abbrev pub hold : Bounds → Bounds
hold b = record { least = held b.least; greatest = held b.greatest }

abbrev pub plus : Bounds → Bounds → Bounds
plus a b = record { least = held (a.least + b.least); greatest = held (a.greatest + b.greatest) }

abbrev pub times : Bounds → Bounds → Bounds
times a b = record { least = held (a.least * b.least); greatest = held (a.greatest * b.greatest) }

abbrev pub hull : Bounds → Bounds → Bounds
hull a b = record { least = min a.least b.least; greatest = max a.greatest b.greatest }

-- 0 to the greatest
abbrev pub optional : Bounds → Bounds
optional b = record { least = 0; greatest = b.greatest }

abbrev pub in_octets : Bounds → Bounds
in_octets b = record { least = held (8 * ((b.least + 7) / 8)); greatest = held (8 * ((b.greatest + 7) / 8)) }

abbrev pub size_of : Option ℤ → ℕ
size_of None = 0
size_of (Some (pos n)) = min n MOST_SIZE
size_of (Some (negsuc n)) = 0

abbrev pub sizes_of : List (ℤ × ℤ) → Bounds
sizes_of rs = record { least = size_of (least rs); greatest = size_of (greatest rs) }

-- Numbers.

-- the width of a coding whose codes all have one
abbrev pub fixed_width : NumCoding → Option ℕ
fixed_width (Range low width) = Some width
fixed_width (CountedFrom low) = None
fixed_width CountedSigned = None
fixed_width (PosInt n) = Some n
fixed_width (Twos n) = Some n
fixed_width (Bcd n) = Some n
fixed_width BcdEnded = None
fixed_width (Ascii n signed) = Some n
fixed_width (AsciiEnded end signed) = None
fixed_width (Flag ones zeros) = Some (flag_width ones zeros)
fixed_width (Fixed pattern) = Some (length pattern)

-- the number from which codes grow on both sides
abbrev pub origin : NumCoding → ℤ
origin (CountedFrom low) = low
origin _ = pos 0

-- the number of a range that is nearest to another
abbrev pub nearest : ℤ → (ℤ × ℤ) → ℤ
nearest x r = if int_lt x r.0 then r.0 else (if int_lt r.1 x then r.1 else x)

-- the shortest and the longest code of the numbers of a range
abbrev pub range_lengths : NumCoding → (ℤ × ℤ) → Bounds
range_lengths coding r = record { least = coding_length coding (nearest (origin coding) r); greatest = max (coding_length coding r.0) (coding_length coding r.1) }

-- none at all has no least, and 0 for the greatest
abbrev pub no_bounds : Bounds
no_bounds = record { least = 2 ^ 40; greatest = 0 }

abbrev pub lengths_of : NumCoding → List (ℤ × ℤ) → Bounds
lengths_of coding [] = no_bounds
lengths_of coding (r ∷ rs) = hull (range_lengths coding r) (lengths_of coding rs)

-- the shortest and the longest code of the written numbers
abbrev pub code_lengths : NumLeaf → Bounds
code_lengths leaf = lengths_of leaf.coding (images_of leaf)

-- counted numbers count from one octet
abbrev pub from_one_octet : NumCoding → Bounds → Bounds
from_one_octet (CountedFrom low) b = record { least = 16; greatest = b.greatest }
from_one_octet CountedSigned b = record { least = 16; greatest = b.greatest }
from_one_octet _ b = b

abbrev pub span_by : NumLeaf → Option ℕ → Bounds
span_by leaf (Some w) = exactly w
span_by leaf None = hold (from_one_octet leaf.coding (code_lengths leaf))

abbrev pub num_span : NumLeaf → Bounds
num_span leaf = span_by leaf (fixed_width leaf.coding)

-- the one length of all codes of the leaf, if there is one
abbrev pub one_length : Bounds → Option ℕ
one_length b = if nat_eq b.least b.greatest then Some b.least else None

abbrev pub width_by : NumLeaf → Option ℕ → Option ℕ
width_by leaf (Some w) = Some w
width_by leaf None = one_length (code_lengths leaf)

abbrev pub width_of : NumLeaf → Option ℕ
width_of leaf = width_by leaf (fixed_width leaf.coding)

-- Texts: with a size in front of them, or a terminator behind.
abbrev pub end_width : Option (List Bool) → ℕ
end_width None = 0
end_width (Some end) = length end

abbrev pub text_span : TextLeaf → Bounds
text_span leaf = plus (exactly (rule_width leaf.sized.rule + end_width leaf.ended)) (times (sizes_of leaf.sized.sizes) (exactly leaf.width))

-- Lists: with a size in front of the elements, or a pattern behind them.
abbrev pub list_around : Option (List Bool) → Sizing → ℕ
list_around None sizing = rule_width sizing.rule
list_around (Some p) sizing = length p

abbrev pub list_span : Sizing → Bounds → Bounds
list_span sizing b = plus (exactly (list_around (ending sizing.rule) sizing)) (times (sizes_of sizing.sizes) b)

abbrev pub component_span : Presence → Bounds → Bounds
component_span Always b = b
component_span Bit b = plus (exactly 1) (optional b)
component_span (When ts) b = optional b

abbrev mutual
  pub span : Grammar → Bounds
  span (node align form) = plus (record { least = 0; greatest = align - 1 }) (form_span form)

  pub form_span : Form → Bounds
  form_span (num leaf) = num_span leaf
  form_span (octets sizing) = plus (exactly (rule_width sizing.rule)) (times (sizes_of sizing.sizes) (exactly 8))
  form_span (bits sizing) = plus (exactly (rule_width sizing.rule)) (times (sizes_of sizing.sizes) (exactly 1))
  form_span (text leaf) = text_span leaf
  form_span (seq fields home) = fields_span fields
  form_span (list sizing g) = list_span sizing (span g)
  form_span (choice alternatives rule) = plus (exactly (index_width rule)) (alternatives_span alternatives)
  form_span (contained sizing g) = plus (exactly (rule_width sizing.rule)) (in_octets (span g))

  pub fields_span : Fields → Bounds
  fields_span no_fields = exactly 0
  fields_span (component name g presence default own fs) = plus (component_span presence (span g)) (fields_span fs)
  fields_span (inserted name g slot fs) = plus (span g) (fields_span fs)

  pub alternatives_span : Alternatives → Bounds
  alternatives_span no_alternatives = no_bounds
  alternatives_span (alternative name g tests more) = hull (span g) (alternatives_span more)

-- the same of one field
abbrev pub field_span : OneField → Bounds
field_span (a_component name g presence default own) = component_span presence (span g)
field_span (an_inserted name g slot) = span g

-- The greatest number of values in one packet.

abbrev pub string_values : Sizing → ℕ
string_values sizing = held (1 + size_of (greatest sizing.sizes))

abbrev mutual
  pub value_count : Grammar → ℕ
  value_count (node align form) = form_values form

  pub form_values : Form → ℕ
  form_values (num leaf) = 1
  form_values (octets sizing) = string_values sizing
  form_values (bits sizing) = string_values sizing
  form_values (text leaf) = string_values leaf.sized
  form_values (seq fields home) = held (1 + field_values fields)
  form_values (list sizing g) = held (1 + held (size_of (greatest sizing.sizes) * value_count g))
  form_values (choice cases rule) = held (1 + alternative_values cases)
  form_values (contained sizing g) = held (1 + value_count g)

  pub field_values : Fields → ℕ
  field_values no_fields = 0
  field_values (component name g presence default own fs) = held (value_count g + field_values fs)
  field_values (inserted name g slot fs) = field_values fs

  pub alternative_values : Alternatives → ℕ
  alternative_values no_alternatives = 0
  alternative_values (alternative name g tests more) = max (value_count g) (alternative_values more)

-- so many values, and those of one field besides
abbrev pub with_field_values : ℕ → OneField → ℕ
with_field_values all (a_component name g presence default own) = held (value_count g + all)
with_field_values all (an_inserted name g slot) = all
