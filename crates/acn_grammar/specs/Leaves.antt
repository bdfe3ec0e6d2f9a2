-- Which leaves are well formed, each by itself: the sets are those that X.680 leaves a type (clauses 18 to 24, 41, 51); which
-- codings, widths, patterns and tables go with them is this profile's own.
use Rattle.std.specs.Prelude.{ℕ, ◌-◌, ◌/◌, ◌%◌, ◌^◌, nat_eq, nat_lt, nat_le, ℤ, pos, neg_ℤ, ◌+ℤ◌, ◌-ℤ◌, int_le, int_lt, Bool, true, false, not, ◌&&◌, ◌||◌, List, [], ◌∷◌, length, Option, Some, None}
use Rattle.std.specs.List.{list_all, list_any}
use Rattle.std.specs.Ordering.{int_eq}
use Rattle.acn_num.specs.Bits.{is_least_width}
use Rattle.acn_num.specs.Ranges.{least, greatest, are_ranges, distance, count, all_within}
use Rattle.acn_grammar.specs.Asks.{same_name}
use Rattle.acn_grammar.specs.Images.{images_by, ends, written_ends}
use Rattle.acn_grammar.specs.Length.{ending}
use Rattle.acn_grammar.specs.Spell.{octet_numbers}
use Rattle.acn_grammar.specs.declared.node.NumKind.{NumKind}
use Rattle.acn_grammar.specs.declared.node.NumKind.TheVariants.{Integer, Boolean, Enumerated, Null}
use Rattle.acn_grammar.specs.declared.node.NumLeaf.{NumLeaf}
use Rattle.acn_grammar.specs.declared.node.NumCoding.{NumCoding}
use Rattle.acn_grammar.specs.declared.node.NumCoding.TheVariants.{Range, CountedFrom, CountedSigned, PosInt, Twos, Bcd, BcdEnded, Ascii, AsciiEnded, Flag, Fixed}
use Rattle.acn_grammar.specs.declared.node.Items.{Items}
use Rattle.acn_grammar.specs.declared.node.Table.{Table}
use Rattle.acn_grammar.specs.declared.node.TextLeaf.{TextLeaf}
use Rattle.acn_grammar.specs.declared.node.Sizing.{Sizing}
use Rattle.acn_grammar.specs.declared.node.SizeRule.{SizeRule}
use Rattle.acn_grammar.specs.declared.node.SizeRule.TheVariants.{Prefix, Slot, Ended}
use Rattle.acn_grammar.specs.declared.limits.TheConstants.{MOST_PATTERN_BITS, MOST_INTEGER_BITS}
use Rattle.acn_num.specs.declared.limits.TheConstants.{MOST_SIZE}

-- Small tests.

abbrev pub from_to : (low high n : ℕ) → Bool
from_to low high n = nat_le low n && nat_le n high

-- no two of the list pass the test of sameness
abbrev pub all_differ : {A : Type 0} → (A → A → Bool) → List A → Bool
all_differ same [] = true
all_differ same (x ∷ xs) = not (list_any (same x) xs) && all_differ same xs

-- whole numbers lie from -2^63 to 2^64 - 1
abbrev pub is_number : ℤ → Bool
is_number x = int_le (neg_ℤ (pos (2 ^ 63))) x && int_lt x (pos (2 ^ 64))

abbrev pub is_range : (low high : ℤ) → List (ℤ × ℤ) → Bool
is_range low high (r ∷ []) = int_eq r.0 low && int_eq r.1 high
is_range low high _ = false

-- Kinds and codings. A NULL without a pattern is a range of one number, which has no bits.

abbrev pub takes : NumKind → NumCoding → Bool
takes Integer (Flag ones zeros) = false
takes Integer (Fixed pattern) = false
takes Integer _ = true
takes Boolean (Flag ones zeros) = true
takes Boolean _ = false
takes Enumerated (Range low width) = true
takes Enumerated (PosInt n) = true
takes Enumerated (Twos n) = true
takes Enumerated _ = false
takes Null (Range low width) = true
takes Null (Fixed pattern) = true
takes Null _ = false

-- the codings that an INTEGER has only with a size
abbrev pub has_size : NumCoding → Bool
has_size (PosInt n) = true
has_size (Twos n) = true
has_size (Bcd n) = true
has_size BcdEnded = true
has_size (Ascii n signed) = true
has_size (AsciiEnded end signed) = true
has_size _ = false

abbrev pub is_pattern : List Bool → Bool
is_pattern p = from_to 1 MOST_PATTERN_BITS (length p)

-- 1 to 8 whole octets
abbrev pub is_terminator : List Bool → Bool
is_terminator end = is_pattern end && nat_eq (length end % 8) 0

-- the first octet is a digit or a sign
abbrev pub begins_number : List ℕ → Bool
begins_number [] = false
begins_number (o ∷ os) = from_to 48 57 o || (nat_eq o 43 || nat_eq o 45)

abbrev pub same_bits : List Bool → List Bool → Bool
same_bits [] [] = true
same_bits (true ∷ as') (true ∷ bs) = same_bits as' bs
same_bits (false ∷ as') (false ∷ bs) = same_bits as' bs
same_bits _ _ = false

abbrev pub flag_patterns_fine : Option (List Bool) → Option (List Bool) → Bool
flag_patterns_fine None None = true
flag_patterns_fine (Some p) None = is_pattern p
flag_patterns_fine None (Some q) = is_pattern q
flag_patterns_fine (Some p) (Some q) = is_pattern p && (nat_eq (length p) (length q) && not (same_bits p q))

-- widths and patterns
abbrev pub coding_fine : NumCoding → Bool
coding_fine (PosInt n) = from_to 1 MOST_INTEGER_BITS n
coding_fine (Twos n) = from_to 1 MOST_INTEGER_BITS n
coding_fine (Bcd n) = from_to 4 76 n && nat_eq (n % 4) 0
coding_fine (Ascii n false) = from_to 8 152 n && nat_eq (n % 8) 0
coding_fine (Ascii n true) = from_to 16 152 n && nat_eq (n % 8) 0
coding_fine (AsciiEnded end signed) = is_terminator end && not (begins_number (octet_numbers end))
coding_fine (Flag ones zeros) = flag_patterns_fine ones zeros
coding_fine (Fixed pattern) = is_pattern pattern
coding_fine _ = true

-- whole octets in a fixed binary width can stand in the other order
abbrev pub can_be_little : NumCoding → Bool
can_be_little (PosInt n) = nat_eq (n % 8) 0
can_be_little (Twos n) = nat_eq (n % 8) 0
can_be_little _ = false

abbrev pub is_signed_text : NumCoding → Bool
is_signed_text (Ascii n signed) = signed
is_signed_text (AsciiEnded end signed) = signed
is_signed_text _ = false

-- The numbers that a coding can write, of which these are the least and the greatest that it has to.
abbrev pub can_write : NumCoding → ℤ × ℤ → Bool
can_write (Range low width) e = int_eq low e.0 && is_least_width (distance e.0 e.1) width
can_write (CountedFrom low) e = int_eq low e.0
can_write CountedSigned e = true
can_write (PosInt n) e = int_le (pos 0) e.0 && int_lt e.1 (pos (2 ^ n))
can_write (Twos n) e = int_le (neg_ℤ (pos (2 ^ (n - 1)))) e.0 && int_lt e.1 (pos (2 ^ (n - 1)))
can_write (Bcd n) e = int_le (pos 0) e.0 && int_lt e.1 (pos (10 ^ (n / 4)))
can_write BcdEnded e = int_le (pos 0) e.0 && int_lt e.1 (pos (2 ^ 64))
can_write (Ascii n false) e = int_le (pos 0) e.0 && int_lt e.1 (pos (10 ^ (n / 8)))
can_write (Ascii n true) e = int_lt (neg_ℤ (pos (10 ^ (n / 8 - 1)))) e.0 && int_lt e.1 (pos (10 ^ (n / 8 - 1)))
can_write (AsciiEnded end false) e = int_le (pos 0) e.0 && int_lt e.1 (pos (2 ^ 64))
can_write (AsciiEnded end true) e = int_le (neg_ℤ (pos (2 ^ 63))) e.0 && int_lt e.1 (pos (2 ^ 63))
can_write (Flag ones zeros) e = true
can_write (Fixed pattern) e = true

abbrev pub can_write_all : NumCoding → Option (ℤ × ℤ) → Bool
can_write_all coding None = false
can_write_all coding (Some e) = can_write coding e

-- Tables: one to one both ways, within the numbers, and with every permitted number among the keys.

abbrev pub line_fine : (ℤ × ℤ × ℤ) → Bool
line_fine line = int_le line.0 line.1 && (is_number line.0 && (is_number line.1 && (is_number line.2 && is_number (line.2 +ℤ (line.1 -ℤ line.0)))))

-- the keys, and the images, of two lines have none in common
abbrev pub share : (ℤ × ℤ × ℤ) → (ℤ × ℤ × ℤ) → Bool
share a b =
    (int_le a.0 b.1 && int_le b.0 a.1)
    || (int_le a.2 (b.2 +ℤ (b.1 -ℤ b.0)) && int_le b.2 (a.2 +ℤ (a.1 -ℤ a.0)))

abbrev pub table_fine : NumCoding → List (ℤ × ℤ) → Option Table → Bool
table_fine coding set None = true
table_fine coding set (Some table) = has_size coding && (list_all line_fine table.lines && (all_differ share table.lines && nat_eq (count (images_by (Some table) set)) (count set)))

-- Items and sets.

abbrev pub items_fine : NumCoding → Items → Bool
items_fine coding items = all_differ (λ a b. same_name a.0 b.0) items.items && all_differ (λ a b. int_eq a.1 b.1) items.items

-- numbers that a default coding writes lie within the numbers, and less than 2^64 from each other
abbrev pub values_fine : (values : Bool) → NumCoding → Option (ℤ × ℤ) → Bool
values_fine true (Range low width) (Some e) = is_number e.0 && (is_number e.1 && nat_lt (distance e.0 e.1) (2 ^ 64))
values_fine _ coding e = true

abbrev pub no_items : Items → Bool
no_items items = nat_eq (length items.items) 0 && not items.values

-- the greatest number of an INTEGER's set
abbrev pub is_below : NumCoding → (low high : ℤ) → Bool
is_below CountedSigned low high = int_lt high (pos (2 ^ 63))
is_below _ low high = int_lt high (pos (2 ^ 63)) || (int_le (pos 0) low && int_lt high (pos (2 ^ 64)))

abbrev pub integer_set_fine : NumCoding → Option (ℤ × ℤ) → Bool
integer_set_fine coding (Some e) = int_le (neg_ℤ (pos (2 ^ 63))) e.0 && is_below coding e.0 e.1
integer_set_fine coding None = false

abbrev pub set_fine : NumKind → NumCoding → Items → Option Table → List (ℤ × ℤ) → Bool
set_fine Integer coding items table set = are_ranges set && (integer_set_fine coding (ends set) && no_items items)
set_fine Boolean coding items table set = is_range (pos 0) (pos 1) set && no_items items
set_fine Enumerated coding items table set = nat_lt 0 (length items.items) && (is_range (pos 0) (pos (length items.items - 1)) set && items_fine coding items)
set_fine Null coding items table set = is_range (pos 0) (pos 0) set && no_items items

abbrev pub only_integer : NumKind → Option Table → Bool
only_integer Integer table = true
only_integer _ None = true
only_integer _ (Some table) = false

abbrev pub begins_below_zero : List (ℤ × ℤ) → Bool
begins_below_zero [] = false
begins_below_zero (r ∷ rs) = int_lt r.0 (pos 0)

abbrev pub implies : Bool → Bool → Bool
implies true b = b
implies false b = true

-- Each rule of a number leaf.
abbrev pub num_rules : NumLeaf → List Bool
num_rules leaf =
    takes leaf.kind leaf.coding
    ∷ coding_fine leaf.coding
    ∷ implies leaf.little (can_be_little leaf.coding)
    ∷ implies (is_signed_text leaf.coding) (begins_below_zero leaf.set)
    ∷ set_fine leaf.kind leaf.coding leaf.items leaf.table leaf.set
    ∷ only_integer leaf.kind leaf.table
    ∷ table_fine leaf.coding leaf.set leaf.table
    ∷ values_fine leaf.items.values leaf.coding (written_ends leaf)
    ∷ can_write_all leaf.coding (written_ends leaf)
    ∷ []

abbrev pub num_fine : NumLeaf → Bool
num_fine leaf = list_all (λ b. b) (num_rules leaf)

-- Sizes and texts.

abbrev pub sizes_fine : List (ℤ × ℤ) → Bool
sizes_fine sizes = nat_lt 0 (length sizes) && (are_ranges sizes && all_within (pos 0) (pos MOST_SIZE) sizes)

-- the size in front is a range over the sizes
abbrev pub prefix_fine : (low width : ℕ) → Option ℤ → Option ℤ → Bool
prefix_fine low width (Some a) (Some b) = int_eq (pos low) a && is_least_width (distance a b) width
prefix_fine low width _ _ = false

abbrev pub rule_fine : List (ℤ × ℤ) → SizeRule → Bool
rule_fine sizes (Slot s) = true
rule_fine sizes (Prefix low width) = prefix_fine low width (least sizes) (greatest sizes)
rule_fine sizes (Ended p) = false

abbrev pub sizing_fine : Sizing → Bool
sizing_fine sizing = sizes_fine sizing.sizes && rule_fine sizing.sizes sizing.rule

-- a list alone may be ended by a pattern
abbrev pub list_rule_fine : Option (List Bool) → Sizing → Bool
list_rule_fine None sizing = rule_fine sizing.sizes sizing.rule
list_rule_fine (Some p) sizing = is_pattern p

abbrev pub list_fine : Sizing → Bool
list_fine sizing = sizes_fine sizing.sizes && list_rule_fine (ending sizing.rule) sizing

abbrev pub no_size : SizeRule → Bool
no_size (Prefix low width) = nat_eq low 0 && nat_eq width 0
no_size (Slot s) = false
no_size (Ended p) = false

-- the least width in which as many characters as there are have numbers of their own
abbrev pub holds_characters : (characters width : ℕ) → Bool
holds_characters n width = nat_le n (2 ^ width) && (nat_eq width 0 || nat_lt (2 ^ (width - 1)) n)

abbrev pub is_beyond : (width : ℕ) → Option ℤ → Bool
is_beyond width (Some x) = int_le (pos (2 ^ width)) x
is_beyond width None = false

abbrev pub same_truth : Bool → Bool → Bool
same_truth true b = b
same_truth false b = not b

-- 8 bits a character, or the fewest, indexed where the greatest character's number is beyond them
abbrev pub width_fine : TextLeaf → Bool
width_fine leaf =
    (nat_eq leaf.width 8 && not leaf.indexed)
    || (holds_characters (count leaf.alphabet) leaf.width && same_truth leaf.indexed (is_beyond leaf.width (greatest leaf.alphabet)))

abbrev pub end_fine : Option (List Bool) → TextLeaf → Bool
end_fine None leaf = rule_fine leaf.sized.sizes leaf.sized.rule && width_fine leaf
end_fine (Some end) leaf = no_size leaf.sized.rule && (nat_eq leaf.width 8 && (not leaf.indexed && is_terminator end))

abbrev pub text_fine : TextLeaf → Bool
text_fine leaf = sizes_fine leaf.sized.sizes && (nat_lt 0 (length leaf.alphabet) && (are_ranges leaf.alphabet && (all_within (pos 0) (pos 127) leaf.alphabet && end_fine leaf.ended leaf)))
