-- How a node is written in bits, in words, a line a coding. (This program's own.)
use Rattle.std.specs.Prelude.{ℕ, ℤ, Bool, true, false, if◌then◌else◌, List, [], ◌∷◌, ◌++◌, Option, Some, None, codes}
use Rattle.std.specs.Fmt.{decimal, signed_decimal}
use Rattle.std.specs.List.{concat}
use Rattle.std.specs.Ordering.{int_eq}
use Rattle.acn_num.specs.Ranges.{least, greatest}
use Rattle.acn_grammar.specs.Grammar.{Form, num, octets, bits, text, seq, list, choice, contained}
use Rattle.acn_grammar.specs.declared.node.ChoiceRule.{ChoiceRule}
use Rattle.acn_grammar.specs.declared.node.ChoiceRule.TheVariants.{Index, Tests, Item}
use Rattle.acn_grammar.specs.declared.node.NumCoding.{NumCoding}
use Rattle.acn_grammar.specs.declared.node.NumCoding.TheVariants.{Range, CountedFrom, CountedSigned, PosInt, Twos, Bcd, BcdEnded, Ascii, AsciiEnded, Flag, Fixed}
use Rattle.acn_grammar.specs.declared.node.NumKind.{NumKind}
use Rattle.acn_grammar.specs.declared.node.NumKind.TheVariants.{Integer, Boolean, Enumerated, Null}
use Rattle.acn_grammar.specs.declared.node.NumLeaf.{NumLeaf}
use Rattle.acn_grammar.specs.declared.node.SizeRule.{SizeRule}
use Rattle.acn_grammar.specs.declared.node.SizeRule.TheVariants.{Prefix, Slot, Ended}
use Rattle.acn_grammar.specs.declared.node.Sizing.{Sizing}
use Rattle.acn_grammar.specs.declared.node.Table.{Table}
use Rattle.acn_grammar.specs.declared.node.TextLeaf.{TextLeaf}
use Rattle.acn_report.specs.Digits.{bits_text, hex_text}
use Rattle.acn_report.specs.Slots.{slot_names}
use Rattle.acn_tree.specs.Room.{field_count}
use Rattle.acn_tree.specs.declared.tree.Tree.{Tree}

-- the text, where the test holds
abbrev pub if_so : Bool → List ℕ → List ℕ
if_so true words = words
if_so false words = []

-- Numbers.

-- a NULL without a pattern has no bits
abbrev pub range_text : NumKind → (width : ℕ) → List ℕ
range_text Integer width = concat (codes "range " ∷ decimal width ∷ [])
range_text Boolean width = concat (codes "range " ∷ decimal width ∷ [])
range_text Enumerated width = concat (codes "range " ∷ decimal width ∷ [])
range_text Null width = codes "empty"

abbrev pub flag_text : (ones zeros : Option (List Bool)) → List ℕ
flag_text None None = codes "bit"
flag_text (Some p) None = concat (codes "true " ∷ bits_text p ∷ [])
flag_text None (Some q) = concat (codes "false " ∷ bits_text q ∷ [])
flag_text (Some p) (Some q) = concat (codes "true " ∷ bits_text p ∷ codes " false " ∷ bits_text q ∷ [])

-- widths are in bits
abbrev pub coding_text : NumKind → NumCoding → List ℕ
coding_text kind (Range low width) = range_text kind width
coding_text kind (CountedFrom low) = codes "counted"
coding_text kind CountedSigned = codes "counted"
coding_text kind (PosInt n) = concat (codes "pos-int " ∷ decimal n ∷ [])
coding_text kind (Twos n) = concat (codes "twos-complement " ∷ decimal n ∷ [])
coding_text kind (Bcd n) = concat (codes "BCD " ∷ decimal n ∷ [])
coding_text kind BcdEnded = codes "BCD ended"
coding_text kind (Ascii n signed) = concat (codes "ASCII " ∷ decimal n ∷ [])
coding_text kind (AsciiEnded end signed) = codes "ASCII ended"
coding_text kind (Flag ones zeros) = flag_text ones zeros
coding_text kind (Fixed pattern) = concat (codes "pattern " ∷ bits_text pattern ∷ [])

abbrev pub map_text : Option Table → List ℕ
map_text None = []
map_text (Some table) = concat (codes " map " ∷ table.name ∷ [])

-- whether the numbers of items are written, and whether the octets stand in the other order
abbrev pub marks_text : NumLeaf → List ℕ
marks_text leaf = concat (if_so leaf.items.values (codes " values") ∷ if_so leaf.little (codes " little") ∷ [])

abbrev pub leaf_text : NumLeaf → List ℕ
leaf_text leaf = coding_text leaf.kind leaf.coding ++ (marks_text leaf ++ map_text leaf.table)

-- Sizes.

-- one size, or the least and the greatest
abbrev pub sizes_text : Option ℤ → Option ℤ → List ℕ
sizes_text (Some low) (Some high) = concat (signed_decimal low ∷ (if int_eq low high then [] else codes ".." ∷ signed_decimal high ∷ []))
sizes_text _ _ = codes "-"

-- the sizes that are permitted, the determinant that says the size, or the pattern that ends a list
abbrev pub rule_text : Tree → List (ℤ × ℤ) → SizeRule → List ℕ
rule_text tree sizes (Prefix low width) = codes "size " ++ sizes_text (least sizes) (greatest sizes)
rule_text tree sizes (Slot s) = concat (codes "size " ∷ slot_names tree s ∷ [])
rule_text tree sizes (Ended pattern) = concat (codes "ended " ∷ bits_text pattern ∷ [])

abbrev pub sizing_text : Tree → Sizing → List ℕ
sizing_text tree sizing = rule_text tree sizing.sizes sizing.rule

-- a text may have a terminator in place of a size
abbrev pub extent_text : Tree → Sizing → (ended : Option (List Bool)) → List ℕ
extent_text tree sized None = sizing_text tree sized
extent_text tree sized (Some end) = concat (codes "ended " ∷ hex_text end ∷ [])

abbrev pub width_text : (width : ℕ) → List ℕ
width_text width = concat (codes " chars " ∷ decimal width ∷ [])

abbrev pub characters_text : Tree → TextLeaf → List ℕ
characters_text tree leaf = extent_text tree leaf.sized leaf.ended ++ width_text leaf.width

-- Nodes with parts.

abbrev pub choice_text : Tree → ChoiceRule → List ℕ
choice_text tree (Index width) = concat (codes "index " ∷ decimal width ∷ [])
choice_text tree Tests = codes "conditions"
choice_text tree (Item s) = concat (codes "item " ∷ slot_names tree s ∷ [])

-- inserted fields count too
abbrev pub fields_text : (count : ℕ) → List ℕ
fields_text count = concat (codes "fields " ∷ decimal count ∷ [])

abbrev pub form_text : Tree → Form → List ℕ
form_text tree (num leaf) = leaf_text leaf
form_text tree (octets sizing) = sizing_text tree sizing
form_text tree (bits sizing) = sizing_text tree sizing
form_text tree (text leaf) = characters_text tree leaf
form_text tree (seq fields home) = fields_text (field_count fields)
form_text tree (list sizing g) = sizing_text tree sizing
form_text tree (choice cases rule) = choice_text tree rule
form_text tree (contained sizing g) = sizing_text tree sizing

-- What a node is.

abbrev pub leaf_kind : NumKind → List ℕ
leaf_kind Integer = codes "INTEGER"
leaf_kind Boolean = codes "BOOLEAN"
leaf_kind Enumerated = codes "ENUMERATED"
leaf_kind Null = codes "NULL"

abbrev pub kind_text : Form → List ℕ
kind_text (num leaf) = leaf_kind leaf.kind
kind_text (octets sizing) = codes "OCTETS"
kind_text (bits sizing) = codes "BITS"
kind_text (text leaf) = codes "TEXT"
kind_text (seq _ _) = codes "SEQUENCE"
kind_text (list sizing g) = codes "LIST"
kind_text (choice cases rule) = codes "CHOICE"
kind_text (contained sizing g) = codes "CONTAINED"
