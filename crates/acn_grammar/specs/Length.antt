-- The number of bits of a value at a position: what X.691's and ACN's codes (Code, Spell) come to, in numbers alone.
use Rattle.std.specs.Prelude.{ℕ, zero, suc, ◌+◌, ◌-◌, ◌*◌, ◌%◌, ◌^◌, ℤ, pos, nat_abs, Bool, true, false, List, [], ◌∷◌, length, Option, Some, None, unwrap_or, count_by, nat_le, int_le, int_lt, ◌&&◌, not, neg_ℤ, ◌-ℤ◌}
use Rattle.std.specs.List.{range_with_len}
use Rattle.acn_num.specs.Bits.{octets as octets_for}
use Rattle.acn_grammar.specs.Grammar.{Grammar, Form, Fields, Alternatives, Data, Places, Elements, node, num, octets, bits, text, seq, list, choice, contained, component, inserted, no_alternatives, alternative, int, boolean, item, octet_string, bit_string, characters, record_of, list_of, alt, empty, filled, no_elements, element}
use Rattle.acn_grammar.specs.Code.{image_of}
use Rattle.acn_grammar.specs.declared.node.NumLeaf.{NumLeaf}
use Rattle.acn_grammar.specs.declared.node.TextLeaf.{TextLeaf}
use Rattle.acn_grammar.specs.declared.node.SizeRule.{SizeRule}
use Rattle.acn_grammar.specs.declared.node.SizeRule.TheVariants.{Prefix, Slot, Ended}
use Rattle.acn_grammar.specs.declared.node.ChoiceRule.{ChoiceRule}
use Rattle.acn_grammar.specs.declared.node.ChoiceRule.TheVariants.{Index}
use Rattle.acn_grammar.specs.declared.node.NumCoding.{NumCoding}
use Rattle.acn_grammar.specs.declared.node.NumCoding.TheVariants.{Range, CountedFrom, CountedSigned, PosInt, Twos, Bcd, BcdEnded, Ascii, AsciiEnded, Flag, Fixed}
use Rattle.acn_grammar.specs.declared.node.Presence.{Presence}
use Rattle.acn_grammar.specs.declared.node.Presence.TheVariants.{Always, Bit, When}

-- the fewest bits that bring a position to a multiple
abbrev pub padding : (align at : ℕ) → ℕ
padding align at = (align - at % align) % align

-- the least count of octets for k, at least 1
abbrev pub least_octets : ℕ → ℕ
least_octets k = 1 + count_by (λ c. nat_le (256 ^ c) k) (range_with_len 1 7)

abbrev pub fits_octets : ℤ → ℕ → Bool
fits_octets y c = int_le (neg_ℤ (pos (2 ^ (8 * c - 1)))) y && int_lt y (pos (2 ^ (8 * c - 1)))

abbrev pub least_signed_octets : ℤ → ℕ
least_signed_octets y = 1 + count_by (λ c. not (fits_octets y c)) (range_with_len 1 7)

-- the decimal digits of k
abbrev pub digit_count : ℕ → ℕ
digit_count k = 1 + count_by (λ e. nat_le (10 ^ e) k) (range_with_len 1 19)

abbrev pub flag_width : Option (List Bool) → Option (List Bool) → ℕ
flag_width (Some p) q = length p
flag_width None (Some q) = length q
flag_width None None = 1

abbrev pub sign_width : Bool → ℕ
sign_width true = 8
sign_width false = 0

-- the length of the code of a written number
abbrev pub coding_length : NumCoding → ℤ → ℕ
coding_length (Range low width) y = width
coding_length (CountedFrom low) y = 8 + 8 * least_octets (nat_abs (y -ℤ low))
coding_length CountedSigned y = 8 + 8 * least_signed_octets y
coding_length (PosInt n) y = n
coding_length (Twos n) y = n
coding_length (Bcd n) y = n
coding_length BcdEnded y = 4 * (digit_count (nat_abs y) + 1)
coding_length (Ascii n signed) y = n
coding_length (AsciiEnded end signed) y = sign_width signed + 8 * digit_count (nat_abs y) + length end
coding_length (Flag ones zeros) y = flag_width ones zeros
coding_length (Fixed pattern) y = length pattern

abbrev pub num_length : NumLeaf → ℤ → ℕ
num_length leaf x = coding_length leaf.coding (unwrap_or (image_of leaf x) (pos 0))

abbrev pub number_of : Data → ℤ
number_of (int x) = x
number_of (boolean true) = pos 1
number_of (boolean false) = pos 0
number_of (item i) = pos i
number_of _ = pos 0

abbrev pub least : List (ℤ × ℤ) → ℤ
least [] = pos 0
least (r ∷ rs) = r.0

-- an inserted field's length, which all its numbers share
abbrev pub inserted_length : Grammar → ℕ → ℕ
inserted_length (node align (num leaf)) at = padding align at + num_length leaf (least leaf.set)
inserted_length _ at = 0

-- the bits of a size in front
abbrev pub rule_width : SizeRule → ℕ
rule_width (Prefix low width) = width
rule_width (Slot s) = 0
rule_width (Ended p) = 0

-- the pattern that ends a list, where one does
abbrev pub ending : SizeRule → Option (List Bool)
ending (Prefix low width) = None
ending (Slot s) = None
ending (Ended p) = Some p

abbrev pub index_width : ChoiceRule → ℕ
index_width (Index width) = width
index_width _ = 0

abbrev pub text_length : Option (List Bool) → TextLeaf → ℕ → ℕ
text_length None leaf n = rule_width leaf.sized.rule + leaf.width * n
text_length (Some end) leaf n = leaf.width * n + length end

-- one for each component with a presence bit, true where it is there
abbrev pub bit_before : Presence → Bool → List Bool → List Bool
bit_before Always there bs = bs
bit_before Bit there bs = there ∷ bs
bit_before (When ts) there bs = bs

abbrev pub presence_bits : Fields → Places → List Bool
presence_bits (component name g presence default own fs) (filled d ps) = bit_before presence true (presence_bits fs ps)
presence_bits (component name g presence default own fs) (empty ps) = bit_before presence false (presence_bits fs ps)
presence_bits (inserted name g slot fs) ps = presence_bits fs ps
presence_bits _ _ = []

-- the lengths of elements that follow each other
abbrev pub run_length : (ℕ → Data → ℕ) → ℕ → Elements → ℕ
run_length each at no_elements = 0
run_length each at (element d es) = let n = each at d in n + run_length each (at + n) es

-- a size in front of the elements, or a pattern behind them
abbrev pub list_length : Option (List Bool) → SizeRule → (ℕ → Data → ℕ) → ℕ → Elements → ℕ
list_length None rule each at es = rule_width rule + run_length each (at + rule_width rule) es
list_length (Some p) rule each at es = run_length each at es + length p

abbrev mutual
  pub bit_length : Grammar → ℕ → Data → ℕ
  bit_length (node align form) at d = padding align at + form_length form (at + padding align at) d

  pub form_length : Form → ℕ → Data → ℕ
  form_length (num leaf) at d = num_length leaf (number_of d)
  form_length (octets sizing) at (octet_string bs) = rule_width sizing.rule + 8 * length bs
  form_length (bits sizing) at (bit_string bs) = rule_width sizing.rule + length bs
  form_length (text leaf) at (characters cs) = text_length leaf.ended leaf (length cs)
  form_length (seq fields home) at (record_of ps) = let front = length (presence_bits fields ps) in front + fields_length fields (at + front) ps
  form_length (list sizing g) at (list_of es) = list_length (ending sizing.rule) sizing.rule (bit_length g) at es
  form_length (choice alternatives rule) at (alt i d) = index_width rule + alternative_length alternatives i (at + index_width rule) d
  form_length (contained sizing g) at d = rule_width sizing.rule + 8 * octets_for (bit_length g 0 d)
  form_length _ at d = 0

  pub fields_length : Fields → ℕ → Places → ℕ
  fields_length (component name g presence default own fs) at (filled d ps) = let n = bit_length g at d in n + fields_length fs (at + n) ps
  fields_length (component name g presence default own fs) at (empty ps) = fields_length fs at ps
  fields_length (inserted name g slot fs) at ps = let n = inserted_length g at in n + fields_length fs (at + n) ps
  fields_length _ at ps = 0

  pub alternative_length : Alternatives → ℕ → ℕ → Data → ℕ
  alternative_length (alternative name g tests more) zero at d = bit_length g at d
  alternative_length (alternative name g tests more) (suc i) at d = alternative_length more i at d
  alternative_length no_alternatives i at d = 0
