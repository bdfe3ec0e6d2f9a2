-- What a leaf must keep to be read and written here: widths, ends and tables that fit.
use Rattle.std.specs.Prelude.{◌≡◌, ℕ, ◌*◌, ◌/◌, ◌-◌, ◌^◌, ◌%◌, ◌<◌, ◌≤◌, ℤ, pos, negsuc, neg_ℤ, ◌+ℤ◌, ◌<ℤ◌, ◌⊎◌, ◌≤ℤ◌, Bool, true, false, List, length, slice_index_or, Option, Some, None}
use Rattle.acn_grammar.specs.declared.node.NumLeaf.{NumLeaf}
use Rattle.acn_grammar.specs.declared.node.NumCoding.{NumCoding}
use Rattle.acn_grammar.specs.declared.node.NumCoding.TheVariants.{Range, CountedFrom, CountedSigned, PosInt, Twos, Bcd, BcdEnded, Ascii, AsciiEnded, Flag, Fixed}
use Rattle.acn_grammar.specs.declared.node.Table.{Table}
use Rattle.acn_grammar.specs.declared.limits.TheConstants.{MOST_INTEGER_BITS, MOST_PATTERN_BITS}
use Rattle.acn_grammar.specs.Leaves.{all_differ, share}
use Rattle.acn_bits.specs.declared.word.TheConstants.{WORD_BITS}

-- between -2^70 and 2^70, where sums of a few fit 128 bits
abbrev pub IsNear : ℤ → Type 0
IsNear x = (negsuc 1180591620717411303423 ≤ℤ x) × (x ≤ℤ pos 1180591620717411303424)

-- between -2^64 and 2^64
abbrev pub IsEnd : ℤ → Type 0
IsEnd x = (negsuc 18446744073709551615 ≤ℤ x) × (x ≤ℤ pos 18446744073709551616)

-- all numbers of the lines are near
abbrev pub AreNear : List (ℤ × ℤ × ℤ) → Type 0
AreNear lines = (i : ℕ) (d : ℤ × ℤ × ℤ) → i < length lines → IsNear (slice_index_or lines i d).0 × IsNear (slice_index_or lines i d).1 × IsNear (slice_index_or lines i d).2

-- both ends of each range are near
abbrev pub ArePairsNear : List (ℤ × ℤ) → Type 0
ArePairsNear ranges = (i : ℕ) (d : ℤ × ℤ) → i < length ranges → IsNear (slice_index_or ranges i d).0 × IsNear (slice_index_or ranges i d).1

-- the same of a table, where there is one
abbrev pub IsNearTable : Option Table → Type 0
IsNearTable None = Unit {0}
IsNearTable (Some table) = AreNear table.lines

-- no two lines of a table have a key or an image in common
abbrev pub IsApartTable : Option Table → Type 0
IsApartTable None = Unit {0}
IsApartTable (Some table) = all_differ share table.lines ≡ true

-- 1 to so many bits, whole octets where their order is turned round
abbrev pub OrderFits : (little : Bool) → ℕ → Type 0
OrderFits little n = (1 ≤ n) × (n ≤ MOST_INTEGER_BITS) × (little ≡ true → n % 8 ≡ 0)

-- 1 to 19 digits of some bits each
abbrev pub DigitsFit : (size : ℕ) → ℕ → Type 0
DigitsFit size n = (count : ℕ) × (n ≡ size * count) × (count ≤ 19) × (1 ≤ count)

-- two patterns have one length
abbrev pub PatternsFit : Option (List Bool) → Option (List Bool) → Type 0
PatternsFit (Some p) (Some q) = length p ≡ length q
PatternsFit _ _ = Unit {0}

-- a sign octet and 1 to 18 digits
abbrev pub SignedDigitsFit : ℕ → Type 0
SignedDigitsFit n = (16 ≤ n) × (n ≤ 152) × (n % 8 ≡ 0)

-- a terminator of whole octets, which a pattern holds
abbrev pub EndFits : List Bool → Type 0
EndFits end = (8 ≤ length end) × (length end ≤ MOST_PATTERN_BITS) × (length end % 8 ≡ 0)

-- widths, ends and patterns that fit a word
abbrev pub CodingFits : NumCoding → (little : Bool) → Type 0
CodingFits (Range low width) little = IsEnd low × (width ≤ WORD_BITS)
CodingFits (CountedFrom low) little = IsEnd low
CodingFits CountedSigned little = Unit {0}
CodingFits (PosInt n) little = OrderFits little n
CodingFits (Twos n) little = OrderFits little n
CodingFits (Bcd n) little = DigitsFit 4 n
CodingFits BcdEnded little = Unit {0}
CodingFits (Ascii n false) little = DigitsFit 8 n
CodingFits (Ascii n true) little = SignedDigitsFit n
CodingFits (AsciiEnded end signed) little = EndFits end
CodingFits (Flag ones zeros) little = PatternsFit ones zeros
CodingFits (Fixed pattern) little = Unit {0}

-- an ended number isn't that of an item
abbrev pub PlainEnded : NumCoding → (values : Bool) → Type 0
PlainEnded BcdEnded values = values ≡ false
PlainEnded (AsciiEnded end signed) values = values ≡ false
PlainEnded _ values = Unit {0}

-- what a leaf that keeps its rules gives to the code
pub record LeafFits (leaf : NumLeaf) : Type 0 where
  pub coding : CodingFits leaf.coding leaf.little
  pub table : IsNearTable leaf.table
  pub apart : IsApartTable leaf.table
  pub plain : PlainEnded leaf.coding leaf.items.values

-- The numbers that a coding can write.
abbrev pub CanWrite : NumCoding → ℤ → Type 0
CanWrite (Range low width) y = (k : ℕ) × (y ≡ low +ℤ pos k) × (k < 2 ^ width)
CanWrite (CountedFrom low) y = (k : ℕ) × (y ≡ low +ℤ pos k) × (k < 2 ^ 64)
CanWrite CountedSigned y = (neg_ℤ (pos (2 ^ 63)) ≤ℤ y) × (y <ℤ pos (2 ^ 63))
CanWrite (PosInt n) y = (k : ℕ) × (y ≡ pos k) × (k < 2 ^ n)
CanWrite (Twos n) y = (neg_ℤ (pos (2 ^ (n - 1))) ≤ℤ y) × (y <ℤ pos (2 ^ (n - 1)))
CanWrite (Bcd n) y = (k : ℕ) × (y ≡ pos k) × (k < 10 ^ (n / 4))
CanWrite BcdEnded y = (k : ℕ) × (y ≡ pos k) × (k < 2 ^ 64)
CanWrite (Ascii n false) y = (k : ℕ) × (y ≡ pos k) × (k < 10 ^ (n / 8))
CanWrite (Ascii n true) y = (neg_ℤ (pos (10 ^ (n / 8 - 1))) <ℤ y) × (y <ℤ pos (10 ^ (n / 8 - 1)))
CanWrite (AsciiEnded end false) y = (k : ℕ) × (y ≡ pos k) × (k < 2 ^ 64)
CanWrite (AsciiEnded end true) y = (neg_ℤ (pos (2 ^ 63)) ≤ℤ y) × (y <ℤ pos (2 ^ 63))
CanWrite (Flag ones zeros) y = (y ≡ pos 0) ⊎ (y ≡ pos 1)
CanWrite (Fixed pattern) y = y ≡ pos 0
