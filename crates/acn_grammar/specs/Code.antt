-- The codes of number leaves, a line a coding. Range, the counted ones and a BOOLEAN's or NULL's without a pattern are those
-- of X.691, unaligned (11.5, 11.7, 11.8, clauses 12, 14 and 18); the others are ACN's, as this profile has them.
use Rattle.std.specs.Prelude.{◌≡◌, ◌≢◌, ℕ, suc, ◌+◌, ◌*◌, ◌^◌, ◌<◌, ◌≤◌, ℤ, pos, negsuc, ◌+ℤ◌, ◌-ℤ◌, Bool, true, false, not, List, [], ◌∷◌, ◌++◌, length, map, reverse, Option, Some, None, slice_get, ◌⊎◌, ◌&&◌, int_le, if◌then◌else◌, option_map}
use Rattle.std.specs.List.{AllByRecursion, flat_map}
use Rattle.acn_num.specs.Bits.{number, signed_number, low_bits, bits, IsNumber, IsSigned}
use Rattle.acn_num.specs.Ranges.{In}
use Rattle.acn_grammar.specs.Grammar.{Data, int, boolean, item, null}
use Rattle.acn_grammar.specs.declared.node.NumKind.{NumKind}
use Rattle.acn_grammar.specs.declared.node.NumKind.TheVariants.{Integer, Boolean, Enumerated, Null}
use Rattle.acn_grammar.specs.declared.node.NumLeaf.{NumLeaf}
use Rattle.acn_grammar.specs.declared.node.NumCoding.{NumCoding}
use Rattle.acn_grammar.specs.declared.node.NumCoding.TheVariants.{Range, CountedFrom, CountedSigned, PosInt, Twos, Bcd, BcdEnded, Ascii, AsciiEnded, Flag, Fixed}
use Rattle.acn_grammar.specs.declared.node.Table.{Table}

-- What is written has one spelling. What is read may have any padding, fill and value of one Boolean pattern.
pub data Mode : Type 0 where
  Written : Mode
  Any : Mode

-- The number of a leaf's value.

abbrev pub NumberOf : NumKind → Data → ℤ → Type 0
NumberOf Integer (int x) y = y ≡ x
NumberOf Boolean (boolean true) y = y ≡ pos 1
NumberOf Boolean (boolean false) y = y ≡ pos 0
NumberOf Enumerated (item i) y = y ≡ pos i
NumberOf Null null y = y ≡ pos 0
NumberOf _ _ y = ⊥

-- What is written of a number: its image under the table, or the number of the item, or itself.

abbrev pub on_line : (ℤ × ℤ × ℤ) → ℤ → Bool
on_line line x = int_le line.0 x && int_le x line.1

abbrev pub image_in : List (ℤ × ℤ × ℤ) → ℤ → Option ℤ
image_in [] x = None
image_in (line ∷ lines) x = if on_line line x then Some (line.2 +ℤ (x -ℤ line.0)) else image_in lines x

abbrev pub image_by : Option Table → ℤ → Option ℤ
image_by None x = Some x
image_by (Some table) x = image_in table.lines x

abbrev pub item_number : List (List ℕ × ℤ) → ℤ → Option ℤ
item_number items (pos i) = option_map (λ named. named.1) (slice_get items i)
item_number items (negsuc n) = None

abbrev pub image_of : NumLeaf → ℤ → Option ℤ
image_of leaf x = if leaf.items.values then item_number leaf.items.items x else image_by leaf.table x

-- Decimal digits.

abbrev pub decimal_number : List ℕ → ℕ
decimal_number [] = 0
decimal_number (d ∷ ds) = d * 10 ^ length ds + decimal_number ds

pub record AreDigits (x : ℕ) (ds : List ℕ) : Type 0 where
  pub digits : AllByRecursion (λ d. d < 10) ds
  pub value : decimal_number ds ≡ x

-- no leading zeros, and at least one digit
abbrev pub IsMinimal : List ℕ → Type 0
IsMinimal [] = ⊥
IsMinimal (d ∷ []) = Unit {0}
IsMinimal (d ∷ e ∷ ds) = 0 < d

abbrev pub nibbles : List ℕ → List Bool
nibbles ds = flat_map (λ d. low_bits 4 d) ds

abbrev pub digit_octets : List ℕ → List Bool
digit_octets ds = bits (map (λ d. 48 + d) ds)

abbrev pub magnitude : ℤ → ℕ
magnitude (pos n) = n
magnitude (negsuc n) = suc n

-- the octet of the sign, where there is one, for this magnitude
abbrev pub SignOctet : (signed : Bool) → ℤ → ℕ → List Bool → Type 0
SignOctet false x k bs = (x ≡ pos k) × (bs ≡ [])
SignOctet true (pos n) k bs = (k ≡ n) × (bs ≡ low_bits 8 43)
SignOctet true (negsuc n) k bs = (k ≡ suc n) × (bs ≡ low_bits 8 45)

-- the octets in the other order
abbrev pub in_octets : List Bool → List (List Bool)
in_octets (a ∷ b ∷ c ∷ d ∷ e ∷ f ∷ g ∷ h ∷ rest) = (a ∷ b ∷ c ∷ d ∷ e ∷ f ∷ g ∷ h ∷ []) ∷ in_octets rest
in_octets _ = []

abbrev pub in_order : (little : Bool) → List Bool → List Bool
in_order false bs = bs
in_order true bs = flat_map (λ octet. octet) (reverse (in_octets bs))

-- Booleans with patterns: what stands for the number 1 and the number 0.

abbrev pub opposite : List Bool → List Bool
opposite bs = map not bs

-- the other value, where one has a pattern
abbrev pub OtherPattern : Mode → List Bool → List Bool → Type 0
OtherPattern Written p bs = bs ≡ opposite p
OtherPattern Any p bs = (length bs ≡ length p) × (bs ≢ p)

abbrev pub FlagCode : Mode → (ones zeros : Option (List Bool)) → ℤ → List Bool → Type 0
FlagCode mode None None x bs = (k : ℕ) × (x ≡ pos k) × IsNumber 1 k bs
FlagCode mode (Some p) (Some q) x bs = ((x ≡ pos 1) × (bs ≡ p)) ⊎ ((x ≡ pos 0) × (bs ≡ q))
FlagCode mode (Some p) None x bs = ((x ≡ pos 1) × (bs ≡ p)) ⊎ ((x ≡ pos 0) × OtherPattern mode p bs)
FlagCode mode None (Some q) x bs = ((x ≡ pos 0) × (bs ≡ q)) ⊎ ((x ≡ pos 1) × OtherPattern mode q bs)

-- a count octet, and that many octets
pub record Counted (fits : ℕ → List Bool → Type 0) (bs : List Bool) : Type 0 where
  pub count : ℕ
  pub front : List Bool
  pub body : List Bool
  pub whole : bs ≡ front ++ body
  pub counts : IsNumber 8 count front
  pub spells : fits count body
  pub positive : 0 < count
  pub least : (c : ℕ) (other : List Bool) → 0 < c → fits c other → count ≤ c

-- the digits of a number, with what stands before and behind them
pub record InDigits (k : ℕ) (code : List ℕ → List Bool) (front end : List Bool) (bs : List Bool) : Type 0 where
  pub digits : List ℕ
  pub spell : AreDigits k digits
  pub whole : bs ≡ front ++ (code digits ++ end)

pub record InMinimalDigits (k : ℕ) (code : List ℕ → List Bool) (front end : List Bool) (bs : List Bool) : Type 0 where
  pub digits : List ℕ
  pub spell : AreDigits k digits
  pub minimal : IsMinimal digits
  pub whole : bs ≡ front ++ (code digits ++ end)

-- One line per coding: the bits that stand for a written number.
abbrev pub CodingCode : Mode → NumCoding → (little : Bool) → ℤ → List Bool → Type 0
CodingCode mode (Range low width) little y bs = (k : ℕ) × (y ≡ low +ℤ pos k) × IsNumber width k bs
CodingCode mode (CountedFrom low) little y bs = (k : ℕ) × (y ≡ low +ℤ pos k) × Counted (λ c body. IsNumber (8 * c) k body) bs
CodingCode mode CountedSigned little y bs = Counted (λ c body. IsSigned (8 * c) y body) bs
CodingCode mode (PosInt n) little y bs = (length bs ≡ n) × (y ≡ pos (number (in_order little bs)))
CodingCode mode (Twos n) little y bs = (length bs ≡ n) × (y ≡ signed_number (in_order little bs))
CodingCode mode (Bcd n) little y bs = (k : ℕ) × (y ≡ pos k) × (length bs ≡ n) × InDigits k nibbles [] [] bs
CodingCode mode BcdEnded little y bs = (k : ℕ) × (y ≡ pos k) × InMinimalDigits k nibbles [] (low_bits 4 15) bs
CodingCode mode (Ascii n signed) little y bs = (k : ℕ) × (sign : List Bool) × SignOctet signed y k sign × (length bs ≡ n) × InDigits k digit_octets sign [] bs
CodingCode mode (AsciiEnded end signed) little y bs = (k : ℕ) × (sign : List Bool) × SignOctet signed y k sign × InMinimalDigits k digit_octets sign end bs
CodingCode mode (Flag ones zeros) little y bs = FlagCode mode ones zeros y bs
CodingCode mode (Fixed pattern) little y bs = (y ≡ pos 0) × (bs ≡ pattern)

-- These bits code the number in the leaf.
pub record Code (mode : Mode) (leaf : NumLeaf) (x : ℤ) (bs : List Bool) : Type 0 where
  pub permitted : In leaf.set x
  pub image : ℤ
  pub maps : image_of leaf x ≡ Some image
  pub spelled : CodingCode mode leaf.coding leaf.little image bs
