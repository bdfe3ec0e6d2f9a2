-- Why a number leaf can't be read: the first reason that holds, coding by coding. (This profile's own.)
use Rattle.std.specs.Prelude.{◌≡◌, ℕ, ◌+◌, ◌-◌, ◌*◌, ◌<◌, ◌≤◌, ℤ, pos, neg_ℤ, ◌+ℤ◌, Bool, true, false, List, [], ◌∷◌, ◌++◌, length, map, take, drop, Some, None, ◌⊎◌, nat_abs, max}
use Rattle.std.specs.List.{AllByRecursion}
use Rattle.acn_num.specs.Bits.{number, signed_number, low_bits}
use Rattle.acn_num.specs.Ranges.{In}
use Rattle.acn_grammar.specs.Code.{in_order, in_octets, image_of, decimal_number, IsMinimal, nibbles, digit_octets}
use Rattle.acn_grammar.specs.Images.{images_of}
use Rattle.acn_grammar.specs.Length.{least_octets, least_signed_octets, digit_count, flag_width}
use Rattle.acn_grammar.specs.declared.node.NumLeaf.{NumLeaf}
use Rattle.acn_grammar.specs.declared.node.NumCoding.{NumCoding}
use Rattle.acn_grammar.specs.declared.node.NumCoding.TheVariants.{Range, CountedFrom, CountedSigned, PosInt, Twos, Bcd, BcdEnded, Ascii, AsciiEnded, Flag, Fixed}

pub data Reason : Type 0 where
  short : Reason
  out_of_range : (wire : ℤ) → Reason
  not_minimal : Reason
  bad_digit : Reason
  bad_character : Reason
  bad_pattern : Reason
  too_long : Reason
  size_out_of_range : (n : ℕ) → Reason
  no_alternative : Reason
  content_size : (octets used : ℕ) → Reason
  past_content : Reason

-- What stands in the bits: a number, or a reason that goes before the range.
pub data Wire : Type 0 where
  says : (wire image : ℤ) → Wire
  wrong : Reason → Wire

-- digits of 4 bits or of an octet
abbrev pub nibbles_of : List Bool → List ℕ
nibbles_of (a ∷ b ∷ c ∷ d ∷ rest) = number (a ∷ b ∷ c ∷ d ∷ []) ∷ nibbles_of rest
nibbles_of _ = []

abbrev pub octet_values : List Bool → List ℕ
octet_values bs = map number (in_octets bs)

abbrev pub AllDigits : (zero_digit : ℕ) → List ℕ → Type 0
AllDigits z ds = AllByRecursion (λ d. (z ≤ d) × (d < z + 10)) ds

abbrev pub value_of : (zero_digit : ℕ) → List ℕ → ℕ
value_of z ds = decimal_number (map (λ d. d - z) ds)

-- an octet s before the octets ds
pub data SignBefore (s : ℕ) (ds : List ℕ) (w : Wire) : Type 0 where
  plus_digits : (s ≡ 43) × AllDigits 48 ds × (w ≡ says (pos (value_of 48 ds)) (pos (value_of 48 ds))) → SignBefore s ds w
  minus_digits : (s ≡ 45) × AllDigits 48 ds × (0 < value_of 48 ds) × (w ≡ says (neg_ℤ (pos (value_of 48 ds))) (neg_ℤ (pos (value_of 48 ds)))) → SignBefore s ds w
  -- zero has a plus
  minus_nothing : (s ≡ 45) × AllDigits 48 ds × (value_of 48 ds ≡ 0) × (w ≡ wrong not_minimal) → SignBefore s ds w
  no_signed_digits : ((s ≡ 43) ⊎ (s ≡ 45) → AllDigits 48 ds → ⊥) × (w ≡ wrong bad_digit) → SignBefore s ds w

-- a sign octet and digits
abbrev pub SignedWire : List ℕ → Wire → Type 0
SignedWire [] w = ⊥
SignedWire (s ∷ ds) w = SignBefore s ds w

abbrev pub DigitsWire : (zero_digit : ℕ) → List ℕ → Wire → Type 0
DigitsWire z ds w =
    (AllDigits z ds × (w ≡ says (pos (value_of z ds)) (pos (value_of z ds)))) ⊎ ((AllDigits z ds → ⊥) × (w ≡ wrong bad_digit))

abbrev pub PatternWire : List (List Bool × ℤ) → List Bool → Wire → Type 0
PatternWire [] bs w = w ≡ wrong bad_pattern
PatternWire (p ∷ ps) bs w = ((bs ≡ p.0) × (w ≡ says p.1 p.1)) ⊎ ((bs ≡ p.0 → ⊥) × PatternWire ps bs w)

-- the pattern says its own number, and every other the other one
abbrev pub OnePatternWire : List Bool → (own other : ℤ) → List Bool → Wire → Type 0
OnePatternWire p own other bs w = ((bs ≡ p) × (w ≡ says own own)) ⊎ ((bs ≡ p → ⊥) × (w ≡ says other other))

-- codes of one width, and what these bits say
abbrev pub FixedWire : NumCoding → (little : Bool) → List Bool → Wire → Type 0
FixedWire (Range low width) little bs w = w ≡ says (pos (number bs)) (low +ℤ pos (number bs))
FixedWire (PosInt n) little bs w = w ≡ says (pos (number (in_order little bs))) (pos (number (in_order little bs)))
FixedWire (Twos n) little bs w = w ≡ says (signed_number (in_order little bs)) (signed_number (in_order little bs))
FixedWire (Bcd n) little bs w = DigitsWire 0 (nibbles_of bs) w
FixedWire (Ascii n true) little bs w = SignedWire (octet_values bs) w
FixedWire (Ascii n false) little bs w = DigitsWire 48 (octet_values bs) w
FixedWire (Flag None None) little bs w = w ≡ says (pos (number bs)) (pos (number bs))
FixedWire (Flag (Some p) None) little bs w = OnePatternWire p (pos 1) (pos 0) bs w
FixedWire (Flag None (Some q)) little bs w = OnePatternWire q (pos 0) (pos 1) bs w
FixedWire (Flag (Some p) (Some q)) little bs w = PatternWire ((p, pos 1) ∷ (q, pos 0) ∷ []) bs w
FixedWire (Fixed p) little bs w = PatternWire ((p, pos 0) ∷ []) bs w
FixedWire _ little bs w = ⊥

abbrev pub NoneHas : NumLeaf → ℤ → Type 0
NoneHas leaf image = (x : ℤ) → In leaf.set x → image_of leaf x ≡ Some image → ⊥

abbrev pub WireFails : NumLeaf → Wire → Reason → Type 0
WireFails leaf (says wire image) r = NoneHas leaf image × (r ≡ out_of_range wire)
WireFails leaf (wrong e) r = r ≡ e

-- a leaf of one width, and how many bits the reason rests on
pub data FixedFails (coding : NumCoding) (leaf : NumLeaf) (width : ℕ) (input : List Bool) (r : Reason) (reach : ℕ) : Type 0 where
  -- its bits aren't all there
  code_cut : (length input < width) × (r ≡ short) × (reach ≡ length input) → FixedFails coding leaf width input r reach
  -- what they say is no permitted number
  code_not_permitted : (width ≤ length input) × ((w : Wire) × FixedWire coding leaf.little (take width input) w × WireFails leaf w r) × (reach ≡ width) → FixedFails coding leaf width input r reach

-- A count octet c and a value in the c octets behind it, of which least says how many it needs: why they code no permitted number, and
-- how many bits that rests on.
pub data CountFails (leaf : NumLeaf) (least : ℤ → ℕ) (image : ℤ → ℤ) (c : ℕ) (value : ℤ) (input : List Bool) (r : Reason) (reach : ℕ) : Type 0 where
  no_count : (length input < 8) × (r ≡ short) × (reach ≡ length input) → CountFails leaf least image c value input r reach
  none_counted : (8 ≤ length input) × (c ≡ 0) × (r ≡ not_minimal) × (reach ≡ 8) → CountFails leaf least image c value input r reach
  -- more octets than a number has
  many_counted : (8 ≤ length input) × (8 < c) × (r ≡ too_long) × (reach ≡ 8) → CountFails leaf least image c value input r reach
  octets_cut : (8 ≤ length input) × (0 < c) × (c ≤ 8) × (length input < 8 + 8 * c) × (r ≡ short) × (reach ≡ length input) → CountFails leaf least image c value input r reach
  -- fewer octets would do
  octets_to_spare : (8 + 8 * c ≤ length input) × (0 < c) × (c ≤ 8) × (least value < c) × (r ≡ not_minimal) × (reach ≡ 8 + 8 * c) → CountFails leaf least image c value input r reach
  counted_not_permitted : (8 + 8 * c ≤ length input) × (0 < c) × (c ≤ 8) × (least value ≡ c) × NoneHas leaf (image value) × (r ≡ out_of_range value) × (reach ≡ 8 + 8 * c) → CountFails leaf least image c value input r reach

abbrev pub CountedFails : NumLeaf → (number_in : List Bool → ℤ) → (least : ℤ → ℕ) → (image : ℤ → ℤ) → List Bool → Reason → (reach : ℕ) → Type 0
CountedFails leaf number_in least image input r reach = CountFails leaf least image (number (take 8 input)) (number_in (take (8 * number (take 8 input)) (drop 8 input))) input r reach

-- Ended numbers, character by character.

-- a digit's code stands at the front
pub record DigitAt (code : List ℕ → List Bool) (rest : List Bool) : Type 0 where
  pub digit : ℕ
  pub below : digit < 10
  pub stands : take (length (code (digit ∷ []))) rest ≡ code (digit ∷ [])

abbrev pub EndAt : List Bool → List Bool → Type 0
EndAt end rest = take (length end) rest ≡ end

-- Digits stand so far: why what stands behind them ends no permitted number, and how many bits behind the digits that rests on.
pub data CharacterFails (leaf : NumLeaf) (code : List ℕ → List Bool) (size : ℕ) (end : List Bool) (most : ℕ) (IsValue : ℕ → ℤ → Type 0) (ds : List ℕ) (rest : List Bool) (r : Reason) (more : ℕ) : Type 0 where
  -- the bits of a character aren't all there
  cut : (length rest < size) × (r ≡ short) × (more ≡ length rest) → CharacterFails leaf code size end most IsValue ds rest r more
  -- no digit, and the bits of the end aren't all there
  end_cut : (size ≤ length rest) × (DigitAt code rest → ⊥) × (length rest < length end) × (r ≡ short) × (more ≡ length rest) → CharacterFails leaf code size end most IsValue ds rest r more
  -- a digit behind as many as there may be
  digit_too_many : (size ≤ length rest) × DigitAt code rest × (length ds ≡ most) × (r ≡ too_long) × (more ≡ size) → CharacterFails leaf code size end most IsValue ds rest r more
  -- neither a digit nor the end
  no_digit_no_end : (size ≤ length rest) × (DigitAt code rest → ⊥) × (length end ≤ length rest) × (EndAt end rest → ⊥) × (r ≡ bad_digit) × (more ≡ max size (length end)) → CharacterFails leaf code size end most IsValue ds rest r more
  -- the end behind no digit
  end_alone : (length end ≤ length rest) × EndAt end rest × (ds ≡ []) × (r ≡ bad_digit) × (more ≡ length end) → CharacterFails leaf code size end most IsValue ds rest r more
  -- the end behind more digits than the number needs, or behind digits that say no number
  not_shortest : (length end ≤ length rest) × EndAt end rest × (0 < length ds) × (IsMinimal ds × ((x : ℤ) × IsValue (decimal_number ds) x) → ⊥) × (r ≡ not_minimal) × (more ≡ length end) → CharacterFails leaf code size end most IsValue ds rest r more
  -- the end behind a number that isn't permitted
  not_permitted : (length end ≤ length rest) × EndAt end rest × IsMinimal ds × ((x : ℤ) × IsValue (decimal_number ds) x × NoneHas leaf x × (r ≡ out_of_range x)) × (more ≡ length end) → CharacterFails leaf code size end most IsValue ds rest r more

pub record EndedFails (leaf : NumLeaf) (code : List ℕ → List Bool) (size : ℕ) (end : List Bool) (most : ℕ) (IsValue : ℕ → ℤ → Type 0) (rest : List Bool) (r : Reason) (reach : ℕ) : Type 0 where
  pub digits : List ℕ
  pub behind : List Bool
  pub whole : rest ≡ code digits ++ behind
  pub are : AllByRecursion (λ d. d < 10) digits
  pub few : length digits ≤ most
  pub more : ℕ
  pub fails : CharacterFails leaf code size end most IsValue digits behind r more
  pub reaches : reach ≡ length (code digits) + more

-- the digits of the written number of greatest magnitude
abbrev pub most_digits : List (ℤ × ℤ) → ℕ
most_digits [] = 1
most_digits (i ∷ is) = max (max (digit_count (nat_abs i.0)) (digit_count (nat_abs i.1))) (most_digits is)

abbrev pub Positive : ℕ → ℤ → Type 0
Positive k x = x ≡ pos k

abbrev pub Negative : ℕ → ℤ → Type 0
Negative k x = (0 < k) × (x ≡ neg_ℤ (pos k))

-- behind a sign octet
pub record BehindSign (leaf : NumLeaf) (end : List Bool) (IsValue : ℕ → ℤ → Type 0) (rest : List Bool) (r : Reason) (reach : ℕ) : Type 0 where
  pub more : ℕ
  pub fails : EndedFails leaf digit_octets 8 end (most_digits (images_of leaf)) IsValue (drop 8 rest) r more
  pub reaches : reach ≡ 8 + more

-- an octet first, which is to be a sign
pub data SignFails (leaf : NumLeaf) (end : List Bool) (sign : ℕ) (rest : List Bool) (r : Reason) (reach : ℕ) : Type 0 where
  sign_cut : (length rest < 8) × (r ≡ short) × (reach ≡ length rest) → SignFails leaf end sign rest r reach
  fails_behind_plus : (8 ≤ length rest) × (sign ≡ 43) × BehindSign leaf end Positive rest r reach → SignFails leaf end sign rest r reach
  fails_behind_minus : (8 ≤ length rest) × (sign ≡ 45) × BehindSign leaf end Negative rest r reach → SignFails leaf end sign rest r reach
  no_sign_octet : (8 ≤ length rest) × ((sign ≡ 43) ⊎ (sign ≡ 45) → ⊥) × (r ≡ bad_digit) × (reach ≡ 8) → SignFails leaf end sign rest r reach

abbrev pub AsciiEndedFails : NumLeaf → (end : List Bool) → (signed : Bool) → List Bool → Reason → (reach : ℕ) → Type 0
AsciiEndedFails leaf end false rest r reach = EndedFails leaf digit_octets 8 end (most_digits (images_of leaf)) Positive rest r reach
AsciiEndedFails leaf end true rest r reach = SignFails leaf end (number (take 8 rest)) rest r reach

-- the first reason that holds
abbrev pub CodingFails : NumCoding → NumLeaf → List Bool → Reason → (reach : ℕ) → Type 0
CodingFails (Range low width) leaf rest r reach = FixedFails (Range low width) leaf width rest r reach
CodingFails (CountedFrom low) leaf rest r reach = CountedFails leaf (λ b. pos (number b)) (λ x. least_octets (nat_abs x)) (λ x. low +ℤ x) rest r reach
CodingFails CountedSigned leaf rest r reach = CountedFails leaf signed_number least_signed_octets (λ x. x) rest r reach
CodingFails (PosInt n) leaf rest r reach = FixedFails (PosInt n) leaf n rest r reach
CodingFails (Twos n) leaf rest r reach = FixedFails (Twos n) leaf n rest r reach
CodingFails (Bcd n) leaf rest r reach = FixedFails (Bcd n) leaf n rest r reach
CodingFails BcdEnded leaf rest r reach = EndedFails leaf nibbles 4 (low_bits 4 15) (most_digits (images_of leaf)) Positive rest r reach
CodingFails (Ascii n signed) leaf rest r reach = FixedFails (Ascii n signed) leaf n rest r reach
CodingFails (AsciiEnded end signed) leaf rest r reach = AsciiEndedFails leaf end signed rest r reach
CodingFails (Flag ones zeros) leaf rest r reach = FixedFails (Flag ones zeros) leaf (flag_width ones zeros) rest r reach
CodingFails (Fixed pattern) leaf rest r reach = FixedFails (Fixed pattern) leaf (length pattern) rest r reach

abbrev pub LeafFails : NumLeaf → List Bool → Reason → (reach : ℕ) → Type 0
LeafFails leaf rest r reach = CodingFails leaf.coding leaf rest r reach
