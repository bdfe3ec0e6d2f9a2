-- The steps by which texts are read and written.
use Rattle.std.specs.Prelude.{◌≡◌, ℕ, ◌+◌, ◌-◌, ◌^◌, ◌<◌, ◌≤◌, ℤ, pos, ◌≤ℤ◌, Bool, List, [], ◌++◌, length, take, Option, Some, None}
use Rattle.std.specs.List.{AllByRecursion, flat_map}
use Rattle.acn_num.specs.Bits.{number, low_bits}
use Rattle.acn_num.specs.Ranges.{In}
use Rattle.acn_bits.specs.Reading.{Reading, passed, Reads}
use Rattle.acn_grammar.specs.Env.{Env}
use Rattle.acn_grammar.specs.Fails.{Here, SizeFails, CharactersFail}
use Rattle.acn_grammar.specs.LeafFails.{Reason}
use Rattle.acn_grammar.specs.Spell.{CharactersPart, character_number}
use Rattle.acn_grammar.specs.declared.node.SizeRule.{SizeRule}
use Rattle.acn_grammar.specs.declared.node.SizeRule.TheVariants.{Prefix, Slot, Ended}
use Rattle.acn_grammar.specs.declared.node.Sizing.{Sizing}
use Rattle.acn_grammar.specs.declared.node.TextLeaf.{TextLeaf}
use Rattle.acn_text.specs.Texts.{SlotSays, fault_here}
use Rattle.acn_num.specs.declared.limits.TheConstants.{MOST_SIZE}
use Rattle.acn_bits.specs.declared.word.TheConstants.{WORD_BITS}

-- from 0 to 255
abbrev pub IsSmall : ℤ → Type 0
IsSmall x = (pos 0 ≤ℤ x) × (x ≤ℤ pos 255)

-- the character is permitted, and this is its number
abbrev pub IsCharacter : TextLeaf → (c v : ℕ) → Type 0
IsCharacter leaf c v = In leaf.alphabet (pos c) × (character_number leaf c ≡ v)

-- no permitted character has the number
abbrev pub NoCharacter : TextLeaf → ℕ → Type 0
NoCharacter leaf v = (c : ℕ) → In leaf.alphabet (pos c) → character_number leaf c ≡ v → ⊥

-- a size in front that fits a word
abbrev pub RuleFits : SizeRule → Type 0
RuleFits (Prefix low width) = (low ≤ MOST_SIZE) × (width ≤ 17)
RuleFits (Slot s) = Unit {0}
RuleFits (Ended p) = ⊥

-- the size was taken from the bits in front, or is the given one
abbrev pub SizeTaken : SizeRule → Option ℕ → Reading → Reading → ℕ → Type 0
SizeTaken (Prefix low width) given old new n = (width ≤ length old.rest) × (n ≡ low + number (take width old.rest)) × (new ≡ passed width old)
SizeTaken (Slot s) given old new n = (given ≡ Some n) × (new ≡ old)
SizeTaken (Ended p) given old new n = ⊥

-- fewer bits than the size in front has are left
abbrev pub SizeMissing : SizeRule → Reading → Type 0
SizeMissing (Prefix low width) old = length old.rest < width
SizeMissing (Slot s) old = ⊥
SizeMissing (Ended p) old = ⊥

-- the first reason why no size stands at the front
pub record NoSizeAt (sizing : Sizing) (given : Option ℕ) (rest : List Bool) (r : Reason) : Type 0 where
  pub reach : ℕ
  pub fails : (here : Here) (env : Env) (at : ℕ) → SlotSays sizing.rule given env → SizeFails here sizing env at rest (fault_here here r) reach

-- n characters were passed, and each was given in order
pub record PassedCharacters (leaf : TextLeaf) (Gives : List ℕ → Type 0) (old new : Reading) (n : ℕ) : Type 0 where
  pub text : List ℕ
  pub size : length text ≡ n
  pub gives : Gives text
  pub read : Reads (λ bs. (at : ℕ) → CharactersPart leaf text at bs) old new

-- the first reason why no n characters stand at the front
pub record NoCharactersAt (leaf : TextLeaf) (n : ℕ) (rest : List Bool) (r : Reason) : Type 0 where
  pub reach : ℕ
  pub fails : (here : Here) (at : ℕ) → CharactersFail here leaf n at rest (fault_here here r) reach

-- the bits of characters
abbrev pub character_bits : TextLeaf → List ℕ → List Bool
character_bits leaf cs = flat_map (λ c. low_bits leaf.width (character_number leaf c)) cs

-- the bits of a size in front
abbrev pub size_bits : SizeRule → ℕ → List Bool
size_bits (Prefix low width) n = low_bits width (n - low)
size_bits (Slot s) n = []
size_bits (Ended p) n = []

-- the bits of a text
abbrev pub text_bits : Option (List Bool) → TextLeaf → List ℕ → List Bool
text_bits None leaf cs = size_bits leaf.sized.rule (length cs) ++ character_bits leaf cs
text_bits (Some end) leaf cs = character_bits leaf cs ++ end

-- a permitted character, whose number fits the width
abbrev pub IsFitting : TextLeaf → ℕ → Type 0
IsFitting leaf c = In leaf.alphabet (pos c) × (character_number leaf c < 2 ^ leaf.width)

-- all are
abbrev pub NumbersFit : TextLeaf → List ℕ → Type 0
NumbersFit leaf cs = AllByRecursion (λ c. IsFitting leaf c) cs

-- the size is one that stands in front so
abbrev pub SizeFits : SizeRule → ℕ → Type 0
SizeFits (Prefix low width) n = (low ≤ n) × (width ≤ WORD_BITS) × (n - low < 2 ^ width)
SizeFits (Slot s) n = Unit {0}
SizeFits (Ended p) n = ⊥
