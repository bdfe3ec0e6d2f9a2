-- Characters that are read out of words. (This profile's own.)
use Rattle.std.specs.Prelude.{◌≡◌, ℕ, ◌+◌, ◌≤◌, Bool, List, ◌++◌, length, None}
use Rattle.json.specs.Print.{escape}
use Rattle.acn_bits.specs.Reading.{Reading, Reads}
use Rattle.acn_grammar.specs.Spell.{CharactersPart}
use Rattle.acn_grammar.specs.declared.node.TextLeaf.{TextLeaf}
use Rattle.acn_text.specs.Steps.{IsCharacter}
use Rattle.acn_string_lines.specs.declared.letters.Letters.{Letters}

-- the characters from the least to the greatest are those of the leaf, whose number is so far behind
pub record AreLetters (letters : Letters) (leaf : TextLeaf) : Type 0 where
  pub sized : leaf.ended ≡ None
  pub narrow : leaf.width ≤ 8
  pub few : letters.high ≤ 127
  pub near : letters.ahead ≤ 127
  pub each : (c n : ℕ) → letters.low ≤ c → c ≤ letters.high → c ≡ n + letters.ahead → IsCharacter leaf c n

-- the characters of seven bits, each under its own number
pub record AreSevens (letters : Letters) (leaf : TextLeaf) : Type 0 where
  pub width : leaf.width ≡ 7
  pub low : letters.low ≡ 0
  pub high : letters.high ≡ 127
  pub ahead : letters.ahead ≡ 0

-- these bits spell so many characters
pub record AreCharacters (leaf : TextLeaf) (n : ℕ) (cs : List ℕ) (bs : List Bool) : Type 0 where
  pub size : length cs ≡ n
  pub spelled : (at : ℕ) → CharactersPart leaf cs at bs

-- so many characters were read, and put as they stand in a string
abbrev pub PutsCharacters : TextLeaf → ℕ → (text text' : List ℕ) → Reading → Reading → Type 0
PutsCharacters leaf n text text' a b = (cs : List ℕ) × Reads (AreCharacters leaf n cs) a b × (text' ≡ text ++ escape cs)
