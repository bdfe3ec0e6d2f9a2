-- Spellings of whole packets, as they are written and as they stand at the front of an input. (This profile's own.)
use Rattle.std.specs.Prelude.{ℕ, ◌≤◌, Bool, List, [], length, take}
use Rattle.acn_grammar.specs.Grammar.{Grammar, Data}
use Rattle.acn_grammar.specs.Code.{Written, Any}
use Rattle.acn_grammar.specs.Spell.{Spell}

-- the first n bits of the input spell the value
pub record Front (root : Grammar) (input : List Bool) (d : Data) (n : ℕ) : Type 0 where
  pub within : n ≤ length input
  pub spelled : Spell root Any root [] d 0 (take n input)

-- what is written for the value
abbrev pub IsWritten : Grammar → Data → List Bool → Type 0
IsWritten root d bs = Spell root Written root [] d 0 bs
