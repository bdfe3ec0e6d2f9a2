-- The shortest and the longest packet of a grammar. (This profile's own.)
use Rattle.std.specs.Prelude.{◌≤◌, Bool, List, [], length}
use Rattle.acn_grammar.specs.Code.{Mode}
use Rattle.acn_grammar.specs.Grammar.{Grammar, Data}
use Rattle.acn_grammar.specs.Meets.{Unfit}
use Rattle.acn_grammar.specs.Refused.{Refused}
use Rattle.acn_grammar.specs.Shaped.{Shaped}
use Rattle.acn_grammar.specs.Spell.{Spell}
use Rattle.acn_grammar.specs.View.{data_of}
use Rattle.acn_extreme_laws.specs.Laws.{IsEnd}
use Rattle.acn_extreme_laws.specs.Single.{FirstUnsingle}
use Rattle.acn_extremes.specs.declared.answer.Ends.{Ends}
use Rattle.acn_extremes.specs.declared.answer.ExtremesFault.{ExtremesFault}
use Rattle.acn_extremes.specs.declared.answer.ExtremesFault.TheVariants.{NotSingle, NoMemory}

-- both values are written in as many bits as is said, and no value has a spelling, written or read, that is shorter or longer
pub record AreEnds (root : Grammar) (ends : Ends) : Type 0 where
  pub shortest : IsEnd root (data_of ends.least_value) ends.least
  pub longest : IsEnd root (data_of ends.greatest_value) ends.greatest
  pub between : (mode : Mode) (d : Data) (bs : List Bool) → Spell root mode root [] d 0 bs → (ends.least ≤ length bs) × (length bs ≤ ends.greatest)

-- no value of the grammar's form is written
abbrev pub EachIsRefused : Grammar → Type 0
EachIsRefused root = (d : Data) → Shaped root d → (u : Unfit) × Refused root d u

-- what keeps the grammar from being single is the least reason, at the first node that shows it
abbrev pub IsWhyNot : Grammar → ExtremesFault → Type 0
IsWhyNot root (NotSingle at why) = FirstUnsingle root at why
IsWhyNot root NoMemory = Unit {0}
