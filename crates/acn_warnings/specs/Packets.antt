-- Whether a value of a grammar can be written, as far as it is told. (This program's own.)
use Rattle.std.specs.Prelude.{Bool, true, false, List}
use Rattle.acn_grammar.specs.Grammar.{Grammar, Data}
use Rattle.acn_grammar.specs.Front.{IsWritten}
use Rattle.acn_extreme_laws.specs.Single.{Single}
use Rattle.acn_extremes.specs.Extreme.{EachIsRefused}

-- each value is refused; or, where each determinant serves one use, some value is written
abbrev pub TellsNone : Grammar → Bool → Type 0
TellsNone root true = EachIsRefused root
TellsNone root false = Single root → (d : Data) × (bits : List Bool) × IsWritten root d bits
