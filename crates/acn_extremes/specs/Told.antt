-- What the walk finds on both sides.
use Rattle.std.specs.Prelude.{◌≡◌, Option, Some, None, ◌⊎◌}
use Rattle.acn_grammar.specs.Grammar.{Grammar, Data}
use Rattle.acn_grammar.specs.View.{data_of}
use Rattle.acn_extreme_laws.specs.Best.{Way, best}
use Rattle.acn_extreme_laws.specs.declared.side.Side.TheVariants.{Shortest, Longest}
use Rattle.acn_extremes.specs.declared.answer.Ends.{Ends}

-- both values are those that are chosen, or one isn't there
abbrev pub AreBoth : Option (Way Data) → Option (Way Data) → Option Ends → Type 0
AreBoth shortest longest None = (shortest ≡ None) ⊎ (longest ≡ None)
AreBoth shortest longest (Some e) = (shortest ≡ Some (e.least, data_of e.least_value)) × (longest ≡ Some (e.greatest, data_of e.greatest_value))

-- those that are the best on their sides
abbrev pub BestEnds : Grammar → Option Ends → Type 0
BestEnds root = AreBoth (best root Shortest root 0) (best root Longest root 0)
