-- What the shortest and the longest packet say of whether there is one.
use Rattle.std.proofs.Common.{ℕ, List}
use Rattle.std.specs.Prelude.{false}
use Rattle.acn_grammar.specs.Grammar.{Grammar}
use Rattle.acn_grammar.specs.View.{data_of}
use Rattle.acn_extreme_laws.specs.Single.{FirstUnsingle}
use Rattle.acn_extreme_laws.specs.declared.why.Why.{Why}
use Rattle.acn_extremes.specs.Extreme.{AreEnds}
use Rattle.acn_extremes.specs.declared.answer.Ends.{Ends}
use Rattle.acn_warnings.specs.Packets.{TellsNone}

pub some_packet : (root : Grammar) (e : Ends) → AreEnds root e → TellsNone root false
some_packet root e h = λ single. (data_of e.least_value, h.shortest.0, h.shortest.1)

pub not_told : (root : Grammar) (at : List ℕ) (why : Why) → FirstUnsingle root at why → TellsNone root false
not_told root at why h = λ single. absurd (single why h.number h.here h.stands h.shows)
