use Rattle.acn_graph.specs.Search.{searched}
use Rattle.acn_graph.proofs.Searches.{IsSearched}
use Rattle.acn_graph.proofs.search.round_of.Given as goal

abbrev pub invariant-loop-at : goal.invariant-loop-at
invariant-loop-at l = IsSearched l.graph l.start (searched l.search) l.at
