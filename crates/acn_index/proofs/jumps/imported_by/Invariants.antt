use Rattle.acn_index.specs.Steps.{AreNumbered, names_view}
use Rattle.acn_index.proofs.jumps.imported_by.Given as goal

abbrev pub invariant-loop-k : goal.invariant-loop-k
invariant-loop-k l = AreNumbered l.all.numbers (names_view l.all.names.items)
