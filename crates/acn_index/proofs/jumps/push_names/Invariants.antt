use Rattle.acn_index.specs.Steps.{AreNumbered, names_view}
use Rattle.acn_index.proofs.jumps.push_names.Given as goal

abbrev pub invariant-loop-name : goal.invariant-loop-name
invariant-loop-name l = AreNumbered l.all.numbers (names_view l.all.names.items)
