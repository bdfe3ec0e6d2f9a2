use Rattle.acn_index.specs.Steps.{AreNumbered, names_view}
use Rattle.acn_index.proofs.jumps.push_imports.Given as goal

abbrev pub invariant-loop-import : goal.invariant-loop-import
invariant-loop-import l = AreNumbered l.all.numbers (names_view l.all.names.items)
