use Rattle.std.proofs.Common.{◌++◌, List, drop}
use Rattle.acn_grammar.specs.View.{fields_view}
use Rattle.acn_cut.specs.Stretches.{AreStretches}
use Rattle.acn_cut.specs.declared.stretch.Stretch.{Stretch}
use Rattle.acn_cut.proofs.stretches.all_stretches.Given as goal

abbrev pub invariant-loop-at : goal.invariant-loop-at
invariant-loop-at l = record {
  kept : (ss : List Stretch) → AreStretches (fields_view (drop l.at l.fields)) ss → AreStretches (fields_view l.fields) (l.stretches ++ ss);
}
