use Rattle.std.proofs.Common.{◌≡◌, ◌≤◌, length}
use Rattle.acn_bits.specs.declared.word.TheConstants.{WORD_BITS}
use Rattle.acn_cut.specs.Stretches.{total}
use Rattle.acn_plan.specs.Runs.{ArePieces}
use Rattle.acn_plan.proofs.runs.run_of.Given as goal

abbrev pub invariant-loop-i : goal.invariant-loop-i
invariant-loop-i l = record {
  count : length l.run ≡ l.i;
  width : l.width ≡ total l.run;
  few : l.width ≤ WORD_BITS;
  are : ArePieces l.number l.steps l.run;
}
