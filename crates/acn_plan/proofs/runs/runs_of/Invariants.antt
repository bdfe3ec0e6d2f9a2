use Rattle.std.proofs.Common.{◌≡◌, length}
use Rattle.acn_plan.specs.Runs.{AreRuns}
use Rattle.acn_plan.proofs.runs.runs_of.Given as goal

abbrev pub invariant-loop-at : goal.invariant-loop-at
invariant-loop-at l = record {
  count : length l.runs ≡ l.at;
  are : AreRuns l.steps l.runs;
}
