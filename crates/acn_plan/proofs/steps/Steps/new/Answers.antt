use Rattle.std.proofs.Common.{List, subst}
use Rattle.acn_plan.specs.Runs.{AreRuns}
use Rattle.acn_plan.specs.declared.step.Step.{Step}
use Rattle.acn_plan.proofs.steps.Steps.new.Goals as goal

pub invariant_of-result : goal.invariant_of-result
invariant_of-result c = subst (λ (ss : List Step). AreRuns ss c.in_ok-runs.runs) c.items.ensures c.in_ok-runs.ensures
