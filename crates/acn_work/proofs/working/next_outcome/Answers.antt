use Rattle.std.proofs.Common.{IfOk}
use Rattle.acn_grammar.specs.View.{data_of}
use Rattle.acn_plan.specs.Back.{root_of}
use Rattle.acn_work.specs.Steps.{CameOf}
use Rattle.acn_work.proofs.working.next_outcome.Goals as goal

pub returns-clause-came : goal.returns-clause-came
returns-clause-came c =
    let came : IfOk c.outcome_of.result (λ outcome. CameOf (root_of c.args.plan.now.steps) (data_of c.in_ok-value.value) outcome) = c.outcome_of.ensures.came in
    let made = rw c.tree.ensures.same at c.in_ok-value.ensures.value in
    rw (c.requires.planned, made) at came
