use Rattle.std.proofs.Common.{◌≡◌, ◌-◌, ◌≤◌}
use Rattle.acn_grammar.specs.Paths.{field_at, alternative_at}
use Rattle.acn_plan.specs.Back.{fields_at, cases_at}
use Rattle.acn_step_breach.proofs.steps.inner_at.Given as goal

abbrev pub invariant-loop-this : goal.invariant-loop-this
invariant-loop-this l = record {
  from : l.first ≤ l.this;
  field : field_at (fields_at l.steps l.this l.end) l.left ≡ field_at (fields_at l.steps l.first l.end) l.index;
  case : alternative_at (cases_at l.steps l.this l.end) l.left ≡ alternative_at (cases_at l.steps l.first l.end) l.index;
}

abbrev pub decreases-loop-this : goal.decreases-loop-this
decreases-loop-this l = l.end - l.this
