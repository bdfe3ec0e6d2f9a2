use Rattle.std.proofs.Common.{◌≡◌, ℕ, ◌-◌, ◌≤◌, List}
use Rattle.acn_grammar.specs.Grammar.{Places}
use Rattle.acn_grammar.specs.Meets.{field_breaches}
use Rattle.acn_plan.specs.Back.{fields_at}
use Rattle.acn_tree.specs.Room.{FieldsHaveRoom}
use Rattle.acn_step_breach.proofs.steps.component_from.Given as goal

abbrev pub invariant-loop-this : goal.invariant-loop-this
invariant-loop-this l = record {
  from : l.first ≤ l.this;
  few : l.number ≤ l.this;
  same : (path : List ℕ) (ps : Places) → field_breaches path l.count (fields_at l.steps l.first l.end) ps ≡ field_breaches path l.number (fields_at l.steps l.this l.end) ps;
  room : (depth : ℕ) → FieldsHaveRoom depth (fields_at l.steps l.first l.end) → FieldsHaveRoom depth (fields_at l.steps l.this l.end);
}

abbrev pub decreases-loop-this : goal.decreases-loop-this
decreases-loop-this l = l.end - l.this
