use Rattle.std.proofs.Common.{◌≡◌, suc, ◌+◌, ◌-◌, ◌*◌, ◌≤◌, length}
use Rattle.acn_grammar.specs.Asks.{field_steps}
use Rattle.acn_plan.specs.Back.{fields_at}
use Rattle.acn_tree.specs.Room.{FieldsHaveRoom}
use Rattle.acn_step_fields.proofs.seek.+seek.Given as goal

abbrev pub decreases-seek : goal.decreases-seek
decreases-seek l = 10 * (length l.steps.now - l.first) + 5

abbrev pub decreases-seek_by : goal.decreases-seek_by
decreases-seek_by l = 10 * (length l.steps.now - l.this) + 3

abbrev pub decreases-seek_component : goal.decreases-seek_component
decreases-seek_component l = 10 * (length l.steps.now - l.this) + 2

abbrev pub decreases-seek_inside : goal.decreases-seek_inside
decreases-seek_inside l = 10 * (length l.steps.now - l.this) + 1

abbrev pub invariant-seek-loop-this : goal.invariant-seek-loop-this
invariant-seek-loop-this l = record {
  from : l.first ≤ l.this;
  few : l.number + l.first ≤ l.this;
  path : l.path ≡ l.fn.path;
  room : FieldsHaveRoom (suc (length l.fn.path)) (fields_at l.steps l.this l.end);
  same : field_steps (fields_at l.steps l.this l.end) l.number l.slot ≡ field_steps (fields_at l.steps l.first l.end) 0 l.slot;
}

abbrev pub decreases-seek-loop-this : goal.decreases-seek-loop-this
decreases-seek-loop-this l = l.end - l.this
