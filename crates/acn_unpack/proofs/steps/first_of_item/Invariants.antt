use Rattle.std.proofs.Common.{◌≡◌, ◌+◌, ◌-◌, ◌≤◌}
use Rattle.acn_plan.specs.Back.{case_items}
use Rattle.acn_unpack.specs.Items.{first_item}
use Rattle.acn_unpack.proofs.steps.first_of_item.Given as goal

abbrev pub invariant-loop-this : goal.invariant-loop-this
invariant-loop-this l = record {
  few : l.i + l.first ≤ l.this;
  left : first_item l.x l.i (case_items l.steps l.this l.end) ≡ first_item l.x 0 (case_items l.steps l.first l.end);
}

abbrev pub decreases-loop-this : goal.decreases-loop-this
decreases-loop-this l = l.end - l.this
