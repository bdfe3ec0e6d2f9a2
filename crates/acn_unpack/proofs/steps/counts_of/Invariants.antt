use Rattle.std.proofs.Common.{◌≡◌, ◌+◌, ◌-◌, ◌≤◌}
use Rattle.acn_grammar.specs.Fails.{presence_count}
use Rattle.acn_plan.specs.Back.{fields_at}
use Rattle.acn_unpack.proofs.steps.counts_of.Given as goal

abbrev pub invariant-loop-this : goal.invariant-loop-this
invariant-loop-this l = record {
  few : l.count + l.first ≤ l.this;
  room : l.places + l.first ≤ l.this;
  count : l.count + presence_count (fields_at l.steps l.this l.end) ≡ presence_count (fields_at l.steps l.first l.end);
}

abbrev pub decreases-loop-this : goal.decreases-loop-this
decreases-loop-this l = l.end - l.this
