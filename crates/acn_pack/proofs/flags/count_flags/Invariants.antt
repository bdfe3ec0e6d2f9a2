use Rattle.std.proofs.Common.{◌≡◌, ◌+◌, ◌-◌, ◌≤◌, drop, length}
use Rattle.acn_grammar.specs.Length.{presence_bits}
use Rattle.acn_grammar.specs.View.{places_view}
use Rattle.acn_plan.specs.Back.{fields_at}
use Rattle.acn_pack.proofs.flags.count_flags.Given as goal

abbrev pub invariant-loop-this : goal.invariant-loop-this
invariant-loop-this l = record {
  few : l.count + l.first ≤ l.this;
  within : l.next ≤ length l.places;
  count : l.count + length (presence_bits (fields_at l.steps l.this l.end) (places_view (drop l.next l.places))) ≡ length (presence_bits (fields_at l.steps l.first l.end) (places_view l.places));
}

abbrev pub decreases-loop-this : goal.decreases-loop-this
decreases-loop-this l = l.end - l.this
