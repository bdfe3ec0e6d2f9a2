use Rattle.std.proofs.Common.{◌≡◌, ◌-◌, ◌≤◌, drop, length}
use Rattle.acn_grammar.specs.Length.{presence_bits}
use Rattle.acn_grammar.specs.View.{places_view}
use Rattle.acn_plan.specs.Back.{fields_at}
use Rattle.acn_events.specs.Steps.{put, Room}
use Rattle.acn_writer.specs.Answers.{state_of}
use Rattle.acn_pack.proofs.flags.put_each.Given as goal

abbrev pub invariant-loop-this : goal.invariant-loop-this
invariant-loop-this g l = record {
  within : l.next ≤ length l.places;
  room : Room (length (presence_bits (fields_at l.steps l.this l.end) (places_view (drop l.next l.places)))) (state_of l.w);
  put : put (presence_bits (fields_at l.steps l.this l.end) (places_view (drop l.next l.places))) (state_of l.w) ≡ put (presence_bits (fields_at l.steps l.first l.end) (places_view l.places)) (state_of l.fn.w);
  same_buffer : l.w.cursor.buf.ghost_name ≡ l.fn.w.cursor.buf.ghost_name;
}

abbrev pub decreases-loop-this : goal.decreases-loop-this
decreases-loop-this g l = l.end - l.this
