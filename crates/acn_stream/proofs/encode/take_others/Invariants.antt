use Rattle.std.proofs.Common.{◌≤◌, ◌++◌, ℕ, List, Option}
use Rattle.acn_stream.specs.Passing.{Encoded, HasRoom, grammar_by, unread}
use Rattle.acn_stream.proofs.encode.take_others.Given as goal

abbrev pub invariant-loop-alloc : goal.invariant-loop-alloc
invariant-loop-alloc l = record {
  goes : (limit : ℕ) (i i' : Option (List ℕ)) (text : List ℕ) → Encoded (grammar_by l.by) limit i i' l.fn.supply l.fn.tally (text ++ l.fn.space.packets.items) → Encoded (grammar_by l.by) limit i i' l.supply l.tally (text ++ l.space.packets.items);
  room : HasRoom l.supply l.tally;
  falls : unread l.supply ≤ unread l.fn.supply;
}

abbrev pub decreases-loop-alloc : goal.decreases-loop-alloc
decreases-loop-alloc l = unread l.supply
