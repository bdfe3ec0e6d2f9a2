use Rattle.std.proofs.Common.{◌≤◌, ℕ, List}
use Rattle.acn_outside.specs.Counts.{Stays}
use Rattle.acn_outside.specs.Moves.{Gains}
use Rattle.acn_stream.specs.Passing.{Encoded, HasRoom, grammar_by, unread}
use Rattle.acn_stream.proofs.encode.encode_supply.Given as goal

abbrev pub invariant-loop-space : goal.invariant-loop-space
invariant-loop-space g l = record {
  so_far : (text : List ℕ) × Gains (g.O.Sink.taken l.fn.out) (g.O.Sink.taken l.out) text × Encoded (grammar_by l.by) l.fn.supply.left (g.S.Source.rest l.fn.input) (g.S.Source.rest l.input) l.supply l.tally text;
  room : HasRoom l.supply l.tally;
  input : g.S.Source.faults l.fn.input ≤ g.S.Source.faults l.input;
  output : g.O.Sink.faults l.fn.out ≤ g.O.Sink.faults l.out;
  input_stays : Stays (g.S.Source.faults l.fn.input) (g.S.Source.faults l.input);
  output_stays : Stays (g.O.Sink.faults l.fn.out) (g.O.Sink.faults l.out);
}

abbrev pub decreases-loop-space : goal.decreases-loop-space
decreases-loop-space g l = unread l.supply
