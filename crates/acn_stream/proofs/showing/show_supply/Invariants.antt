use Rattle.std.proofs.Common.{◌≤◌}
use Rattle.acn_grammar.specs.View.{grammar_of}
use Rattle.acn_outside.specs.Counts.{Stays}
use Rattle.acn_stream.specs.Steps.{SoFar, ahead}
use Rattle.acn_stream.proofs.showing.show_supply.Given as goal

abbrev pub invariant-loop-draft : goal.invariant-loop-draft
invariant-loop-draft g l = record {
  so_far : SoFar (grammar_of l.checked.tree.root) (g.V.Show.shown l.shower) l.fn.supply.left (g.S.Source.rest l.fn.input) (g.S.Source.rest l.input) (g.O.Sink.taken l.fn.out) (g.O.Sink.taken l.out) l.supply l.count;
  input : g.S.Source.faults l.fn.input ≤ g.S.Source.faults l.input;
  output : g.O.Sink.faults l.fn.out ≤ g.O.Sink.faults l.out;
  input_stays : Stays (g.S.Source.faults l.fn.input) (g.S.Source.faults l.input);
  output_stays : Stays (g.O.Sink.faults l.fn.out) (g.O.Sink.faults l.out);
}

abbrev pub decreases-loop-draft : goal.decreases-loop-draft
decreases-loop-draft g l = ahead l.supply
