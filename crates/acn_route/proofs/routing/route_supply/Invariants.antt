use Rattle.std.proofs.Common.{◌≤◌}
use Rattle.acn_outside.specs.Counts.{Stays}
use Rattle.acn_route.specs.Steps.{SoFar, ahead}
use Rattle.acn_route.proofs.routing.route_supply.Given as goal

abbrev pub invariant-loop-page : goal.invariant-loop-page
invariant-loop-page g l = record {
  so_far : SoFar l.routes l.fn.supply.left (g.S.Source.rest l.fn.input) (g.S.Source.rest l.input) (g.O.Sink.taken l.fn.out) (g.O.Sink.taken l.out) l.supply l.counts;
  input : g.S.Source.faults l.fn.input ≤ g.S.Source.faults l.input;
  output : g.O.Sink.faults l.fn.out ≤ g.O.Sink.faults l.out;
  input_stays : Stays (g.S.Source.faults l.fn.input) (g.S.Source.faults l.input);
  output_stays : Stays (g.O.Sink.faults l.fn.out) (g.O.Sink.faults l.out);
}

abbrev pub decreases-loop-page : goal.decreases-loop-page
decreases-loop-page g l = ahead l.supply
