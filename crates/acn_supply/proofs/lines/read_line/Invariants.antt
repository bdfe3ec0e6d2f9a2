use Rattle.std.proofs.Common.{◌≤◌}
use Rattle.acn_outside.specs.Counts.{Stays}
use Rattle.acn_supply.proofs.Pieces.{SoFar}
use Rattle.acn_supply.proofs.lines.read_line.Given as goal

abbrev pub invariant-loop-no_line : goal.invariant-loop-no_line
invariant-loop-no_line g l = record {
  so_far : SoFar l.fn.supply l.supply (g.S.Source.rest l.fn.input) (g.S.Source.rest l.input) l.line.items;
  count : g.S.Source.faults l.fn.input ≤ g.S.Source.faults l.input;
  uncounted : Stays (g.S.Source.faults l.fn.input) (g.S.Source.faults l.input);
}

abbrev pub decreases-loop-no_line : goal.decreases-loop-no_line
decreases-loop-no_line g l = l.supply.left
