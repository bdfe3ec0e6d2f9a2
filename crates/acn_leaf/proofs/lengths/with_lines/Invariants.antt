use Rattle.std.proofs.Common.{◌≡◌, ◌^◌, ◌<◌, ◌≤◌, drop}
use Rattle.std.specs.List.{flat_map}
use Rattle.acn_grammar.specs.Images.{clipped}
use Rattle.acn_grammar.specs.Interval.{hull, lengths_of}
use Rattle.acn_leaf.proofs.lengths.with_lines.Given as goal

abbrev pub invariant-loop-line : goal.invariant-loop-line
invariant-loop-line l = record {
  least : l.bounds.least ≤ 2 ^ 40;
  greatest : l.bounds.greatest < 2 ^ 32;
  same : hull l.bounds (lengths_of l.coding (flat_map (clipped l.range) (drop l.line-index l.lines))) ≡ hull l.fn.all (lengths_of l.coding (flat_map (clipped l.range) l.lines));
}
