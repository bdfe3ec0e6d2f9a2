use Rattle.std.proofs.Common.{◌≡◌, ◌++◌, drop, map, length}
use Rattle.acn_leaf.specs.Sides.{range_of}
use Rattle.acn_leaf.proofs.line_blocks.block_differs.Given as goal

abbrev pub invariant-loop-line : goal.invariant-loop-line
invariant-loop-line l = record {
  whole : l.ranges.items ++ map (range_of l.side) (drop l.line-index l.block) ≡ map (range_of l.side) l.block;
  few : length l.ranges.items ≡ l.line-index;
}
