use Rattle.std.proofs.Common.{◌≡◌, length, map, true}
use Rattle.std.specs.List.{list_all}
use Rattle.acn_grammar.specs.Leaves.{all_differ, line_fine}
use Rattle.acn_leaf.specs.Sides.{range_of, meet}
use Rattle.acn_leaf.proofs.line_blocks.side_differs.Given as goal

abbrev pub invariant-loop-rest : goal.invariant-loop-rest
invariant-loop-rest l = record {
  fine : list_all line_fine l.rest ≡ true;
  same : all_differ meet (map (range_of l.side) l.rest) ≡ all_differ meet (map (range_of l.side) l.lines);
}

abbrev pub decreases-loop-rest : goal.decreases-loop-rest
decreases-loop-rest l = length l.rest
