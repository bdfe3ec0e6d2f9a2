use Rattle.std.proofs.Common.{◌≡◌, true, drop}
use Rattle.std.specs.Prelude.{pos}
use Rattle.std.specs.List.{flat_map, list_all}
use Rattle.acn_num.specs.Ranges.{In}
use Rattle.acn_grammar.specs.Leaves.{line_fine}
use Rattle.acn_extreme_numbers.specs.Tries.{tried_on}
use Rattle.acn_extreme_numbers.specs.Picked.{picked}
use Rattle.acn_extreme_numbers.proofs.numbers.with_lines.Given as goal

abbrev pub invariant-loop-line : goal.invariant-loop-line
invariant-loop-line l = record {
  permitted : In l.leaf.set l.so_far.number;
  fine : list_all line_fine (drop l.line-index l.lines) ≡ true;
  number : picked l.leaf l.side l.so_far.number (flat_map (tried_on (pos 0) l.range) (drop l.line-index l.lines)) ≡ picked l.leaf l.side l.fn.best.number (flat_map (tried_on (pos 0) l.range) l.lines);
}
