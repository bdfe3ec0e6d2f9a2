use Rattle.std.proofs.Common.{◌≡◌, true, drop}
use Rattle.std.specs.List.{flat_map, list_all}
use Rattle.acn_num.specs.Ranges.{In}
use Rattle.acn_grammar.specs.Leaves.{line_fine}
use Rattle.acn_extreme_numbers.specs.Tries.{line_keys, least_of}
use Rattle.acn_extreme_numbers.proofs.numbers.with_keys.Given as goal

abbrev pub invariant-loop-line : goal.invariant-loop-line
invariant-loop-line l = record {
  permitted : In l.leaf.set l.so_far.number;
  fine : list_all line_fine (drop l.line-index l.lines) ≡ true;
  number : least_of l.leaf l.so_far.number (flat_map (line_keys l.steps) (drop l.line-index l.lines)) ≡ least_of l.leaf l.fn.best.number (flat_map (line_keys l.steps) l.lines);
}
