use Rattle.std.proofs.Common.{◌≡◌, true, drop}
use Rattle.std.specs.List.{list_all}
use Rattle.acn_num.specs.Ranges.{In}
use Rattle.acn_grammar.specs.Leaves.{is_number}
use Rattle.acn_extreme_numbers.specs.Tries.{keys_from, least_of}
use Rattle.acn_extreme_numbers.proofs.numbers.with_steps.Given as goal

abbrev pub invariant-loop-step : goal.invariant-loop-step
invariant-loop-step l = record {
  permitted : In l.leaf.set l.so_far.number;
  numbers : list_all is_number (drop l.step-index l.steps) ≡ true;
  number : least_of l.leaf l.so_far.number (keys_from l.key l.image (drop l.step-index l.steps)) ≡ least_of l.leaf l.fn.best.number (keys_from l.key l.image l.steps);
}
