use Rattle.std.proofs.Common.{◌≡◌, true, drop}
use Rattle.std.specs.Prelude.{pos}
use Rattle.acn_num.specs.Ranges.{all_within}
use Rattle.acn_extreme_laws.specs.Best.{other_than}
use Rattle.acn_extreme_laws.specs.Laws.{Ordered}
use Rattle.acn_single.proofs.characters.other_than.Given as goal

abbrev pub invariant-loop-range : goal.invariant-loop-range
invariant-loop-range l = record {
  within : all_within (pos 0) (pos 127) (drop l.range-index l.ranges) ≡ true;
  order : Ordered (drop l.range-index l.ranges);
  value : other_than l.x (drop l.range-index l.ranges) ≡ other_than l.x l.ranges;
}
