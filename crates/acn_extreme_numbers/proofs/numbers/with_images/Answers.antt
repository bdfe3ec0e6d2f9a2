use Rattle.std.proofs.Common.{ℤ}
use Rattle.std.specs.Prelude.{pos}
use Rattle.std.specs.List.{flat_map}
use Rattle.acn_extreme_numbers.specs.Tries.{tried_on}
use Rattle.acn_extreme_numbers.proofs.Picking.{picked_turn, parts_turn}
use Rattle.acn_extreme_numbers.proofs.numbers.with_images.Goals as goal

pub loop-range-preserved : goal.loop-range-preserved
loop-range-preserved c =
    let l = c.loop-range in
    record {
      permitted = c.with_lines-so_far.ensures.permitted;
      parts = (parts_turn c.args.leaf.now.set c.args.ranges.now l.range-index (pos 0, pos 0) c.loop-range-test.true l.invariant.parts).1;
      number = picked_turn c.args.leaf.now c.args.side (λ (r : ℤ × ℤ). flat_map (tried_on (pos 0) r) c.args.lines.now) c.args.ranges.now l.range-index _ l.so_far.number _ _ c.loop-range-test.true c.with_lines-so_far.ensures.number l.invariant.number;
    }
