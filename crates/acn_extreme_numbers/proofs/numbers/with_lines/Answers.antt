use Rattle.std.specs.Prelude.{pos}
use Rattle.acn_extreme_numbers.specs.Tries.{tried_on}
use Rattle.acn_extreme_numbers.proofs.Picking.{picked_turn, fine_turn}
use Rattle.acn_extreme_numbers.proofs.numbers.with_lines.Goals as goal

pub with_line-so_far-requires-clause-line : goal.with_line-so_far-requires-clause-line
with_line-so_far-requires-clause-line c = (fine_turn c.args.lines.now c.loop-line.line-index _ c.loop-line-test.true c.loop-line.invariant.fine).0

pub loop-line-preserved : goal.loop-line-preserved
loop-line-preserved c =
    let l = c.loop-line in
    record {
      permitted = c.with_line-so_far.ensures.permitted;
      fine = (fine_turn c.args.lines.now l.line-index (pos 0, pos 0, pos 0) c.loop-line-test.true l.invariant.fine).1;
      number = picked_turn c.args.leaf.now c.args.side (tried_on (pos 0) c.args.range.now) c.args.lines.now l.line-index _ l.so_far.number _ _ c.loop-line-test.true c.with_line-so_far.ensures.number l.invariant.number;
    }
