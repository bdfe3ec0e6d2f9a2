use Rattle.std.specs.Prelude.{pos}
use Rattle.acn_extreme_numbers.specs.Tries.{line_keys}
use Rattle.acn_extreme_numbers.proofs.Picking.{fine_turn}
use Rattle.acn_extreme_numbers.proofs.Stepping.{least_parts_turn}
use Rattle.acn_extreme_numbers.proofs.numbers.with_keys.Goals as goal

pub with_line_keys-so_far-requires-clause-line : goal.with_line_keys-so_far-requires-clause-line
with_line_keys-so_far-requires-clause-line c = (fine_turn c.args.lines.now c.loop-line.line-index _ c.loop-line-test.true c.loop-line.invariant.fine).0

pub loop-line-preserved : goal.loop-line-preserved
loop-line-preserved c =
    let l = c.loop-line in
    record {
      permitted = c.with_line_keys-so_far.ensures.permitted;
      fine = (fine_turn c.args.lines.now l.line-index (pos 0, pos 0, pos 0) c.loop-line-test.true l.invariant.fine).1;
      number = least_parts_turn c.args.leaf.now (line_keys c.args.steps.now) c.args.lines.now l.line-index (pos 0, pos 0, pos 0) l.so_far.number _ _ c.loop-line-test.true c.with_line_keys-so_far.ensures.number l.invariant.number;
    }
