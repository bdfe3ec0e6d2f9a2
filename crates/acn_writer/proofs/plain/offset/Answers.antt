use Rattle.std.proofs.Common.{arith, ◌≤◌}
use Rattle.acn_writer.proofs.PlainCodes.{low_near}
use Rattle.acn_writer.proofs.plain.offset.Goals as goal

pub ahead-value-requires : goal.ahead-value-requires
ahead-value-requires c =
    let over = c.if-width-gt-WORD_BITS.false in
    let few : c.args.width ≤ 64 = omega (arith, over) in
    record { few = few; low = low_near c.args.low.now c.args.x.now c.args.width few c.requires.bounded c.requires.ahead; bounded = c.requires.bounded; ahead = c.requires.ahead }
