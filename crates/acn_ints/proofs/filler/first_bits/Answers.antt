use Rattle.std.proofs.Common.{refl, arith}
use Rattle.acn_ints.proofs.Lists.{listed_some, listed_next}
use Rattle.acn_ints.proofs.filler.first_bits.Goals as goal

pub unreachable-requires : goal.unreachable-requires
unreachable-requires c =
    let some = listed_some c.args.buf.now c.args.count c.loop-i.i c.loop-i.list c.loop-i.cur c.told-buf c.requires c.loop-i-test.true c.loop-i.invariant in
    let few = c.in-Err.ensures.short in
    omega (arith, some, few)

pub loop-i-preserved : goal.loop-i-preserved
loop-i-preserved c = listed_next c.args.buf.now c.args.count c.loop-i.i c.in-Ok.bit c.loop-i.list c.push.new.self _ c.loop-i.cur c.take.new.self c.told-buf c.requires c.loop-i-test.true c.loop-i.invariant c.in-Ok.ensures.value c.in-Ok.ensures.moved refl c.in_ok-push-in-Ok.ensures.ok
