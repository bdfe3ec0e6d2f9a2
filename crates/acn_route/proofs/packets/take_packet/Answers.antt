use Rattle.std.proofs.Common.{refl, ap, length, arith, length-take}
use Rattle.acn_route.proofs.Taking.{takes_one}
use Rattle.acn_route.proofs.packets.take_packet.Goals as goal

pub put_whole-requires : goal.put_whole-requires
put_whole-requires c = simp length-take (omega (arith, c.in-Some.ensures.packet.0, c.in-Some.ensures.packet.2))

pub skip-requires : goal.skip-requires
skip-requires c = omega (arith, c.in-Some.ensures.packet.0, ap length c.hand-hand.ensures.same)

pub returns-in-Ok-clause-step : goal.returns-in-Ok-clause-step
returns-in-Ok-clause-step c =
    let packet = rw c.hand-hand.ensures.same at c.in-Some.ensures.packet in
    takes_one c.args.routes.now c.args.supply.now c.skip.new.self _ _ c.in-Ok.kind c.in-Some.size packet.0 packet.1 packet.3 (rw c.hand-hand.ensures.same at c.in-Ok.ensures.added) c.skip.ensures

pub returns-in-None-clause-step : goal.returns-in-None-clause-step
returns-in-None-clause-step c = (refl, refl, rw c.hand-hand.ensures.same at (c.in-None.ensures.wanting refl), tt)
