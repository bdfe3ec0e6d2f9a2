use Rattle.std.proofs.Common.{arith, subst}
use Rattle.acn_route.specs.Steps.{NotFull}
use Rattle.acn_route.proofs.Taking.{takes_none, takes_more, takes_kept, shorter}
use Rattle.acn_route.proofs.packets.take_packets.Goals as goal

pub loop-kind-init : goal.loop-kind-init
loop-kind-init c = takes_none _ _ _ _

pub count-requires : goal.count-requires
count-requires c =
    let less = shorter _ _ _ _ _ _ c.in-Ok.ensures.step in
    omega (arith, less, c.loop-kind.invariant.few, c.loop-kind.invariant.most, c.requires.room)

pub returns-in-Err-clause-taken : goal.returns-in-Err-clause-taken
returns-in-Err-clause-taken c = takes_kept _ _ _ _ _ _ _ _ _ c.loop-kind.invariant c.in-Err.ensures.step.0 c.in-Err.ensures.step.1

pub returns-in-Err-clause-full : goal.returns-in-Err-clause-full
returns-in-Err-clause-full c h = absurd (subst NotFull h c.in-Err.ensures.step.3)

pub returns-then-len-ge-BLOCK-clause-taken : goal.returns-then-len-ge-BLOCK-clause-taken
returns-then-len-ge-BLOCK-clause-taken c = takes_more _ _ _ _ _ _ _ _ _ _ _ c.loop-kind.invariant c.in-Ok.ensures.step c.count.ensures

pub returns-then-len-ge-BLOCK-clause-full : goal.returns-then-len-ge-BLOCK-clause-full
returns-then-len-ge-BLOCK-clause-full c h =
    let less = shorter _ _ _ _ _ _ c.in-Ok.ensures.step in
    omega (arith, less, c.loop-kind.invariant.few)

pub loop-kind-smaller : goal.loop-kind-smaller
loop-kind-smaller c = shorter _ _ _ _ _ _ c.in-Ok.ensures.step

pub loop-kind-preserved : goal.loop-kind-preserved
loop-kind-preserved c = takes_more _ _ _ _ _ _ _ _ _ _ _ c.loop-kind.invariant c.in-Ok.ensures.step c.count.ensures
