use Rattle.std.proofs.Common.{arith, subst}
use Rattle.acn_stream.specs.Steps.{NotFull}
use Rattle.acn_stream.proofs.Taking.{takes_none, takes_more, takes_kept, shorter, no_longer, not_longer}
use Rattle.acn_stream.proofs.packets.take_packets.Goals as goal

pub loop-count-init : goal.loop-count-init
loop-count-init g c = takes_none _ _ _ _ _

pub overflow_add-count : goal.overflow_add-count
overflow_add-count g c =
    let less = shorter _ _ _ _ _ _ _ c.in-Ok.ensures.step in
    let before = no_longer _ _ _ _ _ _ _ _ c.loop-count.invariant in
    omega (arith, less, before, c.requires.room)

pub returns-in-Err-clause-taken : goal.returns-in-Err-clause-taken
returns-in-Err-clause-taken g c = takes_kept _ _ _ _ _ _ _ _ _ _ c.loop-count.invariant c.in-Err.ensures.step.0 c.in-Err.ensures.step.1

pub returns-in-Err-clause-full : goal.returns-in-Err-clause-full
returns-in-Err-clause-full g c h = absurd (subst NotFull h c.in-Err.ensures.step.3)

pub returns-then-len-ge-BLOCK-clause-taken : goal.returns-then-len-ge-BLOCK-clause-taken
returns-then-len-ge-BLOCK-clause-taken g c = takes_more _ _ _ _ _ _ _ _ _ _ c.loop-count.invariant c.in-Ok.ensures.step

pub returns-then-len-ge-BLOCK-clause-full : goal.returns-then-len-ge-BLOCK-clause-full
returns-then-len-ge-BLOCK-clause-full g c h =
    let less = shorter _ _ _ _ _ _ _ c.in-Ok.ensures.step in
    let before = not_longer _ _ _ _ _ _ _ _ c.loop-count.invariant in
    omega (arith, less, before)

pub loop-count-smaller : goal.loop-count-smaller
loop-count-smaller g c = shorter _ _ _ _ _ _ _ c.in-Ok.ensures.step

pub loop-count-preserved : goal.loop-count-preserved
loop-count-preserved g c = takes_more _ _ _ _ _ _ _ _ _ _ c.loop-count.invariant c.in-Ok.ensures.step
