use Rattle.std.proofs.Common.{◌+◌, ◌-◌, length, arith}
use Rattle.acn_asking.proofs.Opens.{opened_start, opened_turn}
use Rattle.acn_asking.proofs.opened.open_all.Goals as goal

pub loop-k-init : goal.loop-k-init
loop-k-init c = opened_start c.args.path.now c.args.dets.now (length c.args.dets.now - 0) _ c.args.slots.now.items (omega arith)

pub loop-k-preserved : goal.loop-k-preserved
loop-k-preserved c =
    let ds = c.args.dets.now in
    opened_turn c.args.path.now ds (length ds - c.loop-k.k) (length ds - 1 - c.loop-k.k) (length ds - (c.loop-k.k + 1)) c.index-dets-dets.result _ _ _ (omega arith) c.index-dets-dets.is (omega arith) (omega arith) c.loop-k.invariant c.in_ok-open_one.ensures
