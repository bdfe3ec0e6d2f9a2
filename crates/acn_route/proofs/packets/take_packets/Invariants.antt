use Rattle.std.proofs.Common.{length}
use Rattle.acn_route.specs.Steps.{TakesMany}
use Rattle.acn_route.proofs.packets.take_packets.Given as goal

abbrev pub invariant-loop-kind : goal.invariant-loop-kind
invariant-loop-kind l = TakesMany l.routes l.fn.supply l.supply l.fn.page.bytes.items l.page.bytes.items l.fn.counts l.counts

abbrev pub decreases-loop-kind : goal.decreases-loop-kind
decreases-loop-kind l = length l.supply.hand
