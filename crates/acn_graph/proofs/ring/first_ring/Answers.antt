use Rattle.std.proofs.Common.{arith}
use Rattle.acn_graph.proofs.Ways.{starts_at_a_node}
use Rattle.acn_graph.proofs.ring.first_ring.Goals as goal

pub returns : goal.returns
returns c = record { none = λ n way l. let within = starts_at_a_node l in c.loop-first.invariant n way (omega arith) l }
