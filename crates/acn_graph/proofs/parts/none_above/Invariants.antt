use Rattle.std.proofs.Common.{◌≡◌, ◌+◌, drop}
use Rattle.acn_graph.specs.Graph.{are_below}
use Rattle.acn_graph.proofs.parts.none_above.Given as goal

abbrev pub invariant-loop-node : goal.invariant-loop-node
invariant-loop-node l = are_below l.numbers (l.number + 1) (drop l.node-index l.nodes) ≡ are_below l.numbers (l.number + 1) l.nodes
