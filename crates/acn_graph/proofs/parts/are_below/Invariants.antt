use Rattle.std.proofs.Common.{◌≡◌, drop}
use Rattle.acn_graph.specs.Graph.{are_below}
use Rattle.acn_graph.proofs.parts.are_below.Given as goal

abbrev pub invariant-loop-node : goal.invariant-loop-node
invariant-loop-node l = are_below l.numbers l.number (drop l.node-index l.nodes) ≡ are_below l.numbers l.number l.nodes
