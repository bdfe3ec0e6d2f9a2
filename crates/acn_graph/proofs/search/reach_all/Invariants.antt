use Rattle.std.proofs.Common.{◌≡◌, drop}
use Rattle.acn_graph.specs.Search.{searched, grow_all}
use Rattle.acn_graph.proofs.search.reach_all.Given as goal

abbrev pub invariant-loop-node : goal.invariant-loop-node
invariant-loop-node l = grow_all l.at (drop l.node-index l.nodes) (searched l.search) ≡ grow_all l.at l.nodes (searched l.fn.search)
