use Rattle.std.proofs.Common.{◌≡◌, nat_eq, drop}
use Rattle.std.specs.List.{list_any}
use Rattle.acn_graph.proofs.rows.holds.Given as goal

abbrev pub invariant-loop-other : goal.invariant-loop-other
invariant-loop-other l = list_any (nat_eq l.node) (drop l.other-index l.nodes) ≡ list_any (nat_eq l.node) l.nodes
