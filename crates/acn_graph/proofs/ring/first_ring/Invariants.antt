use Rattle.std.proofs.Common.{ℕ, ◌<◌, List}
use Rattle.acn_graph.specs.Graph.{Leads}
use Rattle.acn_graph.proofs.ring.first_ring.Given as goal

abbrev pub invariant-loop-first : goal.invariant-loop-first
invariant-loop-first l = (m : ℕ) (way : List ℕ) → m < l.first → Leads l.graph m m way → ⊥
