use Rattle.std.proofs.Common.{◌≡◌, drop}
use Rattle.acn_graph.specs.Graph.{never_rise}
use Rattle.acn_graph.proofs.parts.never_rise.Given as goal

abbrev pub invariant-loop-n : goal.invariant-loop-n
invariant-loop-n l = never_rise l.numbers l.n (drop l.n l.graph) ≡ never_rise l.numbers 0 l.graph
