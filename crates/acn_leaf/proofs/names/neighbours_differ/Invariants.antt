use Rattle.std.proofs.Common.{◌≡◌, drop, map}
use Rattle.acn_grammar.specs.Asks.{same_name}
use Rattle.acn_leaf.specs.Neighbours.{neighbours_differ}
use Rattle.acn_leaf.proofs.names.neighbours_differ.Given as goal

abbrev pub invariant-loop-at : goal.invariant-loop-at
invariant-loop-at l = neighbours_differ same_name (map (λ name. name.now) (drop l.at l.names)) ≡ neighbours_differ same_name (map (λ name. name.now) l.names)
