use Rattle.std.proofs.Common.{◌≡◌, drop}
use Rattle.acn_grammar.specs.Paths.{node_at}
use Rattle.acn_grammar.specs.View.{grammar_of}
use Rattle.acn_tree.proofs.place.node_at.Given as goal

abbrev pub invariant-loop-step : goal.invariant-loop-step
invariant-loop-step l = node_at (grammar_of l.at) (drop l.step-index l.path) ≡ node_at (grammar_of l.fn.tree.root) l.path
