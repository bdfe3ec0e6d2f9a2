use Rattle.std.proofs.Common.{length}
use Rattle.acn_grammar.specs.View.{grammar_of}
use Rattle.acn_stream.specs.Steps.{TakesMany}
use Rattle.acn_stream.proofs.packets.take_packets.Given as goal

abbrev pub invariant-loop-count : goal.invariant-loop-count
invariant-loop-count g l = TakesMany (grammar_of l.checked.tree.root) (g.V.Show.shown l.shower) l.fn.supply l.supply l.fn.text.items l.text.items l.fn.count l.count

abbrev pub decreases-loop-count : goal.decreases-loop-count
decreases-loop-count g l = length l.supply.hand
