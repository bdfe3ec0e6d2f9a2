use Rattle.std.proofs.Common.{length}
use Rattle.acn_leaf.proofs.Blocks.{Passed}
use Rattle.acn_grammar.specs.Asks.{same_name}
use Rattle.acn_well_formed.proofs.Blocks.{names}
use Rattle.acn_well_formed.proofs.names.field_block_differs.Given as goal

abbrev pub invariant-loop-rest : goal.invariant-loop-rest
invariant-loop-rest l = Passed same_name (names l.block) (names l.behind) (names l.rest)

abbrev pub decreases-loop-rest : goal.decreases-loop-rest
decreases-loop-rest l = length l.rest
