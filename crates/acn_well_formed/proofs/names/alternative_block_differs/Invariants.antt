use Rattle.std.proofs.Common.{length}
use Rattle.acn_leaf.proofs.Blocks.{Passed}
use Rattle.acn_grammar.specs.Asks.{same_name}
use Rattle.acn_well_formed.proofs.Blocks.{case_names}
use Rattle.acn_well_formed.proofs.names.alternative_block_differs.Given as goal

abbrev pub invariant-loop-rest : goal.invariant-loop-rest
invariant-loop-rest l = Passed same_name (case_names l.block) (case_names l.behind) (case_names l.rest)

abbrev pub decreases-loop-rest : goal.decreases-loop-rest
decreases-loop-rest l = length l.rest
