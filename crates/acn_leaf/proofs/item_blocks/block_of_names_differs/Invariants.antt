use Rattle.std.proofs.Common.{length, map}
use Rattle.acn_grammar.specs.Asks.{same_name}
use Rattle.acn_leaf.proofs.Blocks.{Passed}
use Rattle.acn_leaf.proofs.item_blocks.block_of_names_differs.Given as goal

abbrev pub invariant-loop-rest : goal.invariant-loop-rest
invariant-loop-rest l = Passed same_name (map (λ item. item.0) l.block) (map (λ item. item.0) l.behind) (map (λ item. item.0) l.rest)

abbrev pub decreases-loop-rest : goal.decreases-loop-rest
decreases-loop-rest l = length l.rest
