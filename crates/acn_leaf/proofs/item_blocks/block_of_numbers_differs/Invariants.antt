use Rattle.std.proofs.Common.{length, map}
use Rattle.std.specs.Ordering.{int_eq}
use Rattle.acn_leaf.proofs.Blocks.{Passed}
use Rattle.acn_leaf.proofs.item_blocks.block_of_numbers_differs.Given as goal

abbrev pub invariant-loop-rest : goal.invariant-loop-rest
invariant-loop-rest l = Passed int_eq (map (λ item. item.1) l.block) (map (λ item. item.1) l.behind) (map (λ item. item.1) l.rest)

abbrev pub decreases-loop-rest : goal.decreases-loop-rest
decreases-loop-rest l = length l.rest
