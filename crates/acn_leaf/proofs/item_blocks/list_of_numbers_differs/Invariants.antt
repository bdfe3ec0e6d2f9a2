use Rattle.std.proofs.Common.{◌≡◌, length, map}
use Rattle.std.specs.Ordering.{int_eq}
use Rattle.acn_grammar.specs.Leaves.{all_differ}
use Rattle.acn_leaf.proofs.item_blocks.list_of_numbers_differs.Given as goal

abbrev pub invariant-loop-rest : goal.invariant-loop-rest
invariant-loop-rest l = all_differ int_eq (map (λ item. item.1) l.rest) ≡ all_differ int_eq (map (λ item. item.1) l.items)

abbrev pub decreases-loop-rest : goal.decreases-loop-rest
decreases-loop-rest l = length l.rest
