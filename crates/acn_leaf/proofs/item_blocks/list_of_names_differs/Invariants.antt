use Rattle.std.proofs.Common.{◌≡◌, length, map}
use Rattle.acn_grammar.specs.Asks.{same_name}
use Rattle.acn_grammar.specs.Leaves.{all_differ}
use Rattle.acn_leaf.proofs.item_blocks.list_of_names_differs.Given as goal

abbrev pub invariant-loop-rest : goal.invariant-loop-rest
invariant-loop-rest l = all_differ same_name (map (λ item. item.0) l.rest) ≡ all_differ same_name (map (λ item. item.0) l.items)

abbrev pub decreases-loop-rest : goal.decreases-loop-rest
decreases-loop-rest l = length l.rest
