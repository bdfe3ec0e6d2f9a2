use Rattle.std.proofs.Common.{◌≡◌, drop, map}
use Rattle.acn_leaf.specs.Ends.{ends_behind}
use Rattle.acn_grammar.specs.Images.{ends}
use Rattle.acn_leaf.proofs.leaf_rules.item_ends.Given as goal

abbrev pub invariant-loop-item : goal.invariant-loop-item
invariant-loop-item l = ends_behind l.wide (map (λ named. (named.1, named.1)) (drop l.item-index l.items)) ≡ ends (map (λ named. (named.1, named.1)) l.items)
