use Rattle.std.proofs.Common.{map, sym, ◌∙◌, not}
use Rattle.std.specs.List.{list_any}
use Rattle.acn_leaf.specs.Sides.{range_of, meet}
use Rattle.acn_leaf.proofs.Rising.{sorted_each, block_fails, block_says}
use Rattle.acn_leaf.proofs.Sides.{of_ranges}
use Rattle.acn_leaf.proofs.line_blocks.ranges_differ.Goals as goal

pub returns-then-not-rises : goal.returns-then-not-rises
returns-then-not-rises c =
    block_fails c.args.ranges.now c.sort_unstable.new.self (map (range_of c.args.side) c.args.behind.now) c.sort_unstable.ensures.permutation c.sort_unstable.ensures.sorted c.requires.each (sym c.rises.ensures ∙ c.if-not-rises.true)

pub none_meets-requires-clause-each : goal.none_meets-requires-clause-each
none_meets-requires-clause-each c = sorted_each c.args.ranges.now c.sort_unstable.new.self c.sort_unstable.ensures.permutation c.requires.each

pub returns : goal.returns
returns c =
    block_says c.args.ranges.now c.sort_unstable.new.self (map (range_of c.args.side) c.args.behind.now) c.none_meets.result c.sort_unstable.ensures.permutation c.sort_unstable.ensures.sorted c.requires.each (sym c.rises.ensures ∙ c.if-not-rises.false)
    (c.none_meets.ensures ∙ of_ranges (λ m. not (list_any (meet m) c.sort_unstable.new.self)) c.args.side c.args.behind.now)
