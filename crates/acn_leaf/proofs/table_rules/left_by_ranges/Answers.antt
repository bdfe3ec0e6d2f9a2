use Rattle.std.specs.List.{flat_map}
use Rattle.std.proofs.Common.{ℤ, List, ap, ◌∙◌}
use Rattle.acn_num.specs.Ranges.{count}
use Rattle.acn_leaf.specs.Taken.{left_of}
use Rattle.acn_grammar.specs.Images.{clipped}
use Rattle.acn_leaf.proofs.TableRules.{turned_some, turned_none}
use Rattle.acn_leaf.proofs.table_rules.left_by_ranges.Goals as goal

pub loop-range-preserved : goal.loop-range-preserved
loop-range-preserved c =
    turned_some (λ (r : ℤ × ℤ). flat_map (clipped r) c.args.lines.now) c.loop-range.rest c.args.ranges.now c.loop-range.range-index _ c.in-Some.less _ c.loop-range-test.true (c.in-Some.ensures ∙ ap (λ (z : List (ℤ × ℤ)). left_of c.loop-range.rest (count z)) c.near-close.ensures.images) c.loop-range.invariant

pub returns-in-None : goal.returns-in-None
returns-in-None c =
    turned_none (λ (r : ℤ × ℤ). flat_map (clipped r) c.args.lines.now) c.loop-range.rest c.args.ranges.now c.loop-range.range-index _ _ c.loop-range-test.true (c.in-None.ensures ∙ ap (λ (z : List (ℤ × ℤ)). left_of c.loop-range.rest (count z)) c.near-close.ensures.images) c.loop-range.invariant
