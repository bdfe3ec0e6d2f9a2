use Rattle.std.proofs.Common.{ℤ, List, ap, ◌∙◌}
use Rattle.acn_leaf.specs.Ends.{ends_behind}
use Rattle.std.specs.List.{flat_map}
use Rattle.acn_grammar.specs.Images.{clipped}
use Rattle.acn_leaf.proofs.TableRules.{ends_turned}
use Rattle.acn_leaf.proofs.table_rules.image_ends.Goals as goal

pub loop-range-preserved : goal.loop-range-preserved
loop-range-preserved c =
    ends_turned (λ (r : ℤ × ℤ). flat_map (clipped r) c.args.lines.now) c.loop-range.wide c.widen_by_lines-wide.result _ c.args.ranges.now c.loop-range.range-index _ c.loop-range-test.true (c.widen_by_lines-wide.ensures ∙ ap (λ (z : List (ℤ × ℤ)). ends_behind c.loop-range.wide z) c.near-close.ensures.images) c.loop-range.invariant
