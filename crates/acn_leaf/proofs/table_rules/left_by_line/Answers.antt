use Rattle.std.proofs.Common.{arith, ◌∙◌, sym, refl, ◌+◌}
use Rattle.acn_leaf.proofs.TableRules.{line_left, line_none, checked_left, left_none}
use Rattle.acn_leaf.proofs.table_rules.left_by_line.Goals as goal

pub overflow_add-apart : goal.overflow_add-apart
overflow_add-apart c =
    let k = line_left c.args.range.now c.args.line.now c.greater-low.result.now c.less-high.result.now c.requires c.greater-low.ensures c.less-high.ensures (sym c.is_at_most.ensures ∙ c.if-is_at_most.true) in
    let small = k.0 in
    omega arith

pub returns-then-is_at_most : goal.returns-then-is_at_most
returns-then-is_at_most c =
    let k = line_left c.args.range.now c.args.line.now c.greater-low.result.now c.less-high.result.now c.requires c.greater-low.ensures c.less-high.ensures (sym c.is_at_most.ensures ∙ c.if-is_at_most.true) in
    checked_left c.checked_sub.result c.args.left (c.apart.result + 1) c.checked_sub.ensures ∙ rw (k.1, c.apart.ensures) refl

pub returns-else-is_at_most : goal.returns-else-is_at_most
returns-else-is_at_most c =
    let k = line_none c.args.range.now c.args.line.now c.greater-low.result.now c.less-high.result.now c.greater-low.ensures c.less-high.ensures (sym c.is_at_most.ensures ∙ c.if-is_at_most.false) in
    rw k (left_none c.args.left)
