use Rattle.std.proofs.Common.{◌∙◌, sym}
use Rattle.acn_leaf.proofs.TableRules.{line_none, ends_last}
use Rattle.acn_leaf.proofs.table_rules.widen_by_line.Goals as goal

pub returns-else-is_at_most : goal.returns-else-is_at_most
returns-else-is_at_most c =
    let k = line_none c.args.range.now c.args.line.now c.greater-low.result.now c.less-high.result.now c.greater-low.ensures c.less-high.ensures (sym c.is_at_most.ensures ∙ c.if-is_at_most.false) in
    rw k (sym (ends_last c.args.ends.now))
