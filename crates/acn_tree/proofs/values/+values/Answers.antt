use Rattle.std.proofs.Common.{◌∙◌, arith}
use Rattle.std.proofs.lemmas.Grind.{common_steps}
use Rattle.acn_grammar.specs.View.{fields_view}
use Rattle.acn_tree.proofs.ValueCounts.{fields-held, values-turn, alternatives-turn}
use Rattle.acn_tree.proofs.values.+values.Goals as goal

pub fields_values-loop-field-init : goal.fields_values-loop-field-init
fields_values-loop-field-init t c =
    let h = fields-held (fields_view c.args.fields.now) in
    record { small = omega arith; same = omega arith }

pub fields_values-loop-field-preserved : goal.fields_values-loop-field-preserved
fields_values-loop-field-preserved t c =
    let l = c.loop-field in
    let turn = values-turn l.all c.args.fields.now l.field-index c.field-item.result c.loop-field-test.true c.field-item.is l.invariant.small in
    record { small = c.with_field-all.ensures.small; same = rw c.with_field-all.ensures.value (turn ∙ l.invariant.same) }

pub alternatives_values-loop-alternative-preserved : goal.alternatives_values-loop-alternative-preserved
alternatives_values-loop-alternative-preserved t c =
    let l = c.loop-alternative in
    let turn = alternatives-turn l.most c.args.alternatives.now l.alternative-index c.alternative-item.result c.loop-alternative-test.true c.alternative-item.is in
    grind (arith, common_steps)
