use Rattle.acn_lines.proofs.Noting.{all-fields, all-alternatives}
use Rattle.acn_lines.proofs.order.+order.Goals as goal

pub alternative_orders-returns : goal.alternative_orders-returns
alternative_orders-returns t c =
    all-alternatives c.args.alternatives.now c.loop-alternative.alternative-index c.loop-alternative.orders c.loop-alternative-test.false c.loop-alternative.invariant.kept

pub field_orders-returns : goal.field_orders-returns
field_orders-returns t c = all-fields c.args.fields.now c.loop-field.field-index c.loop-field.orders c.loop-field-test.false c.loop-field.invariant.kept
