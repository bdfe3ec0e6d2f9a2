use Rattle.std.proofs.Common.{◌++◌, List, drop}
use Rattle.acn_grammar.specs.View.{fields_view, alternatives_view}
use Rattle.acn_lines.specs.Names as names
use Rattle.acn_lines.specs.Order as spec
use Rattle.acn_lines.specs.declared.order.Order.{Order}
use Rattle.acn_lines.proofs.order.+order.Given as goal

abbrev pub invariant-field_orders-loop-field : goal.invariant-field_orders-loop-field
invariant-field_orders-loop-field l = record {
  differ : names.FieldsNamesDiffer (fields_view (drop l.field-index l.fields));
  kept : (os : List Order) → spec.AreFieldOrders (fields_view (drop l.field-index l.fields)) os → spec.AreFieldOrders (fields_view l.fields) (l.orders ++ os);
}

abbrev pub invariant-alternative_orders-loop-alternative : goal.invariant-alternative_orders-loop-alternative
invariant-alternative_orders-loop-alternative l = record {
  differ : names.AlternativesNamesDiffer (alternatives_view (drop l.alternative-index l.alternatives));
  kept : (os : List Order) → spec.AreAlternativeOrders (alternatives_view (drop l.alternative-index l.alternatives)) os → spec.AreAlternativeOrders (alternatives_view l.alternatives) (l.orders ++ os);
}
