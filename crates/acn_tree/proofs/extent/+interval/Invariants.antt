use Rattle.std.proofs.Common.{◌≡◌, ◌≤◌, ◌^◌, drop}
use Rattle.acn_grammar.specs.Interval.{fields_span, alternatives_span, plus, hull}
use Rattle.acn_tree.specs.KeptLeaves.{FieldsKept, AlternativesKept}
use Rattle.acn_grammar.specs.View.{fields_view, alternatives_view}
use Rattle.acn_tree.proofs.extent.+interval.Given as goal

abbrev pub invariant-fields-loop-one : goal.invariant-fields-loop-one
invariant-fields-loop-one l = record {
  least : l.all.least ≤ 2 ^ 40;
  greatest : l.all.greatest ≤ 2 ^ 40;
  kept : FieldsKept (fields_view (drop l.one-index l.fields));
  same : plus l.all (fields_span (fields_view (drop l.one-index l.fields))) ≡ fields_span (fields_view l.fields);
}

abbrev pub invariant-alternatives-loop-alternative : goal.invariant-alternatives-loop-alternative
invariant-alternatives-loop-alternative l = record {
  least : l.all.least ≤ 2 ^ 40;
  greatest : l.all.greatest ≤ 2 ^ 40;
  kept : AlternativesKept (alternatives_view (drop l.alternative-index l.alternatives));
  same : hull l.all (alternatives_span (alternatives_view (drop l.alternative-index l.alternatives))) ≡ alternatives_span (alternatives_view l.alternatives);
}
