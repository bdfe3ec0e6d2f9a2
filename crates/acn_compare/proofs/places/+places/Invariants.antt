use Rattle.std.proofs.Common.{◌≡◌, ◌++◌, drop, map}
use Rattle.acn_grammar.specs.View.{fields_view, alternatives_view}
use Rattle.acn_report.specs.Walks.{FieldsWalkable, AlternativesWalkable}
use Rattle.acn_compare.specs.Accepts.{field_places, case_places}
use Rattle.acn_compare.specs.Judging.{place_of}
use Rattle.acn_compare.proofs.places.+places.Given as goal

abbrev pub invariant-list_fields-loop-k : goal.invariant-list_fields-loop-k
invariant-list_fields-loop-k l = record {
  done : map place_of l.places.items ++ field_places l.path l.step (fields_view (drop l.k l.old)) (fields_view (drop l.k l.new)) ≡ map place_of l.fn.places.items ++ field_places l.path 0 (fields_view l.old) (fields_view l.new);
  walk : FieldsWalkable l.path l.step (fields_view (drop l.k l.old));
}

abbrev pub invariant-list_cases-loop-k : goal.invariant-list_cases-loop-k
invariant-list_cases-loop-k l = record {
  done : map place_of l.places.items ++ case_places l.path l.step (alternatives_view (drop l.k l.old)) (alternatives_view (drop l.k l.new)) ≡ map place_of l.fn.places.items ++ case_places l.path 0 (alternatives_view l.old) (alternatives_view l.new);
  walk : AlternativesWalkable l.path l.step (alternatives_view (drop l.k l.old));
}
