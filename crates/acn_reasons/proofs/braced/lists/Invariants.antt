use Rattle.std.proofs.Common.{◌≡◌, drop}
use Rattle.acn_reasons.specs.Braced as spec
use Rattle.acn_reasons.specs.Named.{names_view, fields_view}
use Rattle.acn_reasons.proofs.braced.lists.Given as goal

abbrev pub invariant-loop-field : goal.invariant-loop-field
invariant-loop-field l = spec.lists l.inserts (names_view (drop l.passed l.names)) (fields_view (drop l.field-index l.fields)) ≡ spec.lists l.inserts (names_view l.names) (fields_view l.fields)
