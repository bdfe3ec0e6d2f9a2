use Rattle.std.proofs.Common.{◌≡◌, drop}
use Rattle.acn_params.specs.Paths as spec
use Rattle.acn_params.specs.View.{fields_view}
use Rattle.acn_params.proofs.scope.has_name.Given as goal

abbrev pub invariant-loop-field : goal.invariant-loop-field
invariant-loop-field l = spec.has_name l.name (fields_view (drop l.field-index l.fields)) ≡ spec.has_name l.name (fields_view l.fields)
