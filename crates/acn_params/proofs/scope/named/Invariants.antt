use Rattle.std.proofs.Common.{◌≡◌, drop, find}
use Rattle.acn_params.specs.Paths as spec
use Rattle.acn_params.specs.View.{fields_view}
use Rattle.acn_params.proofs.scope.named.Given as goal

abbrev pub invariant-loop-field : goal.invariant-loop-field
invariant-loop-field l = find (spec.is_named l.name) (fields_view (drop l.field-index l.fields)) ≡ find (spec.is_named l.name) (fields_view l.fields)
