use Rattle.std.proofs.Common.{◌≡◌, drop}
use Rattle.acn_params.specs.View.{fields_view}
use Rattle.acn_params.specs.Paths as spec
use Rattle.acn_params.proofs.Along.{resume}
use Rattle.acn_params.proofs.scope.slot_along.Given as goal

abbrev pub invariant-loop-i : goal.invariant-loop-i
invariant-loop-i l = resume l.slot l.absent l.i (fields_view l.inside) (drop l.i l.names) ≡ spec.judged (spec.along (fields_view l.fields) l.names)
