use Rattle.std.proofs.Common.{◌≡◌, drop}
use Rattle.acn_params.specs.Paths as spec
use Rattle.acn_params.proofs.scope.Scope.bound_to.Given as goal

abbrev pub invariant-loop-bound : goal.invariant-loop-bound
invariant-loop-bound l = spec.bound_to (drop l.bound-index l.bound-items) l.name ≡ spec.bound_to l.bound-items l.name
