use Rattle.std.proofs.Common.{◌≡◌, drop, ◌++◌}
use Rattle.acn_world.specs.Chained.{constraints_view}
use Rattle.acn_constraint.proofs.along.push_all.Given as goal

abbrev pub invariant-loop-constraint : goal.invariant-loop-constraint
invariant-loop-constraint l = constraints_view l.all ++ constraints_view (drop l.constraint-index l.constraints) ≡ constraints_view l.fn.all ++ constraints_view l.constraints
