use Rattle.std.proofs.Common.{◌≡◌, drop}
use Rattle.std.specs.List.{list_any}
use Rattle.acn_world.specs.Chained.{constraints_view}
use Rattle.acn_constraint.specs.Constraints.{gives_size}
use Rattle.acn_constraint.proofs.along.has_size.Given as goal

abbrev pub invariant-loop-constraint : goal.invariant-loop-constraint
invariant-loop-constraint l = list_any gives_size (constraints_view (drop l.constraint-index l.constraints)) ≡ list_any gives_size (constraints_view l.constraints)
