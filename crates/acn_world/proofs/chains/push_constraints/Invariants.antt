use Rattle.std.proofs.Common.{◌≡◌, drop, ◌++◌}
use Rattle.std.specs.Prelude.{map}
use Rattle.acn_asn_syntax.specs.View.{constraint_view}
use Rattle.acn_world.specs.Chained.{constraints_view}
use Rattle.acn_world.proofs.chains.push_constraints.Given as goal

abbrev pub invariant-loop-constraint : goal.invariant-loop-constraint
invariant-loop-constraint l = constraints_view l.all ++ map (λ c. (l.owner, c)) (map constraint_view (drop l.constraint-index l.constraints)) ≡ constraints_view l.fn.all ++ map (λ c. (l.owner, c)) (map constraint_view l.constraints)
