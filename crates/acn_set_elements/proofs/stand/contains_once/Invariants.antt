use Rattle.std.proofs.Common.{◌≡◌, drop}
use Rattle.std.specs.Prelude.{filter}
use Rattle.acn_world.specs.Chained.{constraints_view}
use Rattle.acn_set_elements.specs.Stands.{at_most_one, is_containing}
use Rattle.acn_set_elements.proofs.Ones.{with_one}
use Rattle.acn_set_elements.proofs.stand.contains_once.Given as goal

abbrev pub invariant-loop-constraint : goal.invariant-loop-constraint
invariant-loop-constraint l = with_one l.found (filter is_containing (constraints_view (drop l.constraint-index l.constraints))) ≡ at_most_one (filter is_containing (constraints_view l.constraints))
