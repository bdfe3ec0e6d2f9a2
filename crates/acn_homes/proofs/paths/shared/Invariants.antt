use Rattle.std.proofs.Common.{◌≡◌, ◌++◌, take, drop}
use Rattle.acn_homes.specs.Homes as spec
use Rattle.acn_homes.proofs.paths.shared.Given as goal

abbrev pub invariant-loop-at : goal.invariant-loop-at
invariant-loop-at l = spec.shared l.path l.other ≡ take l.at l.path ++ spec.shared (drop l.at l.path) (drop l.at l.other)
