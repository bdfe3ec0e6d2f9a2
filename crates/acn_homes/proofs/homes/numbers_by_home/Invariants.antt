use Rattle.std.proofs.Common.{◌≡◌, ℕ, List, take}
use Rattle.acn_homes.specs.Homes as spec
use Rattle.acn_homes.specs.View.{slots_view, found}
use Rattle.acn_homes.proofs.homes.numbers_by_home.Given as goal

abbrev pub invariant-loop-number : goal.invariant-loop-number
invariant-loop-number l = (path : List ℕ) → found l.numbers path ≡ spec.at_home (slots_view (take l.number l.slots)) path
