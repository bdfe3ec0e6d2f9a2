use Rattle.std.proofs.Common.{◌≡◌, drop, ◌++◌}
use Rattle.acn_cycles.specs.Numbers.{places_at}
use Rattle.acn_cycles.proofs.numbers.places_at.Given as goal

abbrev pub invariant-loop-number : goal.invariant-loop-number
invariant-loop-number l = l.all.items ++ places_at l.places (drop l.number-index l.numbers) ≡ places_at l.places l.numbers
