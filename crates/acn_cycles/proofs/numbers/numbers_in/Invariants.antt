use Rattle.std.proofs.Common.{◌≡◌, drop, ◌++◌}
use Rattle.std.specs.Prelude.{map}
use Rattle.acn_cycles.specs.Numbers.{number_in}
use Rattle.acn_cycles.proofs.numbers.numbers_in.Given as goal

abbrev pub invariant-loop-place : goal.invariant-loop-place
invariant-loop-place l = l.all.items ++ map (number_in l.firsts) (drop l.place-index l.places) ≡ map (number_in l.firsts) l.places
