use Rattle.std.proofs.Common.{◌≡◌, [], drop}
use Rattle.acn_firsts.specs.Placed.{noted_all}
use Rattle.acn_set_elements.specs.Numbered.{placed}
use Rattle.acn_set_elements.proofs.numbers.places_of.Given as goal

abbrev pub invariant-loop-at : goal.invariant-loop-at
invariant-loop-at l = noted_all l.all (placed l.at (drop l.at l.names)) ≡ noted_all [] (placed 0 l.names)
