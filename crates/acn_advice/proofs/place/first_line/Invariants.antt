use Rattle.std.proofs.Common.{◌≡◌, ◌++◌, take, drop}
use Rattle.acn_advice.specs.Place as spec
use Rattle.acn_advice.proofs.place.first_line.Given as goal

abbrev pub invariant-loop-number : goal.invariant-loop-number
invariant-loop-number l = take l.number l.bytes ++ spec.first_line (drop l.number l.bytes) ≡ spec.first_line l.bytes
