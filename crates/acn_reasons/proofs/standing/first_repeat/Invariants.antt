use Rattle.std.proofs.Common.{◌≡◌, drop, find}
use Rattle.std.specs.List.{enumerate_from}
use Rattle.acn_reasons.specs.Standing.{stands_behind}
use Rattle.acn_reasons.proofs.standing.first_repeat.Given as goal

abbrev pub invariant-loop-i : goal.invariant-loop-i
invariant-loop-i l = find (stands_behind l.attributes) (enumerate_from l.i (drop l.i l.attributes)) ≡ find (stands_behind l.attributes) (enumerate_from 0 l.attributes)
