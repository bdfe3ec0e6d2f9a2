use Rattle.std.proofs.Common.{◌≡◌, length}
use Rattle.acn_advice.specs.Place.{behind_feed, last_line}
use Rattle.acn_advice.proofs.place.last_line.Given as goal

abbrev pub invariant-loop-rest : goal.invariant-loop-rest
invariant-loop-rest l = behind_feed l.line l.rest ≡ last_line l.bytes

abbrev pub decreases-loop-rest : goal.decreases-loop-rest
decreases-loop-rest l = length l.rest
