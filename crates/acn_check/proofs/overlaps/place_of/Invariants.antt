use Rattle.std.proofs.Common.{◌≡◌, ◌+◌, drop}
use Rattle.acn_check.specs.First.{place_of}
use Rattle.acn_check.proofs.overlaps.place_of.Given as goal

abbrev pub invariant-loop-place : goal.invariant-loop-place
invariant-loop-place l = l.place + place_of l.slot (drop l.place l.values) ≡ place_of l.slot l.values
