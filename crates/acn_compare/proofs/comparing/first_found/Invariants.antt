use Rattle.std.proofs.Common.{take, map}
use Rattle.acn_compare.specs.Accepts.{Answering, AllAgree}
use Rattle.acn_compare.specs.Judging.{place_of}
use Rattle.acn_compare.specs.Tests.{Tells}
use Rattle.acn_compare.proofs.comparing.first_found.Given as goal

abbrev pub invariant-loop-place : goal.invariant-loop-place
invariant-loop-place l = (by : Answering) → Tells by l.slots → AllAgree by (map place_of (take l.place-index l.places))
