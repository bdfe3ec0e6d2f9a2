use Rattle.std.proofs.Common.{◌≡◌, length, map, string_bytes}
use Rattle.acn_words.specs.Faults.{repeated}
use Rattle.acn_words.proofs.faults.repeated.Given as goal

abbrev pub invariant-loop-rest : goal.invariant-loop-rest
invariant-loop-rest l = repeated (map string_bytes l.rest) ≡ repeated (map string_bytes l.routes)

abbrev pub decreases-loop-rest : goal.decreases-loop-rest
decreases-loop-rest l = length l.rest
