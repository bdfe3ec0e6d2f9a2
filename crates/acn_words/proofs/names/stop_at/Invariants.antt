use Rattle.std.proofs.Common.{◌≡◌, ◌+◌, drop}
use Rattle.acn_words.specs.Names as spec
use Rattle.acn_words.proofs.names.stop_at.Given as goal

abbrev pub invariant-loop-i : goal.invariant-loop-i
invariant-loop-i l = l.i + spec.stop_at (drop l.i l.bytes) ≡ spec.stop_at l.bytes
