use Rattle.std.proofs.Common.{◌≡◌, ◌+◌, drop}
use Rattle.acn_words.specs.Routes as spec
use Rattle.acn_words.proofs.routes.sign_at.Given as goal

abbrev pub invariant-loop-i : goal.invariant-loop-i
invariant-loop-i l = l.i + spec.sign_at (drop l.i l.bytes) ≡ spec.sign_at l.bytes
