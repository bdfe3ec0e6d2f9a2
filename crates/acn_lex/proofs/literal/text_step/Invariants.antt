use Rattle.std.proofs.Common.{◌≡◌, drop, false}
use Rattle.acn_lex.specs.Scan.{text_from}
use Rattle.acn_lex.proofs.literal.text_step.Given as goal

abbrev pub invariant-loop-i : goal.invariant-loop-i
invariant-loop-i l = text_from l.skip l.i (drop l.i l.bytes) ≡ text_from false 0 l.bytes
