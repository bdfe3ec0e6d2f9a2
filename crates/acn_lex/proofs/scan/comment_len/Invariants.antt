use Rattle.std.proofs.Common.{◌≡◌, ◌+◌, drop}
use Rattle.acn_lex.specs.Scan.{comment_len}
use Rattle.acn_lex.proofs.scan.comment_len.Given as goal

abbrev pub invariant-loop-i : goal.invariant-loop-i
invariant-loop-i l = l.i + comment_len (drop l.i l.bytes) ≡ comment_len l.bytes
