use Rattle.std.proofs.Common.{◌≡◌, ◌+◌, drop}
use Rattle.std.specs.Char.{is_ascii_digit}
use Rattle.acn_lex.specs.Scan.{run_len}
use Rattle.acn_lex.proofs.scan.digits_len.Given as goal

abbrev pub invariant-loop-i : goal.invariant-loop-i
invariant-loop-i l = l.i + run_len is_ascii_digit (drop l.i l.bytes) ≡ run_len is_ascii_digit l.bytes
