use Rattle.std.proofs.Common.{◌≡◌, ◌+◌, drop}
use Rattle.acn_lex.specs.Scan.{run_len}
use Rattle.acn_lex.specs.Bytes.{is_hex_or_white}
use Rattle.acn_lex.proofs.literal.hex_len.Given as goal

abbrev pub invariant-loop-i : goal.invariant-loop-i
invariant-loop-i l = l.i + run_len is_hex_or_white (drop l.i l.bytes) ≡ run_len is_hex_or_white l.bytes
