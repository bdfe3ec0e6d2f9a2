use Rattle.std.proofs.Common.{◌≡◌, ◌++◌, drop}
use Rattle.acn_codings.specs.Literals.{text_bits}
use Rattle.acn_codings.proofs.literal.pattern_of.Given as goal

abbrev pub invariant-loop-c : goal.invariant-loop-c
invariant-loop-c l = l.bits.items ++ text_bits l.hex (drop l.c-index l.text) ≡ text_bits l.hex l.text
