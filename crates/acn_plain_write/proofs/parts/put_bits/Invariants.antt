use Rattle.std.proofs.Common.{◌≡◌, ◌++◌, drop}
use Rattle.acn_plain_write.proofs.parts.put_bits.Given as goal

abbrev pub invariant-loop-bit : goal.invariant-loop-bit
invariant-loop-bit l = l.bits ++ drop l.bit-index l.more ≡ l.fn.bits ++ l.more
