use Rattle.std.proofs.Common.{◌≡◌, ◌++◌, drop}
use Rattle.acn_num.specs.Bits.{bits as bits_of}
use Rattle.acn_plain_write.proofs.parts.put_octets.Given as goal

abbrev pub invariant-loop-octet : goal.invariant-loop-octet
invariant-loop-octet l = l.bits ++ bits_of (drop l.octet-index l.octets) ≡ l.fn.bits ++ bits_of l.octets
