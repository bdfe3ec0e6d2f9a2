use Rattle.std.proofs.Common.{◌≡◌, take}
use Rattle.acn_num.specs.Bits.{bits, number}
use Rattle.acn_writer.proofs.cursor.few_octets.Given as goal

abbrev pub invariant-loop-octet : goal.invariant-loop-octet
invariant-loop-octet l = l.all ≡ number (bits (take l.octet-index l.octets))
