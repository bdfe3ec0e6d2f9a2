use Rattle.std.proofs.Common.{◌≡◌, ◌++◌, drop}
use Rattle.acn_num.specs.Bits.{bits}
use Rattle.acn_explain.proofs.lines.list_bits.Given as goal

abbrev pub invariant-loop-octet : goal.invariant-loop-octet
invariant-loop-octet l = l.bits.items ++ bits (drop l.octet-index l.octets) ≡ bits l.octets
