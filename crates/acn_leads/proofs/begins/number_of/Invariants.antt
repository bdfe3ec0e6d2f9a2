use Rattle.std.proofs.Common.{◌≡◌, take}
use Rattle.acn_num.specs.Bits.{number}
use Rattle.acn_leads.proofs.begins.number_of.Given as goal

abbrev pub invariant-loop-bit : goal.invariant-loop-bit
invariant-loop-bit l = l.n ≡ number (take l.bit-index l.bits)
