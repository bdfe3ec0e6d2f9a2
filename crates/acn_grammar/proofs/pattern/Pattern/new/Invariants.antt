use Rattle.std.proofs.Common.{◌≡◌, take}
use Rattle.acn_num.specs.Bits.{number}
use Rattle.acn_grammar.proofs.pattern.Pattern.new.Given as goal

abbrev pub invariant-loop-bit : goal.invariant-loop-bit
invariant-loop-bit l = (l.copied.items ≡ take l.bit-index l.bits) × (l.number ≡ number (take l.bit-index l.bits))
