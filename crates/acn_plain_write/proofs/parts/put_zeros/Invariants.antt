use Rattle.std.proofs.Common.{◌≡◌, ◌-◌, ◌++◌, replicate, false}
use Rattle.acn_plain_write.proofs.parts.put_zeros.Given as goal

abbrev pub invariant-loop-i : goal.invariant-loop-i
invariant-loop-i l = l.bits ++ replicate (l.count - l.i) false ≡ l.fn.bits ++ replicate l.count false
