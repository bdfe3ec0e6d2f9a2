use Rattle.acn_ints.proofs.Lists.{Listed}
use Rattle.acn_ints.proofs.filler.first_bits.Given as goal

abbrev pub invariant-loop-i : goal.invariant-loop-i
invariant-loop-i l = Listed l.buf l.count l.i l.list l.cur
