use Rattle.acn_ints.proofs.EndedLemmas.{Upto}
use Rattle.acn_ints.proofs.ended.read_ended.Given as goal

abbrev pub invariant-loop-count : goal.invariant-loop-count
invariant-loop-count l = Upto l.size l.zero_digit l.most l.initial.cur l.cur l.count l.so_far.count l.so_far.value l.so_far.leading_zero
