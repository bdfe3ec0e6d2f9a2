use Rattle.acn_ints.proofs.SaidLemmas.{taken_stays}
use Rattle.acn_ints.proofs.ended_codings.take_sign.Goals as goal

pub returns-else-v-eq45-clause-stays : goal.returns-else-v-eq45-clause-stays
returns-else-v-eq45-clause-stays c = taken_stays 8 c.args.cur.now c.bits_of.new.cur c.in-Ok.v c.in-Ok.ensures.taken
