use Rattle.std.proofs.Common.{◌-◌, length}
use Rattle.acn_ints.proofs.SaidLemmas.{taken_stays}
use Rattle.acn_ints.proofs.ended.rest_of_end.Goals as goal

pub returns-then-front-head-clause-stays : goal.returns-then-front-head-clause-stays
returns-then-front-head-clause-stays c = taken_stays (length c.args.end.now - c.args.size) c.args.cur.now c.bits_of.new.cur c.in-Ok.v c.in-Ok.ensures.taken

pub returns-then-v-tail-clause-stays : goal.returns-then-v-tail-clause-stays
returns-then-v-tail-clause-stays c = taken_stays (length c.args.end.now - c.args.size) c.args.cur.now c.bits_of.new.cur c.in-Ok.v c.in-Ok.ensures.taken
