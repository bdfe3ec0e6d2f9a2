use Rattle.std.proofs.Common.{refl, arith}
use Rattle.acn_ints.proofs.MostLemmas.{most_first}
use Rattle.acn_ints.proofs.most.most_in.Goals as goal

pub loop-range-init : goal.loop-range-init
loop-range-init c = record { value = most_first 1 c.args.ranges.now refl; some = omega arith; few = omega arith }
