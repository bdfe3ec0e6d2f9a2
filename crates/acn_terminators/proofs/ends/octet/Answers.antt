use Rattle.std.proofs.Common.{false, arith}
use Rattle.std.proofs.lemmas.Grind.{common_steps}
use Rattle.acn_terminators.proofs.Octets.{octet-small, number-more}
use Rattle.acn_terminators.proofs.ends.octet.Goals as goal
use Rattle.acn_num.proofs.BitLists.{weight_below}

pub overflow_mul-octet : goal.overflow_mul-octet
overflow_mul-octet c =
    let small = octet-small c.args.bits.now c.loop-bit.bit-index (omega arith) (omega arith) in
    omega arith

pub overflow_add-octet : goal.overflow_add-octet
overflow_add-octet c =
    let small = octet-small c.args.bits.now c.loop-bit.bit-index (omega arith) (omega arith) in
    grind (arith, weight_below)

pub loop-bit-preserved : goal.loop-bit-preserved
loop-bit-preserved c =
    let step = number-more c.args.bits.now c.loop-bit.bit-index false (omega arith) in
    grind (arith, common_steps)
