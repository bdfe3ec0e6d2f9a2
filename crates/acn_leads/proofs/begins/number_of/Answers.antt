use Rattle.std.proofs.Common.{arith, refl, false, get_or}
use mir.Val.{bool_byte}
use Rattle.acn_leads.proofs.begins.number_of.Goals as goal
use Rattle.acn_grammar.proofs.Numbers.{push_bit}

pub overflow_mul-n : goal.overflow_mul-n
overflow_mul-n c =
    let h = (push_bit c.args.bits.now c.loop-bit.bit-index c.loop-bit.n (bool_byte (get_or c.args.bits.now c.loop-bit.bit-index false)) (omega arith) c.requires c.loop-bit.invariant refl).0 in
    record { fits = omega (arith, h) }

pub overflow_add-n : goal.overflow_add-n
overflow_add-n c = record { fits = (push_bit c.args.bits.now c.loop-bit.bit-index c.loop-bit.n c.from.result (omega arith) c.requires c.loop-bit.invariant c.from.ensures).0 }

pub loop-bit-preserved : goal.loop-bit-preserved
loop-bit-preserved c = (push_bit c.args.bits.now c.loop-bit.bit-index c.loop-bit.n c.from.result (omega arith) c.requires c.loop-bit.invariant c.from.ensures).1
