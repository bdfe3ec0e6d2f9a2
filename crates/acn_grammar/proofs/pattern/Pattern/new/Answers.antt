use Rattle.std.proofs.Common.{arith, refl, false, get_or, ap, sym, ◌∙◌, ◌++◌, ◌∷◌, []}
use Rattle.std.proofs.lemmas.List.{take_more}
use mir.Val.{bool_byte}
use Rattle.acn_grammar.proofs.pattern.Pattern.new.Goals as goal
use Rattle.acn_grammar.proofs.Numbers.{push_bit}

pub overflow_mul-number : goal.overflow_mul-number
overflow_mul-number c =
    let h = (push_bit c.args.bits.now c.loop-bit.bit-index c.loop-bit.number (bool_byte (get_or c.args.bits.now c.loop-bit.bit-index false)) (omega arith) c.requires.short c.loop-bit.invariant.1 refl).0 in
    record { fits = omega (arith, h) }

pub overflow_add-number : goal.overflow_add-number
overflow_add-number c = record { fits = (push_bit c.args.bits.now c.loop-bit.bit-index c.loop-bit.number c.from.result (omega arith) c.requires.short c.loop-bit.invariant.1 c.from.ensures).0 }

pub loop-bit-preserved : goal.loop-bit-preserved
loop-bit-preserved c = (
  c.push.ensures.items ∙ (ap (λ t. t ++ get_or c.args.bits.now c.loop-bit.bit-index false ∷ []) c.loop-bit.invariant.0 ∙ sym (take_more c.args.bits.now c.loop-bit.bit-index false (omega arith))),
  (push_bit c.args.bits.now c.loop-bit.bit-index c.loop-bit.number c.from.result (omega arith) c.requires.short c.loop-bit.invariant.1 c.from.ensures).1,
)
