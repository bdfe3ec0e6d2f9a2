use Rattle.std.proofs.Common.{ap, arith, drop_of_length-le}
use Rattle.std.proofs.lemmas.List.{at_drop_more}
use Rattle.std.proofs.lemmas.Result.{err_from_is_err_and}
use Rattle.acn_print.proofs.Joining.{goes_on, breaks_off, ends}
use Rattle.acn_report.specs.Digits.{bits_text}
use Rattle.acn_report.proofs.digits.put_bits.Goals as goal

pub returns-in_err-put_bit : goal.returns-in_err-put_bit
returns-in_err-put_bit g c =
    let p = err_from_is_err_and c.from_residual.result c.from_residual.ensures.1 in
    let turn = at_drop_more bits_text c.args.bits.now c.loop-bit.bit-index _ c.loop-bit-test.true in
    rw p.1 (breaks_off _ _ _ _ c.loop-bit.invariant _ _ _ c.in_err-put_bit.field-0.0 p.0 turn c.in_err-put_bit.ensures)

pub loop-bit-preserved : goal.loop-bit-preserved
loop-bit-preserved g c =
    let turn = at_drop_more bits_text c.args.bits.now c.loop-bit.bit-index _ c.loop-bit-test.true in
    goes_on _ _ _ _ c.loop-bit.invariant _ _ _ turn c.in_ok-put_bit.ensures

pub returns : goal.returns
returns g c = ends _ _ _ _ c.loop-bit.invariant (ap bits_text (drop_of_length-le c.args.bits.now (omega arith)))
