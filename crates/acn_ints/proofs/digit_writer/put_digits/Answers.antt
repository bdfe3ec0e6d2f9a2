use Rattle.std.proofs.Common.{◌-◌, arith, refl}
use Rattle.acn_ints.proofs.DigitPuts.{room_one, room_next, some_power, power_left, first_digit, next_digit, all_digits}
use Rattle.acn_ints.proofs.digit_writer.put_digits.Goals as goal

pub put_digit-requires : goal.put_digit-requires
put_digit-requires g c = (omega arith, (c.requires.size, (c.requires.code, (some_power (c.args.n - 1) c.power_of_ten-power.result c.power_of_ten-power.ensures, room_one _ c.args.size c.args.n _ c.requires.some c.requires.room))))

pub loop-i-init : goal.loop-i-init
loop-i-init g c = record { upto = first_digit c.args.size c.args.zero_digit c.args.n c.args.k c.power_of_ten-power.result c.args.cur.now c.put_digit.new.cur c.requires.some c.power_of_ten-power.ensures c.put_digit.ensures; some = omega arith }

pub put_digit-requires-in-loop-i : goal.put_digit-requires-in-loop-i
put_digit-requires-in-loop-i g c =
    let u = c.loop-i.invariant.upto in
    (omega arith, (c.requires.size, (c.requires.code, (power_left c.args.size c.args.zero_digit c.args.n c.args.k c.loop-i.i c.loop-i.power c.args.cur.now c.loop-i.cur u c.loop-i-test.true, room_next c.args.size c.args.zero_digit c.args.n c.args.k c.loop-i.i c.loop-i.power _ c.args.cur.now c.loop-i.cur u c.loop-i-test.true c.requires.room))))

pub loop-i-preserved : goal.loop-i-preserved
loop-i-preserved g c =
    let some = c.loop-i.invariant.some in
    record { upto = next_digit c.args.size c.args.zero_digit c.args.n c.args.k c.loop-i.i c.loop-i.power _ c.args.cur.now c.loop-i.cur c.put_digit-in-loop-i.new.cur c.loop-i.invariant.upto c.loop-i-test.true some refl c.put_digit-in-loop-i.ensures; some = omega arith }

pub returns : goal.returns
returns g c =
    let u = c.loop-i.invariant.upto in
    let upto = u.upto in
    all_digits c.args.size c.args.zero_digit c.args.n c.args.k c.loop-i.i c.loop-i.power c.args.cur.now c.loop-i.cur u (omega (arith, upto, c.loop-i-test.false))
