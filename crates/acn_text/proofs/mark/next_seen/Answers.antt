use Rattle.std.proofs.Common.{◌%◌, ap, arith, ℕ, ◌<◌}
use Rattle.acn_ints.proofs.FixedCodes.{taken_below}
use Rattle.acn_text.proofs.Marks.{octets_below, shifted_power}
use Rattle.acn_text.proofs.mark.next_seen.Goals as goal

pub overflow_mul-result : goal.overflow_mul-result
overflow_mul-result c =
    let b = octets_below c.args.width c.args.seen 0 c.requires.low c.requires.high (omega arith) in
    let e = ap (λ (k : ℕ). c.args.seen % k) (shifted_power c.args.width c.requires.high) in
    record { fits = omega (arith, b, e) }

pub overflow_add-result : goal.overflow_add-result
overflow_add-result c =
    let o : c.in-Ok.octet < 256 = taken_below 8 c.args.cur.now c.take.new.self c.in-Ok.octet (record { within = c.in-Ok.ensures.within; value = c.in-Ok.ensures.value; moved = c.in-Ok.ensures.moved }) in
    let b = octets_below c.args.width c.args.seen c.in-Ok.octet c.requires.low c.requires.high o in
    let e = ap (λ (k : ℕ). c.args.seen % k) (shifted_power c.args.width c.requires.high) in
    record { fits = omega (arith, b, e) }
