use Rattle.std.proofs.Common.{true, subst, sym, ℕ, ◌≡◌, ◌+◌, ◌-◌, ◌*◌, ◌/◌, arith}
use Rattle.acn_ints.specs.DigitReads.{AreRead}
use Rattle.acn_ints.proofs.SignedCodes.{ascii_signed_said_at, minus_zero_at, no_digits, no_sign}
use Rattle.acn_ints.proofs.ended_codings.read_ascii_signed.Goals as goal

pub returns-in-Some-clause-said : goal.returns-in-Some-clause-said
returns-in-Some-clause-said c =
    let fit = c.requires in
    let whole : c.args.n ≡ 8 + 8 * (c.args.n / 8 - 1) = omega (arith, fit) in
    let read = subst (λ (k : ℕ). AreRead 48 8 (c.args.n / 8 - 1) c.take_sign.new.cur c.read_digits.new.cur k) (sym c.from-in-Some.ensures) c.in-Some.ensures.digits in
    ascii_signed_said_at c.args.n (c.args.n / 8 - 1) c.args.little c.in-Ok.negative true c.args.cur.now c.take_sign.new.cur c.read_digits.new.cur _ c.with_sign.result whole (omega arith) c.in-Ok.ensures.sign read c.with_sign.ensures.wire c.with_sign.ensures.image

pub returns-in-Some-clause-wrong : goal.returns-in-Some-clause-wrong
returns-in-Some-clause-wrong c =
    let fit = c.requires in
    let whole : c.args.n ≡ 8 + 8 * (c.args.n / 8 - 1) = omega (arith, fit) in
    let read = subst (λ (k : ℕ). AreRead 48 8 (c.args.n / 8 - 1) c.take_sign.new.cur c.read_digits.new.cur k) (sym c.from-in-Some.ensures) c.in-Some.ensures.digits in
    minus_zero_at c.args.n (c.args.n / 8 - 1) c.args.little c.in-Ok.negative c.args.cur.now c.take_sign.new.cur c.read_digits.new.cur _ c.with_sign.result whole (omega arith) c.in-Ok.ensures.sign read c.with_sign.ensures.wrong

pub returns-in-None-clause-wrong : goal.returns-in-None-clause-wrong
returns-in-None-clause-wrong c =
    let fit = c.requires in
    let whole : c.args.n ≡ 8 + 8 * (c.args.n / 8 - 1) = omega (arith, fit) in
    no_digits c.args.n (c.args.n / 8 - 1) c.args.little c.in-Ok.negative c.args.cur.now c.take_sign.new.cur c.read_digits.new.cur whole (omega arith) c.in-Ok.ensures.sign c.in-None.ensures.digits c.in-None.ensures.stays

pub returns-in-Err-clause-wrong : goal.returns-in-Err-clause-wrong
returns-in-Err-clause-wrong c =
    let fit = c.requires in
    let whole : c.args.n ≡ 8 + 8 * (c.args.n / 8 - 1) = omega (arith, fit) in
    no_sign c.args.n (c.args.n / 8 - 1) c.args.little c.args.cur.now c.take_sign.new.cur c.in-Err.fault whole (omega arith) c.in-Err.ensures.wrong c.in-Err.ensures.stays
