use Rattle.std.proofs.Common.{◌<◌, ◌^◌, subst, sym, ℕ}
use Rattle.acn_ints.proofs.DigitPuts.{plain_ended_puts, counts_from, ended_small}
use Rattle.acn_ints.proofs.digit_writer.put_ascii_ended.Goals as goal

pub returns-clause-code : goal.returns-clause-code
returns-clause-code g c =
    let small = subst (λ (k : ℕ). k < 2 ^ 64) (sym c.magnitude-k.ensures) (ended_small c.args.y.now c.requires.can.0 c.requires.can.1 c.requires.can.2) in
    let n = counts_from c.digits_of.result c.magnitude-k.result c.from.result c.from.ensures small c.digits_of.ensures.some c.digits_of.ensures.holds c.digits_of.ensures.least in
    plain_ended_puts c.args.end.now c.digits_of.result c.magnitude-k.result c.args.y.now c.args.cur.now c.put_digits.new.cur c.put_end.new.cur n c.requires.can c.magnitude-k.ensures c.put_digits.ensures c.put_end.ensures
