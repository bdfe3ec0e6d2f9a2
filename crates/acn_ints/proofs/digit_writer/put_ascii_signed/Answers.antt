use Rattle.acn_ints.proofs.DigitPuts.{ascii_signed_puts, signed_fits}
use Rattle.acn_ints.proofs.digit_writer.put_ascii_signed.Goals as goal

pub magnitude-requires : goal.magnitude-requires
magnitude-requires g c = signed_fits c.args.n c.args.y.now c.requires.digits c.requires.can

pub returns-clause-code : goal.returns-clause-code
returns-clause-code g c = ascii_signed_puts c.args.n c.magnitude.result c.args.y.now c.is_negative.result c.args.cur.now c.put_sign.new.cur c.put_digits.new.cur c.requires.digits c.requires.can c.is_negative.ensures c.magnitude.ensures c.put_sign.ensures c.put_digits.ensures
