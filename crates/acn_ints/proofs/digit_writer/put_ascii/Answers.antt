use Rattle.acn_ints.proofs.DigitPuts.{ascii_puts, fixed_small, count_of_ascii}
use Rattle.acn_ints.proofs.digit_writer.put_ascii.Goals as goal

pub magnitude-requires : goal.magnitude-requires
magnitude-requires g c = fixed_small 8 c.args.n c.args.y.now c.requires.can.0 (count_of_ascii c.args.n c.requires.digits).0 c.requires.can.1 c.requires.can.2

pub returns-clause-code : goal.returns-clause-code
returns-clause-code g c = ascii_puts c.args.n c.magnitude.result c.args.y.now c.args.cur.now c.put_digits.new.cur c.requires.digits c.requires.can c.magnitude.ensures c.put_digits.ensures
