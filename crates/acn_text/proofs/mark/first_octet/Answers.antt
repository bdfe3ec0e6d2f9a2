use Rattle.std.proofs.Common.{◌-◌, ◌^◌, arith}
use Rattle.std.proofs.Math.Nat.{div-lt_iff_lt-mul}
use Rattle.acn_text.proofs.Marks.{power_split, power_some}
use Rattle.acn_text.proofs.mark.first_octet.Goals as goal

pub returns-clause-small : goal.returns-clause-small
returns-clause-small c = (div-lt_iff_lt-mul {k = 2 ^ (c.args.width - 8)} {x = c.args.seen} {y = 256} (power_some (c.args.width - 8))).1 (omega (arith, power_split c.args.width c.requires.low, c.requires.fits))
