use Rattle.std.proofs.Common.{arith}
use Rattle.acn_num.proofs.Pushed.{no_bit}
use Rattle.acn_num.proofs.bit_list.bit_of.Goals as goal

pub returns-else-k-lt64 : goal.returns-else-k-lt64
returns-else-k-lt64 c = no_bit c.args.k c.args.v (let k = c.if-k-lt64.false in omega (arith, k)) (let v = c.ranges.v.fits in omega (arith, v))
