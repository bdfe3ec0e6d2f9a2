use Rattle.std.proofs.Common.{arith}
use Rattle.std.proofs.lemmas.Int.{ints}
use Rattle.acn_extreme_numbers.proofs.Picking.{number_low, number_high}
use Rattle.acn_extreme_numbers.proofs.numbers.shifted.Goals as goal

pub returns : goal.returns
returns c =
    let a = number_low c.args.to.now c.requires.to in
    let b = number_high c.args.to.now c.requires.to in
    let d = number_low c.args.key.now c.requires.key in
    let e = number_high c.args.key.now c.requires.key in
    let f = number_low c.args.first.now c.requires.first in
    let g = number_high c.args.first.now c.requires.first in
    omega (arith, ints)
