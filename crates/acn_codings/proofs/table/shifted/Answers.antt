use Rattle.std.proofs.Common.{arith}
use Rattle.std.proofs.lemmas.Int.{ints}
use Rattle.acn_codings.proofs.Apart.{low, high}
use Rattle.acn_codings.proofs.table.shifted.Goals as goal

pub returns : goal.returns
returns c =
    let a = low c.args.to.now c.requires.to in
    let b = high c.args.to.now c.requires.to in
    let d = low c.args.from.now c.requires.from in
    let e = high c.args.from.now c.requires.from in
    let f = c.requires.low in
    let g = c.requires.high in
    omega (arith, ints)
