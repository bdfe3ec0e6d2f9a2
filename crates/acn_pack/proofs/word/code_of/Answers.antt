use Rattle.std.proofs.Common.{rules, arith, refl}
use Rattle.std.proofs.lemmas.Int.{ints}
use Rattle.std.specs.Int.{w128, int_wrapping_sub}
use Rattle.acn_pack.proofs.Gathered.{ahead_is, code_is, span_is}
use Rattle.acn_pack.proofs.word.code_of.Goals as goal

pub returns-clause-code : goal.returns-clause-code
returns-clause-code c leaf is =
    let cut = c.args.cut.now in
    let x = c.args.x.now in
    let d = int_wrapping_sub w128 x cut.low in
    let far = ahead_is x cut.low d cut.span (record { sfits = search rules }) (record { sfits = search rules }) refl (let a = c.if-ahead-lt0.false in omega (arith, ints, a)) (let b = c.if-ahead-from.false in omega (arith, ints, b)) is.greatest in
    code_is cut leaf x _ is far (span_is d cut.span (let a = c.if-ahead-lt0.false in omega (arith, ints, a)) (let b = c.if-ahead-from.false in omega (arith, ints, b)))
