use Rattle.std.proofs.Common.{arith}
use Rattle.std.proofs.lemmas.Int.{ints}
use Rattle.std.proofs.lemmas.Bool.Decides.{nat_tests}
use Rattle.acn_leaf.proofs.Sizes.{is_power, not_past}
use Rattle.acn_leaf.proofs.size_rules.is_past.Goals as goal

pub returns-then-width-lt127 : goal.returns-then-width-lt127
returns-then-width-lt127 c = (let k = is_power c.args.width c.if-width-lt127.true in grind (arith, ints))

pub returns-else-width-lt127 : goal.returns-else-width-lt127
returns-else-width-lt127 c = (let k = not_past c.args.width c.args.x.now (omega (arith, ints)) c.if-width-lt127.false in grind (arith, nat_tests, k))
