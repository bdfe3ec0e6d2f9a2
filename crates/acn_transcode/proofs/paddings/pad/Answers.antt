use Rattle.std.proofs.Common.{◌≡◌, arith}
use Rattle.std.proofs.lemmas.Bool.Decides.{nat_tests}
use Rattle.acn_transcode.proofs.Gaps.{no_padding}
use Rattle.acn_transcode.proofs.paddings.pad.Goals as goal

pub returns-then-align-eq1 : goal.returns-then-align-eq1
returns-then-align-eq1 c =
    let one = c.if-align-eq1.true in
    let is : c.args.align ≡ 1 = grind (arith, nat_tests) in
    record { passed = no_padding c.args.align c.args.cur.now is }
