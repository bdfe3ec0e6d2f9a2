use Rattle.std.proofs.Common.{◌++◌, arith}
use Rattle.std.proofs.lemmas.Grind.{common_steps}
use Rattle.std.proofs.lemmas.Bool.Decides.{nat_tests}
use Rattle.acn_terminators.proofs.Octets.{ends-turn}
use Rattle.acn_terminators.proofs.ends.ends_at.Goals as goal

pub returns-then-octet_at-end : goal.returns-then-octet_at-end
returns-then-octet_at-end c =
    let step = ends-turn (c.args.text.now ++ c.args.end.now) c.args.end.now c.args.i c.loop-k.k (omega arith) (grind (arith, common_steps)) in
    grind (arith, nat_tests, common_steps)

pub loop-k-preserved : goal.loop-k-preserved
loop-k-preserved c =
    let step = ends-turn (c.args.text.now ++ c.args.end.now) c.args.end.now c.args.i c.loop-k.k (omega arith) (grind (arith, common_steps)) in
    grind (arith, nat_tests, common_steps)
