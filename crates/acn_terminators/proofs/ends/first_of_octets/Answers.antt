use Rattle.std.proofs.Common.{◌-◌, ◌+◌, ◌++◌, length, take, drop, arith}
use Rattle.std.proofs.lemmas.Grind.{common_steps}
use Rattle.std.proofs.lemmas.Bool.Decides.{nat_tests}
use Rattle.acn_grammar.specs.Asks.{same_name}
use Rattle.acn_terminators.proofs.Octets.{find-turn}
use Rattle.acn_terminators.proofs.ends.first_of_octets.Goals as goal

pub returns-then-ends_at : goal.returns-then-ends_at
returns-then-ends_at c =
    let text = c.args.text.now in
    let end = c.args.end.now in
    let i = c.loop-i.i in
    let step = find-turn (λ j. same_name (take (length end) (drop j (text ++ end))) end) i (length text - i) (length text - (i + 1)) (omega arith) in
    grind (arith, nat_tests, common_steps)

pub loop-i-preserved : goal.loop-i-preserved
loop-i-preserved c =
    let text = c.args.text.now in
    let end = c.args.end.now in
    let i = c.loop-i.i in
    let step = find-turn (λ j. same_name (take (length end) (drop j (text ++ end))) end) i (length text - i) (length text - (i + 1)) (omega arith) in
    grind (arith, nat_tests, common_steps)
