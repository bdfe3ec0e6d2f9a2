use Rattle.std.proofs.Common.{ap, take, arith, ◌∙◌}
use Rattle.acn_pack.proofs.Gathered.{front_run}
use Rattle.acn_pack.proofs.word.front.Goals as goal

pub returns-in-Some-clause-run : goal.returns-in-Some-clause-run
returns-in-Some-clause-run c steps step is =
    let look = (c.in-Some.ensures {u = tt}).lookup in
    front_run step _ c.args.run.now c.in-Some.front.now c.args.fields (look.0.2 ∙ ap (λ n. take n c.args.run.now) (omega arith)) is
