use Rattle.acn_pack.proofs.Gathered.{run_put}
use Rattle.acn_pack.proofs.word.put_some.Goals as goal

pub returns-in-Ok-clause-some : goal.returns-in-Ok-clause-some
returns-in-Ok-clause-some g c = run_put c.args.run.now c.args.places.now c.args.next c.in_ok-word.word c.args.w.now c.put.new.self c.in_ok-word.ensures c.in-Ok.ensures.ran
