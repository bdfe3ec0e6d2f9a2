use Rattle.acn_constraint.proofs.Stands.{gathered_all}
use Rattle.acn_constraint.proofs.standing.gathered.Goals as goal

pub returns : goal.returns
returns c = gathered_all c.args.standing c.in_ok-stood.stood c.as_slice.result.now c.without_all.result (c.in_ok-stood.ensures {u = tt}) c.as_slice.ensures.value c.without_all.ensures
