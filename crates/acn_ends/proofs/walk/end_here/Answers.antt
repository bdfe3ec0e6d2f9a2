use Rattle.std.proofs.Common.{sym}
use Rattle.acn_ends.proofs.Ways.{here, behind}
use Rattle.acn_ends.proofs.walk.end_here.Goals as goal

pub returns-in-None : goal.returns-in-None
returns-in-None g c = here (g.S.Steps.onward c.args.steps.now) c.args.from (sym (c.in-None.ensures {u = tt}))

pub returns-in-Some-of : goal.returns-in-Some-of
returns-in-Some-of g c = behind (g.S.Steps.onward c.args.steps.now) c.args.ends.now c.requires c.args.from _ _ (sym (c.in-Some.ensures {u = tt})) (sym (c.in-Some-of.ensures {u = tt})) c.one_more.result c.one_more.ensures
