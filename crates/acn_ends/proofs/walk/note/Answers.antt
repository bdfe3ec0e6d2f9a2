use Rattle.acn_ends.proofs.Ways.{noted_on}
use Rattle.acn_ends.proofs.walk.note.Goals as goal

pub returns-in-Some : goal.returns-in-Some
returns-in-Some g c = noted_on (g.S.Steps.onward c.args.steps.now) c.note.result c.args.ends.now c.note.new.self c.args.from c.in-Some.end c.requires (c.in-Some.ensures {u = tt}) c.note.ensures
