use Rattle.std.proofs.Common.{sym, ◌∙◌}
use Rattle.acn_ends.specs.declared.spot.End.TheVariants.{Never}
use Rattle.acn_ends.proofs.Ways.{noted}
use Rattle.acn_ends.proofs.walk.note_endless.Goals as goal

pub returns-in_ok-note : goal.returns-in_ok-note
returns-in_ok-note g c = noted (g.S.Steps.onward c.args.steps.now) c.args.ends.now c.note.new.self c.args.from Never c.requires (c.comes_back.ensures c.if-comes_back.true) (c.in_ok-note.ensures {u = tt})
