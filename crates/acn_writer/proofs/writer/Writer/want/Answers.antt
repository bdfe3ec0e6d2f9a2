use Rattle.std.proofs.Common.{refl}
use Rattle.acn_grammar.specs.Faults.{ask_of}
use Rattle.acn_writer.proofs.States.{slot_asked, slot_not_asked}
use Rattle.acn_writer.proofs.writer.Writer.want.Goals as goal

pub returns-in-Err-clause-halted : goal.returns-in-Err-clause-halted
returns-in-Err-clause-halted g c = slot_not_asked c.args.self.now _ c.args.slot (ask_of c.args.ask) c.ask.new.why c.in-Err.ensures.halted refl c.in-Err.ensures.same refl

pub returns-in-Ok-clause-ran : goal.returns-in-Ok-clause-ran
returns-in-Ok-clause-ran g c = slot_asked c.args.self.now _ c.args.slot (ask_of c.args.ask) c.in-Ok.ensures.begun c.in-Ok.ensures.more c.in-Ok.ensures.leaves refl refl
