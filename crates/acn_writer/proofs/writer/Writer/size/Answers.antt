use Rattle.std.proofs.Common.{refl, sym, ◌∙◌}
use Rattle.acn_writer.proofs.States.{size_put}
use Rattle.acn_writer.proofs.writer.Writer.size.Goals as goal

pub returns-in-Slot-clause-ran : goal.returns-in-Slot-clause-ran
returns-in-Slot-clause-ran g c = size_put c.args.self.now _ refl refl c.args.sizing.now _ c.args.n c.in-Slot.is (sym c.holds_natural.ensures ∙ c.if-not-holds_natural.false) tt c.put.ensures

pub returns-in-Ended-clause-ran : goal.returns-in-Ended-clause-ran
returns-in-Ended-clause-ran g c = size_put c.args.self.now _ refl refl c.args.sizing.now _ c.args.n c.in-Ended.is (sym c.holds_natural.ensures ∙ c.if-not-holds_natural.false) tt c.put-in-Ended.ensures
