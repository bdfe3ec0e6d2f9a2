use Rattle.std.proofs.Common.{rules, refl, ap, ◌∙◌, subst}
use Rattle.std.specs.Prelude.{option_map}
use Rattle.acn_grammar.specs.Asks.{Ask}
use Rattle.acn_fill.specs.Table.{OneMore}
use Rattle.acn_writer.specs.Contents.{gap_shown}
use Rattle.acn_writer.specs.Halts.{AsksHalt}
use Rattle.acn_writer.proofs.Frames.{closed_asking}
use Rattle.acn_writer.proofs.Endings.{asking_halts, asking_lost}
use Rattle.acn_writer.proofs.writer.Writer.close_asking.Goals as goal

pub returns-in-Some-clause-halted : goal.returns-in-Some-clause-halted
returns-in-Some-clause-halted g c sizing n is permitted = asking_lost c.args.self.now c.args.slot n sizing _ _ is (c.hole.ensures ∙ ap (option_map gap_shown) c.in-Some.is) c.tell-in-Some.ensures

pub returns-in-Err-clause-halted : goal.returns-in-Err-clause-halted
returns-in-Err-clause-halted g c sizing n is permitted =
    let halts = subst (λ (a : Ask). AsksHalt g.row.S g.row.A c.args.slot a c.args.self.now.slots.table c.ask.new.why) c.equal-ask.ensures c.in-Err.ensures.halted in
    asking_halts c.args.self.now _ c.args.slot c.args.octets n sizing c.ask.new.why is c.requires permitted halts refl c.in-Err.ensures.same refl

pub returns-in-Ok-clause-ran : goal.returns-in-Ok-clause-ran
returns-in-Ok-clause-ran g c sizing n is permitted =
    let more = subst (λ (a : Ask). OneMore c.args.slot a c.args.self.now.slots.table c.ask.new.self.table) c.equal-ask.ensures c.in-Ok.ensures.more in
    closed_asking c.args.self.now _ sizing c.args.slot c.args.octets n is c.requires permitted (search rules) (search rules) c.in-Ok.ensures.begun more c.in-Ok.ensures.leaves refl c.leave_bare.ensures
