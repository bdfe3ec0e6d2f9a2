use Rattle.std.proofs.Common.{rules, refl, sym, ◌∙◌}
use Rattle.std.specs.Int.{w128}
use Rattle.std.proofs.lemmas.Int.{to_z-of_z}
use Rattle.acn_events.specs.Event.{notes}
use Rattle.acn_writer.specs.declared.halt.Halt.TheVariants.{Breaks, Full, Lost}
use Rattle.acn_writer.proofs.States.{begun_already, halts_still, slot_noted}
use Rattle.acn_writer.proofs.writer.Writer.note.Goals as goal

pub returns-then-is_begun-clause-halted : goal.returns-then-is_begun-clause-halted
returns-then-is_begun-clause-halted g c =
    halts_still (λ path. notes path c.args.slot c.args.set.now c.args.x) c.args.self.now _ Lost c.tell-then-is_begun.ensures (λ path can. begun_already _ (sym c.is_begun.ensures ∙ c.if-is_begun.true) can)

pub returns-then-not-can_begin-clause-halted : goal.returns-then-not-can_begin-clause-halted
returns-then-not-can_begin-clause-halted g c = halts_still (λ path. notes path c.args.slot c.args.set.now c.args.x) c.args.self.now _ Full c.tell-then-not-can_begin.ensures (λ path. c.can_begin.ensures.full c.if-not-can_begin.true)

pub returns-clause-ran : goal.returns-clause-ran
returns-clause-ran g c =
    let plain = to_z-of_z w128 c.args.x c.ranges.x in
    let holds = rw plain at c.holds.ensures in
    let keeps = rw plain at c.note.ensures.keeps in
    let permitted = sym holds ∙ c.if-not-holds.false in
    slot_noted c.args.self.now _ c.args.slot c.args.set.now c.args.x permitted (sym c.is_begun.ensures ∙ c.if-is_begun.false) (keeps c.args.set.now permitted) c.note.ensures.begun_so c.note.ensures.leaves refl refl

pub returns-then-not-holds-clause-halted : goal.returns-then-not-holds-clause-halted
returns-then-not-holds-clause-halted g c =
    let plain = to_z-of_z w128 c.args.x c.ranges.x in
    let holds = rw plain at c.holds.ensures in
    halts_still (λ path. notes path c.args.slot c.args.set.now c.args.x) c.args.self.now _ Breaks c.tell.ensures (λ path. sym holds ∙ c.if-not-holds.true)

pub note-requires : goal.note-requires
note-requires g c = (search rules, (c.can_begin.ensures.room c.if-not-can_begin.false, sym c.is_begun.ensures ∙ c.if-is_begun.false))
