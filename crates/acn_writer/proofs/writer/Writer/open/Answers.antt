use Rattle.std.proofs.Common.{rules, ◌≡◌, ◌≤◌, ℕ, Some, None, refl, sym, ◌∙◌, subst}
use Rattle.acn_bits.specs.Overwrite.{Gap}
use Rattle.acn_bits.specs.declared.word.TheConstants.{WORD_BITS}
use Rattle.acn_grammar.specs.Interval.{width_of}
use Rattle.acn_events.specs.Event.{opens}
use Rattle.acn_events.specs.Steps.{IsBegun, Room}
use Rattle.acn_writer.specs.Answers.{state_of}
use Rattle.acn_writer.specs.declared.halt.Halt.TheVariants.{Full, Lost}
use Rattle.acn_writer.proofs.LeafLists.{same_some}
use Rattle.acn_writer.proofs.States.{begun_already, halts_still, not_both, room_lost, slot_opened}
use Rattle.acn_writer.proofs.writer.Writer.open.Goals as goal

pub returns-else-not-has_room_for_hole-clause-ran :
    goal.returns-else-not-has_room_for_hole-clause-ran
returns-else-not-has_room_for_hole-clause-ran g c =
    let begun_so = subst (λ (h : Gap). IsBegun c.args.slot (Some h) c.args.self.now.slots.table c.open.new.self.table) c.hole-hole.ensures.hole c.open.ensures.begun_so in
    slot_opened c.args.self.now _ c.args.slot c.args.leaf.now c.in-Some.width (search rules) (search rules) (search rules) c.hole-hole.ensures.zeros c.open.ensures.keeps begun_so c.open.ensures.leaves refl

pub returns-then-is_begun-clause-halted : goal.returns-then-is_begun-clause-halted
returns-then-is_begun-clause-halted g c =
    halts_still (λ path. opens c.args.slot c.args.leaf.now) c.args.self.now _ Lost c.tell.ensures (λ path can. begun_already _ (sym c.is_begun.ensures ∙ c.if-is_begun.true) can.0)

pub returns-in-None-clause-halted : goal.returns-in-None-clause-halted
returns-in-None-clause-halted g c =
    let none : width_of c.args.leaf.now ≡ None = search rules in
    halts_still (λ path. opens c.args.slot c.args.leaf.now) c.args.self.now _ Lost c.tell-in-None.ensures (λ path can. not_both _ can.1 none can.2)

pub returns-then-not-can_begin-clause-halted : goal.returns-then-not-can_begin-clause-halted
returns-then-not-can_begin-clause-halted g c = halts_still (λ path. opens c.args.slot c.args.leaf.now) c.args.self.now _ Full c.tell-then-not-can_begin.ensures (λ path. c.can_begin.ensures.full c.if-not-can_begin.true)

pub returns-then-not-has_room_for_hole-clause-halted : goal.returns-then-not-has_room_for_hole-clause-halted
returns-then-not-has_room_for_hole-clause-halted g c =
    let known : width_of c.args.leaf.now ≡ Some c.in-Some.width = search rules in
    halts_still (λ path. opens c.args.slot c.args.leaf.now) c.args.self.now _ Lost c.tell-then-not-has_room_for_hole.ensures (λ path can. (
    let same = same_some (sym can.2 ∙ known) in
    let late = c.has_room_for_hole.ensures.none c.if-not-has_room_for_hole.true (subst (λ (k : ℕ). k ≤ WORD_BITS) same can.3) in
    room_lost c.args.self.now c.in-Some.width late (subst (λ (k : ℕ). Room k (state_of c.args.self.now)) same can.4)
    ))

pub open-requires : goal.open-requires
open-requires g c = (search rules, (c.requires, (search rules, (search rules, (c.can_begin.ensures.room c.if-not-can_begin.false, sym c.is_begun.ensures ∙ c.if-is_begun.false)))))
