use Rattle.std.proofs.Common.{rules, refl, subst, arith}
use Rattle.acn_grammar.specs.declared.node.SizeRule.{SizeRule}
use Rattle.acn_events.specs.Event.{enters}
use Rattle.acn_events.specs.Steps.{CanEnter}
use Rattle.acn_writer.specs.Answers.{state_of}
use Rattle.acn_writer.specs.declared.halt.Halt.TheVariants.{Lost}
use Rattle.acn_writer.proofs.Buffers.{as_long}
use Rattle.acn_writer.proofs.Frames.{entered_bare, entered_sized}
use Rattle.acn_writer.proofs.States.{halts_still, room_lost}
use Rattle.acn_writer.proofs.writer.Writer.enter.Goals as goal

pub returns-then-depth-ge-MOST_STEPS-clause-halted : goal.returns-then-depth-ge-MOST_STEPS-clause-halted
returns-then-depth-ge-MOST_STEPS-clause-halted g c =
    halts_still (λ path. enters c.args.rule.now) c.args.self.now _ Lost c.tell-then-depth-ge-MOST_STEPS.ensures (λ path can. (let few = can.0 in omega (arith, few, c.depth-2.ensures, c.if-depth-ge-MOST_STEPS.true)))

pub returns-then-not-has_room_for_hole-clause-halted : goal.returns-then-not-has_room_for_hole-clause-halted
returns-then-not-has_room_for_hole-clause-halted g c =
    halts_still (λ path. enters c.args.rule.now) c.args.self.now _ Lost c.tell-then-not-has_room_for_hole.ensures (λ path can. (
    let here = subst (λ (r : SizeRule). CanEnter r (state_of c.args.self.now)) c.in-Prefix.is can.1 in
    room_lost c.args.self.now c.in-Prefix.width (c.has_room_for_hole.ensures.none c.if-not-has_room_for_hole.true here.0) here.1
    ))

pub hole-hole-requires : goal.hole-hole-requires
hole-hole-requires g c = (search rules, (c.has_room_for_hole.ensures.width c.if-not-has_room_for_hole.false, c.has_room_for_hole.ensures.room c.if-not-has_room_for_hole.false))

pub invariant_of-self : goal.invariant_of-self
invariant_of-self g c = record { long = as_long c.args.self.now c.hole-hole.new.self _ _ _ c.hole-hole.ensures.zeros }

pub returns-else-not-has_room_for_hole-clause-ran : goal.returns-else-not-has_room_for_hole-clause-ran
returns-else-not-has_room_for_hole-clause-ran g c =
    entered_sized c.args.self.now _ c.args.rule.now c.in-Prefix.low c.in-Prefix.width c.at-base.result c.hole-hole.result c.in-Prefix.is (search rules) (c.has_room_for_hole.ensures.width c.if-not-has_room_for_hole.false) c.hole-hole.ensures.zeros c.at-base.ensures
    c.hole-hole.ensures.hole refl c.enter.ensures

pub returns-in-Slot-clause-ran : goal.returns-in-Slot-clause-ran
returns-in-Slot-clause-ran g c = entered_bare c.args.self.now _ c.args.rule.now _ c.at-base-in-Slot.result c.in-Slot.is (search rules) c.at-base-in-Slot.ensures refl refl c.enter_bare.ensures

pub returns-in-Ended-clause-halted : goal.returns-in-Ended-clause-halted
returns-in-Ended-clause-halted g c = halts_still (λ path. enters c.args.rule.now) c.args.self.now _ Lost c.tell-in-Ended.ensures (λ path can. subst (λ (r : SizeRule). CanEnter r (state_of c.args.self.now)) c.in-Ended.is can.1)
