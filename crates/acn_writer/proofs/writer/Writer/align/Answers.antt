use Rattle.std.proofs.Common.{rules, ◌≡◌, refl, sym, subst}
use Rattle.acn_grammar.specs.Length.{padding}
use Rattle.acn_events.specs.Event.{aligns, position}
use Rattle.acn_events.specs.Steps.{Room}
use Rattle.acn_writer.specs.Answers.{state_of}
use Rattle.acn_writer.specs.declared.halt.Halt.TheVariants.{Lost}
use Rattle.acn_writer.proofs.Buffers.{as_long}
use Rattle.acn_writer.proofs.States.{aligned, halts_still, room_lost}
use Rattle.acn_writer.proofs.writer.Writer.align.Goals as goal

pub returns-then-align-eq1-clause-ran : goal.returns-then-align-eq1-clause-ran
returns-then-align-eq1-clause-ran g c = aligned c.args.self.now _ refl refl c.args.align 0 (search rules) (search rules) c.put.ensures

pub returns-then-not-has_room-clause-halted : goal.returns-then-not-has_room-clause-halted
returns-then-not-has_room-clause-halted g c =
    let is : c.padding-count.result ≡ padding c.args.align (position (state_of c.args.self.now)) = search rules in
    halts_still (λ path. aligns c.args.align) c.args.self.now _ Lost c.tell-then-not-has_room.ensures (λ path can. room_lost c.args.self.now c.padding-count.result (c.has_room.ensures.none c.if-not-has_room.true) (subst (λ k. Room k (state_of c.args.self.now)) (sym is) can.1))

pub put_zeros-requires : goal.put_zeros-requires
put_zeros-requires g c = (search rules, c.has_room.ensures.room c.if-not-has_room.false)

pub invariant_of-self-2 : goal.invariant_of-self-2
invariant_of-self-2 g c = record { long = as_long c.args.self.now c.put_zeros.new.cursor _ _ _ c.put_zeros.ensures }

pub returns-clause-ran : goal.returns-clause-ran
returns-clause-ran g c = aligned c.args.self.now _ refl refl c.args.align c.padding-count.result (search rules) (search rules) c.put_zeros.ensures
