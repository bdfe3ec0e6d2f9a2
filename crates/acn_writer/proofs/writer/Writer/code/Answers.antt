use Rattle.std.proofs.Common.{rules, ◌+◌, ◌*◌, ◌<◌, ◌≤◌, ℕ, ℤ, refl, subst}
use Rattle.std.specs.Prelude.{OnErr, OnOk}
use Rattle.std.specs.Int.{w128}
use Rattle.std.proofs.lemmas.Int.{to_z-of_z}
use Rattle.acn_bits.specs.Writing.{place_of}
use Rattle.acn_events.specs.Event.{codes}
use Rattle.acn_events.specs.Steps.{Room}
use Rattle.acn_writer.specs.Answers.{Comes, HaltsFor, state_of}
use Rattle.acn_writer.specs.Plain.{IsPlainCode}
use Rattle.acn_writer.specs.declared.halt.Halt.TheVariants.{Lost}
use Rattle.acn_writer.proofs.PlainCodes.{plain_long, plain_put}
use Rattle.acn_writer.proofs.States.{halts_still, number_coded, room_lost}
use Rattle.acn_writer.proofs.writer.Writer.code.Goals as goal

pub returns-then-not-has_room-clause-halted : goal.returns-then-not-has_room-clause-halted
returns-then-not-has_room-clause-halted g c =
    let code = c.in-Some.code in
    let is = subst (λ (z : ℤ). IsPlainCode c.args.leaf.now z code.width code.value) (to_z-of_z w128 c.args.x c.ranges.x) c.in-Some.ensures in
    let late = subst (λ (k : ℕ). 8 * g.row.N < place_of c.args.self.now.cursor + k) c.from.ensures (c.has_room.ensures.none c.if-not-has_room.true) in
    halts_still (λ path. codes c.args.leaf.now c.args.x) c.args.self.now _ Lost c.tell.ensures
    (λ path room. room_lost c.args.self.now code.width late (subst (λ (k : ℕ). Room k (state_of c.args.self.now)) (plain_long c.args.leaf.now c.args.x code.width code.value c.requires is) room))

pub put-requires : goal.put-requires
put-requires g c =
    let is = c.in-Some.ensures in
    (search rules, (is.few, (is.fits, subst (λ (k : ℕ). place_of c.args.self.now.cursor + k ≤ 8 * g.row.N) c.from.ensures (c.has_room.ensures.room c.if-not-has_room.false))))

pub returns-else-not-has_room-clause-ran : goal.returns-else-not-has_room-clause-ran
returns-else-not-has_room-clause-ran g c =
    let code = c.in-Some.code in
    let is = subst (λ (z : ℤ). IsPlainCode c.args.leaf.now z code.width code.value) (to_z-of_z w128 c.args.x c.ranges.x) c.in-Some.ensures in
    number_coded c.args.self.now _ refl refl c.args.leaf.now c.args.x c.requires (plain_put c.args.self.now.cursor _ c.args.leaf.now c.args.x code.width code.value is c.put.ensures)

pub returns-in-None-clause-ran : goal.returns-in-None-clause-ran
returns-in-None-clause-ran g c = subst (λ (z : ℤ). OnOk c.code_any.result (Comes (λ path. codes c.args.leaf.now z) c.args.self.now c.code_any.new.self)) (to_z-of_z w128 c.args.x c.ranges.x) c.code_any.ensures.ran

pub returns-in-None-clause-halted : goal.returns-in-None-clause-halted
returns-in-None-clause-halted g c = subst (λ (z : ℤ). OnErr c.code_any.result (HaltsFor (λ path. codes c.args.leaf.now z) c.args.self.now c.code_any.new.self c.code_any.new.why)) (to_z-of_z w128 c.args.x c.ranges.x) c.code_any.ensures.halted
