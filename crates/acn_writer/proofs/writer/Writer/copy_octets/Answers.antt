use Rattle.std.proofs.Common.{◌*◌, ℕ, length, refl, subst}
use Rattle.acn_num.specs.Bits.{bits}
use Rattle.acn_num.proofs.BitLists.{length-bits}
use Rattle.acn_events.specs.Event.{copies}
use Rattle.acn_events.specs.Steps.{Room}
use Rattle.acn_writer.specs.Answers.{state_of}
use Rattle.acn_writer.specs.declared.halt.Halt.TheVariants.{Lost}
use Rattle.acn_writer.proofs.States.{copied, halts_still, room_lost}
use Rattle.acn_writer.proofs.writer.Writer.copy_octets.Goals as goal

pub returns-then-not-has_room_for_octets-clause-halted : goal.returns-then-not-has_room_for_octets-clause-halted
returns-then-not-has_room_for_octets-clause-halted g c =
    let octets = c.args.octets.now in
    let late = c.has_room_for_octets.ensures.none c.if-not-has_room_for_octets.true in
    halts_still (λ path. copies (bits octets)) c.args.self.now _ Lost c.tell.ensures (λ path room. room_lost c.args.self.now (8 * length octets) late (subst (λ (k : ℕ). Room k (state_of c.args.self.now)) (length-bits octets) room))

pub returns-clause-ran : goal.returns-clause-ran
returns-clause-ran g c = copied c.args.self.now _ refl refl (bits c.args.octets.now) (8 * length c.args.octets.now) (length-bits c.args.octets.now) c.put_octets.ensures
