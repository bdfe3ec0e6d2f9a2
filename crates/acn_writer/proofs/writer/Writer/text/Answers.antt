use Rattle.std.proofs.Common.{rules, ◌+◌, ◌*◌, ◌<◌, ◌≤◌, ℕ, length, refl, subst}
use Rattle.acn_bits.specs.Writing.{place_of}
use Rattle.acn_grammar.specs.Length.{text_length}
use Rattle.acn_events.specs.Event.{texts}
use Rattle.acn_writer.specs.declared.halt.Halt.TheVariants.{Breaks, Lost}
use Rattle.acn_writer.proofs.States.{halts_still, room_lost, text_put}
use Rattle.acn_writer.proofs.writer.Writer.text.Goals as goal

pub returns-then-not-meets-clause-halted : goal.returns-then-not-meets-clause-halted
returns-then-not-meets-clause-halted g c = halts_still (λ path. texts c.args.leaf.now c.args.text.now) c.args.self.now _ Breaks c.tell.ensures (λ path. c.meets.ensures.no c.if-not-meets.true)

pub returns-then-not-has_room-clause-halted : goal.returns-then-not-has_room-clause-halted
returns-then-not-has_room-clause-halted g c =
    let leaf = c.args.leaf.now in
    let late = subst (λ (k : ℕ). 8 * g.row.N < place_of c.args.self.now.cursor + k) c.text_bits-bits.ensures (c.has_room.ensures.none c.if-not-has_room.true) in
    halts_still (λ path. texts leaf c.args.text.now) c.args.self.now _ Lost c.tell-then-not-has_room.ensures (λ path room. room_lost c.args.self.now (text_length leaf.ended leaf (length c.args.text.now)) late room)

pub put_text-requires : goal.put_text-requires
put_text-requires g c =
    let room = subst (λ (k : ℕ). place_of c.args.self.now.cursor + k ≤ 8 * g.row.N) c.text_bits-bits.ensures (c.has_room.ensures.room c.if-not-has_room.false) in
    (search rules, (c.requires, (c.meets.ensures.yes c.if-not-meets.false, room)))

pub returns-clause-ran : goal.returns-clause-ran
returns-clause-ran g c = text_put c.args.self.now _ refl refl c.args.leaf.now c.args.text.now (c.meets.ensures.yes c.if-not-meets.false) c.put_text.ensures.code c.put_text.ensures.long
