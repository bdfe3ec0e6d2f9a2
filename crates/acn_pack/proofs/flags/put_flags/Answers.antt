use Rattle.std.proofs.Common.{rules}
use Rattle.acn_grammar.specs.Length.{presence_bits}
use Rattle.acn_grammar.specs.View.{places_view}
use Rattle.acn_plan.specs.Back.{fields_at}
use Rattle.acn_writer.specs.Answers.{state_of}
use Rattle.acn_pack.proofs.PresenceBits.{begins_ran, room_for_flags}
use Rattle.acn_pack.proofs.flags.put_flags.Goals as goal

pub put_each-requires : goal.put_each-requires
put_each-requires g c =
    (search rules, (c.requires.made, (c.requires.within, room_for_flags (fields_at c.args.steps.now c.args.first c.args.end) c.args.places.now (state_of c.args.w.now) (c.has_room.ensures.room c.if-has_room.true))))

pub returns-then-has_room : goal.returns-then-has_room
returns-then-has_room g c = λ homes path.
    let fields = fields_at c.args.steps.now c.args.first c.args.end in
    let room = room_for_flags fields c.args.places.now (state_of c.args.w.now) (c.has_room.ensures.room c.if-has_room.true) in
    begins_ran homes (presence_bits fields (places_view c.args.places.now)) c.args.w.now c.put_each.new.w room c.put_each.ensures.put c.put_each.ensures.same_buffer
