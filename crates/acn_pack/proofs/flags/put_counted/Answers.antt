use Rattle.std.proofs.Common.{rules, ℕ, sym, subst}
use Rattle.acn_grammar.specs.Length.{presence_bits}
use Rattle.acn_grammar.specs.View.{places_view}
use Rattle.acn_plan.specs.Back.{fields_at}
use Rattle.acn_events.specs.Steps.{Room}
use Rattle.acn_writer.specs.Answers.{state_of}
use Rattle.acn_pack.proofs.PresenceBits.{begins_ran, begins_lost}
use Rattle.acn_pack.proofs.flags.put_counted.Goals as goal

pub put_each-requires : goal.put_each-requires
put_each-requires g c = (search rules, (c.requires.made, (c.requires.within, subst (λ (n : ℕ). Room n (state_of c.args.w.now)) c.count_flags-count.ensures (c.has_room.ensures.room c.if-has_room.true))))

pub returns-then-has_room : goal.returns-then-has_room
returns-then-has_room g c = λ homes path.
    let bits = presence_bits (fields_at c.args.steps.now c.args.first c.args.end) (places_view c.args.places.now) in
    begins_ran homes bits c.args.w.now c.put_each.new.w (subst (λ (n : ℕ). Room n (state_of c.args.w.now)) c.count_flags-count.ensures (c.has_room.ensures.room c.if-has_room.true)) c.put_each.ensures.put c.put_each.ensures.same_buffer

pub returns-else-has_room : goal.returns-else-has_room
returns-else-has_room g c = λ homes path.
    let bits = presence_bits (fields_at c.args.steps.now c.args.first c.args.end) (places_view c.args.places.now) in
    begins_lost homes bits c.args.w.now (λ room. c.has_room.ensures.none c.if-has_room.false (subst (λ (n : ℕ). Room n (state_of c.args.w.now)) (sym c.count_flags-count.ensures) room))
