use Rattle.std.proofs.Common.{rules, refl, sym, ap, ◌∙◌, subst, arith, drop, length, List, Bool}
use Rattle.acn_grammar.specs.Grammar.{Fields}
use Rattle.acn_grammar.specs.Length.{presence_bits}
use Rattle.acn_grammar.specs.View.{places_view}
use Rattle.acn_plan.specs.Back.{node_at, fields_at}
use Rattle.acn_plan.proofs.Mades.{made_nested}
use Rattle.acn_plan.proofs.Marks.{fields_more, fields_none}
use Rattle.acn_events.specs.Steps.{put, Room}
use Rattle.acn_writer.specs.Answers.{state_of}
use Rattle.acn_pack.specs.Parts.{bits_in}
use Rattle.acn_pack.proofs.PresenceBits.{put_none, put_more, room_first, room_more}
use Rattle.acn_pack.proofs.flags.put_each.Goals as goal

pub loop-this-init : goal.loop-this-init
loop-this-init g c = record { within = omega arith; room = c.requires.room; put = refl; same_buffer = refl }

pub at-step-requires : goal.at-step-requires
at-step-requires g c = let a = c.loop-this-test.true in let b = c.requires.within in omega (arith, a, b)

pub put_flag-requires : goal.put_flag-requires
put_flag-requires g c =
    let l = c.loop-this in
    let s = c.at-step.result.now in
    let up = (made_nested c.args.steps.now c.requires.made l.this s c.at-step.ensures).behind in
    let more = fields_more c.args.steps.now l.this c.args.end s c.at-step.ensures c.loop-this-test.true up in
    let rest = fields_at c.args.steps.now s.next c.args.end in
    let split = ap (λ (fs : Fields). presence_bits fs (places_view (drop l.next c.args.places.now))) more ∙ c.in-Some.ensures.some (node_at c.args.steps.now l.this) rest in
    (search rules, room_first (bits_in c.in-Some.flag.bit) (presence_bits rest (places_view (drop c.in-Some.flag.next c.args.places.now))) (state_of l.w) (subst (λ (bs : List Bool). Room (length bs) (state_of l.w)) split l.invariant.room))

pub loop-this-preserved : goal.loop-this-preserved
loop-this-preserved g c =
    let l = c.loop-this in
    let s = c.at-step.result.now in
    let up = (made_nested c.args.steps.now c.requires.made l.this s c.at-step.ensures).behind in
    let more = fields_more c.args.steps.now l.this c.args.end s c.at-step.ensures c.loop-this-test.true up in
    let rest = fields_at c.args.steps.now s.next c.args.end in
    let one = bits_in c.in-Some.flag.bit in
    let bits = presence_bits rest (places_view (drop c.in-Some.flag.next c.args.places.now)) in
    let split = ap (λ (fs : Fields). presence_bits fs (places_view (drop l.next c.args.places.now))) more ∙ c.in-Some.ensures.some (node_at c.args.steps.now l.this) rest in
    let room = subst (λ (bs : List Bool). Room (length bs) (state_of l.w)) split l.invariant.room in
    record {
      within = c.in-Some.ensures.within;
      room = subst (λ m. Room (length bits) m) (sym c.put_flag.ensures.put) (room_more one bits (state_of l.w) room);
      put = ap (put bits) c.put_flag.ensures.put ∙ (put_more one bits (state_of l.w) room ∙ (ap (λ (bs : List Bool). put bs (state_of l.w)) (sym split) ∙ l.invariant.put));
      same_buffer = c.put_flag.ensures.same_buffer ∙ l.invariant.same_buffer;
    }

pub loop-this-smaller : goal.loop-this-smaller
loop-this-smaller g c =
    let up = (made_nested c.args.steps.now c.requires.made c.loop-this.this c.at-step.result.now c.at-step.ensures).behind in let a = c.loop-this-test.true in omega (arith, up, a)

pub returns-in-None-clause-put : goal.returns-in-None-clause-put
returns-in-None-clause-put g c =
    let l = c.loop-this in
    let s = c.at-step.result.now in
    let up = (made_nested c.args.steps.now c.requires.made l.this s c.at-step.ensures).behind in
    let more = fields_more c.args.steps.now l.this c.args.end s c.at-step.ensures c.loop-this-test.true up in
    let none = ap (λ (fs : Fields). presence_bits fs (places_view (drop l.next c.args.places.now))) more ∙ c.in-None.ensures.none (node_at c.args.steps.now l.this) (fields_at c.args.steps.now s.next c.args.end) in
    sym (put_none (state_of l.w)) ∙ (ap (λ (bs : List Bool). put bs (state_of l.w)) (sym none) ∙ l.invariant.put)

pub returns-in-None-clause-same_buffer : goal.returns-in-None-clause-same_buffer
returns-in-None-clause-same_buffer g c = c.loop-this.invariant.same_buffer

pub returns-clause-put : goal.returns-clause-put
returns-clause-put g c =
    let l = c.loop-this in
    let o = c.loop-this-test.false in
    let none = ap (λ (fs : Fields). presence_bits fs (places_view (drop l.next c.args.places.now))) (fields_none c.args.steps.now l.this c.args.end (omega (arith, o))) in
    sym (put_none (state_of l.w)) ∙ (ap (λ (bs : List Bool). put bs (state_of l.w)) (sym none) ∙ l.invariant.put)

pub returns-clause-same_buffer : goal.returns-clause-same_buffer
returns-clause-same_buffer g c = c.loop-this.invariant.same_buffer
