use Rattle.std.proofs.Common.{[], ◌++◌, ◌∙◌, Ok, Err, length, ap, arith, refl}
use Rattle.acn_stream.specs.Passing.{grammar_by}
use Rattle.acn_outside.proofs.Joined.{gains_more}
use Rattle.acn_stream.proofs.Joining.{gains_nothing}
use Rattle.acn_stream.proofs.LinesPassing.{nothing_passed, collected, cut_short, all_ends, no_output_fault, no_empty_packet}
use Rattle.acn_stream.proofs.encode.encode_supply.Goals as goal

pub returns-in-Err-clause-ends : goal.returns-in-Err-clause-ends
returns-in-Err-clause-ends g c =
    let so = c.loop-space.invariant.so_far in
    let goes = c.take_lines-way.ensures.goes _ _ so.0 (collected _ _ _ _ _ _ _ _ so.2 c.clear.ensures.items) in
    cut_short _ _ _ _ _ _ _ _ _ _ _ _ so.1 (rw c.deref.ensures.value at c.in-Err.ensures.front) goes

pub loop-space-init : goal.loop-space-init
loop-space-init g c = record {
  so_far = ([], gains_nothing _, nothing_passed _ _ c.args.supply.now c.requires.begins);
  room = record { packets = omega arith; lines = omega (arith, c.requires.limit, ap length c.requires.begins) };
  input = omega arith;
  output = omega arith;
  input_stays = refl;
  output_stays = refl;
}

pub loop-space-preserved : goal.loop-space-preserved
loop-space-preserved g c =
    let so = c.loop-space.invariant.so_far in
    let goes = c.take_lines-way.ensures.goes _ _ so.0 (collected _ _ _ _ _ _ _ _ so.2 c.clear.ensures.items) in
    record {
      so_far = (so.0 ++ c.take_lines-way.new.space.packets.items, gains_more _ _ _ _ _ so.1 (rw c.deref.ensures.value at c.in-Ok.ensures.written), rw c.in-On.is at goes);
      room = c.take_lines-way.ensures.room c.in-On.is;
      input = omega (arith, c.loop-space.invariant.input, c.take_lines-way.ensures.count);
      output = omega (arith, c.loop-space.invariant.output, c.in-Ok.ensures.count);
      input_stays = (rw c.in-On.is at c.take_lines-way.ensures.stays) (λ e. cc) ∙ c.loop-space.invariant.input_stays;
      output_stays = c.in-Ok.ensures.uncounted ∙ c.loop-space.invariant.output_stays;
    }

pub returns-in-Ended-clause-ends : goal.returns-in-Ended-clause-ends
returns-in-Ended-clause-ends g c =
    let so = c.loop-space.invariant.so_far in
    let goes = c.take_lines-way.ensures.goes _ _ so.0 (collected _ _ _ _ _ _ _ _ so.2 c.clear.ensures.items) in
    all_ends (grammar_by c.args.by.now) c.args.supply.now.left (g.S.Source.rest c.args.input.now) (g.S.Source.rest c.take_lines-way.new.input) _ _ _ (Ok c.in-Ended.count) (gains_more _ _ _ _ _ so.1 (rw c.deref.ensures.value at c.in-Ok.ensures.written)) (rw c.in-Ended.is at goes)

pub returns-in-Ended-clause-output_fault : goal.returns-in-Ended-clause-output_fault
returns-in-Ended-clause-output_fault g c h =
    let so = c.loop-space.invariant.so_far in
    let goes = c.take_lines-way.ensures.goes _ _ so.0 (collected _ _ _ _ _ _ _ _ so.2 c.clear.ensures.items) in
    absurd (no_output_fault _ _ _ _ _ _ (rw c.in-Ended.is at goes) h)

pub returns-in-Ended-clause-some : goal.returns-in-Ended-clause-some
returns-in-Ended-clause-some g c h =
    let so = c.loop-space.invariant.so_far in
    let goes = c.take_lines-way.ensures.goes _ _ so.0 (collected _ _ _ _ _ _ _ _ so.2 c.clear.ensures.items) in
    no_empty_packet _ _ _ _ _ _ (rw c.in-Ended.is at goes) h

pub returns-in-Ended-clause-input_stays : goal.returns-in-Ended-clause-input_stays
returns-in-Ended-clause-input_stays g c h written = (rw c.in-Ended.is at c.take_lines-way.ensures.stays) (λ e. h (cc)) ∙ c.loop-space.invariant.input_stays

pub returns-in-Ended-clause-output_stays : goal.returns-in-Ended-clause-output_stays
returns-in-Ended-clause-output_stays g c h = c.in-Ok.ensures.uncounted ∙ c.loop-space.invariant.output_stays

pub returns-in-Failed-clause-ends : goal.returns-in-Failed-clause-ends
returns-in-Failed-clause-ends g c =
    let so = c.loop-space.invariant.so_far in
    let goes = c.take_lines-way.ensures.goes _ _ so.0 (collected _ _ _ _ _ _ _ _ so.2 c.clear.ensures.items) in
    all_ends (grammar_by c.args.by.now) c.args.supply.now.left (g.S.Source.rest c.args.input.now) (g.S.Source.rest c.take_lines-way.new.input) _ _ _ (Err c.take_lines-way.new.fault) (gains_more _ _ _ _ _ so.1 (rw c.deref.ensures.value at c.in-Ok.ensures.written)) (rw c.in-Failed.is at goes)

pub returns-in-Failed-clause-output_fault : goal.returns-in-Failed-clause-output_fault
returns-in-Failed-clause-output_fault g c h =
    let so = c.loop-space.invariant.so_far in
    let goes = c.take_lines-way.ensures.goes _ _ so.0 (collected _ _ _ _ _ _ _ _ so.2 c.clear.ensures.items) in
    absurd (no_output_fault _ _ _ _ _ _ (rw c.in-Failed.is at goes) h)

pub returns-in-Failed-clause-some : goal.returns-in-Failed-clause-some
returns-in-Failed-clause-some g c h =
    let so = c.loop-space.invariant.so_far in
    let goes = c.take_lines-way.ensures.goes _ _ so.0 (collected _ _ _ _ _ _ _ _ so.2 c.clear.ensures.items) in
    no_empty_packet _ _ _ _ _ _ (rw c.in-Failed.is at goes) h

pub returns-in-Failed-clause-input_stays : goal.returns-in-Failed-clause-input_stays
returns-in-Failed-clause-input_stays g c h written = (rw c.in-Failed.is at c.take_lines-way.ensures.stays) (λ e. h (cc)) ∙ c.loop-space.invariant.input_stays

pub returns-in-Failed-clause-output_stays : goal.returns-in-Failed-clause-output_stays
returns-in-Failed-clause-output_stays g c h = c.in-Ok.ensures.uncounted ∙ c.loop-space.invariant.output_stays

pub returns-in-Err-clause-input_stays : goal.returns-in-Err-clause-input_stays
returns-in-Err-clause-input_stays g c read h = absurd (h refl)

pub returns-in-Err-clause-output_stays : goal.returns-in-Err-clause-output_stays
returns-in-Err-clause-output_stays g c h = absurd (h refl)
