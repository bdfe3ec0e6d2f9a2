use Rattle.std.proofs.Common.{arith, ap, refl, subst, Some, Result, ℕ, ◌∙◌}
use Rattle.acn_stream.specs.Steps.{EndsReading}
use Rattle.acn_stream.specs.declared.stream_fault.StreamFault.{StreamFault}
use Rattle.acn_stream.proofs.Ending.{begun, written_on, room, more_room, refused_now, wants_few, wants_room, stopped, front, rose_later}
use Rattle.acn_stream.proofs.Taking.{not_longer}
use Rattle.acn_stream.proofs.showing.show_supply.Goals as goal

pub loop-draft-init : goal.loop-draft-init
loop-draft-init g c = record { so_far = begun _ _ _ _ _ c.requires.begins; input = omega arith; output = omega arith; input_stays = refl; output_stays = refl }

pub take_packets-pause-requires-clause-room : goal.take_packets-pause-requires-clause-room
take_packets-pause-requires-clause-room g c = room _ _ _ _ _ _ _ _ _ c.loop-draft.invariant.so_far c.requires.limit

pub returns-in-Err-clause-ends : goal.returns-in-Err-clause-ends
returns-in-Err-clause-ends g c =
    front _ _ _ _ _ _ _ _ _ _ _ _ _ _ c.loop-draft.invariant.so_far c.take_packets-pause.ensures.taken c.clear.ensures.items c.take_packets-pause.ensures.near (rw c.deref.ensures.value at c.in-Err.ensures.front)

pub loop-draft-smaller-in-Full : goal.loop-draft-smaller-in-Full
loop-draft-smaller-in-Full g c = omega (arith, c.take_packets-pause.ensures.taken.left, c.take_packets-pause.ensures.full c.in-Full.is)

pub loop-draft-preserved-in-Full : goal.loop-draft-preserved-in-Full
loop-draft-preserved-in-Full g c = record {
  so_far = written_on _ _ _ _ _ _ _ _ _ _ _ _ _ _ c.loop-draft.invariant.so_far c.take_packets-pause.ensures.taken c.clear.ensures.items (rw c.deref.ensures.value at c.in-Ok.ensures.written);
  input = c.loop-draft.invariant.input;
  output = omega (arith, c.loop-draft.invariant.output, c.in-Ok.ensures.count);
  input_stays = c.loop-draft.invariant.input_stays;
  output_stays = c.in-Ok.ensures.uncounted ∙ c.loop-draft.invariant.output_stays;
}

pub read_on-requires-clause-few : goal.read_on-requires-clause-few
read_on-requires-clause-few g c = wants_few _ _ _ (rw c.in-Wants.is at c.take_packets-pause.ensures.paused)

pub read_on-requires-clause-room : goal.read_on-requires-clause-room
read_on-requires-clause-room g c =
    let so = written_on _ _ _ _ _ _ _ _ _ _ _ _ _ _ c.loop-draft.invariant.so_far c.take_packets-pause.ensures.taken c.clear.ensures.items (rw c.deref.ensures.value at c.in-Ok.ensures.written) in
    wants_room _ _ _ _ _ _ _ _ _ _ so c.requires.limit (rw c.in-Wants.is at c.take_packets-pause.ensures.paused)

pub loop-draft-smaller : goal.loop-draft-smaller
loop-draft-smaller g c =
    let so = written_on _ _ _ _ _ _ _ _ _ _ _ _ _ _ c.loop-draft.invariant.so_far c.take_packets-pause.ensures.taken c.clear.ensures.items (rw c.deref.ensures.value at c.in-Ok.ensures.written) in
    let more = c.in-None.ensures.goes_on _ _ _ _ _ _ so (rw c.in-Wants.is at c.take_packets-pause.ensures.paused) in
    omega (arith, more.1, c.take_packets-pause.ensures.taken.left, not_longer _ _ _ _ _ _ _ _ c.take_packets-pause.ensures.taken)

pub loop-draft-preserved : goal.loop-draft-preserved
loop-draft-preserved g c =
    let so = written_on _ _ _ _ _ _ _ _ _ _ _ _ _ _ c.loop-draft.invariant.so_far c.take_packets-pause.ensures.taken c.clear.ensures.items (rw c.deref.ensures.value at c.in-Ok.ensures.written) in
    let more = c.in-None.ensures.goes_on _ _ _ _ _ _ so (rw c.in-Wants.is at c.take_packets-pause.ensures.paused) in
    record {
      so_far = more.0;
      input = omega (arith, c.loop-draft.invariant.input, c.in-None.ensures.count);
      output = omega (arith, c.loop-draft.invariant.output, c.in-Ok.ensures.count);
      input_stays = c.in-None.ensures.stays (λ e. cc) ∙ c.loop-draft.invariant.input_stays;
      output_stays = c.in-Ok.ensures.uncounted ∙ c.loop-draft.invariant.output_stays;
    }

pub returns-in-Some-clause-ends : goal.returns-in-Some-clause-ends
returns-in-Some-clause-ends g c =
    let so = written_on _ _ _ _ _ _ _ _ _ _ _ _ _ _ c.loop-draft.invariant.so_far c.take_packets-pause.ensures.taken c.clear.ensures.items (rw c.deref.ensures.value at c.in-Ok.ensures.written) in
    c.in-Some.ensures.goes_on _ _ _ _ _ _ so (rw c.in-Wants.is at c.take_packets-pause.ensures.paused)

pub returns-in-Some-clause-input_fault : goal.returns-in-Some-clause-input_fault
returns-in-Some-clause-input_fault g c h = rose_later _ _ _ c.loop-draft.invariant.input c.in-Some.ensures.count (c.in-Some.ensures.failed (ap Some h))

pub returns-in-Some-clause-output_fault : goal.returns-in-Some-clause-output_fault
returns-in-Some-clause-output_fault g c h = absurd (subst (λ (r : Result ℕ StreamFault). EndsReading (Some r)) h c.in-Some.ensures.known)

pub returns-in-Some-clause-some : goal.returns-in-Some-clause-some
returns-in-Some-clause-some g c h = subst (λ (r : Result ℕ StreamFault). EndsReading (Some r)) h c.in-Some.ensures.known

pub overflow_add-result : goal.overflow_add-result
overflow_add-result g c =
    let so = written_on _ _ _ _ _ _ _ _ _ _ _ _ _ _ c.loop-draft.invariant.so_far c.take_packets-pause.ensures.taken c.clear.ensures.items (rw c.deref.ensures.value at c.in-Ok.ensures.written) in
    let room = more_room _ _ _ _ _ _ _ _ _ _ so c.requires.limit (rw c.in-Refused.is at c.take_packets-pause.ensures.paused) in
    omega (arith, room)

pub returns-in-Refused-clause-ends : goal.returns-in-Refused-clause-ends
returns-in-Refused-clause-ends g c =
    let so = written_on _ _ _ _ _ _ _ _ _ _ _ _ _ _ c.loop-draft.invariant.so_far c.take_packets-pause.ensures.taken c.clear.ensures.items (rw c.deref.ensures.value at c.in-Ok.ensures.written) in
    refused_now _ _ _ _ _ _ _ _ _ _ so c.take_packets-pause.ensures.near (rw c.in-Refused.is at c.take_packets-pause.ensures.paused)

pub returns-in-NoMemory-clause-ends : goal.returns-in-NoMemory-clause-ends
returns-in-NoMemory-clause-ends g c =
    let so = written_on _ _ _ _ _ _ _ _ _ _ _ _ _ _ c.loop-draft.invariant.so_far c.take_packets-pause.ensures.taken c.clear.ensures.items (rw c.deref.ensures.value at c.in-Ok.ensures.written) in
    stopped _ _ _ _ _ _ _ _ _ so c.take_packets-pause.ensures.near

pub returns-in-Err-clause-output_stays : goal.returns-in-Err-clause-output_stays
returns-in-Err-clause-output_stays g c h = absurd (h refl)

pub returns-in-Some-clause-input_stays : goal.returns-in-Some-clause-input_stays
returns-in-Some-clause-input_stays g c h = c.in-Some.ensures.stays (λ e. h (cc)) ∙ c.loop-draft.invariant.input_stays

pub returns-in-Some-clause-output_stays : goal.returns-in-Some-clause-output_stays
returns-in-Some-clause-output_stays g c h = c.in-Ok.ensures.uncounted ∙ c.loop-draft.invariant.output_stays

pub returns-in-Refused-clause-output_stays : goal.returns-in-Refused-clause-output_stays
returns-in-Refused-clause-output_stays g c h = c.in-Ok.ensures.uncounted ∙ c.loop-draft.invariant.output_stays

pub returns-in-NoMemory-clause-output_stays : goal.returns-in-NoMemory-clause-output_stays
returns-in-NoMemory-clause-output_stays g c h = c.in-Ok.ensures.uncounted ∙ c.loop-draft.invariant.output_stays
