use Rattle.std.proofs.Common.{arith, ap, subst, Some, Result, refl, ◌∙◌}
use Rattle.acn_route.specs.Steps.{EndsReading}
use Rattle.acn_route.specs.declared.count.RouteCount.{RouteCount}
use Rattle.acn_route.specs.declared.route_fault.RouteFault.{RouteFault}
use Rattle.acn_route.proofs.Ending.{begun, written_on, room, stopped, front, rose_later}
use Rattle.acn_route.proofs.routing.route_supply.Goals as goal

pub loop-page-init : goal.loop-page-init
loop-page-init g c = record { so_far = begun _ _ _ _ _ c.requires.begins refl; input = omega arith; output = omega arith; input_stays = refl; output_stays = refl }

pub take_packets-pause-requires : goal.take_packets-pause-requires
take_packets-pause-requires g c = record { room = room _ _ _ _ _ _ _ _ c.loop-page.invariant.so_far c.requires.limit }

pub returns-in-Err-clause-ends : goal.returns-in-Err-clause-ends
returns-in-Err-clause-ends g c =
    front _ _ _ _ _ _ _ _ c.loop-page.invariant.so_far _ _ _ _ _ c.take_packets-pause.ensures.taken c.clear.ensures.items c.take_packets-pause.ensures.near (rw c.deref.ensures.value at c.in-Err.ensures.front)

pub loop-page-smaller-in-Full : goal.loop-page-smaller-in-Full
loop-page-smaller-in-Full g c = omega (arith, c.take_packets-pause.ensures.taken.left, c.take_packets-pause.ensures.full c.in-Full.is)

pub loop-page-preserved-in-Full : goal.loop-page-preserved-in-Full
loop-page-preserved-in-Full g c = record {
  so_far = written_on _ _ _ _ _ _ _ _ c.loop-page.invariant.so_far _ _ _ _ _ c.take_packets-pause.ensures.taken c.clear.ensures.items (rw c.deref.ensures.value at c.in-Ok.ensures.written);
  input = c.loop-page.invariant.input;
  output = omega (arith, c.loop-page.invariant.output, c.in-Ok.ensures.count);
  input_stays = c.loop-page.invariant.input_stays;
  output_stays = c.in-Ok.ensures.uncounted ∙ c.loop-page.invariant.output_stays;
}

pub read_on-requires-clause-few : goal.read_on-requires-clause-few
read_on-requires-clause-few g c = (rw c.in-Wants.is at c.take_packets-pause.ensures.paused).1

pub read_on-requires-clause-room : goal.read_on-requires-clause-room
read_on-requires-clause-room g c =
    let so = written_on _ _ _ _ _ _ _ _ c.loop-page.invariant.so_far _ _ _ _ _ c.take_packets-pause.ensures.taken c.clear.ensures.items (rw c.deref.ensures.value at c.in-Ok.ensures.written) in
    room _ _ _ _ _ _ _ _ so c.requires.limit

pub loop-page-smaller : goal.loop-page-smaller
loop-page-smaller g c =
    let so = written_on _ _ _ _ _ _ _ _ c.loop-page.invariant.so_far _ _ _ _ _ c.take_packets-pause.ensures.taken c.clear.ensures.items (rw c.deref.ensures.value at c.in-Ok.ensures.written) in
    let more = c.in-None.ensures.goes_on _ _ _ _ _ so (rw c.in-Wants.is at c.take_packets-pause.ensures.paused) in
    omega (arith, more.1, c.take_packets-pause.ensures.taken.left, c.take_packets-pause.ensures.taken.few)

pub loop-page-preserved : goal.loop-page-preserved
loop-page-preserved g c =
    let so = written_on _ _ _ _ _ _ _ _ c.loop-page.invariant.so_far _ _ _ _ _ c.take_packets-pause.ensures.taken c.clear.ensures.items (rw c.deref.ensures.value at c.in-Ok.ensures.written) in
    let more = c.in-None.ensures.goes_on _ _ _ _ _ so (rw c.in-Wants.is at c.take_packets-pause.ensures.paused) in
    record {
      so_far = more.0;
      input = omega (arith, c.loop-page.invariant.input, c.in-None.ensures.count);
      output = omega (arith, c.loop-page.invariant.output, c.in-Ok.ensures.count);
      input_stays = c.in-None.ensures.stays (λ e. cc) ∙ c.loop-page.invariant.input_stays;
      output_stays = c.in-Ok.ensures.uncounted ∙ c.loop-page.invariant.output_stays;
    }

pub returns-in-Some-clause-ends : goal.returns-in-Some-clause-ends
returns-in-Some-clause-ends g c =
    let so = written_on _ _ _ _ _ _ _ _ c.loop-page.invariant.so_far _ _ _ _ _ c.take_packets-pause.ensures.taken c.clear.ensures.items (rw c.deref.ensures.value at c.in-Ok.ensures.written) in
    c.in-Some.ensures.goes_on _ _ _ _ _ so (rw c.in-Wants.is at c.take_packets-pause.ensures.paused)

pub returns-in-Some-clause-input_fault : goal.returns-in-Some-clause-input_fault
returns-in-Some-clause-input_fault g c h = rose_later _ _ _ c.loop-page.invariant.input c.in-Some.ensures.count (c.in-Some.ensures.failed (ap Some h))

pub returns-in-Some-clause-output_fault : goal.returns-in-Some-clause-output_fault
returns-in-Some-clause-output_fault g c h = absurd (subst (λ (r : Result RouteCount RouteFault). EndsReading (Some r)) h c.in-Some.ensures.known)

pub returns-in-NoMemory-clause-ends : goal.returns-in-NoMemory-clause-ends
returns-in-NoMemory-clause-ends g c =
    let so = written_on _ _ _ _ _ _ _ _ c.loop-page.invariant.so_far _ _ _ _ _ c.take_packets-pause.ensures.taken c.clear.ensures.items (rw c.deref.ensures.value at c.in-Ok.ensures.written) in
    stopped _ _ _ _ _ _ _ _ so c.take_packets-pause.ensures.near

pub returns-in-Err-clause-output_stays : goal.returns-in-Err-clause-output_stays
returns-in-Err-clause-output_stays g c h = absurd (h refl)

pub returns-in-Some-clause-input_stays : goal.returns-in-Some-clause-input_stays
returns-in-Some-clause-input_stays g c h = c.in-Some.ensures.stays (λ e. h (cc)) ∙ c.loop-page.invariant.input_stays

pub returns-in-Some-clause-output_stays : goal.returns-in-Some-clause-output_stays
returns-in-Some-clause-output_stays g c h = c.in-Ok.ensures.uncounted ∙ c.loop-page.invariant.output_stays

pub returns-in-NoMemory-clause-output_stays : goal.returns-in-NoMemory-clause-output_stays
returns-in-NoMemory-clause-output_stays g c h = c.in-Ok.ensures.uncounted ∙ c.loop-page.invariant.output_stays
