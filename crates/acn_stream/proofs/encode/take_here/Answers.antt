use Rattle.std.proofs.Common.{◌≤◌, None, length}
use Rattle.acn_supply.specs.declared.window.TheConstants.{MOST_IN_HAND}
use Rattle.acn_stream.proofs.Feeds.{ended_here, no_input_fault}
use Rattle.acn_stream.proofs.LinesPassing.{line_passed, failed_ended, room_passed, falls_passed}
use Rattle.acn_stream.proofs.encode.take_here.Goals as goal

pub returns-in-Some-clause-goes : goal.returns-in-Some-clause-goes
returns-in-Some-clause-goes c limit i i' text e =
    let same = c.hand-hand.ensures.same in
    let near : length c.args.supply.now.hand ≤ MOST_IN_HAND = rw same at c.hand-hand.ensures.few in
    let ended = ended_here c.args.supply.now c.skip.new.self i' c.args.feed c.requires.feed near c.skip.ensures in
    line_passed _ limit i _ _ _ _ _ text _ _ _ _ e ended (rw (same, c.in-Some.is) at c.put_line-put.ensures)

pub returns-in-Some-clause-room : goal.returns-in-Some-clause-room
returns-in-Some-clause-room c h =
    let same = c.hand-hand.ensures.same in
    let near : length c.args.supply.now.hand ≤ MOST_IN_HAND = rw same at c.hand-hand.ensures.few in
    room_passed _ _ _ _ _ _ _ _ _ _ c.requires.room (ended_here c.args.supply.now c.skip.new.self None c.args.feed c.requires.feed near c.skip.ensures) (rw (same, c.in-Some.is) at c.put_line-put.ensures)

pub returns-in-Some-clause-falls : goal.returns-in-Some-clause-falls
returns-in-Some-clause-falls c h =
    let near : length c.args.supply.now.hand ≤ MOST_IN_HAND = rw c.hand-hand.ensures.same at c.hand-hand.ensures.few in
    falls_passed _ _ _ _ _ (ended_here c.args.supply.now c.skip.new.self None c.args.feed c.requires.feed near c.skip.ensures)

pub returns-in-None-clause-goes : goal.returns-in-None-clause-goes
returns-in-None-clause-goes c limit i i' text e =
    let same = c.hand-hand.ensures.same in
    let near : length c.args.supply.now.hand ≤ MOST_IN_HAND = rw same at c.hand-hand.ensures.few in
    let ended = ended_here c.args.supply.now c.skip.new.self i' c.args.feed c.requires.feed near c.skip.ensures in
    let said = rw (same, c.in-None.is) at c.put_line-put.ensures in
    rw (c.fail_at.ensures.way, c.fail_at.ensures.fault) (failed_ended _ limit i _ _ _ _ _ text _ _ _ c.put_line-put.new.space.why e ended said.0 said.2)

pub returns-in-None-clause-kept : goal.returns-in-None-clause-kept
returns-in-None-clause-kept c h = no_input_fault _ _ _ _ c.fail_at.ensures.way c.fail_at.ensures.fault h
