use Rattle.acn_stream.proofs.LinesPassing.{line_passed, line_last, failed_ended, failed_last, no_line_came, room_passed, falls_passed}
use Rattle.acn_stream.proofs.encode.take_line.Goals as goal

pub returns-in-Some-clause-goes : goal.returns-in-Some-clause-goes
returns-in-Some-clause-goes g c limit i text e =
    line_passed _ limit i _ _ _ _ _ text _ _ _ _ e (rw c.in-Ok-Ended.field-0-is at c.in-Ok-Ended.ensures.read) (rw c.deref.ensures.value at c.in-Some.ensures)

pub returns-in-Some-clause-room : goal.returns-in-Some-clause-room
returns-in-Some-clause-room g c h = room_passed _ _ _ _ _ _ _ _ _ _ c.requires.room (rw c.in-Ok-Ended.field-0-is at c.in-Ok-Ended.ensures.read) (rw c.deref.ensures.value at c.in-Some.ensures)

pub returns-in-Some-clause-falls : goal.returns-in-Some-clause-falls
returns-in-Some-clause-falls g c h = falls_passed _ _ _ _ _ (rw c.in-Ok-Ended.field-0-is at c.in-Ok-Ended.ensures.read)

pub returns-in-Ok-Ended-clause-goes : goal.returns-in-Ok-Ended-clause-goes
returns-in-Ok-Ended-clause-goes g c limit i text e =
    let said = rw c.deref.ensures.value at c.in-None.ensures in
    rw (c.fail_at.ensures.way, c.fail_at.ensures.fault) (failed_ended _ limit i _ _ _ _ _ text _ _ _ c.put_line.new.space.why e (rw c.in-Ok-Ended.field-0-is at c.in-Ok-Ended.ensures.read) said.0 said.2)

pub returns-in-Some-put_line-clause-goes : goal.returns-in-Some-put_line-clause-goes
returns-in-Some-put_line-clause-goes g c limit i text e =
    line_last _ limit i _ _ _ _ _ text _ _ _ _ e (rw c.in-Ok-Last.field-0-is at c.in-Ok-Last.ensures.read) (rw c.deref-in-Ok-Last.ensures.value at c.in-Some-put_line.ensures)

pub returns-in-Ok-Last-clause-goes : goal.returns-in-Ok-Last-clause-goes
returns-in-Ok-Last-clause-goes g c limit i text e =
    let said = rw c.deref-in-Ok-Last.ensures.value at c.in-None-put_line.ensures in
    rw (c.fail_at-in-None-put_line.ensures.way, c.fail_at-in-None-put_line.ensures.fault) (failed_last _ limit i _ _ _ _ _ text _ _ _ c.put_line-in-Ok-Last.new.space.why e (rw c.in-Ok-Last.field-0-is at c.in-Ok-Last.ensures.read) said.0 said.2)

pub returns-clause-goes : goal.returns-clause-goes
returns-clause-goes g c limit i text e =
    rw (c.fail_behind.ensures.way, c.fail_behind.ensures.fault) (no_line_came _ limit i _ _ _ _ _ _ _ c.in-Err.why e c.in-Err.ensures.read)
