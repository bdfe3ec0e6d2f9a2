use Rattle.acn_report.proofs.values.put_unfit.Goals as goal

pub returns-in-OutOfRange : goal.returns-in-OutOfRange
returns-in-OutOfRange g c = rw c.in-OutOfRange.is c.put_kept.ensures

pub returns-in-SizeOutOfRange : goal.returns-in-SizeOutOfRange
returns-in-SizeOutOfRange g c = rw c.in-SizeOutOfRange.is c.put_kept-in-SizeOutOfRange.ensures

pub returns-in-BadCharacter : goal.returns-in-BadCharacter
returns-in-BadCharacter g c = rw c.in-BadCharacter.is c.put_kept-in-BadCharacter.ensures

pub returns-in-TerminatorInside : goal.returns-in-TerminatorInside
returns-in-TerminatorInside g c = rw c.in-TerminatorInside.is c.put_kept-in-TerminatorInside.ensures

pub returns-in-Conflict : goal.returns-in-Conflict
returns-in-Conflict g c = rw c.in-Conflict.is c.put_parts.ensures

pub returns-in-ContentSize : goal.returns-in-ContentSize
returns-in-ContentSize g c = rw c.in-ContentSize.is c.put_kept-in-ContentSize.ensures
