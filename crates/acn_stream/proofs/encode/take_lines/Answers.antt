use Rattle.std.proofs.Common.{arith}
use Rattle.acn_stream.proofs.encode.take_lines.Goals as goal

pub returns-in-On-clause-goes : goal.returns-in-On-clause-goes
returns-in-On-clause-goes g c limit i text e = c.take_others.ensures.goes limit i _ text (rw c.in-On.is at (c.take_line.ensures.goes limit i text e))

pub returns-in-On-clause-falls : goal.returns-in-On-clause-falls
returns-in-On-clause-falls g c h = omega (arith, c.take_others.ensures.falls h, c.take_line.ensures.falls c.in-On.is)

pub returns-in-On-clause-failed : goal.returns-in-On-clause-failed
returns-in-On-clause-failed g c h = absurd (c.take_others.ensures.kept h)

pub returns-in-On-clause-stays : goal.returns-in-On-clause-stays
returns-in-On-clause-stays g c h = (rw c.in-On.is at c.take_line.ensures.stays) (λ e. cc)

pub returns-in-Ended-clause-goes : goal.returns-in-Ended-clause-goes
returns-in-Ended-clause-goes g c limit i text e = rw c.in-Ended.is at (c.take_line.ensures.goes limit i text e)

pub returns-in-Failed-clause-goes : goal.returns-in-Failed-clause-goes
returns-in-Failed-clause-goes g c limit i text e = rw c.in-Failed.is at (c.take_line.ensures.goes limit i text e)

pub returns-in-Ended-clause-stays : goal.returns-in-Ended-clause-stays
returns-in-Ended-clause-stays g c h = (rw c.in-Ended.is at c.take_line.ensures.stays) h

pub returns-in-Failed-clause-stays : goal.returns-in-Failed-clause-stays
returns-in-Failed-clause-stays g c h = (rw c.in-Failed.is at c.take_line.ensures.stays) h
