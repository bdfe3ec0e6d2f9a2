use Rattle.std.proofs.Common.{arith}
use Rattle.acn_stream.proofs.encode.take_others.Goals as goal

pub returns-in-Ended-clause-goes : goal.returns-in-Ended-clause-goes
returns-in-Ended-clause-goes c limit i i' text e = rw c.in-Ended.is at (c.take_here.ensures.goes limit i i' text (c.loop-alloc.invariant.goes limit i i' text e))

pub returns-in-Failed-clause-goes : goal.returns-in-Failed-clause-goes
returns-in-Failed-clause-goes c limit i i' text e = rw c.in-Failed.is at (c.take_here.ensures.goes limit i i' text (c.loop-alloc.invariant.goes limit i i' text e))

pub loop-alloc-preserved : goal.loop-alloc-preserved
loop-alloc-preserved c = record {
  goes = λ limit i i' text e. rw c.in-On.is at (c.take_here.ensures.goes limit i i' text (c.loop-alloc.invariant.goes limit i i' text e));
  room = c.take_here.ensures.room c.in-On.is;
  falls = omega (arith, c.loop-alloc.invariant.falls, c.take_here.ensures.falls c.in-On.is);
}
