use Rattle.std.proofs.Common.{take}
use Rattle.acn_sources.proofs.Gathered.{AreGathered, AreSound}
use Rattle.acn_sources.proofs.sources.read_sources.Given as goal

abbrev pub invariant-loop-number : goal.invariant-loop-number
invariant-loop-number l = AreGathered (take l.number l.files) l.sources × AreSound l.files l.number
