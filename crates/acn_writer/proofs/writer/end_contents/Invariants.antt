use Rattle.std.proofs.Common.{length}
use Rattle.acn_bits.specs.Writing.{place_of}
use Rattle.acn_events.specs.Laws.{AllPassed}
use Rattle.acn_writer.specs.Ending.{KeepsBehind}
use Rattle.acn_writer.proofs.writer.end_contents.Given as goal

abbrev pub invariant-loop-cursor : goal.invariant-loop-cursor
invariant-loop-cursor g l = record { passed : AllPassed l.contents (place_of l.cursor); behind : KeepsBehind l.fn.cursor l.cursor }

abbrev pub decreases-loop-cursor : goal.decreases-loop-cursor
decreases-loop-cursor g l = length l.contents
