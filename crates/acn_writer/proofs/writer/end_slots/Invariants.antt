use Rattle.std.proofs.Common.{length}
use Rattle.acn_bits.specs.Writing.{place_of}
use Rattle.acn_writer.specs.Ending.{KeepsBehind, SlotsPassed}
use Rattle.acn_writer.proofs.writer.end_slots.Given as goal

abbrev pub invariant-loop-slot : goal.invariant-loop-slot
invariant-loop-slot g l = record { passed : SlotsPassed l.slots.table (place_of l.cursor); behind : KeepsBehind l.fn.cursor l.cursor }

abbrev pub decreases-loop-slot : goal.decreases-loop-slot
decreases-loop-slot g l = length l.slots.table.spots
