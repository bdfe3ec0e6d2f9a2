use Rattle.acn_writer.proofs.Abandoned.{behind_still, behind_then}
use Rattle.acn_writer.proofs.writer.end_slots.Goals as goal

pub loop-slot-init : goal.loop-slot-init
loop-slot-init g c = record { passed = c.requires; behind = behind_still c.args.cursor.now }

pub loop-slot-preserved : goal.loop-slot-preserved
loop-slot-preserved g c = record { passed = c.end_slot.ensures.passed; behind = behind_then c.args.cursor.now c.loop-slot.cursor c.end_slot.new.cursor c.loop-slot.invariant.behind c.end_slot.ensures.behind }
