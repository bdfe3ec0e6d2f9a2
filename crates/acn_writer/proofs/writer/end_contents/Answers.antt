use Rattle.acn_writer.proofs.Abandoned.{behind_still, behind_then}
use Rattle.acn_writer.proofs.writer.end_contents.Goals as goal

pub loop-cursor-init : goal.loop-cursor-init
loop-cursor-init g c = record { passed = c.requires; behind = behind_still c.args.cursor.now }

pub loop-cursor-preserved : goal.loop-cursor-preserved
loop-cursor-preserved g c = record { passed = c.end_innermost.ensures.passed; behind = behind_then c.args.cursor.now c.loop-cursor.cursor c.end_innermost.new.cursor c.loop-cursor.invariant.behind c.end_innermost.ensures.behind }
