use Rattle.acn_writer.proofs.Abandoned.{behind_filled, gap_passed}
use Rattle.acn_writer.proofs.writer.end_innermost.Goals as goal

pub returns-in-Some-clause-behind : goal.returns-in-Some-clause-behind
returns-in-Some-clause-behind g c =
    let hole = c.leave-hole.result in
    behind_filled c.args.cursor.now c.fill.new.self hole.place hole.width 0 c.fill.ensures (gap_passed c.args.contents.now c.args.cursor.now.at hole c.requires.passed c.leave-hole.ensures.hole)
