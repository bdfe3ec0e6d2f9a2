use Rattle.acn_transcode.proofs.Stretches.{IsOnTheWay}
use Rattle.acn_transcode.proofs.stretch.lay_stretch.Given as goal

abbrev pub invariant-loop-piece : goal.invariant-loop-piece
invariant-loop-piece l = record {
  way : IsOnTheWay l.stretch.pieces l.piece-index l.strip l.fn.draft l.draft l.fn.cur l.cur;
}
