use Rattle.std.proofs.Common.{drop}
use Rattle.std.specs.List.{flat_map}
use Rattle.acn_print.proofs.Joining.{Completes}
use Rattle.acn_explain.specs.Texts.{piece_line}
use Rattle.acn_explain.proofs.lines.put_pieces.Given as goal

abbrev pub invariant-loop-piece : goal.invariant-loop-piece
invariant-loop-piece g l =
    Completes (flat_map (piece_line l.tree l.bits) l.pieces) (g.O.Sink.taken l.fn.out, g.O.Sink.faults l.fn.out) (flat_map (piece_line l.tree l.bits) (drop l.piece-index l.pieces)) (g.O.Sink.taken l.out, g.O.Sink.faults l.out)
