use Rattle.std.proofs.Common.{List, ℕ, drop}
use Rattle.std.specs.List.{flat_map}
use Rattle.acn_print.specs.Printing.{piece_text}
use Rattle.acn_print.proofs.Joining.{Completes}
use Rattle.acn_print.proofs.piece.put_all.Given as goal

abbrev pub invariant-loop-piece : goal.invariant-loop-piece
invariant-loop-piece g l =
    Completes (flat_map piece_text l.pieces) (g.O.Sink.taken l.fn.out, g.O.Sink.faults l.fn.out) (flat_map piece_text (drop l.piece-index l.pieces)) (g.O.Sink.taken l.out, g.O.Sink.faults l.out)
