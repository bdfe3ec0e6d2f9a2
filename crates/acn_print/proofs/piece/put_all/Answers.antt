use Rattle.std.proofs.Common.{ap, arith, drop_of_length-le}
use Rattle.std.specs.List.{flat_map}
use Rattle.std.proofs.lemmas.List.{at_drop_more}
use Rattle.std.proofs.lemmas.Result.{err_from_is_err_and}
use Rattle.acn_print.specs.Printing.{piece_text}
use Rattle.acn_print.proofs.Joining.{goes_on, breaks_off, ends}
use Rattle.acn_print.proofs.piece.put_all.Goals as goal

pub returns-in_err-put_piece : goal.returns-in_err-put_piece
returns-in_err-put_piece g c =
    let p = err_from_is_err_and c.from_residual.result c.from_residual.ensures.1 in
    let turn = at_drop_more (flat_map piece_text) c.args.pieces.now c.loop-piece.piece-index _ c.loop-piece-test.true in
    rw p.1 (breaks_off _ _ _ _ c.loop-piece.invariant _ _ _ c.in_err-put_piece.field-0.0 p.0 turn c.in_err-put_piece.ensures)

pub loop-piece-preserved : goal.loop-piece-preserved
loop-piece-preserved g c =
    let turn = at_drop_more (flat_map piece_text) c.args.pieces.now c.loop-piece.piece-index _ c.loop-piece-test.true in
    goes_on _ _ _ _ c.loop-piece.invariant _ _ _ turn c.in_ok-put_piece.ensures

pub returns : goal.returns
returns g c = ends _ _ _ _ c.loop-piece.invariant (ap (flat_map piece_text) (drop_of_length-le c.args.pieces.now (omega arith)))
