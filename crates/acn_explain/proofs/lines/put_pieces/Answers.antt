use Rattle.std.proofs.Common.{◌++◌, ◌+◌, sym, ap, ◌∙◌, arith, drop, drop_of_length-le}
use Rattle.std.specs.List.{flat_map}
use Rattle.std.proofs.lemmas.List.{at_drop_more}
use Rattle.std.proofs.lemmas.Result.{err_from_is_err_and}
use Rattle.acn_print.proofs.Joining.{goes_on, breaks_off, ends}
use Rattle.acn_explain.specs.Texts.{piece_line}
use Rattle.acn_explain.proofs.lines.put_pieces.Goals as goal

pub returns-in_err-put_piece : goal.returns-in_err-put_piece
returns-in_err-put_piece g c =
    let one = piece_line c.args.tree.now c.args.bits.now in
    let rest = flat_map one (drop (c.loop-piece.piece-index + 1) c.args.pieces.now) in
    let p = err_from_is_err_and c.from_residual.result c.from_residual.ensures.1 in
    let turn = at_drop_more (flat_map one) c.args.pieces.now c.loop-piece.piece-index c.piece-item.result c.loop-piece-test.true ∙ ap (λ x. one x ++ rest) (sym c.piece-item.is) in
    rw p.1 (breaks_off _ _ _ _ c.loop-piece.invariant _ _ _ c.in_err-put_piece.field-0.0 p.0 turn c.in_err-put_piece.ensures)

pub loop-piece-preserved : goal.loop-piece-preserved
loop-piece-preserved g c =
    let one = piece_line c.args.tree.now c.args.bits.now in
    let rest = flat_map one (drop (c.loop-piece.piece-index + 1) c.args.pieces.now) in
    let turn = at_drop_more (flat_map one) c.args.pieces.now c.loop-piece.piece-index c.piece-item.result c.loop-piece-test.true ∙ ap (λ x. one x ++ rest) (sym c.piece-item.is) in
    goes_on _ _ _ _ c.loop-piece.invariant _ _ _ turn c.in_ok-put_piece.ensures

pub returns : goal.returns
returns g c = ends _ _ _ _ c.loop-piece.invariant (ap (flat_map (piece_line c.args.tree.now c.args.bits.now)) (drop_of_length-le c.args.pieces.now (omega arith)))
