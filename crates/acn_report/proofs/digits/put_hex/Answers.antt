use Rattle.std.proofs.lemmas.Result.{err_from_is_err_and}
use Rattle.acn_print.proofs.Joining.{goes_on, breaks_off, ends}
use Rattle.acn_report.proofs.HexTurns.{hex_turn, hex_end}
use Rattle.acn_report.proofs.digits.put_hex.Goals as goal

pub returns-in_err-put_piece : goal.returns-in_err-put_piece
returns-in_err-put_piece g c =
    let p = err_from_is_err_and c.from_residual.result c.from_residual.ensures.1 in
    rw p.1 (breaks_off _ _ _ _ c.loop-rest.invariant _ _ _ c.in_err-put_piece.field-0.0 p.0 (hex_turn c.loop-rest.rest.now c.digit.result c.in-len4-up.len_at_least c.digit.ensures) c.in_err-put_piece.ensures)

pub loop-rest-preserved : goal.loop-rest-preserved
loop-rest-preserved g c = goes_on _ _ _ _ c.loop-rest.invariant _ _ _ (hex_turn c.loop-rest.rest.now c.digit.result c.in-len4-up.len_at_least c.digit.ensures) c.in_ok-put_piece.ensures

pub returns : goal.returns
returns g c = ends _ _ _ _ c.loop-rest.invariant (hex_end c.loop-rest.rest.now c.in_default.len_below)
