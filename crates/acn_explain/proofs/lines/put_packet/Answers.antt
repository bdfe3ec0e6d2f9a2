use Rattle.std.proofs.lemmas.Result.{err_from_is_err_and}
use Rattle.acn_print.proofs.Joining.{cut, joined}
use Rattle.acn_explain.proofs.lines.put_packet.Goals as goal

pub returns-in_err-put_head : goal.returns-in_err-put_head
returns-in_err-put_head g c =
    let p = err_from_is_err_and c.from_residual.result c.from_residual.ensures.1 in
    rw p.1 (cut _ _ _ _ c.in_err-put_head.field-0.0 p.0 c.in_err-put_head.ensures)

pub returns : goal.returns
returns g c = joined _ _ _ _ _ _ c.in_ok-put_head.ensures c.put_pieces.ensures
