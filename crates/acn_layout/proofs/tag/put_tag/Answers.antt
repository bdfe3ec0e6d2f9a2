use Rattle.std.proofs.lemmas.Result.{err_from_is_err_and}
use Rattle.acn_print.proofs.Joining.{cut, joined}
use Rattle.acn_layout.proofs.tag.put_tag.Goals as goal

pub returns-in_err-put_flags : goal.returns-in_err-put_flags
returns-in_err-put_flags g c =
    let p = err_from_is_err_and c.from_residual.result c.from_residual.ensures.1 in
    rw p.1 (cut _ _ _ _ c.in_err-put_flags.field-0.0 p.0 c.in_err-put_flags.ensures)

pub returns : goal.returns
returns g c = joined _ _ _ _ _ _ c.in_ok-put_flags.ensures c.put_when.ensures
