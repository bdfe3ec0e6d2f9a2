use Rattle.std.proofs.lemmas.Result.{err_from_is_err_and}
use Rattle.acn_print.proofs.Joining.{cut, joined}
use Rattle.acn_layout.proofs.sizes.put_characters.Goals as goal

pub returns-in_err-put_extent : goal.returns-in_err-put_extent
returns-in_err-put_extent g c =
    let p = err_from_is_err_and c.from_residual.result c.from_residual.ensures.1 in
    rw p.1 (cut _ _ _ _ c.in_err-put_extent.field-0.0 p.0 c.in_err-put_extent.ensures)

pub returns : goal.returns
returns g c = joined _ _ _ _ _ _ c.in_ok-put_extent.ensures c.put_width.ensures
