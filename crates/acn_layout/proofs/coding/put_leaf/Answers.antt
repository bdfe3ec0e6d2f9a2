use Rattle.std.proofs.lemmas.Result.{err_from_is_err_and}
use Rattle.acn_print.proofs.Joining.{cut, joined}
use Rattle.acn_layout.proofs.coding.put_leaf.Goals as goal

pub returns-in_err-put_coding : goal.returns-in_err-put_coding
returns-in_err-put_coding g c =
    let p = err_from_is_err_and c.from_residual.result c.from_residual.ensures.1 in
    rw p.1 (cut _ _ _ _ c.in_err-put_coding.field-0.0 p.0 c.in_err-put_coding.ensures)

pub returns-in_err-put_marks : goal.returns-in_err-put_marks
returns-in_err-put_marks g c =
    let p = err_from_is_err_and c.from_residual-in_err-put_marks.result c.from_residual-in_err-put_marks.ensures.1 in
    rw p.1 (joined _ _ _ _ _ _ c.in_ok-put_coding.ensures (cut _ _ _ _ c.in_err-put_marks.field-0.0 p.0 c.in_err-put_marks.ensures))

pub returns : goal.returns
returns g c = joined _ _ _ _ _ _ c.in_ok-put_coding.ensures (joined _ _ _ _ _ _ c.in_ok-put_marks.ensures c.put_map.ensures)
