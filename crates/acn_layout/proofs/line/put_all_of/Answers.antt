use Rattle.std.proofs.lemmas.Result.{err_from_is_err_and}
use Rattle.acn_print.proofs.Joining.{cut, joined}
use Rattle.acn_layout.proofs.line.put_all_of.Goals as goal

pub returns-in_err-put_head : goal.returns-in_err-put_head
returns-in_err-put_head g c =
    let p = err_from_is_err_and c.from_residual.result c.from_residual.ensures.1 in
    rw p.1 (cut _ _ _ _ c.in_err-put_head.field-0.0 p.0 c.in_err-put_head.ensures)

pub returns-in_err-put_form : goal.returns-in_err-put_form
returns-in_err-put_form g c =
    let p = err_from_is_err_and c.from_residual-in_err-put_form.result c.from_residual-in_err-put_form.ensures.1 in
    rw p.1 (joined _ _ _ _ _ _ c.in_ok-put_head.ensures (cut _ _ _ _ c.in_err-put_form.field-0.0 p.0 c.in_err-put_form.ensures))

pub returns-in_err-put_align : goal.returns-in_err-put_align
returns-in_err-put_align g c =
    let p = err_from_is_err_and c.from_residual-in_err-put_align.result c.from_residual-in_err-put_align.ensures.1 in
    rw p.1 (joined _ _ _ _ _ _ c.in_ok-put_head.ensures (joined _ _ _ _ _ _ c.in_ok-put_form.ensures (cut _ _ _ _ c.in_err-put_align.field-0.0 p.0 c.in_err-put_align.ensures)))

pub returns-in_err-put_tag : goal.returns-in_err-put_tag
returns-in_err-put_tag g c =
    let p = err_from_is_err_and c.from_residual-in_err-put_tag.result c.from_residual-in_err-put_tag.ensures.1 in
    rw p.1
    (joined _ _ _ _ _ _ c.in_ok-put_head.ensures (joined _ _ _ _ _ _ c.in_ok-put_form.ensures (joined _ _ _ _ _ _ c.in_ok-put_align.ensures (cut _ _ _ _ c.in_err-put_tag.field-0.0 p.0 c.in_err-put_tag.ensures))))

pub returns : goal.returns
returns g c =
    joined _ _ _ _ _ _ c.in_ok-put_head.ensures (joined _ _ _ _ _ _ c.in_ok-put_form.ensures (joined _ _ _ _ _ _ c.in_ok-put_align.ensures (joined _ _ _ _ _ _ c.in_ok-put_tag.ensures c.put_piece.ensures)))
