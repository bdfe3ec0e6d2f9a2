use Rattle.std.proofs.Common.{refl, ◌∙◌}
use Rattle.std.proofs.lemmas.Result.{err_from_is_err_and}
use Rattle.acn_print.proofs.Joining.{cut, joined}
use Rattle.acn_report.proofs.Children.{named_path}
use Rattle.acn_report.proofs.path.put_text.Goals as goal

pub returns-in_err-put_piece : goal.returns-in_err-put_piece
returns-in_err-put_piece g c =
    let p = err_from_is_err_and c.from_residual.result c.from_residual.ensures.1 in
    rw (p.1, ← named_path c.args.elements c.args.tree.now c.args.path.now c.bytes.result.now c.args.path.now c.args.tree.now.root (c.bytes.ensures ∙ c.name.ensures) refl refl)
    (cut _ _ _ _ c.in_err-put_piece.field-0.0 p.0 c.in_err-put_piece.ensures)

pub returns : goal.returns
returns g c =
    rw (← named_path c.args.elements c.args.tree.now c.args.path.now c.bytes.result.now c.steps.result.now c.root.result.now (c.bytes.ensures ∙ c.name.ensures) c.root.ensures.same c.steps.ensures)
    (joined _ _ _ _ _ _ c.in_ok-put_piece.ensures c.put_steps.ensures)
