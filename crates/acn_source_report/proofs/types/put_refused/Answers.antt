use Rattle.std.specs.Prelude.{◌++◌, codes}
use Rattle.std.proofs.lemmas.Result.{err_from_is_err_and}
use Rattle.acn_print.proofs.Joining.{joined, cut}
use Rattle.acn_source_report.specs.Texts.{place_text}
use Rattle.acn_source_report.specs.Words.{reason_words}
use Rattle.acn_source_report.proofs.types.put_refused.Goals as goal

pub returns-in_err-put_all : goal.returns-in_err-put_all
returns-in_err-put_all g c =
    let p = err_from_is_err_and c.from_residual.result c.from_residual.ensures.1 in
    rw (p.1, ← c.bytes.ensures) (cut _ _ _ _ c.in_err-put_all.field-0.0 p.0 c.in_err-put_all.ensures)

pub returns-in_err-put_reason : goal.returns-in_err-put_reason
returns-in_err-put_reason g c =
    let p = err_from_is_err_and c.from_residual-in_err-put_reason.result c.from_residual-in_err-put_reason.ensures.1 in
    rw (p.1, ← c.bytes.ensures) (joined _ _ _ _ _ _ c.in_ok-put_all.ensures (cut _ _ _ _ c.in_err-put_reason.field-0.0 p.0 c.in_err-put_reason.ensures))

pub returns : goal.returns
returns g c = rw (← c.bytes.ensures) (joined _ _ _ _ _ _ c.in_ok-put_all.ensures (joined _ _ _ _ _ _ c.in_ok-put_reason.ensures c.put_piece.ensures))
