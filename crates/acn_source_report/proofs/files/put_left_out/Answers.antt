use Rattle.acn_source_report.proofs.files.put_left_out.Goals as goal

pub returns : goal.returns
returns g c = rw (← c.line_number.ensures, ← c.token.ensures) c.put_all.ensures
