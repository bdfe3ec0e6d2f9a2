use Rattle.acn_source_report.proofs.files.put_word_at.Goals as goal

pub returns : goal.returns
returns g c = rw (← c.line_number.ensures) c.put_all.ensures
