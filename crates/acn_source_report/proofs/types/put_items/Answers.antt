use Rattle.acn_source_report.proofs.types.put_items.Goals as goal

pub returns : goal.returns
returns g c = rw (← c.bytes.ensures, ← c.bytes-2.ensures) c.put_all.ensures
