use Rattle.acn_report.proofs.part.put_slot.Goals as goal

pub returns-in-Some : goal.returns-in-Some
returns-in-Some g c = rw (← c.in-Some.ensures) c.put_path.ensures
