use Rattle.acn_report.proofs.part.put.Goals as goal

pub returns-in-Path : goal.returns-in-Path
returns-in-Path g c = rw c.in-Path.is c.put_path.ensures

pub returns-in-Place : goal.returns-in-Place
returns-in-Place g c = rw c.in-Place.is c.put_place.ensures
