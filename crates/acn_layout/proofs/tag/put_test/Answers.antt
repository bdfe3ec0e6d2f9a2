use Rattle.acn_layout.proofs.tag.put_test.Goals as goal

pub returns-in-Flag : goal.returns-in-Flag
returns-in-Flag g c = rw c.in-Flag.is c.put_parts.ensures

pub returns-in-Equals : goal.returns-in-Equals
returns-in-Equals g c = rw c.in-Equals.is c.put_parts-in-Equals.ensures
