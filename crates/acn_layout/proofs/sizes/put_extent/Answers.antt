use Rattle.acn_layout.proofs.sizes.put_extent.Goals as goal

pub returns-in-Some : goal.returns-in-Some
returns-in-Some g c = rw c.in-Some.is c.put_terminator.ensures

pub returns-in-None : goal.returns-in-None
returns-in-None g c = rw c.in-None.is c.put_sizing.ensures
