use Rattle.acn_layout.proofs.sizes.put_sizes.Goals as goal

pub returns-in-Some-greatest : goal.returns-in-Some-greatest
returns-in-Some-greatest g c = rw (c.in-Some.is, c.in-Some-greatest.is) c.put_between.ensures
