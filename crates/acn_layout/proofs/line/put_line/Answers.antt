use Rattle.acn_layout.proofs.line.put_line.Goals as goal

pub returns : goal.returns
returns g c = rw (← c.bounds_of-bounds.ensures, ← c.tree.ensures.same) c.put_all_of.ensures
