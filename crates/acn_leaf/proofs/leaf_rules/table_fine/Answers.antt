use Rattle.acn_leaf.proofs.leaf_rules.table_fine.Goals as goal

pub returns-in-Some : goal.returns-in-Some
returns-in-Some c = (let e = rw c.items.ensures at c.table_lines_fine.ensures in rw c.in-Some.is e)
