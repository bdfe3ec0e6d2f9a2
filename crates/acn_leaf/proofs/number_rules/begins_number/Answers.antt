use Rattle.std.proofs.Common.{arith}
use Rattle.std.proofs.lemmas.Grind.{common_steps}
use Rattle.acn_leaf.proofs.Patterns.{whole_octet, first_begins}
use Rattle.acn_leaf.proofs.number_rules.begins_number.Goals as goal

pub first_octet-requires : goal.first_octet-requires
first_octet-requires c = (let k = whole_octet c.args.end.now c.requires in grind (arith, common_steps))

pub returns : goal.returns
returns c = grind (arith, common_steps, first_begins c.args.end.now (whole_octet c.args.end.now c.requires))
