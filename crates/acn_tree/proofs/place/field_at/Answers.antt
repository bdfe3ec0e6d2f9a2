use Rattle.std.proofs.Common.{arith}
use Rattle.std.proofs.lemmas.Grind.{common_steps}
use Rattle.acn_tree.proofs.Places.{field_at-some, field_at-past}
use Rattle.acn_tree.proofs.place.field_at.Goals as goal

pub returns-in-Some : goal.returns-in-Some
returns-in-Some c = grind (arith, common_steps, field_at-some c.args.fields.now c.args.step c.in-Some.field.now)

pub returns-in-None : goal.returns-in-None
returns-in-None c = grind (arith, common_steps, field_at-past)
