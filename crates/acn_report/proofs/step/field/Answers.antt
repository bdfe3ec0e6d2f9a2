use Rattle.std.proofs.Common.{arith}
use Rattle.std.proofs.lemmas.Grind.{common_steps}
use Rattle.acn_report.proofs.Children.{field-some, field-past}
use Rattle.acn_report.proofs.step.field.Goals as goal

pub returns-in-Some : goal.returns-in-Some
returns-in-Some c = grind (arith, common_steps, field-some c.args.fields.now c.args.step c.in-Some.field.now)

pub returns-in-None : goal.returns-in-None
returns-in-None c = grind (arith, common_steps, field-past)
