use Rattle.std.proofs.Common.{arith}
use Rattle.std.proofs.lemmas.Grind.{common_steps}
use Rattle.acn_report.proofs.Children.{alternative-some, alternative-past}
use Rattle.acn_report.proofs.step.alternative.Goals as goal

pub returns-in-Some : goal.returns-in-Some
returns-in-Some c = grind (arith, common_steps, alternative-some c.args.alternatives.now c.args.step c.in-Some.alternative.now)

pub returns-in-None : goal.returns-in-None
returns-in-None c = grind (arith, common_steps, alternative-past)
