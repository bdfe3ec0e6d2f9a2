use Rattle.std.proofs.Common.{arith}
use Rattle.std.proofs.lemmas.Grind.{common_steps}
use Rattle.acn_tree.proofs.Places.{alternative_at-some, alternative_at-past}
use Rattle.acn_tree.proofs.place.alternative_at.Goals as goal

pub returns-in-Some : goal.returns-in-Some
returns-in-Some c = grind (arith, common_steps, alternative_at-some c.args.alternatives.now c.args.step c.in-Some.alternative.now)

pub returns-in-None : goal.returns-in-None
returns-in-None c = grind (arith, common_steps, alternative_at-past)
