use Rattle.std.proofs.Common.{arith}
use Rattle.std.proofs.lemmas.Grind.{common_steps}
use Rattle.acn_lines.proofs.Parts.{place-here, place-past}
use Rattle.acn_lines.proofs.put.value_at.Goals as goal

pub returns-in-Some : goal.returns-in-Some
returns-in-Some c = grind (arith, common_steps, place-here c.args.places.now c.args.at c.in-Some.place.now)

pub returns-in-None : goal.returns-in-None
returns-in-None c = grind (arith, common_steps, place-past c.args.places.now c.args.at)
