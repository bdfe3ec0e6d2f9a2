use Rattle.std.proofs.Common.{rules, FitsSigned}
use Rattle.std.proofs.lemmas.Int.{to_z-of_z}
use Rattle.std.specs.Int.{w128}
use Rattle.acn_asks.proofs.Steps.{nothing}
use Rattle.acn_asks.proofs.asked.Asked.new.Goals as goal

pub returns-in-Some : goal.returns-in-Some
returns-in-Some c =
    let fits : FitsSigned w128 c.in-Some.least = search rules in
    rw (to_z-of_z w128 c.in-Some.least fits, c.new.ensures.items) (nothing c.args.set.now c.in-Some.least (c.in-Some.ensures {u = tt}))
