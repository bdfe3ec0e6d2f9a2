use Rattle.std.proofs.Common.{rules, FitsSigned, refl}
use Rattle.std.proofs.lemmas.Int.{to_z-of_z}
use Rattle.std.specs.Int.{w128}
use Rattle.acn_asks.proofs.Steps.{nothing}
use Rattle.acn_fill.proofs.spot.first_spot.Goals as goal

pub returns-clause-kept : goal.returns-clause-kept
returns-clause-kept c =
    let fits : FitsSigned w128 c.in-Some.least = search rules in
    record { permits = refl; keeps = rw (to_z-of_z w128 c.in-Some.least fits) (nothing c.args.set.now c.in-Some.least (c.in-Some.ensures {u = tt})) }
