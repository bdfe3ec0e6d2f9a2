use Rattle.std.proofs.Common.{rules, FitsSigned}
use Rattle.std.specs.Int.{w128}
use Rattle.std.proofs.lemmas.Int.{to_z-of_z}
use Rattle.acn_writer.proofs.slots.Slots.ask.Goals as goal

pub returns-in-Equal-clause-halted : goal.returns-in-Equal-clause-halted
returns-in-Equal-clause-halted g c =
    let fits : FitsSigned w128 c.in-Equal.n = search rules in
    let plain = to_z-of_z w128 c.in-Equal.n fits in
    rw c.in-Equal.is (rw plain at c.equal.ensures.halted)

pub returns-in-Avoid-clause-halted : goal.returns-in-Avoid-clause-halted
returns-in-Avoid-clause-halted g c =
    let fits : FitsSigned w128 c.in-Avoid.k = search rules in
    let plain = to_z-of_z w128 c.in-Avoid.k fits in
    rw c.in-Avoid.is (rw plain at c.avoid.ensures.halted)
