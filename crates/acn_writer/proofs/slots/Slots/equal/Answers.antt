use Rattle.acn_grammar.specs.Asks.{Equal}
use Rattle.acn_writer.proofs.Tables.{tied_answered}
use Rattle.acn_writer.proofs.slots.Slots.equal.Goals as goal
use Rattle.std.specs.Int.{w128}
use Rattle.std.proofs.lemmas.Int.{to_z-of_z}

pub invariant_of-self : goal.invariant_of-self
invariant_of-self g c =
    let plain = to_z-of_z w128 c.args.n c.ranges.n in
    let kept = rw plain at c.equal.ensures.kept in
    tied_answered c.args.slot (Equal c.args.n) c.self.inside.fills c.equal.new.self c.self.inside.leaves.items c.equal.result kept c.equal.ensures.same c.self.invariant
