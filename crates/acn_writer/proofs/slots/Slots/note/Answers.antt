use Rattle.acn_writer.proofs.Tables.{tied_noted}
use Rattle.acn_writer.proofs.slots.Slots.note.Goals as goal

pub invariant_of-self : goal.invariant_of-self
invariant_of-self g c =
    let e = c.begin_fixed.ensures in
    tied_noted c.args.slot c.self.inside.fills c.begin_fixed.new.self c.self.inside.leaves.items (record { others = e.others; holes = e.holes; is_begun = e.own.0; own = e.own.1; rest = e.rest }) e.slots c.self.invariant
