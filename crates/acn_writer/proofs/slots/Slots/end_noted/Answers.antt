use Rattle.std.proofs.Common.{ap, ◌∙◌}
use Rattle.acn_fill.specs.Table.{gap_at}
use Rattle.acn_writer.specs.Slots.{OpenSlots}
use Rattle.acn_writer.proofs.Tables.{tied_ended}
use Rattle.acn_writer.proofs.slots.Slots.end_noted.Goals as goal

pub invariant_of-self : goal.invariant_of-self
invariant_of-self g c =
    let e = c.finish_fixed.ensures in
    tied_ended c.args.slot c.self.inside.fills c.finish_fixed.new.self c.self.inside.leaves.items (ap (λ (z : OpenSlots). gap_at z.table c.args.slot) c.self.view_is ∙ c.requires.hole)
    (record { ended = e.ended; others = e.others; rest = e.rest; gaps = e.gaps }) e.few c.self.invariant
