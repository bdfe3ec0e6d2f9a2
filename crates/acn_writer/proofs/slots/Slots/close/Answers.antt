use Rattle.std.proofs.Common.{rules, ap, ◌∙◌}
use Rattle.acn_fill.specs.Table.{begun}
use Rattle.acn_writer.specs.Slots.{OpenSlots}
use Rattle.acn_writer.proofs.slots.Slots.close.Goals as goal

pub close-requires : goal.close-requires
close-requires g c = (search rules, λ slot. ap (λ (z : OpenSlots). begun z.table slot) c.self.view_is ∙ c.requires slot)
