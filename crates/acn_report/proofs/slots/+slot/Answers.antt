use Rattle.acn_report.proofs.Rooms.{room}
use Rattle.acn_report.proofs.slots.+slot.Goals as goal

pub in_child-with_step-place-requires : goal.in_child-with_step-place-requires
in_child-with_step-place-requires t c = room c.args.path.now c.args.step _ c.requires

pub in_field-with_step-place-requires : goal.in_field-with_step-place-requires
in_field-with_step-place-requires t c = room c.args.path.now c.args.step _ c.requires
