use Rattle.std.proofs.Common.{◌≡◌, drop, option_map, Some}
use Rattle.acn_world.specs.Viewed.{world_view}
use Rattle.acn_slots.specs.Slots.{lead_of, follow}
use Rattle.acn_slots.specs.View.{frame_view}
use Rattle.acn_slots.proofs.Along.{resume}
use Rattle.acn_slots.proofs.scope.lead_along.Given as goal

abbrev pub invariant-loop-i : goal.invariant-loop-i
invariant-loop-i l = resume (world_view l.world) l.slot l.absent l.i (option_map frame_view l.inside) (drop l.i l.names) ≡ lead_of (follow (world_view l.world) (Some (frame_view l.from)) l.names)
