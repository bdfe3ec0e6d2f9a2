use Rattle.std.proofs.Common.{◌≡◌, [], map, take}
use Rattle.acn_homes.specs.Homes as spec
use Rattle.acn_homes.specs.View.{slots_view, paths_view}
use Rattle.acn_homes.proofs.slots.unused.Given as goal

abbrev pub invariant-loop-field : goal.invariant-loop-field
invariant-loop-field l = slots_view l.all.items ≡ map (spec.slot_of []) (paths_view (take l.field-index l.fields))
