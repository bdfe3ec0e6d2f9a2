use Rattle.std.proofs.Common.{◌≡◌, map, take}
use Rattle.acn_homes.specs.Homes as spec
use Rattle.acn_homes.specs.View.{slots_view, paths_view}
use Rattle.acn_homes.proofs.slots.with_homes.Given as goal

abbrev pub invariant-loop-one : goal.invariant-loop-one
invariant-loop-one l = slots_view l.all.items ≡ map (spec.slot_of (take l.one-index l.uses)) (paths_view l.fields)
