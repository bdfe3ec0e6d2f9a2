use Rattle.std.proofs.Common.{◌≡◌, drop, map}
use Rattle.acn_slots.specs.Slots.{bound_slot}
use Rattle.acn_slots.specs.View.{bound_view}
use Rattle.acn_slots.proofs.scope.slot_of.Given as goal

abbrev pub invariant-loop-parameter : goal.invariant-loop-parameter
invariant-loop-parameter l = bound_slot (map bound_view (drop l.parameter-index l.bound)) l.name ≡ bound_slot (map bound_view l.bound) l.name
