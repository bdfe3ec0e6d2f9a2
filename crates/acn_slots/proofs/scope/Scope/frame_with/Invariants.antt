use Rattle.std.proofs.Common.{◌≡◌, drop, map, find}
use Rattle.acn_slots.specs.Slots.{has_field}
use Rattle.acn_slots.specs.View.{frame_view}
use Rattle.acn_slots.proofs.scope.Scope.frame_with.Given as goal

abbrev pub invariant-loop-frame : goal.invariant-loop-frame
invariant-loop-frame l = find (has_field l.name) (map frame_view (drop l.frame-index l.frame-items)) ≡ find (has_field l.name) (map frame_view l.frame-items)
