use Rattle.std.proofs.Common.{◌≡◌, drop, map, ◌++◌}
use Rattle.acn_slots.specs.View.{frame_view}
use Rattle.acn_sites.proofs.site.copied_frames.Given as goal

abbrev pub invariant-loop-frame : goal.invariant-loop-frame
invariant-loop-frame l = map frame_view l.all ++ map frame_view (drop l.frame-index l.frames) ≡ map frame_view l.fn.all ++ map frame_view l.frames
