use Rattle.std.proofs.Common.{◌≡◌, [], drop, map}
use Rattle.acn_firsts.specs.Placed.{noted_all}
use Rattle.acn_written.specs.View.{numbered_view, placed}
use Rattle.acn_written.proofs.items.names_of.Given as goal

abbrev pub invariant-loop-at : goal.invariant-loop-at
invariant-loop-at l = noted_all l.names (placed l.at (map numbered_view (drop l.at l.given))) ≡ noted_all [] (placed 0 (map numbered_view l.given))
