use Rattle.std.proofs.Common.{◌≡◌, drop, ◌++◌}
use Rattle.acn_index.specs.Views.{index_view}
use Rattle.acn_cycles.specs.Numbers.{rows_in}
use Rattle.acn_cycles.proofs.rows.rows_in.Given as goal

abbrev pub invariant-loop-place : goal.invariant-loop-place
invariant-loop-place l = l.rows.items ++ rows_in (index_view l.index) l.firsts (drop l.place-index l.places) ≡ rows_in (index_view l.index) l.firsts l.places
