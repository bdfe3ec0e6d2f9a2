use Rattle.std.proofs.Common.{◌≡◌, ◌-◌}
use Rattle.acn_index.specs.Views.{index_view}
use Rattle.acn_index.specs.Sorts.{meant}
use Rattle.acn_index.specs.Lookup as spec
use Rattle.acn_index.proofs.lookup.found_within.Given as goal

abbrev pub invariant-loop-step : goal.invariant-loop-step
invariant-loop-step l = spec.found_within (l.most - l.step) (index_view l.index) (meant l.sort l.name) l.name l.owner ≡ spec.found_within l.most (index_view l.index) (meant l.sort l.name) l.name l.k
