use Rattle.std.proofs.Common.{◌≡◌, ◌-◌}
use Rattle.acn_index.specs.Views.{index_view}
use Rattle.acn_index.specs.Values.{value_within}
use Rattle.acn_index.proofs.values.value_within.Given as goal

abbrev pub invariant-loop-step : goal.invariant-loop-step
invariant-loop-step l = value_within (l.most - l.step) (index_view l.index) l.owner l.name ≡ value_within l.most (index_view l.index) l.k l.fn.name
