use Rattle.std.proofs.Common.{◌≡◌, ◌-◌}
use Rattle.acn_index.specs.Views.{index_view}
use Rattle.acn_index.specs.Linked.{link_view}
use Rattle.acn_index.specs.Chains as spec
use Rattle.acn_index.proofs.chain.last_within.Given as goal

abbrev pub invariant-loop-step : goal.invariant-loop-step
invariant-loop-step l = spec.last_within (l.most - l.step) (index_view l.index) (link_view l.link) ≡ spec.last_within l.most (index_view l.index) (link_view l.first)
