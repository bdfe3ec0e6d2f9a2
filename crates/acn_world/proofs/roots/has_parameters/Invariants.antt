use Rattle.std.proofs.Common.{◌≡◌, ◌-◌}
use Rattle.acn_index.specs.Views.{index_view}
use Rattle.acn_index.specs.Linked.{link_view}
use Rattle.acn_index.specs.Chains.{links_within, has_parameters}
use Rattle.acn_world.proofs.ParameterSteps.{any_gives}
use Rattle.acn_world.proofs.roots.has_parameters.Given as goal

abbrev pub invariant-loop-step : goal.invariant-loop-step
invariant-loop-step l = any_gives (index_view l.index) (links_within (l.step-end - l.step) (index_view l.index) (link_view l.link)) ≡ has_parameters (index_view l.index) (link_view l.first)
