use Rattle.std.proofs.Common.{◌-◌}
use Rattle.std.specs.Prelude.{map}
use Rattle.acn_index.specs.Views.{index_view}
use Rattle.acn_index.specs.Linked.{link_view}
use Rattle.acn_world.proofs.PassedOver.{Along}
use Rattle.acn_world.proofs.silent.telling_links.Given as goal

abbrev pub invariant-loop-step : goal.invariant-loop-step
invariant-loop-step l = Along (index_view l.index) (link_view l.first) (map link_view l.all.items) (link_view l.link) l.left (l.step-end - l.step)
