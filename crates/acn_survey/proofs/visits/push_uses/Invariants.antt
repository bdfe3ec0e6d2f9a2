use Rattle.std.proofs.Common.{◌≡◌, drop, map, ◌++◌}
use Rattle.std.specs.Prelude.{filter_map}
use Rattle.acn_reasons.specs.Named.{paths_view}
use Rattle.acn_slots.specs.View.{scope_view}
use Rattle.acn_survey.specs.Walk.{named_field}
use Rattle.acn_world.specs.Viewed.{world_view}
use Rattle.acn_survey.proofs.visits.push_uses.Given as goal

abbrev pub invariant-loop-path : goal.invariant-loop-path
invariant-loop-path l = l.uses ++ map (λ f. record { user = l.user; field = f }) (filter_map (named_field (world_view l.world) (scope_view l.scope)) (paths_view (drop l.path-index l.paths)))
    ≡ l.fn.uses ++ map (λ f. record { user = l.user; field = f }) (filter_map (named_field (world_view l.world) (scope_view l.scope)) (paths_view l.paths))
