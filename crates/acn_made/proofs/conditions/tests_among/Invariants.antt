use Rattle.std.proofs.Common.{◌≡◌, drop, ◌++◌}
use Rattle.std.specs.Prelude.{filter_map}
use Rattle.acn_made.specs.Conditions.{test_in}
use Rattle.acn_slots.specs.View.{scope_view}
use Rattle.acn_world.specs.Viewed.{world_view}
use Rattle.acn_made.proofs.conditions.tests_among.Given as goal

abbrev pub invariant-loop-one : goal.invariant-loop-one
invariant-loop-one l = l.tests ++ filter_map (test_in (world_view l.world) l.homes (scope_view l.scope)) (drop l.one-index l.conditions)
    ≡ filter_map (test_in (world_view l.world) l.homes (scope_view l.scope)) l.conditions
