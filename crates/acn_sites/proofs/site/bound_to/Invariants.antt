use Rattle.std.proofs.Common.{◌≡◌, drop, map, ◌++◌}
use Rattle.std.specs.Prelude.{filter_map}
use Rattle.std.specs.List.{zip}
use Rattle.acn_acn_syntax.specs.declared.modules.AcnPath.{AcnPath}
use Rattle.acn_world.specs.Viewed.{world_view}
use Rattle.acn_slots.specs.Slots.{leads}
use Rattle.acn_sites.specs.Sites.{bind}
use Rattle.acn_slots.specs.View.{scope_view, bound_view}
use Rattle.acn_sites.proofs.site.bound_to.Given as goal

abbrev pub invariant-loop-i : goal.invariant-loop-i
invariant-loop-i l = map bound_view l.bound ++ filter_map bind (zip (drop l.i l.parameters) (map (λ (a : AcnPath). leads (world_view l.world) (scope_view l.scope) a.names) (drop l.i l.arguments))) ≡ filter_map bind (zip l.parameters (map (λ (a : AcnPath). leads (world_view l.world) (scope_view l.scope) a.names) l.arguments))
