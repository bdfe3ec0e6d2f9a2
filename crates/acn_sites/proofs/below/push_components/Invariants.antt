use Rattle.std.proofs.Common.{◌≡◌, drop, map, ◌++◌}
use Rattle.std.specs.List.{enumerate_from}
use Rattle.acn_asn_syntax.specs.View.{component_view}
use Rattle.acn_world.specs.Viewed.{world_view}
use Rattle.acn_slots.specs.Slots.{bare_field}
use Rattle.acn_sites.specs.Sites.{field_site}
use Rattle.acn_sites.specs.View.{below_view, sites_view}
use Rattle.acn_sites.proofs.below.push_components.Given as goal

abbrev pub invariant-loop-i : goal.invariant-loop-i
invariant-loop-i l = sites_view l.all ++ map (field_site (world_view l.world) (below_view l.below)) (map bare_field (enumerate_from l.i (map component_view (drop l.i l.components))))
    ≡ sites_view l.fn.all ++ map (field_site (world_view l.world) (below_view l.below)) (map bare_field (enumerate_from 0 (map component_view l.components)))
