use Rattle.std.proofs.Common.{◌≡◌, drop, map, ◌++◌}
use Rattle.std.specs.List.{enumerate_from}
use Rattle.acn_asn_syntax.specs.View.{alternative_view}
use Rattle.acn_world.specs.Viewed.{world_view}
use Rattle.acn_sites.specs.Sites.{alternative_site}
use Rattle.acn_sites.specs.View.{below_view, sites_view}
use Rattle.acn_sites.proofs.below.alternative_sites.Given as goal

abbrev pub invariant-loop-i : goal.invariant-loop-i
invariant-loop-i l = sites_view l.all ++ map (alternative_site (world_view l.world) (below_view l.below)) (enumerate_from l.i (map alternative_view (drop l.i l.alternatives)))
    ≡ map (alternative_site (world_view l.world) (below_view l.below)) (enumerate_from 0 (map alternative_view l.alternatives))
