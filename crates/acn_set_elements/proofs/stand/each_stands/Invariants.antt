use Rattle.std.proofs.Common.{◌≡◌, drop}
use Rattle.std.specs.List.{list_all}
use Rattle.acn_asn_syntax.specs.View.{base_view}
use Rattle.acn_world.specs.Chained.{constraints_view}
use Rattle.acn_world.specs.Viewed.{world_view}
use Rattle.acn_set_elements.specs.Stands.{stands}
use Rattle.acn_set_elements.proofs.stand.each_stands.Given as goal

abbrev pub invariant-loop-constraint : goal.invariant-loop-constraint
invariant-loop-constraint l = list_all (λ c. stands (world_view l.world) c.0 (base_view l.base) c.1) (constraints_view (drop l.constraint-index l.constraints)) ≡ list_all (λ c. stands (world_view l.world) c.0 (base_view l.base) c.1) (constraints_view l.constraints)
