use Rattle.std.proofs.Common.{◌≡◌, drop}
use Rattle.std.specs.Prelude.{map}
use Rattle.acn_asn_syntax.specs.View.{seen_meet, seen_part, meets_of, parts_of}
use Rattle.acn_world.specs.Viewed.{world_view}
use Rattle.acn_set_elements.specs.Material.{built_of}
use Rattle.acn_set_elements.specs.Stands.{meets_built, parts_built}
use Rattle.acn_set_elements.proofs.stand.+built.Given as goal

abbrev pub invariant-meets_built-loop-meet : goal.invariant-meets_built-loop-meet
invariant-meets_built-loop-meet l = meets_built (world_view l.site.world.now) l.site.owner (built_of l.site.of) (meets_of (map seen_meet (drop l.meet-index l.more))) ≡ meets_built (world_view l.site.world.now) l.site.owner (built_of l.site.of) (meets_of (map seen_meet l.more))

abbrev pub invariant-parts_built-loop-part : goal.invariant-parts_built-loop-part
invariant-parts_built-loop-part l = parts_built (world_view l.site.world.now) l.site.owner (built_of l.site.of) (parts_of (map seen_part (drop l.part-index l.more))) ≡ parts_built (world_view l.site.world.now) l.site.owner (built_of l.site.of) (parts_of (map seen_part l.more))
