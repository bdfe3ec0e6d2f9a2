use Rattle.std.proofs.Common.{◌≡◌, drop}
use Rattle.std.specs.Prelude.{map}
use Rattle.acn_asn_syntax.specs.View.{seen_meet, seen_part, meets_of, parts_of}
use Rattle.acn_world.specs.Viewed.{world_view}
use Rattle.acn_constraint.specs.Constraints.{low_among, meets_values, parts_values}
use Rattle.acn_constraint.proofs.low.+low.Given as goal

abbrev pub invariant-meets_low-loop-meet : goal.invariant-meets_low-loop-meet
invariant-meets_low-loop-meet l = low_among (world_view l.at.world.now) l.at.names.now l.at.owner (meets_values (meets_of (map seen_meet (drop l.meet-index l.more)))) ≡ low_among (world_view l.at.world.now) l.at.names.now l.at.owner (meets_values (meets_of (map seen_meet l.more)))

abbrev pub invariant-parts_low-loop-part : goal.invariant-parts_low-loop-part
invariant-parts_low-loop-part l = low_among (world_view l.at.world.now) l.at.names.now l.at.owner (parts_values (parts_of (map seen_part (drop l.part-index l.more)))) ≡ low_among (world_view l.at.world.now) l.at.names.now l.at.owner (parts_values (parts_of (map seen_part l.more)))
