use Rattle.std.proofs.Common.{◌≡◌, ◌++◌, drop}
use Rattle.std.specs.Prelude.{map}
use Rattle.acn_asn_syntax.specs.View.{seen_meet, seen_part, meets_of, parts_of}
use Rattle.acn_world.specs.Viewed.{world_view}
use Rattle.acn_constraint.specs.Readings.{reading_of}
use Rattle.acn_constraint.specs.Each.{each_meet, each_outside}
use Rattle.acn_constraint.proofs.evaluate.+evaluate.Given as goal

abbrev pub invariant-meets_in-loop-meet : goal.invariant-meets_in-loop-meet
invariant-meets_in-loop-meet l = l.all.items ++ each_meet (world_view l.place.world.now) l.place.owner (reading_of l.place.reading) (meets_of (map seen_meet (drop l.meet-index l.more))) l.before ≡ each_meet (world_view l.place.world.now) l.place.owner (reading_of l.place.reading) (meets_of (map seen_meet l.more)) l.before

abbrev pub invariant-outsides-loop-part : goal.invariant-outsides-loop-part
invariant-outsides-loop-part l = l.all.items ++ each_outside (world_view l.place.world.now) l.place.owner (reading_of l.place.reading) (parts_of (map seen_part (drop l.part-index l.more))) l.before ≡ each_outside (world_view l.place.world.now) l.place.owner (reading_of l.place.reading) (parts_of (map seen_part l.more)) l.before
