use Rattle.std.proofs.Common.{ap, subst, ◌∙◌}
use Rattle.std.specs.Prelude.{map}
use Rattle.acn_num.specs.Ranges.{AreRanges}
use Rattle.acn_asn_syntax.specs.View.{seen_part, parts_of}
use Rattle.acn_world.specs.Viewed.{world_view}
use Rattle.acn_constraint.specs.Readings.{reading_of}
use Rattle.acn_constraint.specs.Each.{each_outside}
use Rattle.acn_constraint.proofs.Shared.{shared_parts, only_part}
use Rattle.acn_constraint.proofs.evaluate.+evaluate.Goals as goal

pub meet_in-returns : goal.meet_in-returns
meet_in-returns t c =
    let w = world_view c.args.place.world.now in
    let r = reading_of c.args.place.reading in
    shared_parts w c.args.place.owner c.args.before.now (subst AreRanges c.ranges-before.ensures.same c.ranges-before.ensures.ordered) r c.args.meet.now c.in_ok-found.found c.as_slice.result.now c.without_all.result
    (c.in_ok-found.ensures {u = tt})
    (c.as_slice.ensures.value ∙ (c.in_ok-outside.ensures {u = tt} ∙ ap (λ ps. each_outside w c.args.place.owner r (parts_of (map seen_part ps)) c.args.before.now) c.items-more.ensures))
    c.without_all.ensures

pub meet_in-returns-then-is_empty : goal.meet_in-returns-then-is_empty
meet_in-returns-then-is_empty t c =
    only_part (world_view c.args.place.world.now) c.args.place.owner c.args.before.now (subst AreRanges c.ranges-before.ensures.same c.ranges-before.ensures.ordered) (reading_of c.args.place.reading) c.args.meet.now c.items-more.result.now c.part_in.result c.items-more.ensures (c.if-is_empty.ensures {u = tt}) c.part_in.ensures
