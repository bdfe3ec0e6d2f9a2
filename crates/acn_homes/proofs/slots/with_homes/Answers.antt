use Rattle.std.proofs.Common.{sym, subst, ap, ◌∙◌, take, map}
use Rattle.std.proofs.lemmas.List.{take_at}
use Rattle.acn_homes.specs.Homes.{Rises, above}
use Rattle.acn_homes.specs.Joined.{joined}
use Rattle.acn_homes.specs.View.{slot_fields, slots_view, paths_view}
use Rattle.acn_homes.proofs.Joined.{fields_kept, use_more}
use Rattle.acn_homes.proofs.slots.with_homes.Goals as goal

pub join-requires : goal.join-requires
join-requires c =
    let here = ap slots_view c.as_mut_slice.ensures.value ∙ c.loop-one.invariant in
    subst Rises (sym (ap slot_fields here ∙ fields_kept (take c.loop-one.one-index c.args.uses.now) (paths_view c.args.fields.now))) c.requires

pub loop-one-preserved : goal.loop-one-preserved
loop-one-preserved c =
    let here = ap slots_view c.as_mut_slice.ensures.value ∙ c.loop-one.invariant in
    let one = c.one-item.result in
    ap slots_view (take_at c.join.new.slots _ _ (c.join.ensures.len ∙ c.as_mut_slice.ensures.len))
    ∙ (c.join.ensures.value ∙ (ap (map (joined one.field (above one.user))) here ∙ use_more c.args.uses.now c.loop-one.one-index one (paths_view c.args.fields.now) c.loop-one-test.true c.one-item.is))
