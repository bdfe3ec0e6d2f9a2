use Rattle.std.proofs.Common.{sym, subst, ap, ◌∙◌, []}
use Rattle.acn_homes.specs.Homes.{Rises, named}
use Rattle.acn_homes.specs.View.{paths_view}
use Rattle.acn_homes.proofs.Placed.{all_rise, nothing_rises}
use Rattle.acn_homes.proofs.slots.slots.Goals as goal

pub with_homes-requires : goal.with_homes-requires
with_homes-requires c = subst Rises (sym (ap paths_view c.as_slice.ensures.value ∙ c.in_ok-fields.ensures)) (all_rise (named c.args.inserted.now c.args.uses.now) [] nothing_rises)
