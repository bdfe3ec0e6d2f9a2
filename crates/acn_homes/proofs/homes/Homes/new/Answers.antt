use Rattle.std.proofs.Common.{sym, subst, ap, ◌∙◌, [], length, ◌≤◌, ℕ}
use Rattle.acn_homes.specs.Homes.{Rises, named, fields, at_home}
use Rattle.acn_homes.specs.View.{slot_fields, slot_view, slots_view}
use Rattle.acn_homes.specs.declared.homes.TheConstants.{MOST_SLOTS}
use Rattle.std.proofs.lemmas.List.{length-map}
use Rattle.acn_homes.proofs.Joined.{fields_kept}
use Rattle.acn_homes.proofs.Placed.{all_rise, nothing_rises}
use Rattle.acn_homes.proofs.homes.Homes.new.Goals as goal

pub invariant_of-result : goal.invariant_of-result
invariant_of-result c = (
  subst Rises (sym (ap slot_fields c.in_ok-slots.ensures ∙ fields_kept c.args.uses.now (fields c.args.inserted.now c.args.uses.now))) (all_rise (named c.args.inserted.now c.args.uses.now) [] nothing_rises),
  subst (λ (n : ℕ). n ≤ MOST_SLOTS) (sym (ap length c.in_ok-slots.ensures) ∙ length-map c.in_ok-slots.slots.items slot_view) c.requires,
  λ path. c.in_ok-numbers.ensures path ∙ ap (λ all. at_home (slots_view all) path) c.as_slice.ensures.value,
)
