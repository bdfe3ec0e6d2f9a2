use Rattle.std.proofs.Common.{◌≡◌, drop, map}
use Rattle.acn_index.specs.Lookup.{EntryAt}
use Rattle.acn_world.specs.Chained.{entries_view}
use Rattle.acn_sites.specs.Places.{earliest, earliest_from}
use Rattle.acn_slots.specs.Slots.{at_entry}
use Rattle.acn_sites.specs.Attributes.{brackets}
use Rattle.acn_sites.specs.View.{site_view}
use Rattle.acn_reasons.specs.Standing.{repeat_in}
use Rattle.acn_reasons.proofs.standing.repeated_attribute.Given as goal

abbrev pub invariant-loop-entry : goal.invariant-loop-entry
invariant-loop-entry l = earliest_from (repeat_in (site_view l.site)) l.best (map (λ (e : EntryAt). (at_entry e, e.is.attributes)) (entries_view (drop l.entry-index l.entry-items))) ≡ earliest (repeat_in (site_view l.site)) (brackets (site_view l.site))
