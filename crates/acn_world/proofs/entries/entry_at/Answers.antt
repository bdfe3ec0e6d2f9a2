use Rattle.std.proofs.Common.{ap, ◌∙◌}
use Rattle.std.specs.Prelude.{option_and_then}
use Rattle.acn_index.specs.Views.{index_view}
use Rattle.acn_index.specs.Lookup.{entry_in_place}
use Rattle.acn_world.proofs.EntryPlaces.{at_its_place}
use Rattle.acn_world.proofs.entries.entry_at.Goals as goal

pub returns-in_err-at : goal.returns-in_err-at
returns-in_err-at c = rw c.from_residual.ensures (ap (option_and_then (entry_in_place (index_view c.args.index.now))) (c.in_err-at.ensures {u = tt}) ∙ at_its_place (index_view c.args.index.now) c.args.place)

pub returns : goal.returns
returns c = c.entry_in_place.ensures ∙ (ap (option_and_then (entry_in_place (index_view c.args.index.now))) (c.in_ok-at.ensures {u = tt}) ∙ at_its_place (index_view c.args.index.now) c.args.place)
