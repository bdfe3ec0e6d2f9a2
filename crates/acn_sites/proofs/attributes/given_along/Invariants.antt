use Rattle.std.proofs.Common.{◌≡◌, drop, option_map}
use Rattle.std.specs.Option.{option_or}
use Rattle.acn_world.specs.Chained.{entries_view}
use Rattle.acn_sites.specs.Attributes.{given_along}
use Rattle.acn_sites.specs.View.{given_view}
use Rattle.acn_sites.proofs.attributes.given_along.Given as goal

abbrev pub invariant-loop-entry : goal.invariant-loop-entry
invariant-loop-entry l = option_or (given_along l.kind (entries_view (drop l.entry-index l.entries))) (option_map given_view l.found) ≡ given_along l.kind (entries_view l.entries)
