use Rattle.std.proofs.Common.{◌≡◌, drop}
use Rattle.acn_grammar.specs.View.{fields_view}
use Rattle.acn_well_formed.specs.Held.{from_slot}
use Rattle.acn_well_formed.proofs.open_homes.from_slot.Given as goal

abbrev pub invariant-loop-at : goal.invariant-loop-at
invariant-loop-at l = from_slot l.slot (fields_view (drop l.at l.fields)) ≡ from_slot l.slot (fields_view l.fields)
