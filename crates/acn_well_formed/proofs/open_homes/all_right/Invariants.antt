use Rattle.std.proofs.Common.{◌≡◌, drop}
use Rattle.acn_grammar.specs.View.{form_of, fields_view}
use Rattle.acn_well_formed.specs.Held.{all_right}
use Rattle.acn_well_formed.proofs.open_homes.all_right.Given as goal

abbrev pub invariant-loop-slot : goal.invariant-loop-slot
invariant-loop-slot l = all_right (form_of l.body) (fields_view l.rest) (drop l.slot-index l.home) ≡ all_right (form_of l.body) (fields_view l.fields) l.home
