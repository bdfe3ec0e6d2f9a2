use Rattle.std.proofs.Common.{◌≡◌, drop}
use Rattle.std.specs.List.{list_any}
use Rattle.acn_grammar.specs.View.{form_of}
use Rattle.acn_single.specs.Lines.{is_used}
use Rattle.acn_single.proofs.uses.uses_one.Given as goal

abbrev pub invariant-loop-slot : goal.invariant-loop-slot
invariant-loop-slot l = list_any (is_used l.tests (form_of l.body)) (drop l.slot-index l.slots) ≡ list_any (is_used l.tests (form_of l.body)) l.slots
