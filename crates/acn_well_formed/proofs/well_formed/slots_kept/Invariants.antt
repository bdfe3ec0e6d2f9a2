use Rattle.std.proofs.Common.{◌≡◌, ◌-◌}
use Rattle.std.specs.List.{list_all, range_with_len}
use Rattle.acn_well_formed.specs.Seen.{slot_kept}
use Rattle.acn_grammar.specs.View.{grammar_of}
use Rattle.acn_well_formed.proofs.well_formed.slots_kept.Given as goal

abbrev pub invariant-loop-slot : goal.invariant-loop-slot
invariant-loop-slot l = list_all (slot_kept (grammar_of l.root)) (range_with_len l.slot (l.slots - l.slot)) ≡ list_all (slot_kept (grammar_of l.root)) (range_with_len 0 l.slots)
