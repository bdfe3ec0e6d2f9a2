use Rattle.std.proofs.Common.{◌≡◌, drop, option_map}
use Rattle.std.specs.Option.{option_or}
use Rattle.acn_world.specs.Chained.{entries_view}
use Rattle.acn_slots.specs.Slots.{entry_with_braces}
use Rattle.acn_slots.specs.View.{origin_view}
use Rattle.acn_slots.proofs.frame.entry_with_braces.Given as goal

abbrev pub invariant-loop-entry : goal.invariant-loop-entry
invariant-loop-entry l = option_or (entry_with_braces (entries_view (drop l.entry-index l.entries))) (option_map origin_view l.found) ≡ entry_with_braces (entries_view l.entries)
