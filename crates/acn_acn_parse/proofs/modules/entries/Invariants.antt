use Rattle.std.proofs.Common.{◌≡◌, ◌-◌, map}
use Rattle.acn_cursor.specs.Steps.{repeat, many, with_front}
use Rattle.acn_acn_syntax.specs.View.{entry_of}
use Rattle.acn_acn_parse.specs.FieldReading.{has_entry, entry_at}
use Rattle.acn_acn_parse.proofs.modules.entries.Given as goal

abbrev pub invariant-loop : goal.invariant-loop
invariant-loop l = with_front (map entry_of l.entries) (repeat has_entry (entry_at l.depth) (l.end - l.counter) l.cursor) ≡ many has_entry (entry_at l.depth) l.fn.cursor
