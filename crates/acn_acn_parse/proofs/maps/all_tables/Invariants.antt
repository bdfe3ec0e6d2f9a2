use Rattle.std.proofs.Common.{◌≡◌, ◌-◌}
use Rattle.acn_cursor.specs.Steps.{repeat, many, with_front}
use Rattle.acn_acn_parse.specs.MapReading.{has_more, table}
use Rattle.acn_acn_parse.proofs.maps.all_tables.Given as goal

abbrev pub invariant-loop : goal.invariant-loop
invariant-loop l = with_front l.tables (repeat has_more table (l.end - l.counter) l.cursor) ≡ many has_more table l.fn.cursor
