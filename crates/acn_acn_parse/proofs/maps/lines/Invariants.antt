use Rattle.std.proofs.Common.{◌≡◌, ◌-◌}
use Rattle.acn_cursor.specs.Steps.{repeat, many, with_front}
use Rattle.acn_acn_parse.specs.MapReading.{has_line, line}
use Rattle.acn_acn_parse.proofs.maps.lines.Given as goal

abbrev pub invariant-loop : goal.invariant-loop
invariant-loop l = with_front l.lines (repeat has_line line (l.end - l.counter) l.cursor) ≡ many has_line line l.fn.cursor
