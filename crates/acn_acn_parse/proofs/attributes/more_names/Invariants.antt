use Rattle.std.proofs.Common.{◌≡◌, ◌-◌}
use Rattle.acn_cursor.specs.Steps.{repeat, many, with_front}
use Rattle.acn_acn_parse.specs.AttributeReading.{has_stop, next_name}
use Rattle.acn_acn_parse.proofs.attributes.more_names.Given as goal

abbrev pub invariant-loop : goal.invariant-loop
invariant-loop l = with_front l.names (repeat has_stop next_name (l.end - l.counter) l.cursor) ≡ many has_stop next_name l.fn.cursor
