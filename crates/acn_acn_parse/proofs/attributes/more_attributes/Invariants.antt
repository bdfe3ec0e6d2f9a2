use Rattle.std.proofs.Common.{◌≡◌, ◌-◌}
use Rattle.acn_cursor.specs.Steps.{repeat, many, with_front}
use Rattle.acn_acn_parse.specs.AttributeReading.{has_comma, next_attribute}
use Rattle.acn_acn_parse.proofs.attributes.more_attributes.Given as goal

abbrev pub invariant-loop : goal.invariant-loop
invariant-loop l = with_front l.attributes (repeat has_comma next_attribute (l.end - l.counter) l.cursor) ≡ many has_comma next_attribute l.fn.cursor
