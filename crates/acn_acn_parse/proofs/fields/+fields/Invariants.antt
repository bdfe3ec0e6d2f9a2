-- A call goes to what stands behind it in a field, or to the fields that are one level deeper.
use Rattle.std.proofs.Common.{◌≡◌, ℕ, ◌+◌, ◌-◌, ◌*◌, map}
use Rattle.acn_cursor.specs.Steps.{repeat, many, with_front}
use Rattle.acn_acn_syntax.specs.View.{field_of}
use Rattle.acn_acn_parse.specs.AttributeReading.{has_comma}
use Rattle.acn_acn_parse.specs.FieldReading.{next_field, field_at}
use Rattle.acn_acn_parse.proofs.fields.+fields.Given as goal

abbrev pub decreases-field_in : goal.decreases-field_in
decreases-field_in l = 16 * l.depth + 9

abbrev pub decreases-field_rest : goal.decreases-field_rest
decreases-field_rest l = 16 * l.depth + 8

abbrev pub decreases-plain_rest : goal.decreases-plain_rest
decreases-plain_rest l = 16 * l.depth + 7

abbrev pub decreases-braces : goal.decreases-braces
decreases-braces l = 16 * l.depth + 6

abbrev pub decreases-fields : goal.decreases-fields
decreases-fields l = 16 * l.depth + 5

abbrev pub decreases-more_fields : goal.decreases-more_fields
decreases-more_fields l = 16 * l.depth + 4

abbrev pub decreases-next_field : goal.decreases-next_field
decreases-next_field l = 16 * l.depth + 3

abbrev pub decreases-field : goal.decreases-field
decreases-field l = 16 * l.depth + 0

abbrev pub invariant-more_fields-loop : goal.invariant-more_fields-loop
invariant-more_fields-loop l = with_front (map field_of l.fields) (repeat has_comma (next_field (field_at l.depth)) (l.end - l.counter) l.cursor) ≡ many has_comma (next_field (field_at l.depth)) l.fn.cursor
