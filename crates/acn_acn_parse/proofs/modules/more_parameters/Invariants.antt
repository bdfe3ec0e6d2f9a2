use Rattle.std.proofs.Common.{◌≡◌, ◌-◌}
use Rattle.acn_cursor.specs.Steps.{repeat, many, with_front}
use Rattle.acn_acn_parse.specs.AttributeReading.{has_comma}
use Rattle.acn_acn_parse.specs.FieldReading.{next_parameter}
use Rattle.acn_acn_parse.proofs.modules.more_parameters.Given as goal

abbrev pub invariant-loop : goal.invariant-loop
invariant-loop l = with_front l.parameters (repeat has_comma next_parameter (l.end - l.counter) l.cursor) ≡ many has_comma next_parameter l.fn.cursor
