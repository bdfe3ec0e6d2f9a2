use Rattle.std.proofs.Common.{◌≡◌, ◌-◌}
use Rattle.acn_cursor.specs.Steps.{repeat, many, with_front}
use Rattle.acn_acn_parse.specs.AttributeReading.{has_comma}
use Rattle.acn_acn_parse.specs.FieldReading.{next_path}
use Rattle.acn_acn_parse.proofs.fields.more_paths.Given as goal

abbrev pub invariant-loop : goal.invariant-loop
invariant-loop l = with_front l.paths (repeat has_comma next_path (l.end - l.counter) l.cursor) ≡ many has_comma next_path l.fn.cursor
