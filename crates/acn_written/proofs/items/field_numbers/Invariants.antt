use Rattle.std.proofs.Common.{◌≡◌, ◌++◌, drop, map}
use Rattle.acn_acn_syntax.specs.View.{field_of}
use Rattle.acn_written.specs.Items as spec
use Rattle.acn_written.specs.View.{numbered_view}
use Rattle.acn_written.proofs.items.field_numbers.Given as goal

abbrev pub invariant-loop-field : goal.invariant-loop-field
invariant-loop-field l = map numbered_view l.all.items ++ spec.field_numbers (map field_of (drop l.field-index l.fields)) ≡ spec.field_numbers (map field_of l.fields)
