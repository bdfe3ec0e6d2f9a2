use Rattle.std.proofs.Common.{◌≡◌, drop}
use Rattle.std.specs.List.{list_all}
use Rattle.acn_reasons.specs.Braced.{is_number_of}
use Rattle.acn_reasons.specs.Named.{fields_view}
use Rattle.acn_reasons.proofs.braced.are_numbers.Given as goal

abbrev pub invariant-loop-field : goal.invariant-loop-field
invariant-loop-field l = list_all (is_number_of l.items) (fields_view (drop l.field-index l.fields)) ≡ list_all (is_number_of l.items) (fields_view l.fields)
