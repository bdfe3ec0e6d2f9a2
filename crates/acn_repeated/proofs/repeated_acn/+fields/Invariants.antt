use Rattle.std.proofs.Common.{◌≡◌, drop, ◌++◌}
use Rattle.acn_acn_syntax.specs.View.{fields_view}
use Rattle.acn_world.specs.Repeated.{twice_fields}
use Rattle.acn_repeated.specs.Named.{names_view}
use Rattle.acn_repeated.proofs.repeated_acn.+fields.Given as goal

abbrev pub invariant-push_twice_fields-loop-field : goal.invariant-push_twice_fields-loop-field
invariant-push_twice_fields-loop-field l = names_view l.all.items ++ twice_fields l.seen (fields_view (drop l.field-index l.fields)) ≡ names_view l.fn.all.items ++ twice_fields l.fn.seen (fields_view l.fields)
