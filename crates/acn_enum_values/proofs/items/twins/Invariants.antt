use Rattle.std.proofs.Common.{◌≡◌, [], drop, map}
use Rattle.acn_enum_values.specs.EnumValues as spec
use Rattle.acn_written.specs.View.{numbered_view}
use Rattle.acn_enum_values.proofs.items.twins.Given as goal

abbrev pub invariant-loop-item : goal.invariant-loop-item
invariant-loop-item l = spec.twins_behind l.seen (map numbered_view (drop l.item-index l.items)) ≡ spec.twins_behind [] (map numbered_view l.items)
