use Rattle.std.proofs.Common.{◌≡◌, drop, map}
use Rattle.acn_enum_values.specs.EnumValues as spec
use Rattle.acn_written.specs.View.{numbered_view}
use Rattle.acn_enum_values.proofs.items.lacking.Given as goal

abbrev pub invariant-loop-item : goal.invariant-loop-item
invariant-loop-item l = spec.lacking (map numbered_view l.given) (drop l.item-index l.items) ≡ spec.lacking (map numbered_view l.given) l.items
