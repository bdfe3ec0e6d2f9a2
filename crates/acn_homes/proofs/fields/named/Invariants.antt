use Rattle.std.proofs.Common.{◌≡◌, ◌++◌, map, take}
use Rattle.acn_homes.specs.View.{paths_view}
use Rattle.acn_homes.proofs.fields.named.Given as goal

abbrev pub invariant-loop-field : goal.invariant-loop-field
invariant-loop-field l = paths_view l.all.items ≡ take l.field-index l.inserted

abbrev pub invariant-loop-one : goal.invariant-loop-one
invariant-loop-one l = paths_view l.all.items ≡ l.inserted ++ map (λ u. u.field) (take l.one-index l.uses)
