use Rattle.std.proofs.Common.{◌≡◌, drop, ◌++◌}
use Rattle.acn_world.specs.Repeated.{repeated}
use Rattle.acn_repeated.specs.Named.{names_view}
use Rattle.acn_repeated.proofs.seen.push_repeated_behind.Given as goal

abbrev pub invariant-loop-name : goal.invariant-loop-name
invariant-loop-name l = (names_view l.all.items ++ repeated l.seen (names_view (drop l.name-index l.names)) ≡ names_view l.fn.all.items ++ repeated l.fn.seen (names_view l.names)) × (l.seen ++ names_view (drop l.name-index l.names) ≡ l.fn.seen ++ names_view l.names)
