use Rattle.std.proofs.Common.{◌≡◌, drop, ◌++◌}
use Rattle.std.specs.Prelude.{map}
use Rattle.acn_repeated.specs.Named.{names_view}
use Rattle.acn_repeated.proofs.lists.push_tables.Given as goal

abbrev pub invariant-loop-one : goal.invariant-loop-one
invariant-loop-one l = names_view l.all.items ++ map (λ n. n.name) (drop l.one-index l.tables) ≡ names_view l.fn.all.items ++ map (λ n. n.name) l.tables
