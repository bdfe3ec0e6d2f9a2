use Rattle.std.proofs.Common.{◌≡◌, drop, ◌++◌}
use Rattle.std.specs.Prelude.{map}
use Rattle.acn_repeated.specs.Named.{names_view}
use Rattle.acn_repeated.specs.Blamed.{fault_of, blames_view}
use Rattle.acn_repeated.proofs.blame.push_blames.Given as goal

abbrev pub invariant-loop-name : goal.invariant-loop-name
invariant-loop-name l = blames_view l.all.items ++ map (fault_of l.kind l.owner) (names_view (drop l.name-index l.names)) ≡ blames_view l.fn.all.items ++ map (fault_of l.kind l.owner) (names_view l.names)
