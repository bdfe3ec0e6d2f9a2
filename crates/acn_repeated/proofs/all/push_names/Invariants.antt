use Rattle.std.proofs.Common.{◌≡◌, drop, ◌++◌}
use Rattle.std.specs.Prelude.{map}
use Rattle.acn_world.specs.declared.fault.NameFault.TheVariants as fault
use Rattle.acn_repeated.specs.Named.{names_view}
use Rattle.acn_repeated.specs.Blamed.{blames_view}
use Rattle.acn_repeated.proofs.all.push_names.Given as goal

abbrev pub invariant-loop-name : goal.invariant-loop-name
invariant-loop-name l = blames_view l.all.items ++ map (λ n. fault.Repeated n n) (names_view (drop l.name-index l.names)) ≡ blames_view l.fn.all.items ++ map (λ n. fault.Repeated n n) (names_view l.names)
