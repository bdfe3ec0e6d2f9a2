use Rattle.std.proofs.Common.{◌≡◌, drop, ◌++◌}
use Rattle.std.specs.Prelude.{flat_map}
use Rattle.acn_repeated.specs.Named.{names_view}
use Rattle.acn_repeated.proofs.lists.push_imports.Given as goal

abbrev pub invariant-loop-import : goal.invariant-loop-import
invariant-loop-import l = names_view l.all.items ++ flat_map (λ i. i.names) (drop l.import-index l.imports) ≡ names_view l.fn.all.items ++ flat_map (λ i. i.names) l.imports
