use Rattle.std.proofs.Common.{◌≡◌, drop, ◌++◌}
use Rattle.acn_index.specs.Views.{index_view}
use Rattle.std.specs.Prelude.{map, flat_map}
use Rattle.acn_world.specs.Repeated.{when}
use Rattle.acn_repeated.specs.Named.{names_view}
use Rattle.acn_world.specs.Unknown.{is_no_module}
use Rattle.acn_names.proofs.missing.push_imports.Given as goal

abbrev pub invariant-loop-import : goal.invariant-loop-import
invariant-loop-import l = names_view l.all.items ++ flat_map (λ n. when (is_no_module (index_view l.index) n) n) (map (λ i. i.module) (drop l.import-index l.imports)) ≡ names_view l.fn.all.items ++ flat_map (λ n. when (is_no_module (index_view l.index) n) n) (map (λ i. i.module) l.imports)
