use Rattle.std.proofs.Common.{◌≡◌, drop, ◌++◌}
use Rattle.acn_index.specs.Views.{index_view}
use Rattle.acn_repeated.specs.Named.{names_view}
use Rattle.std.specs.Prelude.{flat_map, not}
use Rattle.acn_world.specs.Repeated.{when}
use Rattle.acn_world.specs.Unknown.{is_import_known}
use Rattle.acn_names.proofs.unknown.push_import_names.Given as goal

abbrev pub invariant-loop-name : goal.invariant-loop-name
invariant-loop-name l = names_view l.all.items ++ flat_map (λ n. when (not (is_import_known (index_view l.index) l.from n)) n) (drop l.name-index l.names) ≡ names_view l.fn.all.items ++ flat_map (λ n. when (not (is_import_known (index_view l.index) l.from n)) n) l.names
