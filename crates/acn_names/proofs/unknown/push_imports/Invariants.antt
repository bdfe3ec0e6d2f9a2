use Rattle.std.proofs.Common.{◌≡◌, drop, ◌++◌}
use Rattle.acn_index.specs.Views.{index_view}
use Rattle.acn_repeated.specs.Named.{names_view}
use Rattle.std.specs.Prelude.{flat_map}
use Rattle.acn_world.specs.Unknown.{import_unknown}
use Rattle.acn_names.proofs.unknown.push_imports.Given as goal

abbrev pub invariant-loop-import : goal.invariant-loop-import
invariant-loop-import l = names_view l.all.items ++ flat_map (import_unknown (index_view l.index)) (drop l.import-index l.imports) ≡ names_view l.fn.all.items ++ flat_map (import_unknown (index_view l.index)) l.imports
