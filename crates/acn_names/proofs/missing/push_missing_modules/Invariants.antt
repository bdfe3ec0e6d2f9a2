use Rattle.std.proofs.Common.{◌≡◌, drop, ◌++◌}
use Rattle.acn_index.specs.Views.{index_view}
use Rattle.std.specs.Prelude.{map, flat_map}
use Rattle.acn_repeated.specs.Blamed.{blames_view}
use Rattle.acn_world.specs.Unknown.{missing_of, import_modules}
use Rattle.acn_asn_syntax.specs.View.{module_view}
use Rattle.acn_names.proofs.missing.push_missing_modules.Given as goal

abbrev pub invariant-loop-owner : goal.invariant-loop-owner
invariant-loop-owner l = blames_view l.all.items ++ flat_map (λ m. missing_of (index_view l.index) m.name (import_modules m)) (map module_view (drop l.owner-index l.modules)) ≡ blames_view l.fn.all.items ++ flat_map (λ m. missing_of (index_view l.index) m.name (import_modules m)) (map module_view l.modules)
