use Rattle.std.proofs.Common.{◌≡◌, drop, ◌++◌, [], ◌∷◌}
use Rattle.acn_index.specs.Views.{index_view}
use Rattle.std.specs.Prelude.{map, flat_map}
use Rattle.acn_repeated.specs.Blamed.{blames_view}
use Rattle.acn_world.specs.Unknown.{missing_of}
use Rattle.acn_acn_syntax.specs.View.{module_of}
use Rattle.acn_names.proofs.missing.push_missing_acn.Given as goal

abbrev pub invariant-loop-owner : goal.invariant-loop-owner
invariant-loop-owner l = blames_view l.all.items ++ flat_map (λ a. missing_of (index_view l.index) a.name (a.name ∷ [])) (map module_of (drop l.owner-index l.modules)) ≡ blames_view l.fn.all.items ++ flat_map (λ a. missing_of (index_view l.index) a.name (a.name ∷ [])) (map module_of l.modules)
