use Rattle.std.proofs.Common.{◌≡◌, drop, ◌++◌}
use Rattle.acn_index.specs.Views.{index_view}
use Rattle.std.specs.Prelude.{map, flat_map}
use Rattle.acn_repeated.specs.Blamed.{blames_view}
use Rattle.acn_world.specs.Cycles.{wrong_of, acn_wrong_in}
use Rattle.acn_acn_syntax.specs.View.{module_of}
use Rattle.acn_names.proofs.wrong.push_acn_modules.Given as goal

abbrev pub invariant-loop-owner : goal.invariant-loop-owner
invariant-loop-owner l = blames_view l.all.items ++ flat_map (λ a. wrong_of a.name (flat_map (acn_wrong_in (index_view l.index) a.name) a.entries)) (map module_of (drop l.owner-index l.modules)) ≡ blames_view l.fn.all.items ++ flat_map (λ a. wrong_of a.name (flat_map (acn_wrong_in (index_view l.index) a.name) a.entries)) (map module_of l.modules)
