use Rattle.std.proofs.Common.{◌≡◌, drop}
use Rattle.acn_index.specs.Views.{index_view}
use Rattle.std.specs.Prelude.{map, flat_map}
use Rattle.std.specs.List.{enumerate_from}
use Rattle.acn_asn_syntax.specs.View.{module_view}
use Rattle.acn_world.specs.Unknown.{unknown_of, unknown_in}
use Rattle.acn_world.specs.Faults.{first}
use Rattle.acn_names.proofs.unknown.first_in_modules.Given as goal

abbrev pub invariant-loop-k : goal.invariant-loop-k
invariant-loop-k l = first (flat_map (λ m. unknown_of m.1.name (unknown_in (index_view l.index) m.0 m.1)) (enumerate_from l.k (map module_view (drop l.k l.modules)))) ≡ first (flat_map (λ m. unknown_of m.1.name (unknown_in (index_view l.index) m.0 m.1)) (enumerate_from 0 (map module_view l.modules)))
