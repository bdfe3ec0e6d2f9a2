use Rattle.std.proofs.Common.{◌≡◌, drop, ◌++◌}
use Rattle.std.specs.Prelude.{map, flat_map}
use Rattle.std.specs.List.{enumerate_from}
use Rattle.acn_asn_syntax.specs.View.{module_view}
use Rattle.acn_index.specs.World.{module_places}
use Rattle.acn_index.proofs.places.push_places.Given as goal

abbrev pub invariant-loop-k : goal.invariant-loop-k
invariant-loop-k l = l.all.items ++ flat_map module_places (enumerate_from l.k (map module_view (drop l.k l.modules))) ≡ l.fn.all.items ++ flat_map module_places (enumerate_from 0 (map module_view l.modules))
