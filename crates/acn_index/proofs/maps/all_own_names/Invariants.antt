use Rattle.std.proofs.Common.{◌≡◌, ◌++◌, drop}
use Rattle.std.specs.Prelude.{map}
use Rattle.acn_asn_syntax.specs.View.{module_view}
use Rattle.acn_index.specs.Keyed.{own_names}
use Rattle.acn_index.proofs.maps.all_own_names.Given as goal

abbrev pub invariant-loop-owner : goal.invariant-loop-owner
invariant-loop-owner l = l.all ++ map own_names (map module_view (drop l.owner-index l.modules)) ≡ map own_names (map module_view l.modules)
