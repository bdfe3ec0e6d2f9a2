use Rattle.std.proofs.Common.{◌≡◌, ◌++◌, drop}
use Rattle.std.specs.Prelude.{map}
use Rattle.acn_acn_syntax.specs.View.{module_of}
use Rattle.acn_index.specs.Keyed.{entry_places}
use Rattle.acn_index.proofs.maps.all_entries.Given as goal

abbrev pub invariant-loop-owner : goal.invariant-loop-owner
invariant-loop-owner l = l.all ++ map entry_places (map module_of (drop l.owner-index l.modules)) ≡ map entry_places (map module_of l.modules)
