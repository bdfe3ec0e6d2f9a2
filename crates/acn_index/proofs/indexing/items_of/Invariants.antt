use Rattle.std.proofs.Common.{◌≡◌, ◌+◌, drop, length}
use Rattle.std.specs.Prelude.{map, flat_map}
use Rattle.acn_asn_syntax.specs.Mirror.{AsnModule}
use Rattle.acn_asn_syntax.specs.View.{module_view}
use Rattle.acn_index.proofs.indexing.items_of.Given as goal

abbrev pub invariant-loop-owner : goal.invariant-loop-owner
invariant-loop-owner l = l.all + length (flat_map (λ (m : AsnModule). m.items) (map module_view (drop l.owner-index l.modules))) ≡ length (flat_map (λ (m : AsnModule). m.items) (map module_view l.modules))
