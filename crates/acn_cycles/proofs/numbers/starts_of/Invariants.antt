use Rattle.std.proofs.Common.{◌≡◌, ◌+◌, drop, length, ◌++◌}
use Rattle.std.specs.Prelude.{map, flat_map}
use Rattle.acn_asn_syntax.specs.Mirror.{AsnModule}
use Rattle.acn_asn_syntax.specs.View.{module_view}
use Rattle.acn_cycles.specs.Numbers.{starts_from}
use Rattle.acn_cycles.proofs.numbers.starts_of.Given as goal

abbrev pub invariant-loop-owner : goal.invariant-loop-owner
invariant-loop-owner l = record {
  told : l.firsts.items ++ starts_from l.next (map module_view (drop l.owner-index l.modules)) ≡ starts_from 0 (map module_view l.modules);
  left : l.next + length (flat_map (λ (m : AsnModule). m.items) (map module_view (drop l.owner-index l.modules))) ≡ length (flat_map (λ (m : AsnModule). m.items) (map module_view l.modules));
}
