use Rattle.std.proofs.Common.{◌≡◌, ◌+◌, ◌≤◌, min, drop, map}
use Rattle.acn_asn_syntax.specs.View.{module_view}
use Rattle.acn_names.specs.Few.{weight}
use Rattle.acn_names.proofs.few.weigh.Given as goal

abbrev pub invariant-loop-owner : goal.invariant-loop-owner
invariant-loop-owner l = record {
  within : l.all ≤ 4294967296;
  told : min (l.all + weight (map module_view (drop l.owner-index l.modules))) 4294967296 ≡ min (l.before + weight (map module_view l.modules)) 4294967296;
}
