use Rattle.std.proofs.Common.{◌≡◌, ◌+◌, ◌≤◌, min, drop}
use Rattle.acn_index.specs.World.{asn_modules}
use Rattle.acn_names.specs.Few.{weight}
use Rattle.acn_names.proofs.few.weigh_all.Given as goal

abbrev pub invariant-loop-file : goal.invariant-loop-file
invariant-loop-file l = record {
  within : l.all ≤ 4294967296;
  told : min (l.all + weight (asn_modules (drop l.file-index l.files))) 4294967296 ≡ min (weight (asn_modules l.files)) 4294967296;
}
