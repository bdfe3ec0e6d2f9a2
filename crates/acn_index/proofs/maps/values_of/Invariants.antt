use Rattle.std.proofs.Common.{◌≡◌, drop}
use Rattle.std.specs.Prelude.{map}
use Rattle.acn_asn_syntax.specs.View.{assign_view}
use Rattle.acn_firsts.specs.Placed.{noted_all}
use Rattle.acn_index.specs.Keyed.{keyed, firsts, value_name}
use Rattle.acn_index.proofs.maps.values_of.Given as goal

abbrev pub invariant-loop-i : goal.invariant-loop-i
invariant-loop-i l = noted_all l.all (keyed value_name l.i (map assign_view (drop l.i l.items))) ≡ firsts value_name (map assign_view l.items)
