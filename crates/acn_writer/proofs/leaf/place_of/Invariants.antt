use Rattle.std.proofs.Common.{◌≡◌, ◌+◌, drop}
use Rattle.acn_writer.specs.Leaves.{has_leaf, leaf_place}
use Rattle.acn_writer.proofs.leaf.place_of.Given as goal

abbrev pub invariant-loop-i : goal.invariant-loop-i
invariant-loop-i l = record {
  left : has_leaf l.slot (drop l.i l.leaves) ≡ has_leaf l.slot l.leaves;
  far : l.i + leaf_place l.slot (drop l.i l.leaves) ≡ leaf_place l.slot l.leaves;
}
