use Rattle.std.proofs.Common.{◌≡◌, drop}
use Rattle.std.specs.Cmp.Lexicographic.{pointwise}
use Rattle.acn_compare.specs.Tests.{same_item}
use Rattle.acn_compare.proofs.names.same_items.Given as goal

abbrev pub invariant-loop-k : goal.invariant-loop-k
invariant-loop-k l = pointwise same_item (drop l.k l.old) (drop l.k l.new) ≡ pointwise same_item l.old l.new
