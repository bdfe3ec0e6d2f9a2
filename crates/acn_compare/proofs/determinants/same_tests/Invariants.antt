use Rattle.std.proofs.Common.{◌≡◌, drop}
use Rattle.std.specs.Cmp.Lexicographic.{pointwise}
use Rattle.acn_compare.specs.Tests.{same_test}
use Rattle.acn_compare.proofs.determinants.same_tests.Given as goal

abbrev pub invariant-loop-k : goal.invariant-loop-k
invariant-loop-k l = pointwise (same_test l.slots) (drop l.k l.old) (drop l.k l.new) ≡ pointwise (same_test l.slots) l.old l.new
