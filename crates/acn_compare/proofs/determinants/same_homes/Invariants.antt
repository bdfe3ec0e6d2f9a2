use Rattle.std.proofs.Common.{◌≡◌, drop}
use Rattle.std.specs.Cmp.Lexicographic.{pointwise}
use Rattle.acn_compare.specs.Tests.{answer}
use Rattle.acn_compare.proofs.determinants.same_homes.Given as goal

abbrev pub invariant-loop-k : goal.invariant-loop-k
invariant-loop-k l = pointwise (answer l.slots) (drop l.k l.old) (drop l.k l.new) ≡ pointwise (answer l.slots) l.old l.new
