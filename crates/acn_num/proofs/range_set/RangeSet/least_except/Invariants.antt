use Rattle.std.proofs.Common.{◌≡◌, ℕ, ◌<◌, ◌-◌, ℤ, true}
use Rattle.std.specs.Prelude.{Some}
use Rattle.acn_num.specs.Ranges.{among, nth, count}
use Rattle.acn_num.proofs.range_set.RangeSet.least_except.Given as goal

abbrev pub invariant-loop-place : goal.invariant-loop-place
invariant-loop-place l = record { total : l.count ≡ count l.self; passed : (k : ℕ) (x : ℤ) → k < l.place → nth l.self k ≡ Some x → among l.avoided x ≡ true }

abbrev pub decreases-loop-place : goal.decreases-loop-place
decreases-loop-place l = l.count - l.place
