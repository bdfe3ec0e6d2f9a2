use Rattle.std.proofs.Common.{◌≡◌, ℕ, ◌+◌, ◌-◌, length, None}
use Rattle.std.specs.Prelude.{unwrap_or, slice_get}
use Rattle.acn_compare.proofs.slots.reach.Given as goal

abbrev pub decreases-loop-slots : goal.decreases-loop-slots
decreases-loop-slots l = (l.slot + 1) - length l.slots.items

abbrev pub invariant-loop-slots : goal.invariant-loop-slots
invariant-loop-slots l = (s : ℕ) → unwrap_or (slice_get l.slots.items s) None ≡ unwrap_or (slice_get l.fn.slots.items s) None
