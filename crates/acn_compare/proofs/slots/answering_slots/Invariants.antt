use Rattle.std.proofs.Common.{◌≡◌, ℕ, drop, map, None}
use Rattle.std.specs.Prelude.{unwrap_or, slice_get}
use Rattle.acn_compare.specs.Accepts.{answering}
use Rattle.acn_compare.specs.Judging.{place_of, last_of}
use Rattle.acn_compare.proofs.slots.answering_slots.Given as goal

-- the pairs of the places that are left are noted over what is noted
abbrev pub invariant-loop-place : goal.invariant-loop-place
invariant-loop-place l = (s : ℕ) → last_of (answering (map place_of (drop l.place-index l.places))) s (unwrap_or (slice_get l.slots.items s) None) ≡ last_of (answering (map place_of l.places)) s None
