-- Writers that are ended, and contents that are. (This profile's own.)
use Rattle.std.specs.Prelude.{◌≡◌, ℕ, ◌+◌, ◌≤◌, true, Some, drop}
use Rattle.acn_num.specs.Bits.{bits}
use Rattle.acn_bits.specs.Overwrite.{Gap}
use Rattle.acn_bits.specs.Writing.{place_of}
use Rattle.acn_bits.specs.declared.write_cursor.WriteCursor.{WriteCursor}
use Rattle.acn_fill.specs.Table.{Table, begun, gap_at}

-- each hole that is kept lies behind a place
abbrev pub SlotsPassed : Table → (place : ℕ) → Type 0
SlotsPassed t place = (s : ℕ) (g : Gap) → begun t s ≡ true → gap_at t s ≡ Some (Some g) → g.place + g.width ≤ place

-- what stands behind the writer is as before, and so is its place
pub record KeepsBehind {N : ℕ} (old new : WriteCursor N) : Type 0 where
  pub behind : drop (place_of new) (bits new.buf.now) ≡ drop (place_of old) (bits old.buf.now)
  pub place : place_of new ≡ place_of old
  pub same_buffer : new.buf.ghost_name ≡ old.buf.ghost_name
