-- Bits that were put had room.
use Rattle.std.proofs.Common.{◌≡◌, ℕ, ◌+◌, ◌*◌, Bool, List, length, ap, ◌∙◌, arith}
use Rattle.acn_num.specs.Bits.{bits}
use Rattle.acn_bits.specs.Writing.{Writes, place_of}
use Rattle.acn_bits.specs.declared.write_cursor.WriteCursor.{WriteCursor}
use Rattle.acn_bits.proofs.Parts.{length-overwritten}
use Rattle.acn_events.specs.Steps.{Room}
use Rattle.acn_writer.specs.Answers.{state_of}
use Rattle.acn_writer.specs.declared.writer.Writer.{Writer}

pub had_room : {N S A : ℕ} (old : Writer N S A) (new : WriteCursor N) (bs : List Bool) (n : ℕ) → length bs ≡ n → Writes old.cursor new (place_of old.cursor) bs (place_of old.cursor + n) → Room n (state_of old)
had_room old new bs n l w = (let i = w.within in omega (arith, i, l))

-- and the buffer is as long as before
pub as_long : {N S A : ℕ} (old : Writer N S A) (new : WriteCursor N) (at : ℕ) (bs : List Bool) (end : ℕ) → Writes old.cursor new at bs end → length (bits new.buf.now) ≡ 8 * N
as_long old new at bs end w = ap length w.changed ∙ (length-overwritten (bits old.cursor.buf.now) at bs w.within ∙ old.long)
