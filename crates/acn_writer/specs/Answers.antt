-- What a writer in place answers: an event comes to pass, or halts with nothing changed. (This
-- profile's own.)
use Rattle.std.specs.Prelude.{◌≡◌, ℕ, List}
use Rattle.acn_num.specs.Bits.{bits}
use Rattle.acn_events.specs.Event.{Event, State}
use Rattle.acn_events.specs.Steps.{Halts, Step}
use Rattle.acn_writer.specs.Halts.{class_of, halt_of}
use Rattle.acn_writer.specs.declared.halt.Halt.{Halt}
use Rattle.acn_writer.specs.declared.writer.Writer.{Writer}

-- what the writer has done so far
abbrev pub state_of : {N S A : ℕ} → Writer N S A → State
state_of w = record { buf = bits w.cursor.buf.now; place = w.cursor.at; table = w.slots.table; leaves = w.slots.leaves; contents = w.contents }

-- The event comes to pass, whatever the path of its node, over the same buffer.
pub record Comes {N S A : ℕ} (event_at : List ℕ → Event) (old new : Writer N S A) : Type 0 where
  pub step : (path : List ℕ) → Step (event_at path) (state_of old) (state_of new)
  pub same_buffer : new.cursor.buf.ghost_name ≡ old.cursor.buf.ghost_name

-- The event halts for this reason, and nothing is changed.
pub record HaltsFor {N S A : ℕ} (event_at : List ℕ → Event) (old new : Writer N S A) (why : Halt) : Type 0 where
  pub halts : (path : List ℕ) → Halts (class_of S A) (event_at path) (state_of old) (halt_of path why)
  pub same_state : state_of new ≡ state_of old
  pub same_buffer : new.cursor.buf.ghost_name ≡ old.cursor.buf.ghost_name
