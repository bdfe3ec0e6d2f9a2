-- What a walk over a part of a value says of the writer. (This profile's own.)
use Rattle.std.specs.Prelude.{◌≡◌, ℕ, List, Result, Ok, Err}
use Rattle.acn_events.specs.Event.{Event, State, Halt}
use Rattle.acn_events.specs.Steps.{Run, Stops}
use Rattle.acn_writer.specs.Answers.{state_of}
use Rattle.acn_writer.specs.Halts.{class_of, halt_of}
use Rattle.acn_writer.specs.declared.halt.Halt.{Halt as HaltData}
use Rattle.acn_writer.specs.declared.halt.Halted.{Halted}
use Rattle.acn_writer.specs.declared.writer.Writer.{Writer}

-- the events ran, over the same buffer
pub record Ran {N S A : ℕ} (es : List Event) (old new : Writer N S A) : Type 0 where
  pub runs : Run es (state_of old) (state_of new)
  pub same_buffer : new.cursor.buf.ghost_name ≡ old.cursor.buf.ghost_name

-- the events stop in the new state at this halt, over the same buffer
pub record Stopped {N S A : ℕ} (es : List Event) (old new : Writer N S A) (h : Halt) : Type 0 where
  pub stops : Stops (class_of S A) es (state_of old) (state_of new) h
  pub same_buffer : new.cursor.buf.ghost_name ≡ old.cursor.buf.ghost_name

-- With Ok the events ran. Else they stop, at a halt of this path and for this reason.
abbrev pub Packs : {R : Type 0} {N S A : ℕ} → List Event → (old new : Writer N S A) → (path : List ℕ) → (why : HaltData) → Result R Halted → Type 0
Packs es old new path why (Ok _) = Ran es old new
Packs es old new path why (Err _) = Stopped es old new (halt_of path why)

-- Events ran, up to the rest of them: what runs or stops behind them does so as a whole.
pub record GoesOn {N S A : ℕ} (whole rest : List Event) (old new : Writer N S A) : Type 0 where
  pub runs : (end : State) → Run rest (state_of new) end → Run whole (state_of old) end
  pub stops : (end : State) (h : Halt) → Stops (class_of S A) rest (state_of new) end h → Stops (class_of S A) whole (state_of old) end h
  pub same_buffer : new.cursor.buf.ghost_name ≡ old.cursor.buf.ghost_name

-- With Ok the events ran up to the rest that the answer tells. Else they stop, as above.
abbrev pub PacksTo : {R : Type 0} {N S A : ℕ} → (whole : List Event) → (rest : R → List Event) → (old new : Writer N S A) → (path : List ℕ) → (why : HaltData) → Result R Halted → Type 0
PacksTo whole rest old new path why (Ok x) = GoesOn whole (rest x) old new
PacksTo whole rest old new path why (Err _) = Stopped whole old new (halt_of path why)
