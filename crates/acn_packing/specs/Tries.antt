-- What is said of a value that is packed with a table of one size. (This profile's own.)
use Rattle.std.specs.Prelude.{◌≡◌, ℕ, ◌*◌, ◌≤◌, Bool, true, false, List, [], drop, length, take, Option, Some, None, option_map}
use Rattle.acn_num.specs.Bits.{filled, octets}
use Rattle.acn_grammar.specs.Faults.{ask_of}
use Rattle.acn_grammar.specs.Front.{IsWritten}
use Rattle.acn_grammar.specs.Grammar.{Grammar, Data}
use Rattle.acn_grammar.specs.Interval.{span}
use Rattle.acn_grammar.specs.Length.{bit_length}
use Rattle.acn_grammar.specs.Meets.{Unfit, conflict, content_size}
use Rattle.acn_events.specs.Event.{Halt, State}
use Rattle.acn_events.specs.Events.{events}
use Rattle.acn_events.specs.Laws.{HolesPassed, IsInPlace, KeepsWhatIsLater, first_state}
use Rattle.acn_events.specs.Located.{field_at}
use Rattle.acn_events.specs.Steps.{Class, Stops}
use Rattle.acn_writer.specs.Answers.{state_of}
use Rattle.acn_writer.specs.Halts.{class_of, halt_of}
use Rattle.acn_writer.specs.declared.halt.Halt.{Halt as HaltData}
use Rattle.acn_writer.specs.declared.halt.Halt.TheVariants.{Unmet, Miscounts, Full}
use Rattle.acn_writer.specs.declared.writer.Writer.{Writer}

-- The walk over the whole value.

-- what is written for the value begins the writer's buffer, and nothing is begun
pub record PacksWhole {N S A : ℕ} (root : Grammar) (d : Data) (old new : Writer N S A) : Type 0 where
  pub spelling : List Bool
  pub written : IsWritten root d spelling
  pub in_place : IsInPlace spelling (state_of old).buf (state_of new)

-- its events stop at this halt, behind all holes that are open
pub record HaltsWhole {N S A : ℕ} (root : Grammar) (d : Data) (h : Halt) (old new : Writer N S A) : Type 0 where
  pub stops : Stops (class_of S A) (events root root [] d) (first_state (state_of old).buf) (state_of new) h
  pub passed : HolesPassed (state_of new)
  pub later : KeepsWhatIsLater (bit_length root 0 d) (state_of old).buf (state_of new)

-- A try, over the bits of its buffer.

-- n bits are written for the value; they begin the buffer, with zeros that fill the last octet, and what is behind is as before
pub record StandsInFront (root : Grammar) (d : Data) (n : ℕ) (before after : List Bool) : Type 0 where
  pub spelling : List Bool
  pub written : IsWritten root d spelling
  pub counted : n ≡ length spelling
  pub first : take (8 * octets n) after ≡ filled spelling
  pub later : drop (8 * octets n) after ≡ drop (8 * octets n) before

-- the events of the value stop at this halt in a buffer of so many bits, and what is behind as many as the value has is as before
pub record HaltsTry (c : Class) (size : ℕ) (root : Grammar) (d : Data) (h : Halt) (before after : List Bool) : Type 0 where
  pub long : length before ≡ size
  pub end : State
  pub stops : Stops c (events root root [] d) (first_state before) end h
  pub later : drop (bit_length root 0 d) after ≡ drop (bit_length root 0 d) before

-- The end of all tries.

abbrev pub is_full : HaltData → Bool
is_full Full = true
is_full _ = false

-- the events of the value stop at this halt in some buffer with room for the greatest packet, and not for want of room in the table
pub record EndsTry (root : Grammar) (d : Data) (path : List ℕ) (halt : HaltData) : Type 0 where
  pub class : Class
  pub buf : List Bool
  pub end : State
  pub stops : Stops class (events root root [] d) (first_state buf) end (halt_of path halt)
  pub room : (span root).greatest ≤ length buf
  pub other : is_full halt ≡ false

-- what a halt says of a value that meets its constraints
abbrev pub said_by : Grammar → (path : List ℕ) → HaltData → Option Unfit
said_by root path (Unmet slot earlier wanted) = Some (record { path = path; why = conflict (field_at root path slot) (option_map ask_of earlier) (ask_of wanted) })
said_by root path (Miscounts n) = Some (record { path = path; why = content_size n })
said_by root path _ = None
