-- Laws of events, as contracts name them.
use Rattle.std.specs.Prelude.{◌≡◌, ℕ, ◌+◌, ◌≤◌, Bool, true, false, List, [], ◌∷◌, ◌++◌, Some, drop, length, take}
use Rattle.std.specs.List.{flat_map}
use Rattle.acn_bits.specs.Overwrite.{Gap}
use Rattle.acn_fill.specs.Table.{Table, begun, gap_at}
use Rattle.acn_grammar.specs.AsksOn.{asks_on}
use Rattle.acn_grammar.specs.Front.{IsWritten}
use Rattle.acn_grammar.specs.Grammar.{Grammar, Data}
use Rattle.acn_grammar.specs.Length.{bit_length}
use Rattle.acn_grammar.specs.Meets.{Meets, conflict, content_size}
use Rattle.acn_grammar.specs.Refused.{Refused}
use Rattle.acn_grammar.specs.Shaped.{Shaped}
use Rattle.acn_packet_laws.specs.Laws.{IsAccepted}
use Rattle.acn_events.specs.Event.{Event, Frame, State, Halt, breaks, unmet, miscounts, full, lost}
use Rattle.acn_events.specs.Events.{events}
use Rattle.acn_events.specs.Located.{field_at}
use Rattle.acn_events.specs.Marks.{AllRight, ask_on, ends, first_mark}
use Rattle.acn_events.specs.Steps.{Class, Run, Stops}

-- what runs behind what ran, or stops behind it, runs or stops as a whole
pub record RunsJoin : Type 0 where
  pub run : (a b : List Event) (m n o : State) → Run a m n → Run b n o → Run (a ++ b) m o
  pub stop : (c : Class) (a b : List Event) (m n o : State) (h : Halt) → Run a m n → Stops c b n o h → Stops c (a ++ b) m o h
  pub front : (c : Class) (a b : List Event) (m n : State) (h : Halt) → Stops c a m n h → Stops c (a ++ b) m n h

-- the events of a value ask of each slot what the value does
abbrev pub EventsAsk : Type 0
EventsAsk = (root g : Grammar) (s : ℕ) (path : List ℕ) (d : Data) → flat_map (ask_on s) (events root g path d) ≡ asks_on root s g d

-- The events of a value of an accepted tree come in good order, from where nothing is begun. They end behind as many bits as the
-- value has, where nothing is begun.
pub record InOrder (root : Grammar) (d : Data) : Type 0 where
  pub right : AllRight root (events root root [] d) first_mark
  pub at_end : (ends (events root root [] d) first_mark).at ≡ 0 + bit_length root 0 d
  pub outermost : (ends (events root root [] d) first_mark).outer ≡ []
  pub none_known : (s : ℕ) → (ends (events root root [] d) first_mark).known s ≡ false

abbrev pub EventsAreInOrder : Type 0
EventsAreInOrder = (root : Grammar) (d : Data) → IsAccepted root → Shaped root d → InOrder root d

abbrev pub empty_table : Table
empty_table = record { spots = []; gaps = []; avoided = [] }

-- a writer at the first bit of a buffer, and nothing begun
abbrev pub first_state : List Bool → State
first_state buf = record { buf = buf; place = 0; table = empty_table; leaves = []; contents = [] }

-- a value whose events run can be written
abbrev pub RunsAreWritable : Type 0
RunsAreWritable = (root : Grammar) (d : Data) (buf : List Bool) (m : State) → IsAccepted root → Shaped root d → Run (events root root [] d) (first_state buf) m → (bs : List Bool) × IsWritten root d bs

-- what a halt says of a value that meets its constraints
abbrev pub IsRefused : (root : Grammar) → Data → Halt → Type 0
IsRefused root d breaks = ⊥
IsRefused root d (unmet path s earlier wanted) = Refused root d (record { path = path; why = conflict (field_at root path s) earlier wanted })
IsRefused root d (miscounts path n) = Refused root d (record { path = path; why = content_size n })
IsRefused root d full = Unit {0}
IsRefused root d lost = ⊥

-- Where the events of a value that meets its constraints stop in a buffer with room for it, the value is refused for that; and
-- nothing comes that may not come.
abbrev pub StopsAreRefusals : Type 0
StopsAreRefusals =
    (c : Class) (root : Grammar) (d : Data) (buf : List Bool) (n : State) (h : Halt) → IsAccepted root → Meets root d → bit_length root 0 d ≤ length buf → Stops c (events root root [] d) (first_state buf) n h → IsRefused root d h

-- the writer stands behind these bits, which begin the buffer, with what stood behind them, and nothing is begun
pub record IsInPlace (bs buf : List Bool) (m : State) : Type 0 where
  pub front : take m.place m.buf ≡ bs
  pub long : m.place ≡ length bs
  pub behind : drop m.place m.buf ≡ drop m.place buf
  pub none_begun : (s : ℕ) → begun m.table s ≡ false
  pub outermost : m.contents ≡ []

-- Where the events of a value of an accepted tree have run, its packet stands at the front of the buffer.
abbrev pub EventsWriteThePacket : Type 0
EventsWriteThePacket =
    (root : Grammar) (d : Data) (buf bs : List Bool) (m : State) → IsAccepted root → Shaped root d → Run (events root root [] d) (first_state buf) m → IsWritten root d bs → length m.table.gaps ≡ length m.table.spots → IsInPlace bs buf m

-- the holes before contents lie behind a place
abbrev pub AllPassed : List Frame → (place : ℕ) → Type 0
AllPassed [] place = Unit {0}
AllPassed (f ∷ fs) place = ((g : Gap) → f.gap ≡ Some g → g.place + g.width ≤ place) × AllPassed fs place

-- each hole that is open lies behind the writer
pub record HolesPassed (m : State) : Type 0 where
  pub slots : (s : ℕ) (g : Gap) → begun m.table s ≡ true → gap_at m.table s ≡ Some (Some g) → g.place + g.width ≤ m.place
  pub contents : AllPassed m.contents m.place

-- so it is where the events of a value stop
abbrev pub StopsPassTheirHoles : Type 0
StopsPassTheirHoles =
    (c : Class) (root : Grammar) (d : Data) (buf : List Bool) (n : State) (h : Halt) → IsAccepted root → Shaped root d → Stops c (events root root [] d) (first_state buf) n h → HolesPassed n

-- the writer stands within so many bits, with what stood behind it
pub record KeepsWhatIsLater (long : ℕ) (buf : List Bool) (m : State) : Type 0 where
  pub within : m.place ≤ long
  pub behind : drop m.place m.buf ≡ drop m.place buf

-- so it is where the events of a value stop, within the bits that the value has
abbrev pub StopsKeepWhatIsLater : Type 0
StopsKeepWhatIsLater =
    (c : Class) (root : Grammar) (d : Data) (buf : List Bool) (n : State) (h : Halt) → IsAccepted root → Shaped root d → Stops c (events root root [] d) (first_state buf) n h → KeepsWhatIsLater (bit_length root 0 d) buf n
