-- The halts of events, as the calls tell them. (This profile's own.)
use Rattle.std.specs.Prelude.{◌≡◌, ℕ, List, option_map}
use Rattle.acn_fill.specs.Table.{Table}
use Rattle.acn_grammar.specs.Asks.{Ask}
use Rattle.acn_grammar.specs.Faults.{ask_of}
use Rattle.acn_events.specs.Event as event
use Rattle.acn_events.specs.Event.{State, wants}
use Rattle.acn_events.specs.Steps.{Class, Halts}
use Rattle.acn_writer.specs.declared.halt.Halt.{Halt}
use Rattle.acn_writer.specs.declared.halt.Halt.TheVariants.{Breaks, Unmet, Miscounts, Full, Lost}

-- why an event of the node at a path halts
abbrev pub halt_of : (path : List ℕ) → Halt → event.Halt
halt_of path Breaks = event.breaks
halt_of path (Unmet slot earlier wanted) = event.unmet path slot (option_map ask_of earlier) (ask_of wanted)
halt_of path (Miscounts n) = event.miscounts path n
halt_of path Full = event.full
halt_of path Lost = event.lost

-- so many slots and numbers to avoid have room
abbrev pub class_of : (slots avoided : ℕ) → Class
class_of slots avoided = record { slots = slots; avoided = avoided }

-- why a slot isn't asked, in whatever state has this table
abbrev pub AsksHalt : (slots avoided : ℕ) → (s : ℕ) → Ask → Table → Halt → Type 0
AsksHalt slots avoided s a t why = (path : List ℕ) (m : State) → m.table ≡ t → Halts (class_of slots avoided) (wants path s a) m (halt_of path why)
