-- The law of the largest table of open slots, as a contract names it.
use Rattle.std.specs.Prelude.{Bool, List, []}
use Rattle.acn_events.specs.Event.{State, full}
use Rattle.acn_events.specs.Events.{events}
use Rattle.acn_events.specs.Laws.{first_state}
use Rattle.acn_events.specs.Steps.{Class, Stops}
use Rattle.acn_fill.specs.declared.spot.TheConstants.{MOST_AVOIDED_IN_ALL}
use Rattle.acn_grammar.specs.Grammar.{Grammar, Data}
use Rattle.acn_grammar.specs.Shaped.{Shaped}
use Rattle.acn_grammar.specs.declared.limits.TheConstants.{MOST_OPEN_SLOTS}
use Rattle.acn_packet_laws.specs.Laws.{IsAccepted}

-- the table with room for as many slots as can be open at once in a packet
abbrev pub largest : Class
largest = record { slots = MOST_OPEN_SLOTS; avoided = MOST_AVOIDED_IN_ALL }

-- the events of a value of an accepted tree never stop because the largest table is full
abbrev pub LargestTablesHaveRoom : Type 0
LargestTablesHaveRoom = (root : Grammar) (d : Data) (buf : List Bool) (n : State) → IsAccepted root → Shaped root d → Stops largest (events root root [] d) (first_state buf) n full → ⊥
