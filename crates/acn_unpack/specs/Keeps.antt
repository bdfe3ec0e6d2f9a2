-- What a walk over steps keeps, and why it stops. (This profile's own.)
use Rattle.std.specs.Prelude.{◌≡◌, ◌<◌, ◌≤◌, ℕ, Bool, true, List, length, Option, Some, None, ◌⊎◌}
use Rattle.acn_grammar.specs.Env.{Env, at_slot}
use Rattle.acn_grammar.specs.Tree.{holds}
use Rattle.acn_grammar.specs.Sound.{SaysSlot}
use Rattle.acn_reads.specs.Decoded.{NodeStands, Within}
use Rattle.acn_grammar.specs.Fails.{seen}
use Rattle.acn_grammar.specs.Faults.{reason_of}
use Rattle.acn_grammar.specs.Grammar.{Grammar}
use Rattle.acn_grammar.specs.LeafFails.{Reason, short}
use Rattle.acn_grammar.specs.declared.limits.TheConstants.{MOST_OPEN_SLOTS}
use Rattle.acn_reads.specs.declared.stop.Stop.{Stop}
use Rattle.acn_reads.specs.declared.stop.Stop.TheVariants.{Fails as Failed, NoMemory}

-- room may be wanting: for what is kept, or in a table that has fewer places than slots may be open
abbrev pub MayLack : (takes : Bool) → (places : ℕ) → Type 0
MayLack takes places = (takes ≡ true) ⊎ (places < MOST_OPEN_SLOTS)

-- the fault of a stop; or, where it is for want of room, that room may be wanting
abbrev pub Halts : (lack : Type 0) → Stop → (Reason → (at : ℕ) → Type 0) → Type 0
Halts lack (Failed reason at) said = said (reason_of reason) at
Halts lack NoMemory said = lack

-- the stop of a node behind which bits are wanting
abbrev pub IsShort : (inside : Bool) → (from : ℕ) → (few : Type 0) → Stop → Type 0
IsShort inside from few (Failed reason at) = (at ≡ from) × (reason_of reason ≡ seen inside short) × few
IsShort inside from few NoMemory = ⊥

-- a slot without a number, at home round a place with no more slots than may be open, of which the numbers are
pub record IsFree (slot : ℕ) (read : Env) : Type 0 where
  pub around : List ℕ
  pub few : length around ≤ MOST_OPEN_SLOTS
  pub mine : holds around slot ≡ true
  pub none : at_slot read slot ≡ None
  pub within : Within around read

-- a stop for want of places in a table
abbrev pub IsFull : (places : ℕ) → Stop → Type 0
IsFull places (Failed reason at) = ⊥
IsFull places NoMemory = places < MOST_OPEN_SLOTS

-- a component whose number may be a slot's, with no more slots at home round it than may be open
pub record OwnStands (root : Grammar) (k : ℕ) (g : Grammar) (slot : Option ℕ) (read : Env) (around : List ℕ) : Type 0 where
  pub stands : NodeStands root k g read around
  pub says : (s : ℕ) → slot ≡ Some s → SaysSlot root around stands.known s g
  pub few : length around ≤ MOST_OPEN_SLOTS
