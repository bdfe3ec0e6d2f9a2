-- What the calls inside do.
use Rattle.std.specs.Prelude.{◌≡◌, ℕ, ◌+◌, ◌*◌, ◌<◌, ◌≤◌, Bool, true, false, if◌then◌else◌, List, [], ◌++◌, length, Option, Some, None, Result, Ok, Err}
use Rattle.acn_grammar.specs.Faults.{fault_of}
use Rattle.acn_grammar.specs.Grammar.{Grammar, Data}
use Rattle.acn_grammar.specs.Interval.{span}
use Rattle.acn_grammar.specs.declared.fault.Fault.{Fault}
use Rattle.acn_grammar.specs.declared.fault.Reason.{Reason}
use Rattle.acn_grammar.specs.declared.fault.Refuse.{Refuse}
use Rattle.acn_grammar.specs.declared.fault.Refuse.TheVariants.{Bad}
use Rattle.acn_grammar.specs.declared.fault.Refuse.TheVariants as refuse
use Rattle.acn_grammar.specs.declared.fault.Reason.TheVariants.{Short}
use Rattle.acn_grammar.specs.declared.limits.TheConstants.{MOST_PACKET_BITS}
use Rattle.acn_bounds.specs.Between.{SpellingsLieBetween}
use Rattle.acn_outside.specs.Moves.{Takes, Gains}
use Rattle.acn_stream.specs.Decoding.{ShowEnds}
use Rattle.acn_stream.specs.Recording.{IsPacket, Recording, Shown, texts, IsStuck}
use Rattle.acn_stream.specs.declared.packets.Pause.{Pause}
use Rattle.acn_stream.specs.declared.packets.Pause.TheVariants as pause
use Rattle.acn_stream.specs.declared.stream_fault.StreamFault.{StreamFault}
use Rattle.acn_stream.specs.declared.stream_fault.StreamFault.TheVariants.{Packet, OutputFault, EmptyPacket}
use Rattle.acn_supply.specs.Reading.{Supplied}
use Rattle.acn_supply.specs.declared.window.TheConstants.{MOST_IN_HAND}

-- what is known of the grammar: each packet has a bit, and none is too long
pub record IsBounded (g : Grammar) : Type 0 where
  pub some : 0 < (span g).least
  pub few : (span g).greatest ≤ MOST_PACKET_BITS
  pub between : SpellingsLieBetween g (span g)

abbrev pub is_short : Reason → Bool
is_short Short = true
is_short _ = false

-- One packet was taken of what was in hand behind so many, and its text was added.
pub record TakesOne (g : Grammar) (shown : Shown) (count : ℕ) (before after : Supplied) (old new : List ℕ) : Type 0 where
  pub value : Data
  pub piece : List ℕ
  pub packet : IsPacket g value piece
  pub some : 0 < length piece
  pub cut : before.hand ≡ piece ++ after.hand
  pub left : after.left ≡ before.left
  pub added : new ≡ old ++ shown (count + 1) value piece

-- Packets were taken of what was in hand behind so many, and their text was added.
pub record TakesMany (g : Grammar) (shown : Shown) (before after : Supplied) (old new : List ℕ) (count counted : ℕ) : Type 0 where
  pub values : List Data
  pub packets : List ℕ
  pub recording : Recording g values packets
  pub few : length values ≤ length packets
  pub cut : before.hand ≡ packets ++ after.hand
  pub left : after.left ≡ before.left
  pub added : new ≡ old ++ texts g shown (count + 1) values packets recording
  pub all : counted ≡ count + length values

-- why no more is taken of these bytes
abbrev pub Pauses : Grammar → List ℕ → Pause → Type 0
Pauses g hand pause.Full = Unit {0}
Pauses g hand (pause.Wants None) = hand ≡ []
Pauses g hand (pause.Wants (Some fault)) = IsStuck g hand (fault_of fault) × (is_short fault.reason ≡ true) × (length hand < MOST_IN_HAND)
Pauses g hand (pause.Refused fault) = IsStuck g hand (fault_of fault) × (is_short fault.reason ≡ false)
Pauses g hand pause.NoMemory = Unit {0}

-- bytes that no packet begins are left for more, or for good
abbrev pub pause_of : Refuse → Pause
pause_of (Bad fault) = if is_short fault.reason then pause.Wants (Some fault) else pause.Refused fault
pause_of refuse.NoMemory = pause.NoMemory

-- another reason than a full block
abbrev pub NotFull : Pause → Type 0
NotFull pause.Full = ⊥
NotFull _ = Unit {0}

-- a packet was taken, or it is said why not
abbrev pub StepsOn : Grammar → Shown → (count : ℕ) → Supplied → Supplied → List ℕ → List ℕ → Result (Unit {0}) Pause → Type 0
StepsOn g shown count before after old new (Ok u) = TakesOne g shown count before after old new
StepsOn g shown count before after old new (Err why) = (after ≡ before) × (new ≡ old) × Pauses g before.hand why × NotFull why

-- Showing packets came so far: of the input packets of values were taken, and what is in hand. The output gained their text.
pub record SoFar (g : Grammar) (shown : Shown) (limit : ℕ) (i i' o o' : Option (List ℕ)) (supply : Supplied) (count : ℕ) : Type 0 where
  pub values : List Data
  pub packets : List ℕ
  pub recording : Recording g values packets
  pub few : length values ≤ length packets
  pub taken : Takes i i' (packets ++ supply.hand)
  pub counted : supply.left + length (packets ++ supply.hand) ≡ limit
  pub all : length values ≡ count
  pub written : Gains o o' (texts g shown 1 values packets recording)

-- Reading on is counted down by this.
abbrev pub ahead : Supplied → ℕ
ahead s = 2 * s.left + length s.hand

-- it goes on with more in hand, or has ended
abbrev pub GoesOn : Grammar → Shown → (limit : ℕ) → (i i' o o' : Option (List ℕ)) → (before after : Supplied) → (count : ℕ) → Option (Result ℕ StreamFault) → Type 0
GoesOn g shown limit i i' o o' before after count None = SoFar g shown limit i i' o o' after count × (ahead after < ahead before)
GoesOn g shown limit i i' o o' before after count (Some result) = ShowEnds g (texts g shown 1) limit i i' o o' result

-- how reading doesn't end
abbrev pub EndsReading : Option (Result ℕ StreamFault) → Type 0
EndsReading (Some (Err OutputFault)) = ⊥
EndsReading (Some (Err EmptyPacket)) = ⊥
EndsReading _ = Unit {0}

-- at the end of the input
abbrev pub end_of : ℕ → Option Fault → Result ℕ StreamFault
end_of count None = Ok count
end_of count (Some fault) = Err (Packet (count + 1) fault)
