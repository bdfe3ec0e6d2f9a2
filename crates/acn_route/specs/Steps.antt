-- What the calls inside do.
use Rattle.std.specs.Prelude.{◌≡◌, ℕ, ◌+◌, ◌*◌, ◌<◌, ◌≤◌, List, [], ◌∷◌, ◌++◌, length, Option, Some, None, Result, Ok, Err}
use Rattle.std.specs.List.{concat, AllByRecursion}
use Rattle.acn_outside.specs.Moves.{Takes, Gains}
use Rattle.acn_route.specs.Counting.{total}
use Rattle.acn_route.specs.Listed.{Listed}
use Rattle.acn_route.specs.Routing.{Line, IsLine, RouteEnds, packets_of, text_of, counts_of}
use Rattle.acn_route.specs.Space.{IsSpacePacket, IsUnfinished}
use Rattle.acn_route.specs.declared.count.LineKind.{LineKind}
use Rattle.acn_route.specs.declared.count.RouteCount.{RouteCount}
use Rattle.acn_route.specs.declared.packets.Pause.{Pause}
use Rattle.acn_route.specs.declared.packets.Pause.TheVariants as pause
use Rattle.acn_route.specs.declared.route_fault.RouteFault.{RouteFault}
use Rattle.acn_route.specs.declared.route_fault.RouteFault.TheVariants.{Cut, OutputFault}
use Rattle.acn_supply.specs.Reading.{Supplied}
use Rattle.acn_supply.specs.declared.window.TheConstants.{MOST_IN_HAND}

-- One packet was taken of what was in hand, and its line of this kind was added.
pub record TakesOne (routes : List Listed) (before after : Supplied) (old new : List ℕ) (kind : LineKind) : Type 0 where
  pub line : Line
  pub is : IsLine routes line
  pub packet : IsSpacePacket line.packet
  pub some : 0 < length line.packet
  pub said : line.kind ≡ kind
  pub cut : before.hand ≡ line.packet ++ after.hand
  pub left : after.left ≡ before.left
  pub added : new ≡ old ++ line.text

-- Packets were taken of what was in hand, and their lines were added and counted.
pub record TakesMany (routes : List Listed) (before after : Supplied) (old new : List ℕ) (counts now : RouteCount) : Type 0 where
  pub lines : List Line
  pub each : AllByRecursion (IsLine routes) lines
  pub packets : AllByRecursion IsSpacePacket (packets_of lines)
  pub few : length lines + length after.hand ≤ length before.hand
  pub cut : before.hand ≡ concat (packets_of lines) ++ after.hand
  pub left : after.left ≡ before.left
  pub added : new ≡ old ++ text_of lines
  pub all : (earlier : List Line) → counts ≡ counts_of earlier → now ≡ counts_of (earlier ++ lines)
  pub most : total now ≡ total counts + length lines

-- why no more is taken of these bytes
abbrev pub Pauses : List ℕ → Pause → Type 0
Pauses hand pause.Full = Unit {0}
Pauses hand pause.Wants = IsUnfinished hand × (length hand < MOST_IN_HAND)
Pauses hand pause.NoMemory = Unit {0}

-- another reason than a full block
abbrev pub NotFull : Pause → Type 0
NotFull pause.Full = ⊥
NotFull _ = Unit {0}

-- a packet was taken, or it is said why not
abbrev pub StepsOn : List Listed → Supplied → Supplied → List ℕ → List ℕ → Result LineKind Pause → Type 0
StepsOn routes before after old new (Ok kind) = TakesOne routes before after old new kind
StepsOn routes before after old new (Err why) = (after ≡ before) × (new ≡ old) × Pauses before.hand why × NotFull why

-- Routing came so far: of the input the packets of lines were taken, and what is in hand. The output gained the lines.
pub record SoFar (routes : List Listed) (limit : ℕ) (i i' o o' : Option (List ℕ)) (supply : Supplied) (counts : RouteCount) : Type 0 where
  pub lines : List Line
  pub each : AllByRecursion (IsLine routes) lines
  pub packets : AllByRecursion IsSpacePacket (packets_of lines)
  pub few : length lines + length supply.hand + supply.left ≤ limit
  pub taken : Takes i i' (concat (packets_of lines) ++ supply.hand)
  pub counted : supply.left + length (concat (packets_of lines) ++ supply.hand) ≡ limit
  pub all : counts ≡ counts_of lines
  pub most : total counts ≡ length lines
  pub written : Gains o o' (text_of lines)

-- Reading on is counted down by this.
abbrev pub ahead : Supplied → ℕ
ahead s = 2 * s.left + length s.hand

-- it goes on with more in hand, or has ended
abbrev pub GoesOn : List Listed → (limit : ℕ) → (i i' o o' : Option (List ℕ)) → (before after : Supplied) → RouteCount → Option (Result RouteCount RouteFault) → Type 0
GoesOn routes limit i i' o o' before after counts None = SoFar routes limit i i' o o' after counts × (ahead after < ahead before)
GoesOn routes limit i i' o o' before after counts (Some result) = RouteEnds routes limit i i' o o' result

-- how reading doesn't end
abbrev pub EndsReading : Option (Result RouteCount RouteFault) → Type 0
EndsReading (Some (Err OutputFault)) = ⊥
EndsReading _ = Unit {0}

-- at the end of the input
abbrev pub end_of : List ℕ → RouteCount → Result RouteCount RouteFault
end_of [] counts = Ok counts
end_of (b ∷ bytes) counts = Err (Cut (total counts + 1) (length (b ∷ bytes)))
