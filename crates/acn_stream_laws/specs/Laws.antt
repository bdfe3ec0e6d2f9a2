-- Laws of streams, as contracts name them. (Recordings and lines are this profile's own.)
use Rattle.std.specs.Prelude.{◌≡◌, ℕ, ◌+◌, ◌<◌, ◌≤◌, Bool, List, [], ◌∷◌, ◌++◌, length, Option, Some, Result, Ok, Err, IsErrOf, IsTrue}
use Rattle.std.specs.List.{AllByRecursion}
use Rattle.acn_num.specs.Bits.{bits}
use Rattle.acn_grammar.specs.Fails.{Fault as FailsWith}
use Rattle.acn_grammar.specs.Faults.{fault_of, unfit_of}
use Rattle.acn_grammar.specs.Grammar.{Grammar, Data}
use Rattle.acn_grammar.specs.Interval.{span}
use Rattle.acn_grammar.specs.Meets.{Unfit as UnfitWith}
use Rattle.acn_grammar.specs.Refused.{Refused}
use Rattle.acn_grammar.specs.Shaped.{are_octets}
use Rattle.acn_json.specs.Reads.{LineFault}
use Rattle.acn_outside.specs.Moves.{Gains}
use Rattle.acn_outside.specs.Whole.{GainsFront}
use Rattle.acn_packet_laws.specs.Laws.{IsAccepted}
use Rattle.acn_stream.specs.Decoding.{DecodeEnds, ShowEnds}
use Rattle.acn_stream.specs.Encoding.{AreLines, EncodeEnds, Give, IsLine, Packets, line_fault_of, values_in}
use Rattle.acn_stream.specs.Recording.{IsStuck, Recording, Text, lines}
use Rattle.acn_stream.specs.declared.stream_fault.StreamFault.{StreamFault}
use Rattle.acn_stream.specs.declared.stream_fault.StreamFault.TheVariants.{LineTooLong, EmptyPacket, Packet, BadLine, Unfit, InputFault, OutputFault, NoMemory}
use Rattle.acn_supply.specs.Cutting.{IsOneLine}
use Rattle.acn_supply.specs.declared.lines.TheConstants.{MOST_LINE_BYTES}

-- How a stream ended of which nothing was refused: the output gained these bytes, which are of so many packets; or a read or a write failed, or memory ran out, and it gained a front of them.
abbrev pub NoRefusal : (o o' : Option (List ℕ)) (bytes : List ℕ) (packets : ℕ) → Result ℕ StreamFault → Type 0
NoRefusal o o' bytes packets (Ok count) = (count ≡ packets) × Gains o o' bytes
NoRefusal o o' bytes packets (Err InputFault) = GainsFront o o' bytes
NoRefusal o o' bytes packets (Err OutputFault) = GainsFront o o' bytes
NoRefusal o o' bytes packets (Err NoMemory) = GainsFront o o' bytes
NoRefusal o o' bytes packets (Err _) = ⊥

-- Recordings.

-- bytes are a recording of at most one list of values, where each packet has a bit
abbrev pub OneRecording : Type 0
OneRecording = (g : Grammar) (values others : List Data) (bytes : List ℕ) → IsAccepted g → 0 < (span g).least → Recording g values bytes → Recording g others bytes → others ≡ values

-- An input is a recording of values within the limit, and each packet has a bit: decoding refuses nothing, and writes the lines of the values. Only where a packet may have no bit is `EmptyPacket` answered.
abbrev pub RecordingsAreDecoded : Type 0
RecordingsAreDecoded =
    (g : Grammar) (limit : ℕ) (values : List Data) (bytes : List ℕ) (i' o o' : Option (List ℕ)) (result : Result ℕ StreamFault) → IsAccepted g → 0 < (span g).least → Recording g values bytes → length bytes ≤ limit
    → DecodeEnds g limit (Some bytes) i' o o' result → (IsErrOf result EmptyPacket → (span g).least ≡ 0) → NoRefusal o o' (lines g values) (length values) result

-- How showing the packets of a recording ended of which nothing was refused: the output gained their text, or a read or a write failed, or memory ran out.
abbrev pub NoShowRefusal : (g : Grammar) → Text g → List Data → (bytes : List ℕ) → (o o' : Option (List ℕ)) → Result ℕ StreamFault → Type 0
NoShowRefusal g text values bytes o o' (Ok count) = (count ≡ length values) × (recording : Recording g values bytes) × Gains o o' (text values bytes recording)
NoShowRefusal g text values bytes o o' (Err InputFault) = Unit {0}
NoShowRefusal g text values bytes o o' (Err OutputFault) = Unit {0}
NoShowRefusal g text values bytes o o' (Err NoMemory) = Unit {0}
NoShowRefusal g text values bytes o o' (Err _) = ⊥

-- An input is a recording of values within the limit, and each packet has a bit: showing refuses nothing, and writes the text of the packets.
abbrev pub RecordingsAreShown : Type 0
RecordingsAreShown =
    (g : Grammar) (text : Text g) (limit : ℕ) (values : List Data) (bytes : List ℕ) (i' o o' : Option (List ℕ)) (result : Result ℕ StreamFault) → IsAccepted g → 0 < (span g).least → Recording g values bytes → length bytes ≤ limit
    → ShowEnds g text limit (Some bytes) i' o o' result → (IsErrOf result EmptyPacket → (span g).least ≡ 0) → NoShowRefusal g text values bytes o o' result

-- These bytes are packets of the values, and behind them stands what no packet begins, up to their end: it fails with this, and with nothing else.
pub record IsStuckBehind (g : Grammar) (values : List Data) (bytes : List ℕ) (fault : FailsWith) : Type 0 where
  pub packets : List ℕ
  pub rest : List ℕ
  pub whole : bytes ≡ packets ++ rest
  pub recording : Recording g values packets
  pub stuck : IsStuck g rest fault

-- How a stream ended of which the packet of this number was refused for this: it says so, or a read or a write failed, or memory ran out.
abbrev pub RefusesPacket : (number : ℕ) → FailsWith → Result ℕ StreamFault → Type 0
RefusesPacket number fault (Err (Packet k f)) = (k ≡ number) × (fault_of f ≡ fault)
RefusesPacket number fault (Err InputFault) = Unit {0}
RefusesPacket number fault (Err OutputFault) = Unit {0}
RefusesPacket number fault (Err NoMemory) = Unit {0}
RefusesPacket number fault _ = ⊥

-- An input within the limit is packets, each of which has a bit, and something behind them that no packet begins: that one is refused, and none before it.
abbrev pub StuckRecordingsAreRefused : Type 0
StuckRecordingsAreRefused =
    (g : Grammar) (text : Text g) (limit : ℕ) (values : List Data) (bytes : List ℕ) (fault : FailsWith) (i' o o' : Option (List ℕ)) (result : Result ℕ StreamFault) → IsAccepted g → 0 < (span g).least → IsStuckBehind g values bytes fault → length bytes ≤ limit
    → ShowEnds g text limit (Some bytes) i' o o' result → (IsErrOf result EmptyPacket → (span g).least ≡ 0) → RefusesPacket (length values + 1) fault result

-- Lines.

-- nothing refuses the value
abbrev pub IsNotRefused : Grammar → Data → Type 0
IsNotRefused g d = (why : UnfitWith) → Refused g d why → ⊥

-- These are the packets of the values, and how a stream ended that wrote them.
pub record WritesPackets (g : Grammar) (values : List Data) (o o' : Option (List ℕ)) (result : Result ℕ StreamFault) : Type 0 where
  pub packets : List ℕ
  pub are : Packets g values packets
  pub ends : NoRefusal o o' packets (length values) result

-- An input is lines within the limit, the last of which may lack its line feed, and none of their values is refused: encoding refuses nothing, and writes packets of the values. `EmptyPacket` is answered as above.
abbrev pub LinesAreEncoded : Type 0
LinesAreEncoded =
    (g : Grammar) (limit : ℕ) (ls : List (List ℕ)) (values : List Data) (bytes : List ℕ) (i' o o' : Option (List ℕ)) (result : Result ℕ StreamFault) → IsAccepted g → 0 < (span g).least
    → AreLines ls (bytes ++ 10 ∷ []) → Give g ls values → AllByRecursion (IsNotRefused g) values → length bytes ≤ limit
    → EncodeEnds g limit (Some bytes) i' o o' result → (IsErrOf result EmptyPacket → (span g).least ≡ 0) → WritesPackets g values o o' result

-- why a line is refused: it has too many bytes, it gives no value, or it gives one that isn't written
pub data LineRefusal : Type 0 where
  too_long : LineRefusal
  bad : LineFault → LineRefusal
  unfit : UnfitWith → LineRefusal

-- the line gives a value that is refused for this
pub record GivesRefused (g : Grammar) (line : List ℕ) (why : UnfitWith) : Type 0 where
  pub value : Data
  pub gives : values_in g line ≡ Ok (value ∷ [])
  pub refused : Refused g value why

-- more bytes of a line stand in front than a line may have
pub record BeginsTooLong (bytes : List ℕ) : Type 0 where
  pub front : List ℕ
  pub back : List ℕ
  pub whole : bytes ≡ front ++ back
  pub one : IsOneLine front
  pub many : length front ≡ MOST_LINE_BYTES + 1

-- a line stands in front, of which this holds
pub record BeginsWith (holds : List ℕ → Type 0) (bytes : List ℕ) : Type 0 where
  pub line : List ℕ
  pub behind : List ℕ
  pub whole : bytes ≡ line ++ 10 ∷ behind
  pub fits : IsLine line
  pub is : holds line

-- a line stands in front that is refused for this
abbrev pub BeginsRefused : Grammar → LineRefusal → List ℕ → Type 0
BeginsRefused g too_long bytes = BeginsTooLong bytes
BeginsRefused g (bad why) bytes = BeginsWith (λ line. values_in g line ≡ Err why) bytes
BeginsRefused g (unfit why) bytes = BeginsWith (λ line. GivesRefused g line why) bytes

-- These bytes are lines, the last of which may lack its line feed: of some in front no value is refused, and the line behind them is refused for this.
pub record IsRefusedBehind (g : Grammar) (ls : List (List ℕ)) (bytes : List ℕ) (why : LineRefusal) : Type 0 where
  pub values : List Data
  pub front : List ℕ
  pub rest : List ℕ
  pub whole : bytes ++ 10 ∷ [] ≡ front ++ rest
  pub lines : AreLines ls front
  pub give : Give g ls values
  pub none_refused : AllByRecursion (IsNotRefused g) values
  pub refused : BeginsRefused g why rest

-- How a stream ended of which the line of this number was refused for this: it says so, or a read or a write failed, or memory ran out.
abbrev pub RefusesLine : (number : ℕ) → LineRefusal → Result ℕ StreamFault → Type 0
RefusesLine number why (Err (LineTooLong k)) = (k ≡ number) × (why ≡ too_long)
RefusesLine number why (Err (BadLine k f)) = (k ≡ number) × (kept : LineFault) × (line_fault_of f ≡ Some kept) × (why ≡ bad kept)
RefusesLine number why (Err (Unfit k f)) = (k ≡ number) × (why ≡ unfit (unfit_of f))
RefusesLine number why (Err InputFault) = Unit {0}
RefusesLine number why (Err OutputFault) = Unit {0}
RefusesLine number why (Err NoMemory) = Unit {0}
RefusesLine number why _ = ⊥

-- An input within the limit is lines whose values aren't refused, and behind them a line that is: that one is named, and none before it.
abbrev pub RefusedLinesAreNamed : Type 0
RefusedLinesAreNamed =
    (g : Grammar) (limit : ℕ) (ls : List (List ℕ)) (bytes : List ℕ) (why : LineRefusal) (i' o o' : Option (List ℕ)) (result : Result ℕ StreamFault) → IsAccepted g → 0 < (span g).least → IsRefusedBehind g ls bytes why → length bytes ≤ limit
    → EncodeEnds g limit (Some bytes) i' o o' result → (IsErrOf result EmptyPacket → (span g).least ≡ 0) → RefusesLine (length ls + 1) why result

-- packets of a list of values have one list of bits, so as octets they are one list
abbrev pub OnePackets : Type 0
OnePackets =
    (g : Grammar) (values : List Data) (packets others : List ℕ) → IsAccepted g → Packets g values packets → Packets g values others
    → (bits others ≡ bits packets) × (IsTrue (are_octets packets) → IsTrue (are_octets others) → others ≡ packets)
