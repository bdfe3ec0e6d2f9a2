-- How encoding lines ends. (This profile's own.)
use Rattle.std.specs.Prelude.{◌≡◌, ℕ, ◌+◌, ◌≤◌, ◌==◌, ◌||◌, Bool, if◌then◌else◌, List, [], ◌∷◌, ◌++◌, length, Option, Some, None, Result, Ok, Err}
use Rattle.std.specs.List.{list_all}
use Rattle.acn_num.specs.Bits.{bits, filled}
use Rattle.acn_grammar.specs.Code.{Mode}
use Rattle.acn_grammar.specs.Faults.{unfit_of}
use Rattle.acn_grammar.specs.Front.{IsWritten}
use Rattle.acn_grammar.specs.Grammar.{Grammar, Data}
use Rattle.acn_grammar.specs.Meets as meets
use Rattle.acn_grammar.specs.Refused.{Refused}
use Rattle.acn_grammar.specs.Spell.{Spell}
use Rattle.acn_grammar.specs.declared.unfit.Unfit.{Unfit as UnfitValue}
use Rattle.acn_json.specs.Reads.{LineFault, not_json, shape, unknown_member, missing_member, made, line_gives}
use Rattle.acn_json.specs.declared.json_fault.JsonFault.{JsonFault}
use Rattle.acn_json.specs.declared.json_fault.JsonFault.TheVariants as json
use Rattle.acn_outside.specs.Moves.{Takes, Gains, IsUsedUp}
use Rattle.acn_outside.specs.Whole.{GainsFront}
use Rattle.acn_stream.specs.Recording.{Joined}
use Rattle.acn_stream.specs.declared.stream_fault.StreamFault.{StreamFault}
use Rattle.acn_stream.specs.declared.stream_fault.StreamFault.TheVariants.{LineTooLong, InputTooLong, EmptyPacket, BadLine, Unfit, InputFault, OutputFault, NoMemory}
use Rattle.acn_supply.specs.Cutting.{IsJustAhead, IsOneLine}
use Rattle.acn_supply.specs.declared.lines.TheConstants.{MOST_LINE_BYTES}
use Rattle.acn_supply.specs.declared.window.TheConstants.{MOST_IN_HAND}

-- Packets.

-- the octets of what is written for the value: its bits, and behind them the fewest zeros that make whole octets
pub record IsWrittenPacket (g : Grammar) (d : Data) (piece : List ℕ) : Type 0 where
  pub spelling : List Bool
  pub written : IsWritten g d spelling
  pub whole : bits piece ≡ filled spelling

-- the bytes are what is written for the values
abbrev pub Packets : Grammar → List Data → List ℕ → Type 0
Packets g values bytes = Joined (IsWrittenPacket g) values bytes

-- Lines.

-- no line feed is among the bytes, and there aren't too many
pub record IsLine (bytes : List ℕ) : Type 0 where
  pub one : IsOneLine bytes
  pub few : length bytes ≤ MOST_LINE_BYTES

-- the line with its line feed
pub record IsEndedLine (line piece : List ℕ) : Type 0 where
  pub fits : IsLine line
  pub whole : piece ≡ line ++ 10 ∷ []

-- the bytes are these lines, each with its line feed
abbrev pub AreLines : List (List ℕ) → List ℕ → Type 0
AreLines ls bytes = Joined IsEndedLine ls bytes

-- spaces, tabs and carriage returns alone
abbrev pub is_blank : List ℕ → Bool
is_blank line = list_all (λ b. b == 32 || b == 9 || b == 13) line

-- the values of a line: none of a blank one, else the one that it gives, or its fault
abbrev pub values_in : Grammar → List ℕ → Result (List Data) LineFault
values_in g line = if is_blank line then Ok [] else made (λ d. d ∷ []) (line_gives g line)

-- the lines give these values
abbrev pub Give : Grammar → List (List ℕ) → List Data → Type 0
Give g ls values = Joined (λ line vs. values_in g line ≡ Ok vs) ls values

-- the fault of a line that a call answers; want of memory says nothing of the line
abbrev pub line_fault_of : JsonFault → Option LineFault
line_fault_of json.NotJson = Some not_json
line_fault_of (json.Shape path) = Some (shape path)
line_fault_of (json.UnknownMember path member) = Some (unknown_member path member)
line_fault_of (json.MissingMember path) = Some (missing_member path)
line_fault_of json.NoMemory = None

-- the line gives no value, but this fault
pub record IsBad (g : Grammar) (line : List ℕ) (fault : JsonFault) : Type 0 where
  pub kept : LineFault
  pub told : line_fault_of fault ≡ Some kept
  pub gives : values_in g line ≡ Err kept

-- the line gives a value that is refused for this and for nothing else, and that no bits spell
pub record IsUnfit (g : Grammar) (line : List ℕ) (fault : UnfitValue) : Type 0 where
  pub value : Data
  pub gives : values_in g line ≡ Ok (value ∷ [])
  pub refused : Refused g value (unfit_of fault)
  pub only : (other : meets.Unfit) → Refused g value other → other ≡ unfit_of fault
  pub unspelled : (mode : Mode) (bs : List Bool) → Spell g mode g [] value 0 bs → ⊥

-- These bytes are lines, which end within the limit, and a rest.
pub record LinesBegin (limit : ℕ) (given : List ℕ) (ls : List (List ℕ)) (rest : List ℕ) : Type 0 where
  pub front : List ℕ
  pub whole : given ≡ front ++ rest
  pub lines : AreLines ls front
  pub within : length front ≤ limit

-- what stands behind the bytes of a line: its line feed and more, or nothing, where the input is used up
abbrev pub EndsLine : (i : Option (List ℕ)) → List ℕ → Type 0
EndsLine i [] = IsUsedUp i
EndsLine i (b ∷ bytes) = b ≡ 10

-- What encoding by a grammar did: of the input i was left before it and i' is, and `wrote` says of bytes that the output gained them.
module _ (g : Grammar) (limit : ℕ) (i i' : Option (List ℕ)) (wrote : List ℕ → Type 0) where
  -- The lines give these values, and their packets were written.
  pub record Writes (ls : List (List ℕ)) (values : List Data) : Type 0 where
    pub packets : List ℕ
    pub give : Give g ls values
    pub are : Packets g values packets
    pub written : wrote packets

  -- The whole input is lines, of which the last may lack its line feed, and of so many values the packets were written.
  pub record IsEncoded (count : ℕ) : Type 0 where
    pub given : List ℕ
    pub ls : List (List ℕ)
    pub values : List Data
    pub taken : Takes i i' given
    pub used_up : IsUsedUp i'
    pub lines : AreLines ls (given ++ 10 ∷ [])
    pub within : length given ≤ limit
    pub counted : length values ≡ count
    pub writes : Writes ls values

  -- The line of this number came whole and is at fault, and the packets of those before it were written.
  pub record IsAtFault (number : ℕ) (at_fault : (line : List ℕ) → Type 0) : Type 0 where
    pub given : List ℕ
    pub ls : List (List ℕ)
    pub line : List ℕ
    pub behind : List ℕ
    pub values : List Data
    pub taken : Takes i i' given
    pub few : length given ≤ limit
    pub begin : LinesBegin limit given ls (line ++ behind)
    pub fits : IsLine line
    pub ends : EndsLine i' behind
    pub near : length behind ≤ MOST_IN_HAND
    pub counted : length ls + 1 ≡ number
    pub fault : at_fault line
    pub writes : Writes ls values

  -- More bytes of the line of this number came than a line may have, and the packets of those before it were written.
  pub record HasLongLine (number : ℕ) : Type 0 where
    pub given : List ℕ
    pub ls : List (List ℕ)
    pub line : List ℕ
    pub behind : List ℕ
    pub values : List Data
    pub taken : Takes i i' given
    pub few : length given ≤ limit
    pub begin : LinesBegin limit given ls (line ++ behind)
    pub one : IsOneLine line
    pub many : length line ≡ MOST_LINE_BYTES + 1
    pub near : length behind ≤ MOST_IN_HAND
    pub counted : length ls + 1 ≡ number
    pub writes : Writes ls values

  -- The bytes up to the limit end inside a line, or at its end, and one byte more came. The packets of the lines before were written.
  pub record IsPastLimit : Type 0 where
    pub given : List ℕ
    pub byte : ℕ
    pub ls : List (List ℕ)
    pub rest : List ℕ
    pub values : List Data
    pub taken : Takes i i' (given ++ byte ∷ [])
    pub full : length given ≡ limit
    pub begin : LinesBegin limit given ls rest
    pub inside : IsLine rest
    pub writes : Writes ls values

  -- What came ends inside a line, or at its end. The packets of the lines before were written.
  pub record IsBrokenOff : Type 0 where
    pub given : List ℕ
    pub ls : List (List ℕ)
    pub rest : List ℕ
    pub values : List Data
    pub taken : Takes i i' given
    pub few : length given ≤ limit
    pub begin : LinesBegin limit given ls rest
    pub inside : IsLine rest
    pub writes : Writes ls values

  -- the lines came whole: those with their line feed, or, where the input is used up, the last one without it too
  pub data CameWhole (given : List ℕ) (ls : List (List ℕ)) : Type 0 where
    with_feeds : (rest : List ℕ) → LinesBegin limit given ls rest → IsJustAhead rest → CameWhole given ls
    with_last : AreLines ls (given ++ 10 ∷ []) → IsUsedUp i' → length given ≤ limit → CameWhole given ls

  -- Lines came, and their packets were written.
  pub record CameSome : Type 0 where
    pub given : List ℕ
    pub ls : List (List ℕ)
    pub values : List Data
    pub taken : Takes i i' given
    pub few : length given ≤ limit + 1
    pub came : CameWhole given ls
    pub writes : Writes ls values

  -- by the way it ended, but for a write that failed
  abbrev pub Ends : Result ℕ StreamFault → Type 0
  Ends (Ok count) = IsEncoded count
  Ends (Err (LineTooLong number)) = HasLongLine number
  Ends (Err (BadLine number fault)) = IsAtFault number (λ line. IsBad g line fault)
  Ends (Err (Unfit number fault)) = IsAtFault number (λ line. IsUnfit g line fault)
  Ends (Err InputTooLong) = IsPastLimit
  Ends (Err InputFault) = IsBrokenOff
  Ends (Err NoMemory) = CameSome
  Ends (Err _) = ⊥

-- The output had taken o, and o' now: it gained the packets, or a front of them, where a write failed.
abbrev pub EncodeEnds : Grammar → (limit : ℕ) → (i i' o o' : Option (List ℕ)) → Result ℕ StreamFault → Type 0
EncodeEnds g limit i i' o o' (Err EmptyPacket) = (i' ≡ i) × (o' ≡ o)
EncodeEnds g limit i i' o o' (Err OutputFault) = CameSome g limit i i' (GainsFront o o')
EncodeEnds g limit i i' o o' result = Ends g limit i i' (Gains o o') result
