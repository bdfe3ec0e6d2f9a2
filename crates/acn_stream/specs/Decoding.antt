-- How showing the packets of a recording ends, and how decoding them does. (This profile's own.)
use Rattle.std.specs.Prelude.{◌≡◌, ℕ, ◌+◌, ◌<◌, ◌≤◌, List, [], ◌∷◌, ◌++◌, length, Option, Result, Ok, Err}
use Rattle.acn_grammar.specs.Faults.{fault_of}
use Rattle.acn_grammar.specs.Grammar.{Grammar, Data}
use Rattle.acn_grammar.specs.LeafFails.{short}
use Rattle.acn_grammar.specs.declared.fault.Fault.{Fault}
use Rattle.acn_outside.specs.Moves.{Takes, Gains, IsUsedUp}
use Rattle.acn_outside.specs.Whole.{GainsFront}
use Rattle.acn_stream.specs.Recording.{Recording, Text, lines_text, IsUnfinished, IsStuck}
use Rattle.acn_stream.specs.declared.stream_fault.StreamFault.{StreamFault}
use Rattle.acn_stream.specs.declared.stream_fault.StreamFault.TheVariants.{Packet, InputTooLong, EmptyPacket, InputFault, OutputFault, NoMemory}
use Rattle.acn_supply.specs.declared.window.TheConstants.{MOST_IN_HAND}

-- These bytes are packets of the values, and a rest that can be in hand. There are no more than the limit.
pub record Begins (g : Grammar) (limit : ℕ) (given : List ℕ) (values : List Data) (rest : List ℕ) : Type 0 where
  pub packets : List ℕ
  pub whole : given ≡ packets ++ rest
  pub recording : Recording g values packets
  pub within : length given ≤ limit
  pub near : length rest ≤ MOST_IN_HAND

-- What showing packets of a grammar did, by the way it ended: of the input i was left before it and i' is, and the output had taken o, and o' now.
module _ (g : Grammar) (text : Text g) (limit : ℕ) (i i' o o' : Option (List ℕ)) where
  -- The whole input is a recording of so many values, and the output gained their text.
  pub record IsDone (count : ℕ) : Type 0 where
    pub given : List ℕ
    pub values : List Data
    pub taken : Takes i i' given
    pub used_up : IsUsedUp i'
    pub recording : Recording g values given
    pub within : length given ≤ limit
    pub counted : length values ≡ count
    pub written : Gains o o' (text values given recording)

  -- What is left behind the packets before that of this number fails with this, and the output gained their text. Where bits are wanting the input is used up.
  pub record IsRefused (number : ℕ) (fault : Fault) : Type 0 where
    pub given : List ℕ
    pub values : List Data
    pub rest : List ℕ
    pub taken : Takes i i' given
    pub begins : Begins g limit given values rest
    pub counted : length values + 1 ≡ number
    pub stuck : IsStuck g rest (fault_of fault)
    pub ends : (fault_of fault).reason ≡ short → IsUsedUp i'
    pub written : Gains o o' (text values begins.packets begins.recording)

  -- The bytes up to the limit end inside a packet, or at its end, and one byte more came. The output gained the text of the packets.
  pub record IsTooLong : Type 0 where
    pub given : List ℕ
    pub byte : ℕ
    pub values : List Data
    pub rest : List ℕ
    pub taken : Takes i i' (given ++ byte ∷ [])
    pub full : length given ≡ limit
    pub begins : Begins g limit given values rest
    pub room : length rest < MOST_IN_HAND
    pub unfinished : IsUnfinished g rest
    pub written : Gains o o' (text values begins.packets begins.recording)

  -- What came ends inside a packet, or at its end. The output gained the text of the packets.
  pub record IsCutOff : Type 0 where
    pub given : List ℕ
    pub values : List Data
    pub rest : List ℕ
    pub taken : Takes i i' given
    pub begins : Begins g limit given values rest
    pub unfinished : IsUnfinished g rest
    pub written : Gains o o' (text values begins.packets begins.recording)

  -- Packets came, and the output gained a front of their text.
  pub record IsFront : Type 0 where
    pub given : List ℕ
    pub values : List Data
    pub rest : List ℕ
    pub taken : Takes i i' given
    pub begins : Begins g limit given values rest
    pub written : GainsFront o o' (text values begins.packets begins.recording)

  -- Packets came, and the output gained their text.
  pub record IsStopped : Type 0 where
    pub given : List ℕ
    pub values : List Data
    pub rest : List ℕ
    pub taken : Takes i i' given
    pub begins : Begins g limit given values rest
    pub written : Gains o o' (text values begins.packets begins.recording)

  abbrev pub ShowEnds : Result ℕ StreamFault → Type 0
  ShowEnds (Ok count) = IsDone count
  ShowEnds (Err (Packet number fault)) = IsRefused number fault
  ShowEnds (Err InputTooLong) = IsTooLong
  ShowEnds (Err EmptyPacket) = (i' ≡ i) × (o' ≡ o)
  ShowEnds (Err InputFault) = IsCutOff
  ShowEnds (Err OutputFault) = IsFront
  ShowEnds (Err NoMemory) = IsStopped
  ShowEnds (Err _) = ⊥

-- of decoding, whose text are the lines
abbrev pub DecodeEnds : Grammar → (limit : ℕ) → (i i' o o' : Option (List ℕ)) → Result ℕ StreamFault → Type 0
DecodeEnds g = ShowEnds g (lines_text g)
