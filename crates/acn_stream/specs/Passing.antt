-- What the calls inside do with lines.
use Rattle.std.specs.Prelude.{◌≡◌, ℕ, ◌+◌, ◌^◌, ◌<◌, ◌≤◌, Bool, List, [], ◌∷◌, ◌++◌, length, take, drop, Option, Some, None, Result, Ok, Err}
use Rattle.acn_grammar.specs.Code.{Mode}
use Rattle.acn_grammar.specs.Faults.{unfit_of}
use Rattle.acn_grammar.specs.Grammar.{Grammar, Data}
use Rattle.acn_grammar.specs.Meets as meets
use Rattle.acn_grammar.specs.Refused.{Refused}
use Rattle.acn_grammar.specs.Spell.{Spell}
use Rattle.acn_outside.specs.Moves.{Takes}
use Rattle.acn_grammar.specs.View.{grammar_of}
use Rattle.acn_lines.specs.Order.{IsOrder}
use Rattle.acn_plan.specs.Back.{root_of}
use Rattle.acn_stream.specs.Encoding.{AreLines, Give, Packets, IsWrittenPacket, IsBad, IsUnfit, values_in, Ends}
use Rattle.acn_stream.specs.Steps.{IsBounded}
use Rattle.acn_stream.specs.declared.lines.Encoder.{Encoder}
use Rattle.acn_stream.specs.declared.lines.LineFault.{LineFault}
use Rattle.acn_stream.specs.declared.lines.LineFault.TheVariants as fault
use Rattle.acn_stream.specs.declared.encode.Tally.{Tally}
use Rattle.acn_stream.specs.declared.encode.Way.{Way}
use Rattle.acn_stream.specs.declared.encode.Way.TheVariants as way
use Rattle.acn_stream.specs.declared.stream_fault.StreamFault.{StreamFault}
use Rattle.acn_stream.specs.declared.stream_fault.StreamFault.TheVariants as stream
use Rattle.acn_supply.specs.Cutting.{IsOneLine}
use Rattle.acn_supply.specs.Reading.{Supplied}
use Rattle.acn_supply.specs.declared.lines.NoLine.{NoLine}
use Rattle.acn_supply.specs.declared.lines.NoLine.TheVariants.{TooLong, PastLimit, Failed, NoMemory}
use Rattle.acn_supply.specs.declared.window.TheConstants.{MOST_IN_HAND}

-- the grammar of the lines and packets
abbrev pub grammar_by : Encoder → Grammar
grammar_by by = grammar_of by.checked.now.tree.root

-- the plan and the order are those of the tree, of which each packet has a bit and none is too long
pub record CanEncode (by : Encoder) : Type 0 where
  pub planned : root_of by.plan.now.steps ≡ grammar_by by
  pub bounded : IsBounded (grammar_by by)
  pub ordered : IsOrder (grammar_by by) by.order.now.order

-- the value isn't written for this reason; want of memory says nothing of it
abbrev pub RefusesValue : Grammar → Data → LineFault → Type 0
RefusesValue g d (fault.Bad bad) = ⊥
RefusesValue g d (fault.Unfit unfit) = Refused g d (unfit_of unfit) × ((other : meets.Unfit) → Refused g d other → other ≡ unfit_of unfit) × ((mode : Mode) (bs : List Bool) → Spell g mode g [] d 0 bs → ⊥)
RefusesValue g d fault.NoMemory = Unit {0}

-- how many packets were added, or why none was, which stands beside the answer
abbrev pub answered : Option ℕ → LineFault → Result ℕ LineFault
answered (Some count) why = Ok count
answered None why = Err why

-- the one packet of the value was added, or it is said why not
abbrev pub PutsValue : Grammar → Data → (old new : List ℕ) → Result ℕ LineFault → Type 0
PutsValue g d old new (Ok count) = (piece : List ℕ) × (new ≡ old ++ piece) × IsWrittenPacket g d piece × (count ≡ 1)
PutsValue g d old new (Err why) = (new ≡ old) × RefusesValue g d why

-- why the line gives no packet
abbrev pub Fails : Grammar → (line : List ℕ) → LineFault → Type 0
Fails g line (fault.Bad bad) = IsBad g line bad
Fails g line (fault.Unfit unfit) = IsUnfit g line unfit
Fails g line fault.NoMemory = Unit {0}

-- the packets of the line were added, so many
pub record Adds (g : Grammar) (line old new : List ℕ) (count : ℕ) : Type 0 where
  pub values : List Data
  pub packets : List ℕ
  pub gives : values_in g line ≡ Ok values
  pub are : Packets g values packets
  pub added : new ≡ old ++ packets
  pub counted : length values ≡ count
  pub few : count ≤ 1
  pub short : count ≤ length line

-- they were, or it is said why not
abbrev pub PutsLine : Grammar → (line old new : List ℕ) → Result ℕ LineFault → Type 0
PutsLine g line old new (Ok count) = Adds g line old new count
PutsLine g line old new (Err why) = (new ≡ old) × (0 < length line) × Fails g line why

-- Encoding came so far: of the input lines were taken, and what is in hand. The packets of the values of the lines are this text.
pub record Encoded (g : Grammar) (limit : ℕ) (i i' : Option (List ℕ)) (s : Supplied) (tally : Tally) (text : List ℕ) : Type 0 where
  pub ls : List (List ℕ)
  pub values : List Data
  pub front : List ℕ
  pub taken : Takes i i' (front ++ s.hand)
  pub left : s.left + length (front ++ s.hand) ≡ limit
  pub lines : AreLines ls front
  pub give : Give g ls values
  pub are : Packets g values text
  pub lines_are : length ls ≡ tally.lines
  pub packets_are : length values ≡ tally.packets
  pub near : length s.hand ≤ MOST_IN_HAND

-- the counts can be kept: each line has a byte, and no line has two packets
pub record HasRoom (s : Supplied) (tally : Tally) : Type 0 where
  pub packets : tally.packets ≤ tally.lines
  pub lines : tally.lines + (length s.hand + s.left) < 2 ^ 64

-- encoding goes on behind a line, or has ended
abbrev pub Goes : Grammar → (limit : ℕ) → (i i' : Option (List ℕ)) → Supplied → Tally → (text : List ℕ) → Option (Result ℕ StreamFault) → Type 0
Goes g limit i i' s tally text None = Encoded g limit i i' s tally text
Goes g limit i i' s tally text (Some result) = Ends g limit i i' (λ packets. packets ≡ text) result

-- how encoding ended, if it did, with the fault that stands beside the answer
abbrev pub told : Way → StreamFault → Option (Result ℕ StreamFault)
told way.On fault = None
told (way.Ended count) fault = Some (Ok count)
told way.Failed fault = Some (Err fault)

-- the first line feed of the bytes stands at this place
pub record IsFeed (bytes : List ℕ) (at : ℕ) : Type 0 where
  pub inside : at < length bytes
  pub one : IsOneLine (take at bytes)
  pub cut : bytes ≡ take at bytes ++ 10 ∷ drop (at + 1) bytes

abbrev pub unread : Supplied → ℕ
unread s = length s.hand + s.left

-- the faults by the number of the line, and by how many lines were passed
abbrev pub fault_at : (number : ℕ) → LineFault → StreamFault
fault_at number (fault.Bad bad) = stream.BadLine number bad
fault_at number (fault.Unfit unfit) = stream.Unfit number unfit
fault_at number fault.NoMemory = stream.NoMemory

abbrev pub fault_behind : (lines : ℕ) → NoLine → StreamFault
fault_behind lines TooLong = stream.LineTooLong (lines + 1)
fault_behind lines PastLimit = stream.InputTooLong
fault_behind lines Failed = stream.InputFault
fault_behind lines NoMemory = stream.NoMemory
