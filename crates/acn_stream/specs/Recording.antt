-- Recordings: packets one behind another, and the lines that are written for their values. (This profile's own.)
use Rattle.std.specs.Prelude.{◌≡◌, ℕ, suc, ◌<◌, ◌⊎◌, Bool, List, [], ◌∷◌, ◌++◌, length}
use Rattle.std.specs.List.{flat_map}
use Rattle.acn_num.specs.Bits.{bits}
use Rattle.acn_grammar.specs.Code.{Any}
use Rattle.acn_grammar.specs.Fails.{Fault, Refusal}
use Rattle.acn_grammar.specs.Front.{Front}
use Rattle.acn_grammar.specs.Grammar.{Grammar, Data}
use Rattle.acn_grammar.specs.LeafFails.{short}
use Rattle.acn_grammar.specs.Spell.{Spell}
use Rattle.acn_json.specs.Lines.{line_of}

module _ {B : Type 0} where
  -- one piece in front, and the others behind it
  pub record InFront (one others : List B → Type 0) (whole : List B) : Type 0 where
    pub piece : List B
    pub rest : List B
    pub parts : whole ≡ piece ++ rest
    pub first : one piece
    pub second : others rest

  -- pieces one behind another, one for each item
  abbrev pub Joined : {A : Type 0} → (A → List B → Type 0) → List A → List B → Type 0
  Joined piece_of [] whole = whole ≡ []
  Joined piece_of (x ∷ xs) whole = InFront (piece_of x) (λ rest. Joined piece_of xs rest) whole

-- Whole octets: the bits of a spelling of the value, and behind them fewer than 8 fill bits, whichever they are.
pub record IsPacket (g : Grammar) (d : Data) (piece : List ℕ) : Type 0 where
  pub spelling : List Bool
  pub fill : List Bool
  pub whole : bits piece ≡ spelling ++ fill
  pub spelled : Spell g Any g [] d 0 spelling
  pub few : length fill < 8

-- the bytes are packets of the values
abbrev pub Recording : Grammar → List Data → List ℕ → Type 0
Recording g values bytes = Joined (IsPacket g) values bytes

-- what is shown of a packet, by its number, its value and its octets
abbrev pub Shown : Type 0
Shown = (number : ℕ) → Data → (piece : List ℕ) → List ℕ

-- what is shown of packets one behind another, which are numbered from here on
abbrev pub texts : (g : Grammar) → Shown → (number : ℕ) → (values : List Data) → (packets : List ℕ) → Recording g values packets → List ℕ
texts g shown number [] packets r = []
texts g shown number (d ∷ ds) packets r = shown number d r.piece ++ texts g shown (suc number) ds r.rest r.second

-- the text of packets one behind another
abbrev pub Text : Grammar → Type 0
Text g = (values : List Data) (packets : List ℕ) → Recording g values packets → List ℕ

-- the JSON lines of the values, each with a line feed
abbrev pub lines : Grammar → List Data → List ℕ
lines g values = flat_map (λ d. line_of g d ++ 10 ∷ []) values

-- the lines alone, whatever the octets
abbrev pub lines_text : (g : Grammar) → Text g
lines_text g values packets r = lines g values

-- bits are wanting
abbrev pub RunsShort : Grammar → List ℕ → Type 0
RunsShort g bytes = (fault : Fault) × (reach : ℕ) × Refusal g (bits bytes) fault reach × (fault.reason ≡ short)

-- nothing is there, or bits are wanting
abbrev pub IsUnfinished : Grammar → List ℕ → Type 0
IsUnfinished g bytes = (bytes ≡ []) ⊎ RunsShort g bytes

-- Some bytes are there that no packet begins: they fail with this, and with nothing else.
pub record IsStuck (g : Grammar) (bytes : List ℕ) (fault : Fault) : Type 0 where
  pub some : 0 < length bytes
  pub reach : ℕ
  pub fails : Refusal g (bits bytes) fault reach
  pub only : (other : Fault) (more : ℕ) → Refusal g (bits bytes) other more → other ≡ fault
  pub no_front : (d : Data) (n : ℕ) → Front g (bits bytes) d n → ⊥
