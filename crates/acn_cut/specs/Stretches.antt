-- Neighbouring fields whose numbers are read out of one word. (This profile's own.)
use Rattle.std.specs.Prelude.{◌≡◌, ℕ, ◌+◌, ◌<◌, ◌≤◌, Bool, true, false, List, [], ◌∷◌, length, take, Option}
use Rattle.acn_num.specs.Bits.{IsNumber}
use Rattle.acn_bits.specs.Reading.{Reading}
use Rattle.acn_bits.specs.declared.word.TheConstants.{WORD_BITS}
use Rattle.acn_grammar.specs.Grammar.{Grammar, Fields, node, num, no_fields, component, inserted}
use Rattle.acn_grammar.specs.declared.node.Presence.TheVariants.{Always}
use Rattle.acn_cut.specs.Cuts.{IsCut}
use Rattle.acn_cut.specs.declared.stretch.Piece.{Piece}
use Rattle.acn_cut.specs.declared.stretch.Stretch.{Stretch}
use Rattle.acn_cut.specs.declared.strip.Strip.{Strip}

-- the next bits spell the word
pub record IsStrip (strip : Strip) (at : Reading) : Type 0 where
  pub within : strip.left ≤ length at.rest
  pub spells : IsNumber strip.left strip.word (take strip.left at.rest)

-- the piece is that of a number leaf that isn't aligned, with its slot
abbrev pub IsPieceOf : Grammar → (is_component : Bool) → (slot : Option ℕ) → Piece → Type 0
IsPieceOf (node align (num leaf)) is_component slot piece = (align ≡ 1) × (0 < piece.cut.width) × IsCut piece.cut leaf × (piece.is_component ≡ is_component) × (piece.slot ≡ slot)
IsPieceOf _ is_component slot piece = ⊥

-- the pieces are those of the fields in front of the rest, which are always there
abbrev pub IsRun : Fields → List Piece → (rest : Fields) → Type 0
IsRun fs [] rest = fs ≡ rest
IsRun (component name g presence default slot fs) (p ∷ ps) rest = (presence ≡ Always) × IsPieceOf g true slot p × IsRun fs ps rest
IsRun (inserted name g slot fs) (p ∷ ps) rest = IsPieceOf g false slot p × IsRun fs ps rest
IsRun no_fields (p ∷ ps) rest = ⊥

-- how many bits the codes have together
abbrev pub total : List Piece → ℕ
total [] = 0
total (p ∷ ps) = p.cut.width + total ps

-- the stretch is that of the fields in front of the rest
pub record IsStretch (fs : Fields) (stretch : Stretch) (rest : Fields) : Type 0 where
  pub width : stretch.width ≡ total stretch.pieces
  pub few : stretch.width ≤ WORD_BITS
  pub run : IsRun fs stretch.pieces rest

-- each begins with its field, as far as they are said
abbrev pub AreStretches : Fields → List Stretch → Type 0
AreStretches fs [] = Unit {0}
AreStretches no_fields (s ∷ ss) = Unit {0}
AreStretches (component name g presence default slot fs) (s ∷ ss) = ((rest : Fields) × IsStretch (component name g presence default slot fs) s rest) × AreStretches fs ss
AreStretches (inserted name g slot fs) (s ∷ ss) = ((rest : Fields) × IsStretch (inserted name g slot fs) s rest) × AreStretches fs ss
