-- Numbers of neighbouring steps that can be written as one word. (This profile's own.)
use Rattle.std.specs.Prelude.{◌≡◌, ℕ, ◌+◌, ◌<◌, ◌≤◌, Bool, true, false, List, [], ◌∷◌, drop, None, Some, slice_get}
use Rattle.acn_bits.specs.declared.word.TheConstants.{WORD_BITS}
use Rattle.acn_grammar.specs.declared.node.Presence.TheVariants.{Always}
use Rattle.acn_cut.specs.Cuts.{IsCut}
use Rattle.acn_cut.specs.Stretches.{total}
use Rattle.acn_cut.specs.declared.cut.Cut.{Cut}
use Rattle.acn_cut.specs.declared.stretch.Piece.{Piece}
use Rattle.acn_plan.specs.declared.step.Act.{Act}
use Rattle.acn_plan.specs.declared.step.Act.TheVariants as acts
use Rattle.acn_plan.specs.declared.step.Place.{Place}
use Rattle.acn_plan.specs.declared.step.Place.TheVariants as places
use Rattle.acn_plan.specs.declared.step.Step.{Step}

-- a field that is always there and says no slot's number, and whether it is a component
abbrev pub IsFree : Place → (is_component : Bool) → Type 0
IsFree (places.Component name presence default own) is_component = (presence ≡ Always) × (own ≡ None) × (is_component ≡ true)
IsFree (places.Inserted name slot) is_component = (slot ≡ None) × (is_component ≡ false)
IsFree _ is_component = ⊥

abbrev pub IsCutOf : Act → Cut → Type 0
IsCutOf (acts.Num leaf) cut = IsCut cut leaf
IsCutOf _ cut = ⊥

-- the piece is that of the number of step n, which isn't aligned
pub record IsPieceOf (n : ℕ) (s : Step) (piece : Piece) : Type 0 where
  pub align : s.align ≡ 1
  pub free : IsFree s.place piece.is_component
  pub cut : IsCutOf s.act piece.cut
  pub narrow : piece.cut.width < WORD_BITS
  pub next : s.next ≡ n + 1

-- the pieces are those of the first steps, of which the first has the number
abbrev pub ArePieces : (number : ℕ) → List Step → List Piece → Type 0
ArePieces n ss [] = Unit {0}
ArePieces n [] (p ∷ ps) = ⊥
ArePieces n (s ∷ ss) (p ∷ ps) = IsPieceOf n s p × ArePieces (n + 1) ss ps

-- and their codes make one word
pub record IsRun (number : ℕ) (ss : List Step) (run : List Piece) : Type 0 where
  pub are : ArePieces number ss run
  pub few : total run ≤ WORD_BITS

-- each run begins with its step
abbrev pub AreRuns : List Step → List (List Piece) → Type 0
AreRuns steps runs = (i : ℕ) (run : List Piece) → slice_get runs i ≡ Some run → IsRun i (drop i steps) run
