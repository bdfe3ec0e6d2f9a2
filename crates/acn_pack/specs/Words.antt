-- Numbers of neighbouring fields as one word, and where the walk stands among fields. (This profile's own.)
use Rattle.std.specs.Prelude.{◌≡◌, ℕ, ◌+◌, ◌^◌, ◌<◌, ◌≤◌, ℤ, pos, Bool, true, false, List, [], ◌∷◌, ◌++◌, drop, length, slice_get, Option, Some, IsTrue}
use Rattle.acn_num.specs.Bits.{low_bits}
use Rattle.acn_bits.specs.declared.word.TheConstants.{WORD_BITS}
use Rattle.acn_grammar.specs.Code.{Code, Written}
use Rattle.acn_grammar.specs.Leaves.{num_fine}
use Rattle.acn_grammar.specs.Length.{number_of}
use Rattle.acn_grammar.specs.View.{data_of, places_view}
use Rattle.acn_grammar.specs.declared.value.Value.{Value}
use Rattle.acn_grammar.specs.declared.node.NumLeaf.{NumLeaf}
use Rattle.acn_cut.specs.Cuts.{IsCut}
use Rattle.acn_cut.specs.declared.cut.Cut.{Cut}
use Rattle.acn_cut.specs.declared.stretch.Piece.{Piece}
use Rattle.acn_events.specs.Event.{Event, aligns, codes}
use Rattle.acn_events.specs.Events.{field_events}
use Rattle.acn_plan.specs.Back.{fields_at, root_of}
use Rattle.acn_plan.specs.Runs.{IsRun}
use Rattle.acn_plan.specs.declared.step.Step.{Step}
use Rattle.acn_writer.specs.Answers.{state_of}
use Rattle.acn_writer.specs.declared.writer.Writer.{Writer}
use Rattle.acn_pack.specs.Packs.{GoesOn}
use Rattle.acn_pack.specs.Sounds.{FieldsAreSound}
use Rattle.acn_pack.specs.declared.word.Word.{Word}

-- the number of a field, where the next component has this place
abbrev pub IsNumberAt : (is_component : Bool) → List (Option Value) → (next : ℕ) → ℤ → Type 0
IsNumberAt true places next x = (v : Value) × (slice_get places next ≡ Some (Some v)) × (x ≡ number_of (data_of v))
IsNumberAt false places next x = x ≡ pos 0

-- under each leaf that is cut so, the lowest bits are the code of the number
abbrev pub Codes : Cut → ℤ → (code : ℕ) → Type 0
Codes cut x code = (leaf : NumLeaf) → IsCut cut leaf → Code Written leaf x (low_bits cut.width code)

-- the bits are the codes of the numbers of events that align nothing
abbrev pub AreCodes : List Event → List Bool → Type 0
AreCodes [] bs = bs ≡ []
AreCodes (aligns align ∷ es) bs = (align ≡ 1) × AreCodes es bs
AreCodes (codes leaf x ∷ es) bs = (front : List Bool) × (back : List Bool) × (bs ≡ front ++ back) × IsTrue (num_fine leaf) × Code Written leaf x front × AreCodes es back
AreCodes (_ ∷ es) bs = ⊥

-- What is left of the fields from a step on, of which the first is field k, where the next component has this place.
abbrev pub left_from : List Step → (step end : ℕ) → (path : List ℕ) → (k : ℕ) → List (Option Value) → (next : ℕ) → List Event
left_from steps step end path k places next = field_events (root_of steps) (fields_at steps step end) path k (places_view (drop next places))

-- the events of so many fields from a step on are codes of the bits, and the next component then has another place
pub record Gathers (steps : List Step) (step count end : ℕ) (places : List (Option Value)) (next behind : ℕ) (bs : List Bool) : Type 0 where
  pub events : (path : List ℕ) (k : ℕ) → (es : List Event) × (left_from steps step end path k places next ≡ es ++ left_from steps (step + count) end path (k + count) places behind) × AreCodes es bs
  pub sound : (depth : ℕ) → FieldsAreSound (root_of steps) depth (fields_at steps step end) → FieldsAreSound (root_of steps) depth (fields_at steps (step + count) end)

-- the run stands at a step of a SEQUENCE
pub record Stands (run : List Piece) (steps : List Step) (step end : ℕ) : Type 0 where
  pub is : IsRun step (drop step steps) run
  pub within : step + length run ≤ end
  pub depth : ℕ
  pub sound : FieldsAreSound (root_of steps) depth (fields_at steps step end)

-- the word has the codes of the first fields of a run, wherever it stands
pub record IsWord (run : List Piece) (count : ℕ) (places : List (Option Value)) (next : ℕ) (word : Word) : Type 0 where
  pub few : word.width ≤ WORD_BITS
  pub fits : word.bits < 2 ^ word.width
  pub within : word.next ≤ length places
  pub gathers : (steps : List Step) (step end : ℕ) → Stands run steps step end → Gathers steps step count end places next word.next (low_bits word.width word.bits)

-- the fields of a run are written, wherever it stands
pub record PutsRun {N S A : ℕ} (run : List Piece) (places : List (Option Value)) (next behind : ℕ) (old new : Writer N S A) : Type 0 where
  pub within : behind ≤ length places
  pub puts : (steps : List Step) (step end : ℕ) → Stands run steps step end → (path : List ℕ) (k : ℕ) → GoesOn (left_from steps step end path k places next) (left_from steps (step + length run) end path (k + length run) places behind) old new
  pub sound : (steps : List Step) (step end : ℕ) → Stands run steps step end → (depth : ℕ) → FieldsAreSound (root_of steps) depth (fields_at steps step end) → FieldsAreSound (root_of steps) depth (fields_at steps (step + length run) end)

-- nothing is written
pub record Stays {N S A : ℕ} (old new : Writer N S A) : Type 0 where
  pub same_state : state_of new ≡ state_of old
  pub same_buffer : new.cursor.buf.ghost_name ≡ old.cursor.buf.ghost_name
