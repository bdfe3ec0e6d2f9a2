-- What a walk puts while it reads. (This profile's own.)
use Rattle.std.specs.Prelude.{◌≡◌, ℕ, ℤ, IsTrue, ◌+◌, ◌-◌, ◌≤◌, if◌then◌else◌, List, [], ◌∷◌, ◌++◌, length, take, drop, Option, Some, None, Bool, true, false}
use Rattle.serde_json.specs.Written.{compact_text, items_text}
use Rattle.acn_num.specs.Ranges.{In}
use Rattle.acn_grammar.specs.Code.{NumberOf}
use Rattle.acn_grammar.specs.Grammar.{Grammar, Fields, Data, Elements, node, num, no_fields, component, inserted}
use Rattle.acn_grammar.specs.ItemsNamed.{FormItemsNamed, FieldsItemsNamed}
use Rattle.acn_grammar.specs.Leaves.{num_fine}
use Rattle.acn_grammar.specs.View.{OneField, a_component, an_inserted}
use Rattle.acn_bits.specs.Reading.{Reading}
use Rattle.acn_grammar.specs.Env.{Env}
use Rattle.acn_grammar.specs.Length.{number_of}
use Rattle.acn_json.specs.Lines.{json_of, each_json}
use Rattle.acn_cut.specs.declared.stretch.Piece.{Piece}
use Rattle.acn_grammar.specs.Fails.{Here}
use Rattle.acn_reads.specs.Decoded.{NodeRead, FieldsStand, Fine, Turn, in_front}
use Rattle.acn_reads.specs.Steps.{noted_by}
use Rattle.acn_transcode.specs.declared.draft.Draft.{Draft}
use Rattle.acn_transcode.specs.declared.draft.Part.{Part}
use Rattle.acn_transcode.specs.declared.draft.Part.TheVariants.{Away, Text, Number}
use Rattle.acn_transcode.specs.declared.draft.Span.{Span}

-- the text was put behind what stood there, and nothing more waits than before
pub record Puts (text : List ℕ) (old new : Draft) : Type 0 where
  pub added : new.text.items ≡ old.text.items ++ text
  pub aside : new.aside.items ≡ old.aside.items
  pub parts : new.parts.items ≡ old.parts.items

-- what stands at a span of a text
abbrev pub cut_out : List ℕ → Span → List ℕ
cut_out text span = take (span.to - span.from) (drop span.from text)

-- the number is that of a value of a leaf, which permits it
abbrev pub IsNumber : Grammar → ℤ → Data → Type 0
IsNumber (node align (num leaf)) x d = IsTrue (num_fine leaf) × FormItemsNamed (num leaf) × In leaf.set x × NumberOf leaf.kind d x
IsNumber _ x d = ⊥

-- the same of a component
abbrev pub IsFieldNumber : OneField → ℤ → Data → Type 0
IsFieldNumber (a_component name g presence default own) x d = IsNumber g x d
IsFieldNumber (an_inserted name g slot) x d = ⊥

-- what is kept of a component: nothing where it is away, else where its text stands, or its number
abbrev pub IsLaid : (text : List ℕ) → Part → Grammar → Option Data → Type 0
IsLaid text Away g None = Unit {0}
IsLaid text (Number x) g (Some d) = IsNumber g x d
IsLaid text (Text span) g (Some d) = (span.from ≤ span.to) × (span.to ≤ length text) × (cut_out text span ≡ compact_text (json_of g d))
IsLaid text _ g _ = ⊥

-- one part for each component
abbrev pub AreLaid : (text : List ℕ) → Fields → List Part → List (Option Data) → Type 0
AreLaid text no_fields [] [] = Unit {0}
AreLaid text (component name g presence default own fs) (s ∷ parts) (d ∷ ds) = IsLaid text s g d × AreLaid text fs parts ds
AreLaid text (inserted name g slot fs) parts ds = AreLaid text fs parts ds
AreLaid text _ _ _ = ⊥

-- the texts of the components in front of the rest were put but for numbers, and where they stand was noted, and the numbers
pub record Lays (all rest : Fields) (done : List (Option Data)) (old new : Draft) : Type 0 where
  pub aside : new.aside.items ≡ old.aside.items
  pub text : List ℕ
  pub added : new.text.items ≡ old.text.items ++ text
  pub parts : List Part
  pub noted : new.parts.items ≡ old.parts.items ++ parts
  pub laid : (more : List ℕ) (later : List Part) (ds : List (Option Data)) → AreLaid (new.text.items ++ more) rest later ds → AreLaid (new.text.items ++ more) all (parts ++ later) (done ++ ds)

-- the text of a component was put, or nothing, and the part tells its value
pub record Shows (g : Grammar) (part : Part) (d : Data) (old new : Draft) : Type 0 where
  pub aside : new.aside.items ≡ old.aside.items
  pub parts : new.parts.items ≡ old.parts.items
  pub text : List ℕ
  pub added : new.text.items ≡ old.text.items ++ text
  pub tells : (more : List ℕ) → IsLaid (new.text.items ++ more) part g (Some d)

-- whether some stand before
abbrev pub some_before : {A : Type 0} → List A → Bool
some_before [] = false
some_before (x ∷ xs) = true

-- the elements of an array were put, with commas between them
pub record PutsItems (g : Grammar) (ds : List Data) (old new : Draft) : Type 0 where
  pub goes : (es : Elements) → new.text.items ++ items_text (some_before ds) (each_json (json_of g) es) ≡ old.text.items ++ items_text false (each_json (json_of g) (in_front ds es))
  pub aside : new.aside.items ≡ old.aside.items
  pub parts : new.parts.items ≡ old.parts.items

-- a component was read, and its number noted behind what was read on the way
abbrev pub PresentRead : (root g : Grammar) → (slot : Option ℕ) → Data → (before later : Env) → (old new : Reading) → Type 0
PresentRead root g slot d before later old new = (t : Env) × (later ≡ noted_by slot (number_of d) t) × NodeRead root g d before t old new

-- what is kept of the number of a field until its turn, which only a component has
abbrev pub kept_of : Piece → ℤ → List Part
kept_of piece x = if piece.is_component then Number x ∷ [] else []

-- the number of a field was noted where it is a slot's, and kept where the field is a component
pub record IsKept (piece : Piece) (x : ℤ) (old new : Draft) : Type 0 where
  pub slots : new.slots.items ≡ noted_by piece.slot x old.slots.items
  pub parts : new.parts.items ≡ old.parts.items ++ kept_of piece x
  pub text : new.text.items ≡ old.text.items
  pub aside : new.aside.items ≡ old.aside.items

-- so many fields in front of the rest were read, and what they say was kept
abbrev pub LaysFields : (fs rest : Fields) (count : ℕ) → (old new : Draft) → (a b : Reading) → Type 0
LaysFields fs rest count old new a b =
    (root : Grammar) → ((depth : ℕ) × (around : List ℕ) × FieldsStand root depth fs old.slots.items around) → FieldsItemsNamed fs → Fine root old.slots.items
    → (ds : List (Option Data)) × ((here : Here) (k : ℕ) (flags : List Bool) → Turn root here a.origin k (k + count) fs rest ds old.slots.items new.slots.items flags flags a b) × Lays fs rest ds old new
