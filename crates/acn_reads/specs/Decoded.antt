-- What the reader of a tree answers, whatever numbers the slots have that it hasn't read. (This profile's own.)
use Rattle.std.specs.Prelude.{◌≡◌, ℕ, ◌+◌, ◌^◌, ℤ, pos, ◌<ℤ◌, Bool, true, false, List, [], ◌∷◌, ◌++◌, length, Option, Some, None}
use Rattle.std.specs.List.{AllByRecursion}
use Rattle.acn_num.specs.Ranges.{In}
use Rattle.acn_bits.specs.Reading.{Reading, Reads}
use Rattle.acn_grammar.specs.Grammar.{Grammar, Form, Fields, Alternatives, Data, Places, Elements, empty, filled, element}
use Rattle.acn_grammar.specs.Code.{Any}
use Rattle.acn_grammar.specs.Env.{Env, at_slot}
use Rattle.acn_grammar.specs.Fails.{Fault, Failing, Here, Fails, FormFails, FieldsFail, presence_count, RunFails, EndedFails}
use Rattle.acn_grammar.specs.Faults.{reason_of}
use Rattle.acn_grammar.specs.LeafFails.{Reason}
use Rattle.acn_grammar.specs.Length.{presence_bits}
use Rattle.acn_grammar.specs.Scoped.{Known, after, form_after, fields_after}
use Rattle.acn_grammar.specs.Slots.{domain_of}
use Rattle.acn_grammar.specs.Spell.{Part, RunPart, Spell, FormPart, FieldsPart}
use Rattle.acn_grammar.specs.Tree.{holds}
use Rattle.acn_grammar.specs.Sound.{Sound, FormSound, FieldsSound, AlternativesSound, NothingLeaves}
use Rattle.acn_grammar.specs.declared.node.Sizing.{Sizing}
use Rattle.acn_reads.specs.declared.stop.Stop.{Stop}
use Rattle.acn_reads.specs.declared.stop.Stop.TheVariants.{Fails as Failed, NoMemory}

-- Numbers that were read.

-- the environment has each number that was read
abbrev pub Follows : (read : Env) → Env → Type 0
Follows read env = (s : ℕ) (x : ℤ) → at_slot read s ≡ Some x → at_slot env s ≡ Some x

-- what was read later goes on from what was read before
abbrev pub Grows : Env → Env → Type 0
Grows before later = (env : Env) → Follows later env → Follows before env

-- these slots have numbers, and no others
abbrev pub Has : Known → Env → Type 0
Has ks read = (s : ℕ) → (ks s ≡ true → (x : ℤ) × (at_slot read s ≡ Some x)) × (ks s ≡ false → at_slot read s ≡ None)

-- each number is that of a slot of the list
abbrev pub Within : (around : List ℕ) → Env → Type 0
Within around read = (s : ℕ) (x : ℤ) → at_slot read s ≡ Some x → holds around s ≡ true

-- the slots that are known have numbers, and are at home round the place
pub record Noted (around : List ℕ) (ks : Known) (read : Env) : Type 0 where
  pub has : Has ks read
  pub within : (s : ℕ) → ks s ≡ true → holds around s ≡ true

-- what is sound where some slots are at home round the place and some of them are known, behind numbers of just these
pub record Stands (sound : List ℕ → Known → Type 0) (read : Env) (around : List ℕ) : Type 0 where
  pub known : Known
  pub noted : Noted around known read
  pub is : sound around known

-- a front was passed that is the part under each environment with what was read
abbrev pub Passes : (Env → Part) → (read : Env) → Reading → Reading → Type 0
Passes P read old new = Reads (λ bs. (env : Env) → Follows read env → P env old.at bs) old new

-- the fault of a stop, where it isn't for want of memory
abbrev pub Tells : Stop → (Reason → (at : ℕ) → Type 0) → Type 0
Tells (Failed reason at) said = said (reason_of reason) at
Tells NoMemory said = Unit {0}

-- a stop that isn't for want of memory
abbrev pub IsFault : Stop → Type 0
IsFault (Failed reason at) = Unit {0}
IsFault NoMemory = ⊥

-- places in front of others
abbrev pub placed : List (Option Data) → Places → Places
placed [] ps = ps
placed (None ∷ ds) ps = empty (placed ds ps)
placed (Some d ∷ ds) ps = filled d (placed ds ps)

-- elements in front of others
abbrev pub in_front : List Data → Elements → Elements
in_front [] es = es
in_front (d ∷ ds) es = element d (in_front ds es)

-- what ends the elements of a list: their number, or a pattern
pub data Tail : Type 0 where
  counted : Tail
  ended : List Bool → Sizing → Tail

module _ (root : Grammar) where
  -- each number is a permitted one of its slot, and fits 64 bits
  abbrev pub Fine : Env → Type 0
  Fine read = AllByRecursion (λ e. In (domain_of root e.0) e.1 × (e.1 <ℤ pos (2 ^ 64))) read

  -- a node, a form, fields or an element at a path of k steps
  abbrev pub NodeStands : (k : ℕ) → Grammar → Env → (around : List ℕ) → Type 0
  NodeStands k g read around = Stands (λ a ks. Sound root k a ks g) read around

  abbrev pub FormStands : (k : ℕ) → Form → Env → (around : List ℕ) → Type 0
  FormStands k form read around = Stands (λ a ks. FormSound root k a ks form) read around

  abbrev pub FieldsStand : (k : ℕ) → Fields → Env → (around : List ℕ) → Type 0
  FieldsStand k fields read around = Stands (λ a ks. FieldsSound root k a ks fields) read around

  abbrev pub CasesStand : (k : ℕ) → Alternatives → Env → (around : List ℕ) → Type 0
  CasesStand k cases read around = Stands (λ a ks. AlternativesSound root k a ks cases) read around

  -- a node behind which the same slots are known as before it
  abbrev pub InnerStands : (k : ℕ) → Grammar → Env → (around : List ℕ) → Type 0
  InnerStands k g read around = Stands (λ a ks. NothingLeaves ks g × Sound root k a ks g) read around

  -- it fails under each environment that has some numbers: those read before, and those that were read on the way
  pub record Stops (stands : List ℕ → Type 0) (F : Env → Failing) (before : Env) (old : Reading) (fault : Fault) : Type 0 where
    pub read : Env
    pub grown : Grows before read
    pub fine : Fine read
    pub within : (around : List ℕ) → stands around → Within around read
    pub reach : ℕ
    pub fails : (env : Env) → Follows read env → F env old.at old.rest fault reach

  pub record FormRead (form : Form) (d : Data) (before later : Env) (old new : Reading) : Type 0 where
    pub grown : Grows before later
    pub fine : Fine later
    pub known : (k : ℕ) (around : List ℕ) (st : FormStands k form before around) → Noted around (form_after st.known form) later
    pub spelled : Passes (λ env. FormPart root Any form env d) later old new

  pub record NodeRead (g : Grammar) (d : Data) (before later : Env) (old new : Reading) : Type 0 where
    pub grown : Grows before later
    pub fine : Fine later
    pub known : (k : ℕ) (around : List ℕ) (st : NodeStands k g before around) → Noted around (after st.known g) later
    pub spelled : Passes (λ env. Spell root Any g env d) later old new

  abbrev pub NodeStops : Grammar → (inside : Bool) → List ℕ → Env → Reading → (path : List ℕ) → Reason → (at : ℕ) → Type 0
  NodeStops g inside from before old path r at =
      Stops (λ around. (k : ℕ) × NodeStands k g before around) (λ env. Fails root g env inside old.origin from) before old (record { path = path; reason = r; at = at })

  abbrev pub FormStops : Form → Here → (origin : ℕ) → Env → Reading → (path : List ℕ) → Reason → (at : ℕ) → Type 0
  FormStops form here origin before old path r at =
      Stops (λ around. (k : ℕ) × FormStands k form before around) (λ env. FormFails root form env here origin) before old (record { path = path; reason = r; at = at })

  -- What is known on the way through fields.
  pub record Onward (k : ℕ) (around : List ℕ) (ks : Known) (all rest : Fields) (later : Env) : Type 0 where
    pub stands : FieldsStand k rest later around
    pub same : (s : ℕ) → fields_after stands.known rest s ≡ fields_after ks all s

  -- Some fields were read, from field k up to field k', and put these places in front of those of the rest.
  pub record Turn (here : Here) (origin k k' : ℕ) (all rest : Fields) (done : List (Option Data)) (before later : Env) (flags flags' : List Bool) (old new : Reading) : Type 0 where
    pub grown : Grows before later
    pub fine : Fine later
    pub known : (depth : ℕ) (around : List ℕ) (st : FieldsStand depth all before around) → Onward depth around st.known all rest later
    pub counts : presence_count all ≡ length flags → presence_count rest ≡ length flags'
    pub bits : List Bool
    pub shown : presence_count all ≡ length flags → flags ≡ bits ++ flags'
    pub says : (ps : Places) → presence_bits all (placed done ps) ≡ bits ++ presence_bits rest ps
    pub front : List Bool
    pub split : old.rest ≡ front ++ new.rest
    pub moved : new.at ≡ old.at + length front
    pub window : new.origin ≡ old.origin
    pub goes : (env : Env) → Follows later env → (ps : Places) (bs : List Bool) → FieldsPart root Any rest env ps new.at bs → FieldsPart root Any all env (placed done ps) old.at (front ++ bs)
    pub stops : (env : Env) → Follows later env → (fault : Fault) (reach : ℕ) → FieldsFail root rest env flags' here origin k' new.at new.rest fault reach → FieldsFail root all env flags here origin k old.at old.rest fault (length front + reach)

  abbrev pub FieldsStop : Fields → (flags : List Bool) → Here → (origin k : ℕ) → Env → Reading → (path : List ℕ) → Reason → (at : ℕ) → Type 0
  FieldsStop fields flags here origin k before old path r at =
      Stops (λ around. (depth : ℕ) × FieldsStand depth fields before around) (λ env. FieldsFail root fields env flags here origin k) before old (record { path = path; reason = r; at = at })

  -- Elements.

  -- k elements were read before these
  abbrev pub TailFails : Tail → Here → (origin : ℕ) → Grammar → Env → (n k : ℕ) → Failing
  TailFails counted here origin g env n k = RunFails (Spell root Any g env) (λ i. Fails root g env here.inside origin (here.path ++ i ∷ [])) n k
  TailFails (ended p sizing) here origin g env n k = EndedFails here p sizing (Spell root Any g env) (λ i. Fails root g env here.inside origin (here.path ++ i ∷ [])) n k

  -- some elements were read behind k others
  pub record RunTurn (here : Here) (origin : ℕ) (g : Grammar) (k : ℕ) (done : List Data) (before later : Env) (old new : Reading) : Type 0 where
    pub grown : Grows before later
    pub fine : Fine later
    pub known : (depth : ℕ) (around : List ℕ) (st : InnerStands depth g before around) → Noted around st.known later
    pub front : List Bool
    pub split : old.rest ≡ front ++ new.rest
    pub moved : new.at ≡ old.at + length front
    pub window : new.origin ≡ old.origin
    pub goes : (env : Env) → Follows later env → (es : Elements) (bs : List Bool) → RunPart (Spell root Any g env) es new.at bs → RunPart (Spell root Any g env) (in_front done es) old.at (front ++ bs)
    pub stops : (env : Env) → Follows later env → (tail : Tail) (n : ℕ) (fault : Fault) (reach : ℕ) → TailFails tail here origin g env n (length done + k) new.at new.rest fault reach → TailFails tail here origin g env (length done + n) k old.at old.rest fault (length front + reach)

  abbrev pub TailStops : Tail → Here → (origin : ℕ) → Grammar → (n k : ℕ) → Env → Reading → (path : List ℕ) → Reason → (at : ℕ) → Type 0
  TailStops tail here origin g n k before old path r at =
      Stops (λ around. (depth : ℕ) × InnerStands depth g before around) (λ env. TailFails tail here origin g env n k) before old (record { path = path; reason = r; at = at })
