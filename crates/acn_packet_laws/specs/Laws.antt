-- Laws of the definitions, as contracts name them.
use Rattle.std.specs.Prelude.{◌*◌, ◌≡◌, ◌≢◌, ℕ, ◌+◌, ◌≤◌, ◌<◌, ℤ, Bool, true, false, List, [], ◌∷◌, ◌++◌, length, map, take, slice_get, Option, Some, IsTrue, ◌⊎◌, IsSome}
use Rattle.std.specs.List.{flat_map, AllByRecursion}
use Rattle.acn_grammar.specs.Grammar.{Grammar, Fields, Data, node, num, seq}
use Rattle.acn_grammar.specs.Asks.{Moment, asks, counts, moments, field_path}
use Rattle.acn_grammar.specs.AsksOn.{form_asks_on}
use Rattle.acn_num.specs.Ranges.{In}
use Rattle.acn_grammar.specs.Check.{CheckFault, AsksFor, NodeAt, Undecodable, FirstFault, HasWidth, open_at}
use Rattle.acn_grammar.specs.Code.{Mode, Any, Code}
use Rattle.acn_grammar.specs.Env.{Env, at_slot}
use Rattle.acn_grammar.specs.Fails.{Fault, Refusal}
use Rattle.acn_grammar.specs.Front.{Front, IsWritten}
use Rattle.acn_grammar.specs.Interval.{span, width_of}
use Rattle.acn_grammar.specs.LeafFails.{Reason, LeafFails, short}
use Rattle.acn_grammar.specs.Length.{bit_length}
use Rattle.acn_grammar.specs.Leaves.{num_fine}
use Rattle.acn_grammar.specs.Meets.{Meets, Why, Unfit, conflict, breaches}
use Rattle.acn_grammar.specs.Refused.{Refused, asks_of}
use Rattle.acn_grammar.specs.PartAt.{part_at, occurrence}
use Rattle.acn_grammar.specs.Paths.{node_at, node_on}
use Rattle.acn_grammar.specs.Scoped.{Known, Agree, after, FineField, Permitted, Scoped}
use Rattle.acn_grammar.specs.Shaped.{Shaped}
use Rattle.acn_grammar.specs.Sound.{SaysSlot, Sound}
use Rattle.acn_grammar.specs.Spell.{Spell, SlotField}
use Rattle.acn_grammar.specs.Slots.{domain_of, slot_leaf}
use Rattle.acn_grammar.specs.Tree.{IsTree, holds, slots_of}
use Rattle.acn_grammar.specs.Walk.{Stand, Use, inside, slot_here, slot_of, uses}
use Rattle.acn_grammar.specs.declared.node.NumLeaf.{NumLeaf}
use Rattle.acn_num.specs.declared.limits.TheConstants.{MOST_SIZE}
use Rattle.acn_grammar.specs.declared.limits.TheConstants.{MOST_PACKET_BITS, MOST_OPEN_SLOTS}

-- no code of a leaf that keeps its rules begins another, and the code tells the number
abbrev pub NumbersArePrefixFree : Type 0
NumbersArePrefixFree =
    (leaf : NumLeaf) → IsTrue (num_fine leaf) → (x z : ℤ) (a b r s : List Bool) → Code Any leaf x a → Code Any leaf z b → a ++ r ≡ b ++ s → (a ≡ b) × (x ≡ z)

-- in a tree whose greatest bound is within a packet's limit every spelling has a length between the bounds
abbrev pub BoundsHold : Type 0
BoundsHold =
    (root : Grammar) (mode : Mode) (d : Data) (bs : List Bool) → IsTree root → (span root).greatest ≤ MOST_PACKET_BITS → Spell root mode root [] d 0 bs → ((span root).least ≤ length bs) × (length bs ≤ (span root).greatest)

-- a failure other than the want of bits is the same on every input with the same bits up to where it rests
abbrev pub FailuresRestOnBits : Type 0
FailuresRestOnBits =
    (root : Grammar) (input other : List Bool) (fault : Fault) (reach : ℕ) → IsTree root → Refusal root input fault reach → fault.reason ≢ short → take reach other ≡ take reach input → Refusal root other fault reach

-- the value at the front of an input is at the front of every input with the same bits
abbrev pub FrontsRestOnBits : Type 0
FrontsRestOnBits =
    (root : Grammar) (input other : List Bool) (d : Data) (n : ℕ) → Front root input d n → take n other ≡ take n input → Front root other d n

-- Trees that are accepted.

-- what the check says of a tree that it accepts: it is well formed, and no fault comes first
pub record IsAccepted (root : Grammar) : Type 0 where
  pub formed : IsTree root
  pub sound : (f : CheckFault) → FirstFault root f → ⊥

-- where no fault comes first there is none
abbrev pub NoFaultWithoutAFirst : Type 0
NoFaultWithoutAFirst = (root : Grammar) → ((f : CheckFault) → FirstFault root f → ⊥) → (f : CheckFault) → Undecodable root f → ⊥

-- at most one fault comes first
abbrev pub OneFirstFault : Type 0
OneFirstFault = (root : Grammar) (f g : CheckFault) → IsTree root → FirstFault root f → FirstFault root g → f ≡ g

-- an accepted tree is scoped: before it nothing is known
abbrev pub AcceptedIsScoped : Type 0
AcceptedIsScoped = (root : Grammar) → IsAccepted root → Scoped root (λ s. false) root

-- an accepted tree is sound at each of its nodes: its root stands at a path of no steps, no slot is at home round it, and nothing is known before it
abbrev pub AcceptedIsSound : Type 0
AcceptedIsSound = (root : Grammar) → IsAccepted root → Sound root 0 [] (λ s. false) root

-- a node is sound where some slots are known, all of them at home round it
pub record IsSoundAt (root : Grammar) (here : Stand) : Type 0 where
  pub known : Known
  pub at_home : (s : ℕ) → known s ≡ true → holds here.around s ≡ true
  pub sound : Sound root (length here.path) here.around known (node here.align here.form)

-- each node of an accepted tree is sound, by its number in preorder
abbrev pub EachNodeIsSound : Type 0
EachNodeIsSound = (root : Grammar) (k : ℕ) (here : Stand) → IsAccepted root → NodeAt root k here → IsSoundAt root here

-- what is sound is scoped
abbrev pub SoundIsScoped : Type 0
SoundIsScoped = (root : Grammar) (k : ℕ) (around : List ℕ) (ks : Known) (g : Grammar) → Sound root k around ks g → Scoped root ks g

-- a slot that is known behind a sound node was known before it, or is at home round it
abbrev pub KnownBehind : Type 0
KnownBehind = (root : Grammar) (k : ℕ) (around : List ℕ) (ks : Known) (g : Grammar) → Sound root k around ks g → (s : ℕ) → after ks g s ≡ true → (ks s ≡ true) ⊎ (holds around s ≡ true)

-- a slot that is known before a sound node is known behind it
abbrev pub KnownStays : Type 0
KnownStays = (root : Grammar) (k : ℕ) (around : List ℕ) (ks : Known) (g : Grammar) → Sound root k around ks g → (s : ℕ) → ks s ≡ true → after ks g s ≡ true

-- a slot permits the numbers of its field
abbrev pub SlotsPermitWhatTheirFieldsSay : Type 0
SlotsPermitWhatTheirFieldsSay = (root : Grammar) (around : List ℕ) (ks : Known) (s align : ℕ) (leaf : NumLeaf) → SaysSlot root around ks s (node align (num leaf)) → domain_of root s ≡ leaf.set

-- not too many slots are at home on the path to a node
abbrev pub FewAreOpen : Type 0
FewAreOpen = (root : Grammar) (k : ℕ) (here : Stand) → IsAccepted root → NodeAt root k here → open_at here ≤ MOST_OPEN_SLOTS

-- a use of a slot asks for the kind of number that its leaf is
abbrev pub UsesFitTheirSlots : Type 0
UsesFitTheirSlots =
    (root : Grammar) (k : ℕ) (here : Stand) (u : ℕ) (use' : Use) (leaf : NumLeaf) → IsAccepted root → NodeAt root k here → slice_get (uses here) u ≡ Some use' → slot_leaf root (slot_of use') ≡ Some leaf → AsksFor use' leaf.kind

-- No spelling begins another.

-- Two spellings of one node at one position, one of which begins with the other, under permitted numbers that agree on what is known: the bits and the values are the same, and the numbers agree on what is known behind the node.
abbrev pub NodesArePrefixFree : Type 0
NodesArePrefixFree =
    (root g : Grammar) (ks : Known) (env env' : Env) (d d' : Data) (at : ℕ) (a b r s : List Bool) → Scoped root ks g → Permitted root env → Agree ks env env'
    → Spell root Any g env d at a → Spell root Any g env' d' at b → a ++ r ≡ b ++ s → (a ≡ b) × (d ≡ d') × Agree (after ks g) env env'

-- the same of an inserted field: the bits and the slot's number are the same
abbrev pub SlotFieldsArePrefixFree : Type 0
SlotFieldsArePrefixFree =
    (root g : Grammar) (env env' : Env) (slot at : ℕ) (a b r s : List Bool) → FineField g → SlotField root Any g env slot at a → SlotField root Any g env' slot at b → a ++ r ≡ b ++ s → (a ≡ b) × (at_slot env slot ≡ at_slot env' slot)

-- the field of the slot stands before node k
pub record FieldBefore (root : Grammar) (k slot : ℕ) : Type 0 where
  pub number : ℕ
  pub field : Stand
  pub stands : NodeAt root number field
  pub is_of_slot : slot_here field.role ≡ Some slot
  pub before : number < k

-- the node or a node inside it uses the slot
abbrev pub UsedIn : Stand → (slot : ℕ) → Type 0
UsedIn at s = IsTrue (holds (map slot_of (flat_map uses (at ∷ inside at))) s)

-- two spellings of a node are one: the bits and the values are the same, and the numbers agree on each open slot whose field stands inside
pub record AreOneSpelling (here : Stand) (env env' : Env) (d d' : Data) (a b : List Bool) : Type 0 where
  pub bits : a ≡ b
  pub value : d ≡ d'
  pub numbers : (slot : ℕ) → IsTrue (holds here.around slot) → IsTrue (holds (slots_of (inside here)) slot) → at_slot env slot ≡ at_slot env' slot

-- Node k of an accepted tree: two spellings at one position, one of which begins with the other, are one, where the numbers agree on each open slot that the node or a node inside it uses and whose field stands before it.
abbrev pub EachNodeIsPrefixFree : Type 0
EachNodeIsPrefixFree =
    (root : Grammar) (k : ℕ) (here : Stand) (env env' : Env) (d d' : Data) (at : ℕ) (a b r s : List Bool) → IsAccepted root → NodeAt root k here → Permitted root env
    → ((slot : ℕ) → IsTrue (holds here.around slot) → UsedIn here slot → FieldBefore root k slot → at_slot env slot ≡ at_slot env' slot)
    → Spell root Any (node here.align here.form) env d at a → Spell root Any (node here.align here.form) env' d' at b → a ++ r ≡ b ++ s → AreOneSpelling here env env' d d' a b

-- no packet of an accepted tree begins another, and its bits tell the value
abbrev pub PacketsArePrefixFree : Type 0
PacketsArePrefixFree =
    (root : Grammar) (d d' : Data) (a b r s : List Bool) → IsAccepted root → Spell root Any root [] d 0 a → Spell root Any root [] d' 0 b → a ++ r ≡ b ++ s → (a ≡ b) × (d ≡ d')

-- Numbers and lengths.

-- every permitted number of a leaf that keeps its rules has a code, read or written
abbrev pub EachNumberHasACode : Type 0
EachNumberHasACode = (mode : Mode) (leaf : NumLeaf) → IsTrue (num_fine leaf) → (x : ℤ) → In leaf.set x → (bs : List Bool) × Code mode leaf x bs

-- the width of such a leaf is the one length of its codes, where there is one
abbrev pub WidthsAreLengths : Type 0
WidthsAreLengths = (leaf : NumLeaf) (w : ℕ) → IsTrue (num_fine leaf) → (width_of leaf ≡ Some w → HasWidth leaf w) × (HasWidth leaf w → width_of leaf ≡ Some w)

-- in an accepted tree a spelling has the length that the value and the position determine
abbrev pub LengthsAreTold : Type 0
LengthsAreTold = (root : Grammar) (mode : Mode) (d : Data) (bs : List Bool) → IsAccepted root → Spell root mode root [] d 0 bs → length bs ≡ bit_length root 0 d

-- the same of each node
abbrev pub EachLengthIsTold : Type 0
EachLengthIsTold =
    (root : Grammar) (k : ℕ) (here : Stand) (mode : Mode) (env : Env) (d : Data) (at : ℕ) (bs : List Bool) → IsAccepted root → NodeAt root k here
    → Spell root mode (node here.align here.form) env d at bs → length bs ≡ bit_length (node here.align here.form) at d

-- a value that meets its node has a length between the node's bounds, whatever the numbers of slots are, where the greatest bound is within a packet's limit
abbrev pub ValuesLieWithinBounds : Type 0
ValuesLieWithinBounds =
    (root : Grammar) (k : ℕ) (here : Stand) (d : Data) (at : ℕ) → IsAccepted root → NodeAt root k here → (span (node here.align here.form)).greatest ≤ MOST_PACKET_BITS → Meets (node here.align here.form) d
    → ((span (node here.align here.form)).least ≤ bit_length (node here.align here.form) at d) × (bit_length (node here.align here.form) at d ≤ (span (node here.align here.form)).greatest)

-- a value that begins later doesn't end earlier
abbrev pub LaterStartsEndLater : Type 0
LaterStartsEndLater =
    (root : Grammar) (k : ℕ) (here : Stand) (d : Data) (at later : ℕ) → IsTree root → NodeAt root k here → at ≤ later → at + bit_length (node here.align here.form) at d ≤ later + bit_length (node here.align here.form) later d

-- What an accepted tree says of an input.

-- the value at the front of an input is one, and so is the number of its bits
abbrev pub OneFront : Type 0
OneFront = (root : Grammar) (input : List Bool) (d d' : Data) (m n : ℕ) → IsAccepted root → Front root input d m → Front root input d' n → (d ≡ d') × (m ≡ n)

-- where a value is at the front, nothing fails
abbrev pub FrontsExcludeFailures : Type 0
FrontsExcludeFailures = (root : Grammar) (input : List Bool) (d : Data) (n : ℕ) (fault : Fault) (reach : ℕ) → IsAccepted root → Front root input d n → Refusal root input fault reach → ⊥

-- the failure is one: its path, its reason and its bit, and how many bits it rests on
abbrev pub OneFailure : Type 0
OneFailure = (root : Grammar) (input : List Bool) (f g : Fault) (m n : ℕ) → IsAccepted root → Refusal root input f m → Refusal root input g n → (f ≡ g) × (m ≡ n)

-- A failure other than the want of bits rests on bits that are there. Bits that are wanting in a list that a pattern ends are named with as many as the pattern has, which need not be there.
abbrev pub ReachesLieInside : Type 0
ReachesLieInside = (root : Grammar) (input : List Bool) (fault : Fault) (reach : ℕ) → IsAccepted root → Refusal root input fault reach → fault.reason ≢ short → reach ≤ length input

-- the bits of the greatest window round contents: 65,536 octets
abbrev pub greatest_window : ℕ
greatest_window = 8 * MOST_SIZE

-- bits are wanting only where there are fewer than the greatest packet and the greatest window have
abbrev pub ShortIsNear : Type 0
ShortIsNear = (root : Grammar) (input : List Bool) (fault : Fault) (reach : ℕ) → IsAccepted root → Refusal root input fault reach → fault.reason ≡ short → length input < (span root).greatest + greatest_window

-- no input of an accepted tree is left: a value is at its front, or something fails
abbrev pub EachInputIsReadOrFails : Type 0
EachInputIsReadOrFails = (root : Grammar) (input : List Bool) → IsAccepted root → ((d : Data) × (n : ℕ) × Front root input d n) ⊎ ((fault : Fault) × (reach : ℕ) × Refusal root input fault reach)

-- a code of the leaf is at the front
pub record CodeAtFront (leaf : NumLeaf) (input : List Bool) : Type 0 where
  pub number : ℤ
  pub code : List Bool
  pub behind : List Bool
  pub whole : input ≡ code ++ behind
  pub codes : Code Any leaf number code

-- the same of a number leaf that keeps its rules
abbrev pub EachInputIsANumberOrFails : Type 0
EachInputIsANumberOrFails = (leaf : NumLeaf) (input : List Bool) → IsTrue (num_fine leaf) → CodeAtFront leaf input ⊎ ((r : Reason) × (reach : ℕ) × LeafFails leaf input r reach)

-- What an accepted tree says of a value.

-- what is written for it can be read
abbrev pub WrittenIsRead : Type 0
WrittenIsRead = (root : Grammar) (d : Data) (bs : List Bool) → IsTree root → IsWritten root d bs → Spell root Any root [] d 0 bs

-- a value that has a spelling has the form of the tree, and no breach
abbrev pub SpelledValuesMeet : Type 0
SpelledValuesMeet = (root : Grammar) (mode : Mode) (d : Data) (bs : List Bool) → IsTree root → Spell root mode root [] d 0 bs → Meets root d

-- what the whole walk asks of the field of a slot at home in one occurrence of a SEQUENCE is, in order, what that occurrence asks of the slot
abbrev pub EachOccurrenceAsks : Type 0
EachOccurrenceAsks =
    (root : Grammar) (d part : Data) (path home : List ℕ) (align s : ℕ) (fields : Fields) → IsTree root → part_at root d path ≡ Some (occurrence (node align (seq fields home)) part) → IsTrue (holds home s)
    → asks_of (field_path path fields s) (moments root root [] [] d) ≡ form_asks_on root s (seq fields home) part

-- a moment that asks names a field of its slot
abbrev pub NamesItsSlot : (slot_at : List ℕ → Option ℕ) → Moment → Type 0
NamesItsSlot slot_at (asks path field s a) = slot_at field ≡ Some s
NamesItsSlot slot_at (counts path n sizing) = Unit {0}

-- which slot a field is of, by its path in a packet: that of each ask of a walk, and of each slot at home in an occurrence of a SEQUENCE
pub record TellsSlots (root : Grammar) (slot_at : List ℕ → Option ℕ) : Type 0 where
  pub asked : (d : Data) → AllByRecursion (NamesItsSlot slot_at) (moments root root [] [] d)
  pub at_home : (d part : Data) (path home : List ℕ) (align s : ℕ) (fields : Fields) → part_at root d path ≡ Some (occurrence (node align (seq fields home)) part) → IsTrue (holds home s) → slot_at (field_path path fields s) ≡ Some s

-- in an accepted tree the path of a field tells its slot
abbrev pub FieldsTellTheirSlots : Type 0
FieldsTellTheirSlots = (root : Grammar) → IsAccepted root → (slot_at : List ℕ → Option ℕ) × TellsSlots root slot_at

-- in what is spelled, read or written, nothing is a breach
abbrev pub SpellingsHaveNoBreach : Type 0
SpellingsHaveNoBreach = (root g : Grammar) (mode : Mode) (path : List ℕ) (env : Env) (d : Data) (at : ℕ) (bs : List Bool) → Spell root mode g env d at bs → breaches path g d ≡ []

-- a value is written in one way
abbrev pub OneWriting : Type 0
OneWriting = (root : Grammar) (d : Data) (a b : List Bool) → IsAccepted root → IsWritten root d a → IsWritten root d b → a ≡ b

-- a value of the tree's form is written, or refused
abbrev pub EachValueIsWrittenOrRefused : Type 0
EachValueIsWrittenOrRefused = (root : Grammar) (d : Data) → IsAccepted root → Shaped root d → ((bs : List Bool) × IsWritten root d bs) ⊎ ((u : Unfit) × Refused root d u)

-- what is refused has no spelling, neither written nor read
abbrev pub RefusedIsNotSpelled : Type 0
RefusedIsNotSpelled = (root : Grammar) (mode : Mode) (d : Data) (u : Unfit) (bs : List Bool) → IsAccepted root → Refused root d u → Spell root mode root [] d 0 bs → ⊥

-- a value is refused for one reason, at one place
abbrev pub OneRefusal : Type 0
OneRefusal = (root : Grammar) (d : Data) (u w : Unfit) → Refused root d u → Refused root d w → u ≡ w

-- Paths.

-- the node of a number in preorder is the node of its path
abbrev pub EachNodeHasItsPath : Type 0
EachNodeHasItsPath = (root : Grammar) (k : ℕ) (here : Stand) → NodeAt root k here → node_at root here.path ≡ Some (node here.align here.form)

-- the node at the path has a number in preorder
pub record HasNumber (root : Grammar) (path : List ℕ) (g : Grammar) : Type 0 where
  pub number : ℕ
  pub here : Stand
  pub stands : NodeAt root number here
  pub path_is : here.path ≡ path
  pub node_is : node here.align here.form ≡ g

-- the node of a path is the node of a number
abbrev pub EachPathHasItsNumber : Type 0
EachPathHasItsNumber = (root : Grammar) (path : List ℕ) (g : Grammar) → node_at root path ≡ Some g → HasNumber root path g

-- a part of a value is of a node of the grammar
abbrev pub ValuesAreOfNodes : Type 0
ValuesAreOfNodes = (root : Grammar) (path : List ℕ) (g : Grammar) → node_on root path ≡ Some g → (at : List ℕ) × (node_at root at ≡ Some g)

-- the part of a value at a path is of the node that the path leads to
abbrev pub PartsAreOfNodes : Type 0
PartsAreOfNodes = (root : Grammar) (d : Data) (path : List ℕ) (g : Grammar) (part : Data) → part_at root d path ≡ Some (occurrence g part) → node_on root path ≡ Some g

-- the path, one of a value, leads to a node
abbrev pub LeadsToANode : Grammar → (path : List ℕ) → Type 0
LeadsToANode root path = IsSome (node_on root path)

-- a failure is named for a node
abbrev pub FailuresAreAtNodes : Type 0
FailuresAreAtNodes = (root : Grammar) (input : List Bool) (fault : Fault) (reach : ℕ) → Refusal root input fault reach → LeadsToANode root fault.path

-- so is each breach of a value
abbrev pub BreachesAreAtNodes : Type 0
BreachesAreAtNodes = (root : Grammar) (d : Data) → AllByRecursion (λ u. LeadsToANode root u.path) (breaches [] root d)

-- the field that a conflict names is a node too
abbrev pub ReasonLeads : Grammar → Why → Type 0
ReasonLeads root (conflict field earlier wanted) = LeadsToANode root field
ReasonLeads root _ = Unit {0}

-- and so is what a value is refused for
abbrev pub RefusalsAreAtNodes : Type 0
RefusalsAreAtNodes = (root : Grammar) (d : Data) (u : Unfit) → Refused root d u → LeadsToANode root u.path × ReasonLeads root u.why
