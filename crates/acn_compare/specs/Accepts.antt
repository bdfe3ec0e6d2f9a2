-- Which grammar reads all that an older one's packets say, node by node, and the first thing that stands in the way. (This profile's own.)
use Rattle.std.specs.Prelude.{◌≡◌, ℕ, suc, ◌<◌, ◌≤◌, ℤ, ◌≤ℤ◌, Bool, true, false, ◌&&◌, ◌||◌, nat_eq, List, [], ◌∷◌, ◌++◌, length, Option, Some, None, option_map, ◌⊎◌}
use Rattle.std.specs.List.{AllByRecursion}
use Rattle.acn_num.specs.Ranges.{Ranges, In}
use Rattle.acn_grammar.specs.Fails.{count_of}
use Rattle.acn_grammar.specs.Grammar.{Grammar, Form, Fields, Alternatives, node, num, octets, bits, text, seq, list, choice, contained, no_fields, component, inserted, alternative}
use Rattle.acn_grammar.specs.Walk.{conditions_of}
use Rattle.acn_grammar.specs.declared.node.NumLeaf.{NumLeaf}
use Rattle.acn_grammar.specs.declared.node.Table.{Table}
use Rattle.acn_grammar.specs.declared.node.TextLeaf.{TextLeaf}
use Rattle.acn_grammar.specs.declared.node.SizeRule.{SizeRule}
use Rattle.acn_grammar.specs.declared.node.SizeRule.TheVariants.{Prefix, Slot, Ended}
use Rattle.acn_grammar.specs.declared.node.Presence.{Presence}
use Rattle.acn_grammar.specs.declared.node.Presence.TheVariants.{Always, Bit, When}
use Rattle.acn_grammar.specs.declared.node.Test.{Test}
use Rattle.acn_grammar.specs.declared.node.Test.TheVariants.{Flag, Equals}
use Rattle.acn_grammar.specs.declared.node.ChoiceRule.{ChoiceRule}
use Rattle.acn_grammar.specs.declared.node.ChoiceRule.TheVariants.{Index, Tests, Item}
use Rattle.acn_compare.specs.declared.answer.Reason.{Reason}
use Rattle.acn_compare.specs.declared.answer.Reason.TheVariants as because

-- Nodes at the same place of two grammars, in preorder. A field's place has the slots whose numbers it says.

pub record Place : Type 0 where
  pub path : List ℕ
  pub old_slot : Option ℕ
  pub new_slot : Option ℕ
  pub old : Grammar
  pub new : Grammar

abbrev mutual
  pub places : List ℕ → (slot slot' : Option ℕ) → Grammar → Grammar → List Place
  places path slot slot' (node align form) (node align' form') =
      record { path = path; old_slot = slot; new_slot = slot'; old = node align form; new = node align' form' } ∷ form_places path form form'

  pub form_places : List ℕ → Form → Form → List Place
  form_places path (seq fields home) (seq fields' home') = field_places path 0 fields fields'
  form_places path (list sizing g) (list sizing' g') = places (path ++ 0 ∷ []) None None g g'
  form_places path (choice cases rule) (choice cases' rule') = case_places path 0 cases cases'
  form_places path (contained sizing g) (contained sizing' g') = places (path ++ 0 ∷ []) None None g g'
  form_places path _ _ = []

  pub field_places : List ℕ → ℕ → Fields → Fields → List Place
  field_places path k (component name g presence default slot fs) (component name' g' presence' default' slot' fs') = places (path ++ k ∷ []) slot slot' g g' ++ field_places path (suc k) fs fs'
  field_places path k (inserted name g slot fs) (inserted name' g' slot' fs') = places (path ++ k ∷ []) slot slot' g g' ++ field_places path (suc k) fs fs'
  field_places path k _ _ = []

  pub case_places : List ℕ → ℕ → Alternatives → Alternatives → List Place
  case_places path k (alternative name g tests more) (alternative name' g' tests' more') = places (path ++ k ∷ []) None None g g' ++ case_places path (suc k) more more'
  case_places path k _ _ = []

-- Slots of the two grammars answer to each other where their fields stand at the same place.

abbrev pub Answering : Type 0
Answering = List (ℕ × ℕ)

abbrev pub slot_pair : Option ℕ → Option ℕ → Answering
slot_pair (Some s) (Some t) = (s, t) ∷ []
slot_pair _ _ = []

abbrev pub answering : List Place → Answering
answering [] = []
answering (p ∷ ps) = slot_pair p.old_slot p.new_slot ++ answering ps

abbrev pub answers : Answering → ℕ → ℕ → Bool
answers [] s t = false
answers (a ∷ as') s t = (nat_eq a.0 s && nat_eq a.1 t) || answers as' s t

abbrev pub AllAnswer : Answering → List ℕ → List ℕ → Type 0
AllAnswer by [] [] = Unit {0}
AllAnswer by (s ∷ ss) (t ∷ ts) = (answers by s t ≡ true) × AllAnswer by ss ts
AllAnswer by _ _ = ⊥

-- What a field says beside its node.

pub record Head : Type 0 where
  pub inserted : Bool
  pub name : List ℕ
  pub presence : Presence
  pub slot : Option ℕ

abbrev pub heads : Fields → List Head
heads no_fields = []
heads (component name g presence default slot fs) = record { inserted = false; name = name; presence = presence; slot = slot } ∷ heads fs
heads (inserted name g slot fs) = record { inserted = true; name = name; presence = Always; slot = slot } ∷ heads fs

-- each of the one, and what stands at the same place of the other
abbrev pub Together : {A : Type 0} → (A → A → Type 0) → List A → List A → Type 0
Together P (a ∷ as') (b ∷ bs) = P a b × Together P as' bs
Together P _ _ = Unit {0}

-- every number of the one set is in the other
abbrev pub Permits : Ranges → Ranges → Type 0
Permits old new = (x : ℤ) → In old x → In new x

abbrev pub table_lines : Option Table → Option (List (ℤ × ℤ × ℤ))
table_lines table = option_map (λ t. t.lines) table

-- What two nodes at one place must have alike.

abbrev pub SameKind : Form → Form → Type 0
SameKind (num leaf) (num leaf') = leaf.kind ≡ leaf'.kind
SameKind (octets sizing) (octets sizing') = Unit {0}
SameKind (bits sizing) (bits sizing') = Unit {0}
SameKind (text leaf) (text leaf') = Unit {0}
SameKind (seq _ _) (seq _ _) = Unit {0}
SameKind (list sizing g) (list sizing' g') = Unit {0}
SameKind (choice cases rule) (choice cases' rule') = Unit {0}
SameKind (contained sizing g) (contained sizing' g') = Unit {0}
SameKind _ _ = ⊥

-- what says the size is alike, but for the slot
abbrev pub SameRule : SizeRule → SizeRule → Type 0
SameRule (Prefix low width) (Prefix low' width') = (low ≡ low') × (width ≡ width')
SameRule (Slot s) (Slot t) = Unit {0}
SameRule (Ended p) (Ended q) = p ≡ q
SameRule _ _ = ⊥

pub record SameNumberCoding (old new : NumLeaf) : Type 0 where
  pub coding : old.coding ≡ new.coding
  pub little : old.little ≡ new.little
  pub table : table_lines old.table ≡ table_lines new.table
  pub values : old.items.values ≡ new.items.values

pub record SameTextCoding (old new : TextLeaf) : Type 0 where
  pub rule : SameRule old.sized.rule new.sized.rule
  pub ended : old.ended ≡ new.ended
  pub width : old.width ≡ new.width
  pub indexed : old.indexed ≡ new.indexed
  pub places : old.indexed ≡ true → old.alphabet ≡ new.alphabet

abbrev pub SameIndex : ChoiceRule → ChoiceRule → Type 0
SameIndex (Index width) (Index width') = width ≡ width'
SameIndex _ _ = Unit {0}

abbrev pub SameCoding : Form → Form → Type 0
SameCoding (num leaf) (num leaf') = SameNumberCoding leaf leaf'
SameCoding (octets sizing) (octets sizing') = SameRule sizing.rule sizing'.rule
SameCoding (bits sizing) (bits sizing') = SameRule sizing.rule sizing'.rule
SameCoding (text leaf) (text leaf') = SameTextCoding leaf leaf'
SameCoding (list sizing g) (list sizing' g') = SameRule sizing.rule sizing'.rule
SameCoding (choice cases rule) (choice cases' rule') = SameIndex rule rule'
SameCoding (contained sizing g) (contained sizing' g') = SameRule sizing.rule sizing'.rule
SameCoding _ _ = Unit {0}

-- the sets whose numbers must be permitted: numbers or sizes, then characters
abbrev pub sets_of : Form → List Ranges
sets_of (num leaf) = leaf.set ∷ []
sets_of (octets sizing) = sizing.sizes ∷ []
sets_of (bits sizing) = sizing.sizes ∷ []
sets_of (text leaf) = leaf.sized.sizes ∷ leaf.alphabet ∷ []
sets_of (list sizing g) = sizing.sizes ∷ []
sets_of (contained sizing g) = sizing.sizes ∷ []
sets_of _ = []

abbrev pub SameNames : Form → Form → Type 0
SameNames (num leaf) (num leaf') = leaf.items.items ≡ leaf'.items.items
SameNames (seq fields home) (seq fields' home') = Together (λ h k. h.inserted ≡ false → k.inserted ≡ false → h.name ≡ k.name) (heads fields) (heads fields')
SameNames (choice cases rule) (choice cases' rule') = Together (λ c d. c.0 ≡ d.0) (conditions_of cases) (conditions_of cases')
SameNames _ _ = Unit {0}

abbrev pub SameFields : Form → Form → Type 0
SameFields (seq fields home) (seq fields' home') = (length (heads fields) ≡ length (heads fields')) × Together (λ h k. h.inserted ≡ k.inserted) (heads fields) (heads fields')
SameFields _ _ = Unit {0}

abbrev pub BothBy : Presence → Presence → Type 0
BothBy Always Always = Unit {0}
BothBy Bit Bit = Unit {0}
BothBy (When ts) (When us) = Unit {0}
BothBy _ _ = ⊥

abbrev pub SamePresence : Form → Form → Type 0
SamePresence (seq fields home) (seq fields' home') = Together (λ h k. BothBy h.presence k.presence) (heads fields) (heads fields')
SamePresence _ _ = Unit {0}

abbrev pub SameTest : Answering → Test → Test → Type 0
SameTest by (Flag s) (Flag t) = answers by s t ≡ true
SameTest by (Equals s k) (Equals t m) = (answers by s t ≡ true) × (k ≡ m)
SameTest by _ _ = ⊥

abbrev pub SameTests : Answering → List Test → List Test → Type 0
SameTests by [] [] = Unit {0}
SameTests by (t ∷ ts) (u ∷ us) = SameTest by t u × SameTests by ts us
SameTests by _ _ = ⊥

abbrev pub SameConditions : Answering → Presence → Presence → Type 0
SameConditions by (When ts) (When us) = SameTests by ts us
SameConditions by _ _ = Unit {0}

-- both have a slot, or none
abbrev pub BothSay : Option ℕ → Option ℕ → Type 0
BothSay None None = Unit {0}
BothSay (Some s) (Some t) = Unit {0}
BothSay _ _ = ⊥

abbrev pub SameSlot : Answering → SizeRule → SizeRule → Type 0
SameSlot by (Slot s) (Slot t) = answers by s t ≡ true
SameSlot by _ _ = Unit {0}

abbrev pub SameChooser : Answering → Alternatives → ChoiceRule → Alternatives → ChoiceRule → Type 0
SameChooser by cases Tests cases' Tests = Together (λ c d. SameTests by c.1 d.1) (conditions_of cases) (conditions_of cases')
SameChooser by cases (Item s) cases' (Item t) = answers by s t ≡ true
SameChooser by cases _ cases' _ = Unit {0}

abbrev pub SameDeterminants : Answering → Form → Form → Type 0
SameDeterminants by (octets sizing) (octets sizing') = SameSlot by sizing.rule sizing'.rule
SameDeterminants by (bits sizing) (bits sizing') = SameSlot by sizing.rule sizing'.rule
SameDeterminants by (text leaf) (text leaf') = SameSlot by leaf.sized.rule leaf'.sized.rule
SameDeterminants by (list sizing g) (list sizing' g') = SameSlot by sizing.rule sizing'.rule
SameDeterminants by (contained sizing g) (contained sizing' g') = SameSlot by sizing.rule sizing'.rule
SameDeterminants by (choice cases rule) (choice cases' rule') = SameChooser by cases rule cases' rule'
SameDeterminants by (seq fields home) (seq fields' home') = AllAnswer by home home' × Together (λ h k. BothSay h.slot k.slot × SameConditions by h.presence k.presence) (heads fields) (heads fields')
SameDeterminants by _ _ = Unit {0}

abbrev pub BothChoose : ChoiceRule → ChoiceRule → Type 0
BothChoose (Index width) (Index width') = Unit {0}
BothChoose Tests Tests = Unit {0}
BothChoose (Item s) (Item t) = Unit {0}
BothChoose _ _ = ⊥

abbrev pub SameAlternatives : Form → Form → Type 0
SameAlternatives (choice cases rule) (choice cases' rule') = BothChoose rule rule' × (count_of cases ≤ count_of cases')
SameAlternatives _ _ = Unit {0}

-- the order in which the reasons are tried at a node
abbrev pub rank : Reason → ℕ
rank because.Kind = 1
rank because.Align = 2
rank because.Coding = 3
rank because.Values = 4
rank because.Names = 5
rank because.Fields = 6
rank because.Presence = 7
rank because.Determinant = 8
rank because.Alternatives = 9

-- the reason doesn't hold of two nodes
abbrev pub Agree : Answering → Reason → Grammar → Grammar → Type 0
Agree by because.Kind (node a f) (node b g) = SameKind f g
Agree by because.Align (node a f) (node b g) = a ≡ b
Agree by because.Coding (node a f) (node b g) = SameCoding f g
Agree by because.Values (node a f) (node b g) = Together Permits (sets_of f) (sets_of g)
Agree by because.Names (node a f) (node b g) = SameNames f g
Agree by because.Fields (node a f) (node b g) = SameFields f g
Agree by because.Presence (node a f) (node b g) = SamePresence f g
Agree by because.Determinant (node a f) (node b g) = SameDeterminants by f g
Agree by because.Alternatives (node a f) (node b g) = SameAlternatives f g

abbrev pub AllAgree : Answering → List Place → Type 0
AllAgree by ps = AllByRecursion (λ p. (r : Reason) → Agree by r p.old p.new) ps

-- the nodes of two grammars by place
abbrev pub placed : Grammar → Grammar → List Place
placed old new = places [] None None old new

-- each packet of the old grammar is one of the new one
abbrev pub Accepts : Grammar → Grammar → Type 0
Accepts old new = AllAgree (answering (placed old new)) (placed old new)

-- The first difference.

-- the least number of the one set that isn't in the other
pub record IsLost (old new : Ranges) (x : ℤ) : Type 0 where
  pub had : In old x
  pub lost : In new x → ⊥
  pub first : (y : ℤ) → In old y → (In new y → ⊥) → x ≤ℤ y

-- that of the first sets where one is lost
abbrev pub Lost : List Ranges → List Ranges → ℤ → Type 0
Lost (old ∷ olds) (new ∷ news) x = IsLost old new x ⊎ (Permits old new × Lost olds news x)
Lost _ _ x = ⊥

abbrev pub Keeps : Reason → Grammar → Grammar → Option ℤ → Type 0
Keeps because.Values (node a f) (node b g) (Some x) = Lost (sets_of f) (sets_of g) x
Keeps because.Values old new None = ⊥
Keeps _ old new (Some x) = ⊥
Keeps _ old new None = Unit {0}

-- The reason is the least that holds of the two nodes: those below it don't.
pub record Differs (by : Answering) (old new : Grammar) (reason : Reason) (number : Option ℤ) : Type 0 where
  pub earlier : (r : Reason) → rank r < rank reason → Agree by r old new
  pub differs : Agree by reason old new → ⊥
  pub keeps : Keeps reason old new number

-- The first place of some at which the nodes differ.
pub record FirstOf (by : Answering) (all : List Place) (path : List ℕ) (reason : Reason) (number : Option ℤ) : Type 0 where
  pub before : List Place
  pub here : Place
  pub after : List Place
  pub whole : all ≡ before ++ here ∷ after
  pub agree : AllAgree by before
  pub least : Differs by here.old here.new reason number
  pub path_is : path ≡ here.path

-- the first node of the old grammar at which one of the reasons holds, the least that holds there, and the number that it keeps
abbrev pub FirstDifference : Grammar → Grammar → (path : List ℕ) → Reason → (number : Option ℤ) → Type 0
FirstDifference old new path reason number = FirstOf (answering (placed old new)) (placed old new) path reason number
