-- Which bits spell a value of a node: the order of the parts is that of X.691, unaligned (clauses 16 to 23, and 30 for
-- characters), with ACN's alignment, inserted fields, conditions and determinants, as this profile has them.
use Rattle.std.specs.Prelude.{◌≡◌, ℕ, zero, suc, ◌+◌, ◌-◌, ◌*◌, ◌%◌, ◌<◌, ◌≤◌, ℤ, pos, ◌-ℤ◌, int_le, nat_abs, Bool, false, List, [], ◌∷◌, ◌++◌, length, map, take, drop, Option, Some, None, if◌then◌else◌, replicate, slice_get, IsTrue}
use Rattle.std.specs.List.{AllByRecursion, zip}
use Rattle.acn_num.specs.Bits.{number, bits as bits_of, IsNumber}
use Rattle.acn_num.specs.Ranges.{In}
use Rattle.acn_grammar.specs.Grammar.{Grammar, Form, Fields, Alternatives, Data, Places, Elements, node, num, octets, bits, text, seq, list, choice, contained, no_fields, component, inserted, no_alternatives, alternative, null, octet_string, bit_string, characters, record_of, list_of, alt, no_places, empty, filled, no_elements, element, element_count}
use Rattle.acn_grammar.specs.Code.{Mode, Written, Code, NumberOf, in_octets}
use Rattle.acn_grammar.specs.Env.{Env, at_slot, AllHold, MayBeThere, MayBeAway}
use Rattle.acn_grammar.specs.Length.{presence_bits, number_of, ending}
use Rattle.acn_grammar.specs.Shaped.{are_octets}
use Rattle.acn_grammar.specs.Slots.{items_of, domain_of}
use Rattle.acn_grammar.specs.AsksOn.{form_asks_on, LeastAnswer}
use Rattle.acn_grammar.specs.declared.node.TextLeaf.{TextLeaf}
use Rattle.acn_grammar.specs.declared.node.Sizing.{Sizing}
use Rattle.acn_grammar.specs.declared.node.SizeRule.{SizeRule}
use Rattle.acn_grammar.specs.declared.node.SizeRule.TheVariants.{Prefix, Slot, Ended}
use Rattle.acn_grammar.specs.declared.node.ChoiceRule.{ChoiceRule}
use Rattle.acn_grammar.specs.declared.node.ChoiceRule.TheVariants.{Index, Tests, Item}
use Rattle.acn_grammar.specs.declared.node.Test.{Test}

-- Parts: what bits may stand at a position.

abbrev pub Part : Type 1
Part = ℕ → List Bool → Type 0

-- these bits and no others
abbrev pub Exactly : List Bool → Part
Exactly want at bs = bs ≡ want

-- no bits, under a condition
abbrev pub Only : Type 0 → Part
Only fact at bs = fact × (bs ≡ [])

infixr 30 ◌then◌
-- one part, and another behind it
pub record ◌then◌ (P Q : Part) (at : ℕ) (bs : List Bool) : Type 0 where
  pub front : List Bool
  pub back : List Bool
  pub whole : bs ≡ front ++ back
  pub first : P at front
  pub second : Q (at + length front) back

-- a part under a condition
pub record Where (fact : Type 0) (P : Part) (at : ℕ) (bs : List Bool) : Type 0 where
  pub given : fact
  pub spelled : P at bs

-- some number whose part this is
pub record Some_ℕ (P : ℕ → Part) (at : ℕ) (bs : List Bool) : Type 0 where
  pub some : ℕ
  pub spelled : P some at bs

-- the fewest bits that bring the position to a multiple, zeros where they are written
pub record Padding (mode : Mode) (align : ℕ) (at : ℕ) (bs : List Bool) : Type 0 where
  pub aligned : (at + length bs) % align ≡ 0
  pub fewest : length bs < align
  pub zeros : mode ≡ Written → bs ≡ replicate (length bs) false

-- fewer than 8 bits, zeros where they are written
pub record Fill (mode : Mode) (at : ℕ) (bs : List Bool) : Type 0 where
  pub aligned : (at + length bs) % 8 ≡ 0
  pub few : length bs < 8
  pub zeros : mode ≡ Written → bs ≡ replicate (length bs) false

-- the number in this many bits
abbrev pub Number : (width n : ℕ) → Part
Number width n at bs = IsNumber width n bs

-- Sizes.

abbrev pub RulePart : SizeRule → Env → ℕ → Part
RulePart (Prefix low width) env n = Where (low ≤ n) (Number width (n - low))
RulePart (Slot s) env n = Only (at_slot env s ≡ Some (pos n))
RulePart (Ended p) env n = Only ⊥

abbrev pub SizePart : Sizing → Env → ℕ → Part
SizePart sizing env n = Where (In sizing.sizes (pos n)) (RulePart sizing.rule env n)

-- Texts.

-- how many numbers of the ranges lie below x
abbrev pub place_in : List (ℤ × ℤ) → ℤ → ℕ
place_in [] x = 0
place_in (r ∷ rs) x = if int_le x r.1 then nat_abs (x -ℤ r.0) else nat_abs (r.1 -ℤ r.0) + 1 + place_in rs x

abbrev pub character_number : TextLeaf → ℕ → ℕ
character_number leaf c = if leaf.indexed then place_in leaf.alphabet (pos c) else c

abbrev pub CharactersPart : TextLeaf → List ℕ → Part
CharactersPart leaf [] = Exactly []
CharactersPart leaf (c ∷ cs) = Where (In leaf.alphabet (pos c)) (Number leaf.width (character_number leaf c)) then CharactersPart leaf cs

-- the octets of a terminator
abbrev pub octet_numbers : List Bool → List ℕ
octet_numbers end = map number (in_octets end)

-- the terminator stands nowhere before the text's end
abbrev pub EndsFirst : List ℕ → List ℕ → Type 0
EndsFirst end cs = (i : ℕ) → take (length end) (drop i (cs ++ end)) ≡ end → length cs ≤ i

abbrev pub EndedPart : Option (List Bool) → TextLeaf → Env → List ℕ → Part
EndedPart None leaf env cs = SizePart leaf.sized env (length cs) then CharactersPart leaf cs
EndedPart (Some end) leaf env cs = Where (In leaf.sized.sizes (pos (length cs)) × EndsFirst (octet_numbers end) cs) (CharactersPart leaf cs then Exactly end)

abbrev pub TextPart : TextLeaf → Env → List ℕ → Part
TextPart leaf env cs = EndedPart leaf.ended leaf env cs

-- Elements that follow each other.
abbrev pub RunPart : (Data → Part) → Elements → Part
RunPart each no_elements = Exactly []
RunPart each (element d es) = each d then RunPart each es

-- a size in front of them, or a pattern directly behind the last
abbrev pub ListPart : Option (List Bool) → Sizing → Env → (Data → Part) → Elements → Part
ListPart None sizing env each es = SizePart sizing env (element_count es) then RunPart each es
ListPart (Some p) sizing env each es = Where (In sizing.sizes (pos (element_count es))) (RunPart each es then Exactly p)

-- contents in a window of whole octets, from position 0
pub record Window (content : Part) (fill : Part) (n : ℕ) (at : ℕ) (bs : List Bool) : Type 0 where
  pub size : length bs ≡ 8 * n
  pub inside : (content then fill) 0 bs

-- the value of a component with a slot says the slot's number
abbrev pub Carries : Env → Option ℕ → Data → Type 0
Carries env None d = Unit {0}
Carries env (Some s) d = at_slot env s ≡ Some (number_of d)

-- one of the numbers of slots at home here
abbrev pub with_home : List ℕ → List ℤ → Env → Env
with_home home xs env = zip home xs ++ env

module _ (root : Grammar) where
  -- which alternative the numbers choose
  abbrev pub Chosen : ChoiceRule → Env → (name : List ℕ) → List Test → Type 0
  Chosen (Index width) env name tests = Unit {0}
  Chosen Tests env name tests = AllHold env tests
  Chosen (Item s) env name tests = (i : ℕ) × (x : ℤ) × (at_slot env s ≡ Some (pos i)) × (slice_get (items_of root s) i ≡ Some (name, x))

  abbrev pub IndexPart : ChoiceRule → ℕ → Part
  IndexPart (Index width) i = Number width i
  IndexPart _ i = Exactly []

  -- the numbers of the slots at home: one for each, permitted, and the least where they are written
  pub record AtHome (mode : Mode) (form : Form) (d : Data) (home : List ℕ) (xs : List ℤ) : Type 0 where
    pub count : length xs ≡ length home
    pub permitted : AllByRecursion (λ e. In (domain_of root e.0) e.1) (zip home xs)
    pub least : mode ≡ Written → AllByRecursion (λ e. LeastAnswer (domain_of root e.0) (form_asks_on root e.0 form d) e.1) (zip home xs)

  pub record SomeNumbers (given : List ℤ → Type 0) (P : List ℤ → Part) (at : ℕ) (bs : List Bool) : Type 0 where
    pub numbers : List ℤ
    pub fine : given numbers
    pub spelled : P numbers at bs

  -- the spelling of a slot's number
  abbrev pub SlotField : Mode → Grammar → Env → ℕ → Part
  SlotField mode (node align (num leaf)) env s = λ at bs. (x : ℤ) × (at_slot env s ≡ Some x) × (Padding mode align then (λ at' cs. Code mode leaf x cs)) at bs
  SlotField mode _ env s = Only ⊥

  abbrev mutual
    pub Spell : Mode → Grammar → Env → Data → Part
    Spell mode (node align form) env d = Padding mode align then FormPart mode form env d

    pub FormPart : Mode → Form → Env → Data → Part
    FormPart mode (num leaf) env d = λ at bs. (x : ℤ) × NumberOf leaf.kind d x × Code mode leaf x bs
    FormPart mode (octets sizing) env (octet_string os) = SizePart sizing env (length os) then Where (IsTrue (are_octets os)) (Exactly (bits_of os))
    FormPart mode (bits sizing) env (bit_string bs) = SizePart sizing env (length bs) then Exactly bs
    FormPart mode (text leaf) env (characters cs) = TextPart leaf env cs
    FormPart mode (seq fields home) env (record_of ps) =
        SomeNumbers (AtHome mode (seq fields home) (record_of ps) home) (λ xs.
        Exactly (presence_bits fields ps) then FieldsPart mode fields (with_home home xs env) ps)
    FormPart mode (list sizing g) env (list_of es) = ListPart (ending sizing.rule) sizing env (Spell mode g env) es
    FormPart mode (choice alternatives rule) env (alt i d) = IndexPart rule i then AlternativePart mode alternatives rule env i d
    FormPart mode (contained sizing g) env d = Some_ℕ (λ n. SizePart sizing env n then Window (Spell mode g env d) (Fill mode) n)
    FormPart mode _ env d = Only ⊥

    pub FieldsPart : Mode → Fields → Env → Places → Part
    FieldsPart mode no_fields env no_places = Exactly []
    FieldsPart mode (component name g presence default own fs) env (filled d ps) = Where (MayBeThere env presence × Carries env own d) (Spell mode g env d) then FieldsPart mode fs env ps
    FieldsPart mode (component name g presence default own fs) env (empty ps) = Where (MayBeAway env presence) (FieldsPart mode fs env ps)
    FieldsPart mode (inserted name g (Some s) fs) env ps = SlotField mode g env s then FieldsPart mode fs env ps
    FieldsPart mode (inserted name g None fs) env ps = Spell mode g env null then FieldsPart mode fs env ps
    FieldsPart mode _ env ps = Only ⊥

    pub AlternativePart : Mode → Alternatives → ChoiceRule → Env → ℕ → Data → Part
    AlternativePart mode (alternative name g tests more) rule env zero d = Where (Chosen rule env name tests) (Spell mode g env d)
    AlternativePart mode (alternative name g tests more) rule env (suc i) d = AlternativePart mode more rule env i d
    AlternativePart mode no_alternatives rule env i d = Only ⊥
