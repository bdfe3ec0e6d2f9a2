-- Where and why a packet can't be read, case by case beside the grammar of what can (Spell). Reasons and their order are
-- this profile's own.
use Rattle.std.specs.Prelude.{◌≡◌, ◌≢◌, ℕ, zero, suc, ◌+◌, ◌*◌, max, ◌<◌, ◌≤◌, ℤ, pos, negsuc, Bool, true, false, List, [], ◌∷◌, ◌++◌, length, take, drop, Option, Some, None}
use Rattle.std.specs.List.{AllByRecursion, zip, find, range_with_len}
use Rattle.acn_num.specs.Bits.{number}
use Rattle.acn_num.specs.Ranges.{In, greatest}
use Rattle.acn_grammar.specs.Grammar.{Grammar, Form, Fields, Alternatives, Data, node, num, octets, bits, text, seq, list, choice, contained, no_fields, component, inserted, no_alternatives, alternative, null}
use Rattle.acn_grammar.specs.Code.{Any}
use Rattle.acn_grammar.specs.Env.{Env, at_slot, AllHold}
use Rattle.acn_grammar.specs.Asks.{same_name}
use Rattle.acn_grammar.specs.Interval.{size_of}
use Rattle.acn_grammar.specs.Length.{padding, index_width, ending}
use Rattle.acn_grammar.specs.LeafFails.{Reason, short, size_out_of_range, too_long, bad_character, no_alternative, content_size, past_content, octet_values, LeafFails}
use Rattle.acn_grammar.specs.Slots.{domain_of}
use Rattle.acn_grammar.specs.Spell.{Part, Where, Padding, SizePart, CharactersPart, octet_numbers, Carries, Spell, SlotField, with_home, Chosen}
use Rattle.acn_grammar.specs.declared.node.NumLeaf.{NumLeaf}
use Rattle.acn_grammar.specs.declared.node.TextLeaf.{TextLeaf}
use Rattle.acn_grammar.specs.declared.node.Sizing.{Sizing}
use Rattle.acn_grammar.specs.declared.node.SizeRule.{SizeRule}
use Rattle.acn_grammar.specs.declared.node.SizeRule.TheVariants.{Prefix, Slot, Ended}
use Rattle.acn_grammar.specs.declared.node.ChoiceRule.{ChoiceRule}
use Rattle.acn_grammar.specs.declared.node.ChoiceRule.TheVariants.{Index}
use Rattle.acn_grammar.specs.declared.node.Presence.{Presence}
use Rattle.acn_grammar.specs.declared.node.Presence.TheVariants.{Always, Bit, When}

pub record Fault : Type 0 where
  pub path : List ℕ
  pub reason : Reason
  pub at : ℕ

-- From a position, on what is left of the input: the fault, and how many of these bits it rests on.
abbrev pub Failing : Type 1
Failing = ℕ → List Bool → Fault → (reach : ℕ) → Type 0

-- one part spells a front, and what is behind it fails
pub record Behind (P : Part) (F : Failing) (at : ℕ) (rest : List Bool) (fault : Fault) (reach : ℕ) : Type 0 where
  pub front : List Bool
  pub back : List Bool
  pub whole : rest ≡ front ++ back
  pub spelled : P at front
  pub more : ℕ
  pub fails : F (at + length front) back fault more
  pub reaches : reach ≡ length front + more

-- The node that a reason is named for: its path, the bit at which it begins, and whether a window is round it.
pub record Here : Type 0 where
  pub path : List ℕ
  pub place : ℕ
  pub inside : Bool

abbrev pub seen : (inside : Bool) → Reason → Reason
seen true short = past_content
seen _ r = r

abbrev pub Says : Here → Reason → Fault → Type 0
Says here r fault = fault ≡ record { path = here.path; reason = seen here.inside r; at = here.place }

-- fewer bits than these are left: it rests on all that is left, and on its length
abbrev pub Short : Here → ℕ → Failing
Short here n at rest fault reach = (length rest < n) × Says here short fault × (reach ≡ length rest)

-- the size that a slot's number is
abbrev pub kept : ℤ → ℕ
kept (pos n) = n
kept (negsuc n) = 0

-- a size in front, counted from low on
pub data PrefixFails (here : Here) (sizing : Sizing) (low width at : ℕ) (rest : List Bool) (fault : Fault) (reach : ℕ) : Type 0 where
  prefix_cut : Short here width at rest fault reach → PrefixFails here sizing low width at rest fault reach
  prefix_not_permitted : (width ≤ length rest) × (In sizing.sizes (pos (low + number (take width rest))) → ⊥) × Says here (size_out_of_range (low + number (take width rest))) fault × (reach ≡ width) → PrefixFails here sizing low width at rest fault reach

-- a slot's number that is no permitted size
pub record SlotFails (here : Here) (sizing : Sizing) (slot : ℕ) (env : Env) (fault : Fault) (reach : ℕ) : Type 0 where
  pub number : ℤ
  pub stands : at_slot env slot ≡ Some number
  pub refused : In sizing.sizes number → ⊥
  pub says : Says here (size_out_of_range (kept number)) fault
  pub reaches : reach ≡ 0

abbrev pub RuleFails : Here → Sizing → SizeRule → Env → Failing
RuleFails here sizing (Prefix low width) env at rest fault reach = PrefixFails here sizing low width at rest fault reach
RuleFails here sizing (Slot s) env at rest fault reach = SlotFails here sizing s env fault reach
RuleFails here sizing (Ended p) env at rest fault reach = ⊥

abbrev pub SizeFails : Here → Sizing → Env → Failing
SizeFails here sizing env = RuleFails here sizing sizing.rule env

-- a size that is permitted, and then what fails behind it
pub record Sized (sizing : Sizing) (env : Env) (F : ℕ → Failing) (at : ℕ) (rest : List Bool) (fault : Fault) (reach : ℕ) : Type 0 where
  pub n : ℕ
  pub behind : Behind (SizePart sizing env n) (F n) at rest fault reach

-- a size, and what is of that size behind it
pub data SizedFails (here : Here) (sizing : Sizing) (env : Env) (F : ℕ → Failing) (at : ℕ) (rest : List Bool) (fault : Fault) (reach : ℕ) : Type 0 where
  fails_at_size : SizeFails here sizing env at rest fault reach → SizedFails here sizing env F at rest fault reach
  fails_behind_size : Sized sizing env F at rest fault reach → SizedFails here sizing env F at rest fault reach

-- so many octets, or bits
abbrev pub PartsFail : Here → (each : ℕ) → Sizing → Env → Failing
PartsFail here each sizing env = SizedFails here sizing env (λ n. Short here (each * n))

-- Texts.

abbrev pub NoText : TextLeaf → List Bool → Type 0
NoText leaf bs = (cs : List ℕ) (at : ℕ) → CharactersPart leaf cs at bs → ⊥

-- n characters
pub data CharactersFail (here : Here) (leaf : TextLeaf) (n at : ℕ) (rest : List Bool) (fault : Fault) (reach : ℕ) : Type 0 where
  characters_cut : Short here (leaf.width * n) at rest fault reach → CharactersFail here leaf n at rest fault reach
  characters_not_permitted : (leaf.width * n ≤ length rest) × NoText leaf (take (leaf.width * n) rest) × Says here bad_character fault × (reach ≡ leaf.width * n) → CharactersFail here leaf n at rest fault reach

-- the first place among the octets at which the terminator stands whole
abbrev pub found_end : List ℕ → List ℕ → Option ℕ
found_end end os = find (λ i. same_name (take (length end) (drop i os)) end) (range_with_len 0 (length os))

-- it stands in none of as many octets as a text and it have at most
pub data NoneFound (here : Here) (most available : ℕ) (rest : List Bool) (fault : Fault) (reach : ℕ) : Type 0 where
  -- the input ends first
  input_ended : (available < most) × Says here short fault × (reach ≡ length rest) → NoneFound here most available rest fault reach
  end_too_late : (most ≤ available) × Says here too_long fault × (reach ≡ 8 * most) → NoneFound here most available rest fault reach

-- it stands behind i octets, which are no text of the leaf
pub data FoundBehind (here : Here) (leaf : TextLeaf) (ending i : ℕ) (rest : List Bool) (fault : Fault) (reach : ℕ) : Type 0 where
  length_not_permitted : (In leaf.sized.sizes (pos i) → ⊥) × Says here (size_out_of_range i) fault × (reach ≡ 8 * i + ending) → FoundBehind here leaf ending i rest fault reach
  character_not_permitted : In leaf.sized.sizes (pos i) × NoText leaf (take (8 * i) rest) × Says here bad_character fault × (reach ≡ 8 * i + ending) → FoundBehind here leaf ending i rest fault reach

abbrev pub FoundFails : Here → TextLeaf → (ending most available : ℕ) → List Bool → Option ℕ → Fault → (reach : ℕ) → Type 0
FoundFails here leaf ending most available rest None fault reach = NoneFound here most available rest fault reach
FoundFails here leaf ending most available rest (Some i) fault reach = FoundBehind here leaf ending i rest fault reach

abbrev pub TextFails : Here → Option (List Bool) → TextLeaf → Env → Failing
TextFails here None leaf env at rest fault reach = SizedFails here leaf.sized env (CharactersFail here leaf) at rest fault reach
TextFails here (Some end) leaf env at rest fault reach =
    let most = size_of (greatest leaf.sized.sizes) + length (octet_numbers end) in
    FoundFails here leaf (length end) most (length (octet_values rest)) rest (found_end (octet_numbers end) (take most (octet_values rest))) fault reach

-- Components: the bits at the front and the conditions say which are there.

abbrev pub presence_count : Fields → ℕ
presence_count no_fields = 0
presence_count (component name g Bit default own fs) = suc (presence_count fs)
presence_count (component name g _ default own fs) = presence_count fs
presence_count (inserted name g slot fs) = presence_count fs

abbrev pub IsThere : Env → Presence → List Bool → Type 0
IsThere env Always flags = Unit {0}
IsThere env Bit (true ∷ flags) = Unit {0}
IsThere env Bit _ = ⊥
IsThere env (When ts) flags = AllHold env ts

abbrev pub flags_behind : Presence → List Bool → List Bool
flags_behind Bit (b ∷ flags) = flags
flags_behind _ flags = flags

abbrev pub count_of : Alternatives → ℕ
count_of no_alternatives = 0
count_of (alternative name g tests more) = suc (count_of more)

-- an element, and others behind it
pub data ElementFails (each : Data → Part) (element others : Failing) (at : ℕ) (rest : List Bool) (fault : Fault) (reach : ℕ) : Type 0 where
  fails_at_element : element at rest fault reach → ElementFails each element others at rest fault reach
  fails_behind_element : (d : Data) × Behind (each d) others at rest fault reach → ElementFails each element others at rest fault reach

-- n more elements, the next of which is element k
abbrev pub RunFails : (Data → Part) → (ℕ → Failing) → (n k : ℕ) → Failing
RunFails each fails zero k at rest fault reach = ⊥
RunFails each fails (suc n) k at rest fault reach = ElementFails each (fails k) (RunFails each fails n (suc k)) at rest fault reach

-- A list that is ended by a pattern: before each element the next bits are looked at.

-- they are the pattern, and the number of elements isn't permitted
pub record EndFails (here : Here) (p : List Bool) (sizing : Sizing) (k at : ℕ) (rest : List Bool) (fault : Fault) (reach : ℕ) : Type 0 where
  pub stands : take (length p) rest ≡ p
  pub refused : In sizing.sizes (pos k) → ⊥
  pub says : Says here (size_out_of_range k) fault
  pub reaches : reach ≡ length p

-- they aren't the pattern, which has to stand there
pub data NoEnd (here : Here) (p : List Bool) (at : ℕ) (rest : List Bool) (fault : Fault) (reach : ℕ) : Type 0 where
  pattern_cut : Short here (length p) at rest fault reach → NoEnd here p at rest fault reach
  pattern_differs : (length p ≤ length rest) × (take (length p) rest ≢ p) × Says here too_long fault × (reach ≡ length p) → NoEnd here p at rest fault reach

-- they aren't the pattern, and the next element fails, which rests on them too
pub record NextFails (p : List Bool) (F : Failing) (at : ℕ) (rest : List Bool) (fault : Fault) (reach : ℕ) : Type 0 where
  pub differs : take (length p) rest ≢ p
  pub inner : ℕ
  pub fails : F at rest fault inner
  pub reaches : reach ≡ max (length p) inner

-- k elements are read, and no more may come
pub data FullListFails (here : Here) (p : List Bool) (sizing : Sizing) (k at : ℕ) (rest : List Bool) (fault : Fault) (reach : ℕ) : Type 0 where
  full_not_permitted : EndFails here p sizing k at rest fault reach → FullListFails here p sizing k at rest fault reach
  full_not_ended : NoEnd here p at rest fault reach → FullListFails here p sizing k at rest fault reach

-- k elements are read, and more may come: an element, and others behind it
pub data OpenListFails (here : Here) (p : List Bool) (sizing : Sizing) (k : ℕ) (each : Data → Part) (element others : Failing) (at : ℕ) (rest : List Bool) (fault : Fault) (reach : ℕ) : Type 0 where
  end_not_permitted : EndFails here p sizing k at rest fault reach → OpenListFails here p sizing k each element others at rest fault reach
  next_element_fails : NextFails p element at rest fault reach → OpenListFails here p sizing k each element others at rest fault reach
  fails_behind_next : (d : Data) × Behind (each d) others at rest fault reach → OpenListFails here p sizing k each element others at rest fault reach

-- k elements are read, and n more may come
abbrev pub EndedFails : Here → List Bool → Sizing → (Data → Part) → (ℕ → Failing) → (n k : ℕ) → Failing
EndedFails here p sizing each fails zero k at rest fault reach = FullListFails here p sizing k at rest fault reach
EndedFails here p sizing each fails (suc n) k at rest fault reach = OpenListFails here p sizing k each (fails k) (EndedFails here p sizing each fails n (suc k)) at rest fault reach

abbrev pub ListFails : Option (List Bool) → Here → Sizing → Env → (Data → Part) → (ℕ → Failing) → Failing
ListFails None here sizing env each fails at rest fault reach = SizedFails here sizing env (λ n. RunFails each fails n 0) at rest fault reach
ListFails (Some p) here sizing env each fails at rest fault reach = EndedFails here p sizing each fails (size_of (greatest sizing.sizes)) 0 at rest fault reach

-- behind as many bits, which say something, it fails
pub record After (n : ℕ) (F : Failing) (at : ℕ) (rest : List Bool) (fault : Fault) (reach : ℕ) : Type 0 where
  pub there : n ≤ length rest
  pub more : ℕ
  pub fails : F (at + n) (drop n rest) fault more
  pub reaches : reach ≡ n + more

-- contents that leave a byte or more of their window
pub record Overlong (here : Here) (n : ℕ) (content : Part) (window : List Bool) (fault : Fault) : Type 0 where
  pub used : List Bool
  pub left : List Bool
  pub whole : window ≡ used ++ left
  pub spelled : content 0 used
  pub byte : 8 ≤ length left
  pub says : Says here (content_size n (length used)) fault

-- n octets round a content
pub data ContentFails (here : Here) (content : Data → Part) (inside : (place : ℕ) → Failing) (n at : ℕ) (rest : List Bool) (fault : Fault) (reach : ℕ) : Type 0 where
  window_cut : Short here (8 * n) at rest fault reach → ContentFails here content inside n at rest fault reach
  -- the content fails inside them, or leaves a byte or more
  content_fails : (8 * n ≤ length rest) × ((inner : ℕ) × inside at 0 (take (8 * n) rest) fault inner) × (reach ≡ 8 * n) → ContentFails here content inside n at rest fault reach
  content_overlong : (8 * n ≤ length rest) × ((d : Data) × Overlong here n (content d) (take (8 * n) rest) fault) × (reach ≡ 8 * n) → ContentFails here content inside n at rest fault reach

-- an index in front of one of so many alternatives
pub data NumberedFails (here : Here) (width count at : ℕ) (rest : List Bool) (fault : Fault) (reach : ℕ) : Type 0 where
  index_cut : Short here width at rest fault reach → NumberedFails here width count at rest fault reach
  index_too_great : (width ≤ length rest) × (count ≤ number (take width rest)) × Says here no_alternative fault × (reach ≡ width) → NumberedFails here width count at rest fault reach

-- what tells the alternative, and the alternative
pub data ChoiceFails (index alternative : Failing) (at : ℕ) (rest : List Bool) (fault : Fault) (reach : ℕ) : Type 0 where
  fails_at_index : index at rest fault reach → ChoiceFails index alternative at rest fault reach
  fails_at_alternative : alternative at rest fault reach → ChoiceFails index alternative at rest fault reach

-- padding, and what stands behind it
pub data PaddedFails (here : Here) (align : ℕ) (padded : Failing) (at : ℕ) (rest : List Bool) (fault : Fault) (reach : ℕ) : Type 0 where
  padding_cut : Short here (padding align at) at rest fault reach → PaddedFails here align padded at rest fault reach
  fails_behind_padding : Behind (Padding Any align) padded at rest fault reach → PaddedFails here align padded at rest fault reach

-- a number leaf
pub record NumberFails (here : Here) (leaf : NumLeaf) (rest : List Bool) (fault : Fault) (reach : ℕ) : Type 0 where
  pub reason : Reason
  pub fails : LeafFails leaf rest reason reach
  pub says : Says here reason fault

-- n presence bits, and fields behind them
pub data SequenceFails (here : Here) (n : ℕ) (fields : Failing) (at : ℕ) (rest : List Bool) (fault : Fault) (reach : ℕ) : Type 0 where
  presence_cut : Short here n at rest fault reach → SequenceFails here n fields at rest fault reach
  fails_behind_presence : fields at rest fault reach → SequenceFails here n fields at rest fault reach

-- a component, which may be absent, and fields behind it
pub data ComponentFails (there : Type 0) (each : Data → Part) (component others : Failing) (at : ℕ) (rest : List Bool) (fault : Fault) (reach : ℕ) : Type 0 where
  fails_at_component : there × component at rest fault reach → ComponentFails there each component others at rest fault reach
  fails_behind_component : there × ((d : Data) × Behind (each d) others at rest fault reach) → ComponentFails there each component others at rest fault reach
  fails_behind_absent : (there → ⊥) × others at rest fault reach → ComponentFails there each component others at rest fault reach

-- an inserted field, and fields behind it
pub data InsertedFails (field : Part) (inserted others : Failing) (at : ℕ) (rest : List Bool) (fault : Fault) (reach : ℕ) : Type 0 where
  fails_at_inserted : inserted at rest fault reach → InsertedFails field inserted others at rest fault reach
  fails_behind_inserted : Behind field others at rest fault reach → InsertedFails field inserted others at rest fault reach

module _ (root : Grammar) where
  -- no alternative is chosen
  abbrev pub NoneChosen : Alternatives → ChoiceRule → Env → Type 0
  NoneChosen no_alternatives rule env = Unit {0}
  NoneChosen (alternative name g tests more) rule env = (Chosen root rule env name tests → ⊥) × NoneChosen more rule env

  -- the numbers that were read choose none
  pub record NoAlternative (here : Here) (rule : ChoiceRule) (cases : Alternatives) (env : Env) (fault : Fault) (reach : ℕ) : Type 0 where
    pub none : NoneChosen cases rule env
    pub says : Says here no_alternative fault
    pub reaches : reach ≡ 0

  abbrev pub IndexFails : Here → ChoiceRule → Alternatives → Env → Failing
  IndexFails here (Index width) cases env at rest fault reach = NumberedFails here width (count_of cases) at rest fault reach
  IndexFails here rule cases env at rest fault reach = NoAlternative here rule cases env fault reach

  abbrev pub IndexIs : ChoiceRule → List Bool → ℕ → Type 0
  IndexIs (Index width) rest i = number (take width rest) ≡ i
  IndexIs _ rest i = Unit {0}

  -- the alternative of an index, which stands in front where there is one there
  pub record ChosenFails (rule : ChoiceRule) (fails : (index : ℕ) → Failing) (at : ℕ) (rest : List Bool) (fault : Fault) (reach : ℕ) : Type 0 where
    pub index : ℕ
    pub stands : IndexIs rule rest index
    pub behind : After (index_width rule) (fails index) at rest fault reach

  -- fields behind n presence bits, under some permitted numbers of the slots at home
  pub record FieldsUnder (home : List ℕ) (n : ℕ) (fails : List ℤ → (flags : List Bool) → Failing) (at : ℕ) (rest : List Bool) (fault : Fault) (reach : ℕ) : Type 0 where
    pub numbers : List ℤ
    pub count : length numbers ≡ length home
    pub permitted : AllByRecursion (λ e. In (domain_of root e.0) e.1) (zip home numbers)
    pub behind : After n (fails numbers (take n rest)) at rest fault reach

  abbrev mutual
    -- origin is the bit of the packet at which position 0 lies
    pub Fails : Grammar → Env → (inside : Bool) → (origin : ℕ) → List ℕ → Failing
    Fails (node align form) env inside origin path at rest fault reach =
        let here : Here = record { path = path; place = origin + at; inside = inside } in
        PaddedFails here align (FormFails form env here origin) at rest fault reach

    pub FormFails : Form → Env → Here → (origin : ℕ) → Failing
    FormFails (num leaf) env here origin at rest fault reach = NumberFails here leaf rest fault reach
    FormFails (octets sizing) env here origin at rest fault reach = PartsFail here 8 sizing env at rest fault reach
    FormFails (bits sizing) env here origin at rest fault reach = PartsFail here 1 sizing env at rest fault reach
    FormFails (text leaf) env here origin at rest fault reach = TextFails here leaf.ended leaf env at rest fault reach
    FormFails (seq fields home) env here origin at rest fault reach =
        let n = presence_count fields in
        SequenceFails here n (FieldsUnder home n (λ numbers flags. FieldsFail fields (with_home home numbers env) flags here origin 0)) at rest fault reach
    FormFails (list sizing g) env here origin at rest fault reach =
        ListFails (ending sizing.rule) here sizing env (Spell root Any g env) (λ k. Fails g env here.inside origin (here.path ++ k ∷ [])) at rest fault reach
    FormFails (choice cases rule) env here origin at rest fault reach =
        ChoiceFails (IndexFails here rule cases env) (ChosenFails rule (λ i. AlternativeFails cases rule env here origin i i)) at rest fault reach
    FormFails (contained sizing g) env here origin at rest fault reach =
        SizedFails here sizing env (ContentFails here (Spell root Any g env) (λ place. Fails g env true (origin + place) (here.path ++ 0 ∷ []))) at rest fault reach

    pub FieldsFail : Fields → Env → (flags : List Bool) → Here → (origin : ℕ) → (k : ℕ) → Failing
    FieldsFail (component name g presence default own fs) env flags here origin k at rest fault reach =
        ComponentFails (IsThere env presence flags) (λ d. Where (Carries env own d) (Spell root Any g env d)) (Fails g env here.inside origin (here.path ++ k ∷ [])) (FieldsFail fs env (flags_behind presence flags) here origin (suc k)) at rest fault reach
    FieldsFail (inserted name g (Some s) fs) env flags here origin k at rest fault reach =
        InsertedFails (SlotField root Any g env s) (Fails g env here.inside origin (here.path ++ k ∷ [])) (FieldsFail fs env flags here origin (suc k)) at rest fault reach
    FieldsFail (inserted name g None fs) env flags here origin k at rest fault reach =
        InsertedFails (Spell root Any g env null) (Fails g env here.inside origin (here.path ++ k ∷ [])) (FieldsFail fs env flags here origin (suc k)) at rest fault reach
    FieldsFail no_fields env flags here origin k at rest fault reach = ⊥

    pub AlternativeFails : Alternatives → ChoiceRule → Env → Here → (origin : ℕ) → (i j : ℕ) → Failing
    AlternativeFails (alternative name g tests more) rule env here origin i zero at rest fault reach =
        Chosen root rule env name tests × Fails g env here.inside origin (here.path ++ i ∷ []) at rest fault reach
    AlternativeFails (alternative name g tests more) rule env here origin i (suc j) at rest fault reach = AlternativeFails more rule env here origin i j at rest fault reach
    AlternativeFails no_alternatives rule env here origin i j at rest fault reach = ⊥

  -- A packet that can't be read: the fault, and how many bits from the packet's first on it rests on.
  abbrev pub Refusal : List Bool → Fault → (reach : ℕ) → Type 0
  Refusal input fault reach = Fails root [] false 0 [] 0 input fault reach
