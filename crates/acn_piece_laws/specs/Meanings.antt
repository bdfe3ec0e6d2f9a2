-- What the parts of a packet stand for, in the order of the pieces of its value (`Pieces`), and which
-- bits stand for it by the grammar of spellings (`Spell`). (This profile's own.)
use Rattle.std.specs.Prelude.{◌≡◌, ℕ, zero, suc, ◌+◌, ◌-◌, ◌*◌, nat_eq, if◌then◌else◌, ℤ, pos, Bool, false, List, [], ◌∷◌, ◌++◌, length, replicate, Option, Some, None}
use Rattle.acn_num.specs.Bits.{octets as octets_for, bits as bits_of}
use Rattle.acn_grammar.specs.Asks.{Ask}
use Rattle.acn_grammar.specs.AsksOn.{LeastAnswer, form_asks_on}
use Rattle.acn_grammar.specs.Code.{Mode, Written, Code}
use Rattle.acn_grammar.specs.Grammar.{Grammar, Form, Fields, Alternatives, Data, Places, Elements, node, num, octets, bits, text, seq, list, choice, contained, component, inserted, no_alternatives, alternative, octet_string, bit_string, characters, record_of, list_of, alt, empty, filled, no_elements, element, element_count}
use Rattle.acn_grammar.specs.Length.{padding, bit_length, inserted_length, num_length, number_of, least, rule_width, ending, index_width, presence_bits}
use Rattle.acn_grammar.specs.Spell.{◌then◌, Exactly, Number, CharactersPart}
use Rattle.acn_grammar.specs.Tree.{holds}
use Rattle.acn_grammar.specs.declared.node.ChoiceRule.{ChoiceRule}
use Rattle.acn_grammar.specs.declared.node.ChoiceRule.TheVariants.{Index, Tests, Item}
use Rattle.acn_grammar.specs.declared.node.NumLeaf.{NumLeaf}
use Rattle.acn_grammar.specs.declared.node.SizeRule.{SizeRule}
use Rattle.acn_grammar.specs.declared.node.SizeRule.TheVariants.{Prefix, Slot, Ended}
use Rattle.acn_grammar.specs.declared.node.TextLeaf.{TextLeaf}

-- What a part stands for.
pub data Meaning : Type 0 where
  -- padding, or what fills up contents
  space : Meaning
  -- these bits: of presence, of a string, or of the pattern that ends a list
  these : List Bool → Meaning
  -- a number in this many bits: a size, counted from the least, or an index
  a_number : (width n : ℕ) → Meaning
  -- a number of the value
  a_code : NumLeaf → ℤ → Meaning
  -- the number of a slot, of which the value asks this
  a_determinant : NumLeaf → List Ask → Meaning
  -- characters, and the terminator behind them
  a_text : TextLeaf → List ℕ → (end : List Bool) → Meaning

-- Which bits mean it: those that are written, or any that are read so.
abbrev pub Means : Mode → Meaning → List Bool → Type 0
Means mode space bs = mode ≡ Written → bs ≡ replicate (length bs) false
Means mode (these want) bs = bs ≡ want
Means mode (a_number width n) bs = Number width n 0 bs
Means mode (a_code leaf x) bs = Code mode leaf x bs
Means mode (a_determinant leaf wanted) bs = (x : ℤ) × Code mode leaf x bs × (mode ≡ Written → LeastAnswer leaf.set wanted x)
Means mode (a_text leaf cs end) bs = (CharactersPart leaf cs then Exactly end) 0 bs

-- of a part of so many bits; one of no bits is no part
abbrev pub meant : (count : ℕ) → Meaning → List Meaning
meant count m = if nat_eq count 0 then [] else m ∷ []

abbrev pub size_meant : SizeRule → (n : ℕ) → List Meaning
size_meant (Prefix low width) n = meant width (a_number width (n - low))
size_meant (Slot s) n = []
size_meant (Ended p) n = []

abbrev pub index_meant : ChoiceRule → (i : ℕ) → List Meaning
index_meant (Index width) i = meant width (a_number width i)
index_meant Tests i = []
index_meant (Item s) i = []

-- an inserted field, whose number means this
abbrev pub inserted_meant : (NumLeaf → Meaning) → Grammar → (at : ℕ) → List Meaning
inserted_meant says (node align (num leaf)) at = meant (padding align at) space ++ meant (num_length leaf (least leaf.set)) (says leaf)
inserted_meant says _ at = []

-- the number of a slot, or of a NULL
abbrev pub says_slot : (wants : ℕ → List Ask) → Option ℕ → NumLeaf → Meaning
says_slot wants (Some s) leaf = a_determinant leaf (wants s)
says_slot wants None leaf = a_code leaf (pos 0)

abbrev pub text_meant : Option (List Bool) → TextLeaf → List ℕ → List Meaning
text_meant None leaf cs = size_meant leaf.sized.rule (length cs) ++ meant (leaf.width * length cs) (a_text leaf cs [])
text_meant (Some end) leaf cs = meant (leaf.width * length cs + length end) (a_text leaf cs end)

abbrev pub run_meant : (each : (at : ℕ) → Data → List Meaning) → (size : ℕ → Data → ℕ) → (at : ℕ) → Elements → List Meaning
run_meant each size at no_elements = []
run_meant each size at (element d es) = each at d ++ run_meant each size (at + size at d) es

abbrev pub list_meant : Option (List Bool) → SizeRule → (each : (at : ℕ) → Data → List Meaning) → (size : ℕ → Data → ℕ) → (at : ℕ) → Elements → List Meaning
list_meant None rule each size at es = size_meant rule (element_count es) ++ run_meant each size (at + rule_width rule) es
list_meant (Some p) rule each size at es = run_meant each size at es ++ meant (length p) (these p)

-- what is asked of slots behind the slots at home: of those here by this value
abbrev pub wants_here : (home : List ℕ) → (here wants : ℕ → List Ask) → ℕ → List Ask
wants_here home here wants s = if holds home s then here s else wants s

module _ (root : Grammar) where
  -- `wants` is what the value asks of each slot at home round the place, where its home occurs there.
  abbrev mutual
    pub meanings : (wants : ℕ → List Ask) → Grammar → (at : ℕ) → Data → List Meaning
    meanings wants (node align form) at d = meant (padding align at) space ++ form_meanings wants form (at + padding align at) d

    pub form_meanings : (wants : ℕ → List Ask) → Form → (at : ℕ) → Data → List Meaning
    form_meanings wants (num leaf) at d = meant (num_length leaf (number_of d)) (a_code leaf (number_of d))
    form_meanings wants (octets sizing) at (octet_string os) = size_meant sizing.rule (length os) ++ meant (8 * length os) (these (bits_of os))
    form_meanings wants (bits sizing) at (bit_string bs) = size_meant sizing.rule (length bs) ++ meant (length bs) (these bs)
    form_meanings wants (text leaf) at (characters cs) = text_meant leaf.ended leaf cs
    form_meanings wants (seq fields home) at (record_of ps) =
        let front = presence_bits fields ps in
        let here = wants_here home (λ s. form_asks_on root s (seq fields home) (record_of ps)) wants in
        meant (length front) (these front) ++ field_meanings here fields (at + length front) ps
    form_meanings wants (list sizing g) at (list_of es) = list_meant (ending sizing.rule) sizing.rule (λ at d. meanings wants g at d) (bit_length g) at es
    form_meanings wants (choice cases rule) at (alt i d) = index_meant rule i ++ case_meanings wants cases i (at + index_width rule) d
    form_meanings wants (contained sizing g) at d =
        let inner = bit_length g 0 d in
        size_meant sizing.rule (octets_for inner) ++ (meanings wants g 0 d ++ meant (8 * octets_for inner - inner) space)
    form_meanings wants _ at d = []

    pub field_meanings : (wants : ℕ → List Ask) → Fields → (at : ℕ) → Places → List Meaning
    field_meanings wants (component name g presence default own fs) at (filled d ps) = meanings wants g at d ++ field_meanings wants fs (at + bit_length g at d) ps
    field_meanings wants (component name g presence default own fs) at (empty ps) = field_meanings wants fs at ps
    field_meanings wants (inserted name g slot fs) at ps = inserted_meant (says_slot wants slot) g at ++ field_meanings wants fs (at + inserted_length g at) ps
    field_meanings wants _ at ps = []

    pub case_meanings : (wants : ℕ → List Ask) → Alternatives → (i at : ℕ) → Data → List Meaning
    case_meanings wants (alternative name g tests more) zero at d = meanings wants g at d
    case_meanings wants (alternative name g tests more) (suc i) at d = case_meanings wants more i at d
    case_meanings wants no_alternatives i at d = []

-- what the pieces of a value of the root stand for
abbrev pub meanings_of : Grammar → Data → List Meaning
meanings_of root d = meanings root (λ s. []) root 0 d
