-- The events of a value: what is done to write it, form by form, in the order of the bits. The order of the parts is that of
-- X.691, unaligned, with ACN's alignment, inserted fields, conditions and determinants, as in Spell. (This profile's own.)
use Rattle.std.specs.Prelude.{ℕ, zero, suc, ℤ, pos, Bool, true, false, List, [], ◌∷◌, ◌++◌, length, map, Option, Some, None}
use Rattle.acn_num.specs.Bits.{bits as bits_of, octets as octets_for}
use Rattle.acn_grammar.specs.Asks.{Equal, Avoid, field_path, index_of, same_name}
use Rattle.acn_grammar.specs.Grammar.{Grammar, Form, Fields, Alternatives, Data, Places, Elements, node, num, octets, bits, text, seq, list, choice, contained, component, inserted, no_alternatives, alternative, octet_string, bit_string, characters, record_of, list_of, alt, empty, filled, no_elements, element, element_count}
use Rattle.acn_grammar.specs.Length.{bit_length, number_of, presence_bits}
use Rattle.acn_grammar.specs.Slots.{items_of}
use Rattle.acn_grammar.specs.declared.node.ChoiceRule.{ChoiceRule}
use Rattle.acn_grammar.specs.declared.node.ChoiceRule.TheVariants.{Index, Item}
use Rattle.acn_grammar.specs.declared.node.Presence.{Presence}
use Rattle.acn_grammar.specs.declared.node.Presence.TheVariants.{When}
use Rattle.acn_grammar.specs.declared.node.SizeRule.{SizeRule}
use Rattle.acn_grammar.specs.declared.node.SizeRule.TheVariants.{Slot, Ended}
use Rattle.acn_grammar.specs.declared.node.Test.{Test}
use Rattle.acn_grammar.specs.declared.node.Test.TheVariants.{Flag, Equals}
use Rattle.acn_events.specs.Event.{Event, aligns, copies, begins, puts, sizes, codes, texts, opens, notes, wants, fills, enters, closes}

-- a condition of the node at a path, whether it is there or absent
abbrev pub test_event : (path : List ℕ) → (there : Bool) → Test → Event
test_event path true (Flag s) = wants path s (Equal (pos 1))
test_event path false (Flag s) = wants path s (Equal (pos 0))
test_event path true (Equals s k) = wants path s (Equal k)
test_event path false (Equals s k) = wants path s (Avoid k)

abbrev pub presence_events : (path : List ℕ) → (there : Bool) → Presence → List Event
presence_events path there (When ts) = map (test_event path there) ts
presence_events path there _ = []

-- the size of a string or list that is a slot's
abbrev pub size_wants : (path : List ℕ) → (n : ℕ) → SizeRule → List Event
size_wants path n (Slot s) = wants path s (Equal (pos n)) ∷ []
size_wants path n _ = []

-- the pattern behind the last element
abbrev pub end_events : SizeRule → List Event
end_events (Ended p) = copies p ∷ []
end_events _ = []

-- the permitted numbers of a node that is one
abbrev pub set_in : Grammar → List (ℤ × ℤ)
set_in (node align (num leaf)) = leaf.set
set_in _ = []

-- the number of a component that is a slot's
abbrev pub own_events : (path : List ℕ) → Option ℕ → Grammar → Data → List Event
own_events path None g d = []
own_events path (Some s) g d = notes path s (set_in g) (number_of d) ∷ []

-- an inserted field: a hole for the number of a slot, or a NULL
abbrev pub inserted_events : Option ℕ → Grammar → List Event
inserted_events (Some s) (node align (num leaf)) = aligns align ∷ opens s leaf ∷ []
inserted_events None (node align (num leaf)) = aligns align ∷ codes leaf (pos 0) ∷ []
inserted_events own g = []

abbrev pub index_events : ChoiceRule → ℕ → List Event
index_events (Index width) i = puts width i ∷ []
index_events _ i = []

abbrev pub run_events : (ℕ → Data → List Event) → ℕ → Elements → List Event
run_events each k no_elements = []
run_events each k (element d es) = each k d ++ run_events each (suc k) es

module _ (root : Grammar) where
  -- An alternative asks its own conditions. An item of the determinant is asked by the CHOICE.
  abbrev pub rule_events : (path : List ℕ) → ℕ → ChoiceRule → (name : List ℕ) → List Test → List Event
  rule_events path i (Item s) name tests = wants path s (Equal (pos (index_of (same_name name) (items_of root s)))) ∷ []
  rule_events path i _ name tests = map (test_event (path ++ i ∷ []) true) tests

  abbrev mutual
    pub events : Grammar → (path : List ℕ) → Data → List Event
    events (node align form) path d = aligns align ∷ form_events form path d

    pub form_events : Form → (path : List ℕ) → Data → List Event
    form_events (num leaf) path d = codes leaf (number_of d) ∷ []
    form_events (octets sizing) path (octet_string os) = sizes sizing (length os) ∷ size_wants path (length os) sizing.rule ++ copies (bits_of os) ∷ []
    form_events (bits sizing) path (bit_string bs) = sizes sizing (length bs) ∷ size_wants path (length bs) sizing.rule ++ copies bs ∷ []
    form_events (text leaf) path (characters cs) = size_wants path (length cs) leaf.sized.rule ++ texts leaf cs ∷ []
    form_events (seq fields home) path (record_of ps) =
        begins (map (λ s. (s, field_path path fields s)) home) (presence_bits fields ps) ∷ field_events fields path 0 ps ++ map fills home
    form_events (list sizing g) path (list_of es) =
        sizes sizing (element_count es) ∷ size_wants path (element_count es) sizing.rule ++ (run_events (λ k d. events g (path ++ k ∷ []) d) 0 es ++ end_events sizing.rule)
    form_events (choice cases rule) path (alt i d) = index_events rule i ++ case_events cases rule path i i d
    form_events (contained sizing g) path d = enters sizing.rule ∷ events g (path ++ 0 ∷ []) d ++ aligns 8 ∷ closes path sizing (octets_for (bit_length g 0 d)) ∷ []
    form_events _ path d = []

    -- k is the number of the next field
    pub field_events : Fields → (path : List ℕ) → ℕ → Places → List Event
    field_events (component name g presence default own fs) path k (filled d ps) =
        own_events (path ++ k ∷ []) own g d ++ (presence_events (path ++ k ∷ []) true presence ++ (events g (path ++ k ∷ []) d ++ field_events fs path (suc k) ps))
    field_events (component name g presence default own fs) path k (empty ps) = presence_events (path ++ k ∷ []) false presence ++ field_events fs path (suc k) ps
    field_events (inserted name g own fs) path k ps = inserted_events own g ++ field_events fs path (suc k) ps
    field_events _ path k ps = []

    -- the number of the alternative is i, of which j are left to pass over
    pub case_events : Alternatives → ChoiceRule → (path : List ℕ) → (i j : ℕ) → Data → List Event
    case_events (alternative name g tests more) rule path i zero d = rule_events path i rule name tests ++ events g (path ++ i ∷ []) d
    case_events (alternative name g tests more) rule path i (suc j) d = case_events more rule path i j d
    case_events no_alternatives rule path i j d = []
