-- What a value asks of one slot: the asks of a node's parts in the order of the walk, and the numbers that meet them.
-- That the least of these is written is this profile's own.
use Rattle.std.specs.Prelude.{◌≡◌, ◌≢◌, ℕ, zero, suc, ℤ, pos, ◌≤ℤ◌, Bool, true, false, List, [], ◌∷◌, ◌++◌, length, nat_eq, if◌then◌else◌, Option, Some, None}
use Rattle.std.specs.List.{AllByRecursion, flat_map}
use Rattle.acn_num.specs.Bits.{octets as octets_for}
use Rattle.acn_num.specs.Ranges.{In}
use Rattle.acn_grammar.specs.Asks.{Ask, Equal, Avoid, index_of, same_name}
use Rattle.acn_grammar.specs.Grammar.{Grammar, Form, Fields, Alternatives, Data, Places, Elements, node, octets, bits, text, seq, list, choice, contained, component, inserted, no_alternatives, alternative, octet_string, bit_string, characters, record_of, list_of, alt, empty, filled, no_elements, element, element_count}
use Rattle.acn_grammar.specs.Length.{bit_length, number_of}
use Rattle.acn_grammar.specs.Slots.{items_of}
use Rattle.acn_grammar.specs.declared.node.Presence.{Presence}
use Rattle.acn_grammar.specs.declared.node.Presence.TheVariants.{When}
use Rattle.acn_grammar.specs.declared.node.Test.{Test}
use Rattle.acn_grammar.specs.declared.node.Test.TheVariants.{Flag, Equals}
use Rattle.acn_grammar.specs.declared.node.SizeRule.{SizeRule}
use Rattle.acn_grammar.specs.declared.node.SizeRule.TheVariants.{Slot}
use Rattle.acn_grammar.specs.declared.node.ChoiceRule.{ChoiceRule}
use Rattle.acn_grammar.specs.declared.node.ChoiceRule.TheVariants.{Item}

-- an ask of slot t, where that is the slot s
abbrev pub on : (s t : ℕ) → Ask → List Ask
on s t a = if nat_eq t s then a ∷ [] else []

abbrev pub test_ask_on : (s : ℕ) → (there : Bool) → Test → List Ask
test_ask_on s true (Flag t) = on s t (Equal (pos 1))
test_ask_on s false (Flag t) = on s t (Equal (pos 0))
test_ask_on s true (Equals t k) = on s t (Equal k)
test_ask_on s false (Equals t k) = on s t (Avoid k)

abbrev pub presence_asks_on : (s : ℕ) → (there : Bool) → Presence → List Ask
presence_asks_on s there (When ts) = flat_map (test_ask_on s there) ts
presence_asks_on s there _ = []

abbrev pub size_asks_on : (s n : ℕ) → SizeRule → List Ask
size_asks_on s n (Slot t) = on s t (Equal (pos n))
size_asks_on s n _ = []

-- a component with a slot asks its own number
abbrev pub own_asks_on : (s : ℕ) → Option ℕ → Data → List Ask
own_asks_on s None d = []
own_asks_on s (Some t) d = on s t (Equal (number_of d))

abbrev pub run_asks_on : (Data → List Ask) → Elements → List Ask
run_asks_on each no_elements = []
run_asks_on each (element d es) = each d ++ run_asks_on each es

module _ (root : Grammar) where
  abbrev pub rule_asks_on : (s : ℕ) → ChoiceRule → (name : List ℕ) → List Test → List Ask
  rule_asks_on s (Item t) name tests = on s t (Equal (pos (index_of (same_name name) (items_of root t))))
  rule_asks_on s _ name tests = flat_map (test_ask_on s true) tests

  abbrev mutual
    pub asks_on : (s : ℕ) → Grammar → Data → List Ask
    asks_on s (node align form) d = form_asks_on s form d

    pub form_asks_on : (s : ℕ) → Form → Data → List Ask
    form_asks_on s (octets sizing) (octet_string os) = size_asks_on s (length os) sizing.rule
    form_asks_on s (bits sizing) (bit_string bs) = size_asks_on s (length bs) sizing.rule
    form_asks_on s (text leaf) (characters cs) = size_asks_on s (length cs) leaf.sized.rule
    form_asks_on s (seq fields home) (record_of ps) = fields_asks_on s fields ps
    form_asks_on s (list sizing g) (list_of es) = size_asks_on s (element_count es) sizing.rule ++ run_asks_on (asks_on s g) es
    form_asks_on s (choice alternatives rule) (alt i d) = alternative_asks_on s alternatives rule i d
    form_asks_on s (contained sizing g) d = asks_on s g d ++ size_asks_on s (octets_for (bit_length g 0 d)) sizing.rule
    form_asks_on s _ d = []

    pub fields_asks_on : (s : ℕ) → Fields → Places → List Ask
    fields_asks_on s (component name g presence default own fs) (filled d ps) = own_asks_on s own d ++ presence_asks_on s true presence ++ asks_on s g d ++ fields_asks_on s fs ps
    fields_asks_on s (component name g presence default own fs) (empty ps) = presence_asks_on s false presence ++ fields_asks_on s fs ps
    fields_asks_on s (inserted name g slot fs) ps = fields_asks_on s fs ps
    fields_asks_on s _ ps = []

    pub alternative_asks_on : (s : ℕ) → Alternatives → ChoiceRule → ℕ → Data → List Ask
    alternative_asks_on s (alternative name g tests more) rule zero d = rule_asks_on s rule name tests ++ asks_on s g d
    alternative_asks_on s (alternative name g tests more) rule (suc i) d = alternative_asks_on s more rule i d
    alternative_asks_on s no_alternatives rule i d = []

-- Permitted numbers that meet what was asked.

abbrev pub MeetsAsk : ℤ → Ask → Type 0
MeetsAsk x (Equal n) = x ≡ n
MeetsAsk x (Avoid k) = x ≢ k

pub record Answers (set : List (ℤ × ℤ)) (wanted : List Ask) (x : ℤ) : Type 0 where
  pub permitted : In set x
  pub meets : AllByRecursion (MeetsAsk x) wanted

abbrev pub Meetable : (set : List (ℤ × ℤ)) → (wanted : List Ask) → Type 0
Meetable set wanted = (x : ℤ) × Answers set wanted x

pub record LeastAnswer (set : List (ℤ × ℤ)) (wanted : List Ask) (x : ℤ) : Type 0 where
  pub answers : Answers set wanted x
  pub first : (y : ℤ) → Answers set wanted y → x ≤ℤ y
