-- How often a node uses a slot from outside, and values whose own asks on it can each be met. (For proofs: what goes from node to node.)
use Rattle.std.specs.Prelude.{ℕ, zero, suc, ◌+◌, ◌*◌, length, nat_eq, List, Option, Some, None, true, false}
use Rattle.acn_num.specs.Bits.{octets as octets_for}
use Rattle.acn_grammar.specs.Asks.{Ask}
use Rattle.acn_grammar.specs.AsksOn.{Meetable, size_asks_on, presence_asks_on, own_asks_on, rule_asks_on}
use Rattle.acn_grammar.specs.Grammar.{Grammar, Form, Fields, Alternatives, Data, Places, node, num, octets, bits, text, seq, list, choice, contained, no_fields, component, inserted, no_alternatives, alternative, octet_string, bit_string, characters, record_of, list_of, alt, empty, filled, element_count}
use Rattle.acn_grammar.specs.Length.{bit_length}
use Rattle.acn_grammar.specs.Slots.{domain_of}
use Rattle.acn_grammar.specs.Walk.{conditions_of}
use Rattle.acn_grammar.specs.declared.node.ChoiceRule.{ChoiceRule}
use Rattle.acn_grammar.specs.declared.node.ChoiceRule.TheVariants.{Index, Tests, Item}
use Rattle.acn_grammar.specs.declared.node.Presence.{Presence}
use Rattle.acn_grammar.specs.declared.node.Presence.TheVariants.{Always, Bit, When}
use Rattle.acn_grammar.specs.declared.node.SizeRule.{SizeRule}
use Rattle.acn_grammar.specs.declared.node.SizeRule.TheVariants.{Prefix, Slot, Ended}
use Rattle.acn_extreme_laws.specs.Single.{once_if, count_of_slot, tested, is_tested}

abbrev pub rule_weight : ℕ → SizeRule → ℕ
rule_weight s (Slot t) = once_if (nat_eq t s)
rule_weight s (Prefix low width) = 0
rule_weight s (Ended p) = 0

abbrev pub presence_weight : ℕ → Presence → ℕ
presence_weight s (When ts) = count_of_slot s (tested ts)
presence_weight s Always = 0
presence_weight s Bit = 0

abbrev pub own_weight : ℕ → Option ℕ → ℕ
own_weight s None = 0
own_weight s (Some t) = once_if (nat_eq t s)

abbrev pub tests_weight : ℕ → Alternatives → ℕ
tests_weight s cases = once_if (is_tested s (conditions_of cases))

abbrev pub chooser_weight : ℕ → Alternatives → ChoiceRule → ℕ
chooser_weight s cases (Item t) = once_if (nat_eq t s)
chooser_weight s cases Tests = tests_weight s cases
chooser_weight s cases (Index width) = tests_weight s cases

-- what is inside a list counts twice, since it may stand there more than once
abbrev mutual
  pub weight : ℕ → Grammar → ℕ
  weight s (node align form) = form_weight s form

  pub form_weight : ℕ → Form → ℕ
  form_weight s (num leaf) = 0
  form_weight s (octets sizing) = rule_weight s sizing.rule
  form_weight s (bits sizing) = rule_weight s sizing.rule
  form_weight s (text leaf) = rule_weight s leaf.sized.rule
  form_weight s (seq fields home) = fields_weight s fields
  form_weight s (list sizing g) = rule_weight s sizing.rule + 2 * weight s g
  form_weight s (choice cases rule) = chooser_weight s cases rule + cases_weight s cases
  form_weight s (contained sizing g) = weight s g + rule_weight s sizing.rule

  pub fields_weight : ℕ → Fields → ℕ
  fields_weight s no_fields = 0
  fields_weight s (component name g presence default own fs) = own_weight s own + presence_weight s presence + weight s g + fields_weight s fs
  fields_weight s (inserted name g slot fs) = fields_weight s fs

  pub cases_weight : ℕ → Alternatives → ℕ
  cases_weight s no_alternatives = 0
  cases_weight s (alternative name g tests more) = weight s g + cases_weight s more

module _ (root : Grammar) (s : ℕ) where
  abbrev pub CanMeet : List Ask → Type 0
  CanMeet wanted = Meetable (domain_of root s) wanted

  -- each part's own asks on the slot can be met
  abbrev mutual
    pub Settled : Grammar → Data → Type 0
    Settled (node align form) d = FormSettled form d

    pub FormSettled : Form → Data → Type 0
    FormSettled (octets sizing) (octet_string os) = CanMeet (size_asks_on s (length os) sizing.rule)
    FormSettled (bits sizing) (bit_string bs) = CanMeet (size_asks_on s (length bs) sizing.rule)
    FormSettled (text leaf) (characters cs) = CanMeet (size_asks_on s (length cs) leaf.sized.rule)
    FormSettled (seq fields home) (record_of ps) = FieldsSettled fields ps
    FormSettled (list sizing g) (list_of es) = CanMeet (size_asks_on s (element_count es) sizing.rule)
    FormSettled (choice cases rule) (alt i d) = CaseSettled cases rule i d
    FormSettled (contained sizing g) d = Settled g d × CanMeet (size_asks_on s (octets_for (bit_length g 0 d)) sizing.rule)
    FormSettled _ d = Unit {0}

    pub FieldsSettled : Fields → Places → Type 0
    FieldsSettled (component name g presence default own fs) (filled d ps) = CanMeet (own_asks_on s own d) × CanMeet (presence_asks_on s true presence) × Settled g d × FieldsSettled fs ps
    FieldsSettled (component name g presence default own fs) (empty ps) = CanMeet (presence_asks_on s false presence) × FieldsSettled fs ps
    FieldsSettled (inserted name g slot fs) ps = FieldsSettled fs ps
    FieldsSettled _ ps = Unit {0}

    pub CaseSettled : Alternatives → ChoiceRule → ℕ → Data → Type 0
    CaseSettled (alternative name g tests more) rule zero d = CanMeet (rule_asks_on root s rule name tests) × Settled g d
    CaseSettled (alternative name g tests more) rule (suc i) d = CaseSettled more rule i d
    CaseSettled no_alternatives rule i d = Unit {0}
