-- What the walk that writes takes for granted of a part of the value: it has the form of its node and meets its constraints,
-- the numbers of the slots round it meet what it asks of them, and what is asked of each slot at home inside was heard.
-- (This profile's own.)
use Rattle.std.specs.Prelude.{◌≡◌, ℕ, zero, suc, ◌-◌, ◌^◌, ◌<◌, ◌≤◌, ℤ, pos, Bool, List, [], ◌∷◌, ◌++◌, length, drop, Option, Some, None, IsTrue}
use Rattle.std.specs.List.{AllByRecursion, zip}
use Rattle.acn_num.specs.Bits.{octets as octets_for}
use Rattle.acn_num.specs.Ranges.{In}
use Rattle.acn_num.specs.declared.limits.TheConstants.{MOST_SIZE, MOST_STEPS}
use Rattle.acn_grammar.specs.Asks.{field_path}
use Rattle.acn_grammar.specs.AsksOn.{LeastAnswer, form_asks_on}
use Rattle.acn_grammar.specs.Code.{Written, NumberOf}
use Rattle.acn_grammar.specs.Env.{Env, at_slot, MayBeThere, MayBeAway}
use Rattle.acn_grammar.specs.Grammar.{Grammar, Form, Fields, Alternatives, Data, Places, Elements, node, num, octets, bits, text, seq, list, choice, contained, no_fields, component, inserted, no_alternatives, alternative, null, octet_string, bit_string, characters, record_of, list_of, alt, no_places, empty, filled, no_elements, element, element_count}
use Rattle.acn_grammar.specs.Leaves.{num_fine, text_fine}
use Rattle.acn_grammar.specs.Length.{bit_length, number_of, ending}
use Rattle.acn_grammar.specs.Meets.{text_breach}
use Rattle.acn_grammar.specs.Shaped.{are_octets}
use Rattle.acn_grammar.specs.Slots.{domain_of}
use Rattle.acn_grammar.specs.Spell.{Carries, Chosen, FieldsPart, Spell, with_home}
use Rattle.acn_grammar.specs.View.{places_view}
use Rattle.acn_grammar.specs.declared.value.Value.{Value}
use Rattle.acn_plain_write.specs.Adds.{Leads}
use Rattle.acn_grammar.specs.declared.node.ChoiceRule.{ChoiceRule}
use Rattle.acn_grammar.specs.declared.node.ChoiceRule.TheVariants.{Index, Tests, Item}
use Rattle.acn_grammar.specs.declared.node.NumKind.{NumKind}
use Rattle.acn_grammar.specs.declared.node.SizeRule.{SizeRule}
use Rattle.acn_grammar.specs.declared.node.SizeRule.TheVariants.{Prefix, Slot, Ended}
use Rattle.acn_grammar.specs.declared.node.Sizing.{Sizing}
use Rattle.acn_determinants.specs.Determinants.{SequenceIn}
use Rattle.acn_lengths.specs.Measured.{CanMeasure}
use Rattle.acn_asks.specs.Heard.{Hears}
use Rattle.acn_asks.specs.declared.asked.Asked.{Asked}
use Rattle.acn_text.specs.Texts.{SlotSays, given_size}

-- what says the size has room for it
abbrev pub RuleReady : SizeRule → Env → ℕ → Type 0
RuleReady (Prefix low width) env n = (low ≤ n) × (n - low < 2 ^ width)
RuleReady (Slot s) env n = at_slot env s ≡ Some (pos n)
RuleReady (Ended p) env n = ⊥

abbrev pub SizeReady : Sizing → Env → ℕ → Type 0
SizeReady sizing env n = In sizing.sizes (pos n) × RuleReady sizing.rule env n

-- the size of a list, which a pattern may end
abbrev pub CountReady : Option (List Bool) → Sizing → Env → ℕ → Type 0
CountReady None sizing env n = SizeReady sizing env n
CountReady (Some p) sizing env n = In sizing.sizes (pos n)

abbrev pub IndexReady : ChoiceRule → ℕ → Type 0
IndexReady (Index width) i = i < 2 ^ width
IndexReady Tests i = Unit {0}
IndexReady (Item s) i = Unit {0}

-- the number of an inserted field: that of its slot, and 0 where it is a NULL
abbrev pub SaysNumber : Option ℕ → Env → ℤ → Type 0
SaysNumber (Some s) env x = at_slot env s ≡ Some x
SaysNumber None env x = x ≡ pos 0

-- a NULL has no slot
abbrev pub KindReady : Option ℕ → NumKind → Type 0
KindReady (Some s) kind = Unit {0}
KindReady None kind = NumberOf kind null (pos 0)

abbrev pub InsertedReady : Option ℕ → Grammar → Env → Type 0
InsertedReady own (node align (num leaf)) env = (0 < align) × IsTrue (num_fine leaf) × KindReady own leaf.kind × ((x : ℤ) × SaysNumber own env x × In leaf.set x)
InsertedReady own _ env = ⊥

abbrev pub RunReady : (ℕ → Data → Type 0) → ℕ → Elements → Type 0
RunReady each k no_elements = Unit {0}
RunReady each k (element d es) = each k d × RunReady each (suc k) es

-- a place of a component, which may be empty
abbrev pub PlaceReady : (Data → Type 0) → Option Data → Type 0
PlaceReady ready None = Unit {0}
PlaceReady ready (Some d) = ready d

module _ (root : Grammar) (heard : List (List ℕ × Asked)) where
  -- the least number that answers what is asked of a slot at home, and that this was heard of its field
  abbrev pub IsHeard : (path : List ℕ) → Fields → (home : List ℕ) → Places → ℕ → Type 0
  IsHeard path fields home ps s = Hears (domain_of root s) (form_asks_on root s (seq fields home) (record_of ps)) heard (field_path path fields s)

  -- the numbers of the slots at home: the least that meet what is asked of them
  pub record HomeReady (path : List ℕ) (fields : Fields) (home : List ℕ) (ps : Places) (xs : List ℤ) : Type 0 where
    pub sound : SequenceIn root fields home
    pub count : length xs ≡ length home
    pub least : AllByRecursion (λ e. LeastAnswer (domain_of root e.0) (form_asks_on root e.0 (seq fields home) (record_of ps)) e.1) (zip home xs)
    pub told : AllByRecursion (IsHeard path fields home ps) home

  abbrev mutual
    pub Ready : Grammar → Env → (path : List ℕ) → Data → Type 0
    Ready (node align form) env path d = (0 < align) × (length path ≤ MOST_STEPS) × FormReady form env path d

    pub FormReady : Form → Env → (path : List ℕ) → Data → Type 0
    FormReady (num leaf) env path d = IsTrue (num_fine leaf) × NumberOf leaf.kind d (number_of d) × In leaf.set (number_of d)
    FormReady (octets sizing) env path (octet_string os) = SizeReady sizing env (length os) × IsTrue (are_octets os)
    FormReady (bits sizing) env path (bit_string bs) = SizeReady sizing env (length bs)
    FormReady (text leaf) env path (characters cs) = IsTrue (text_fine leaf) × (text_breach leaf cs ≡ []) × SlotSays leaf.sized.rule (given_size leaf.sized.rule (length cs)) env
    FormReady (seq fields home) env path (record_of ps) = (xs : List ℤ) × HomeReady path fields home ps xs × FieldsReady fields (with_home home xs env) path 0 ps
    FormReady (list sizing g) env path (list_of es) = (element_count es ≤ MOST_SIZE) × CountReady (ending sizing.rule) sizing env (element_count es) × RunReady (λ k d. Ready g env (path ++ k ∷ []) d) 0 es
    FormReady (choice cases rule) env path (alt i d) = IndexReady rule i × CaseReady cases rule env path i i d
    FormReady (contained sizing g) env path d =
        (octets_for (bit_length g 0 d) ≤ MOST_SIZE) × SizeReady sizing env (octets_for (bit_length g 0 d)) × CanMeasure g d × ((bs : List Bool) → Spell root Written g env d 0 bs → length bs ≡ bit_length g 0 d) × Ready g env (path ++ 0 ∷ []) d
    FormReady _ env path d = ⊥

    -- k is the number of the next field
    pub FieldsReady : Fields → Env → (path : List ℕ) → ℕ → Places → Type 0
    FieldsReady no_fields env path k no_places = Unit {0}
    FieldsReady (component name g presence default own fs) env path k (filled d ps) = (MayBeThere env presence × Carries env own d) × Ready g env (path ++ k ∷ []) d × FieldsReady fs env path (suc k) ps
    FieldsReady (component name g presence default own fs) env path k (empty ps) = MayBeAway env presence × FieldsReady fs env path (suc k) ps
    FieldsReady (inserted name g own fs) env path k ps = InsertedReady own g env × FieldsReady fs env path (suc k) ps
    FieldsReady _ env path k ps = ⊥

    -- the number of the alternative is i, of which j are left to pass over
    pub CaseReady : Alternatives → ChoiceRule → Env → (path : List ℕ) → (i j : ℕ) → Data → Type 0
    CaseReady (alternative name g tests more) rule env path i zero d = Chosen root rule env name tests × Ready g env (path ++ i ∷ []) d
    CaseReady (alternative name g tests more) rule env path i (suc j) d = CaseReady more rule env path i j d
    CaseReady no_alternatives rule env path i j d = ⊥

  -- what was added of a field leads on from those behind it, whose next place this is
  pub record Onward (all rest : Fields) (env : Env) (path : List ℕ) (k : ℕ) (places : List (Option Value)) (at next : ℕ) (base : ℕ) (old new : List Bool) : Type 0 where
    pub within : next ≤ length places
    pub later : FieldsReady rest env path (suc k) (places_view (drop next places))
    pub leads : Leads (FieldsPart root Written rest env (places_view (drop next places))) (FieldsPart root Written all env (places_view (drop at places))) base old new
