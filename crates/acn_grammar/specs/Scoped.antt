-- What laws about spellings need of an accepted grammar: every leaf keeps its rules, every use names a slot whose field stands
-- before it, and no permitted numbers choose two alternatives. (This profile's own; Sound says it with more, for the layers above.)
use Rattle.std.specs.Prelude.{◌≡◌, ℕ, zero, suc, ◌<◌, ℤ, Bool, true, false, not, ◌&&◌, ◌||◌, nat_eq, List, [], ◌∷◌, length, Option, Some, None, IsTrue}
use Rattle.std.specs.List.{AllByRecursion}
use Rattle.acn_num.specs.Ranges.{In}
use Rattle.acn_grammar.specs.Asks.{same_name}
use Rattle.acn_grammar.specs.Check.{lead, LeadAmbiguous}
use Rattle.acn_grammar.specs.Env.{Env, at_slot, AllHold}
use Rattle.acn_grammar.specs.Fails.{count_of}
use Rattle.acn_grammar.specs.Grammar.{Grammar, Form, Fields, Alternatives, node, num, octets, bits, text, seq, list, choice, contained, no_fields, component, inserted, no_alternatives, alternative}
use Rattle.acn_grammar.specs.Leaves.{num_fine, text_fine, sizes_fine, all_differ}
use Rattle.acn_grammar.specs.Length.{ending}
use Rattle.acn_grammar.specs.Slots.{domain_of}
use Rattle.acn_grammar.specs.Tree.{holds}
use Rattle.acn_grammar.specs.declared.node.Presence.{Presence}
use Rattle.acn_grammar.specs.declared.node.Presence.TheVariants.{Always, When}
use Rattle.acn_grammar.specs.declared.node.Test.{Test}
use Rattle.acn_grammar.specs.declared.node.Test.TheVariants.{Flag, Equals}
use Rattle.acn_grammar.specs.declared.node.SizeRule.{SizeRule}
use Rattle.acn_grammar.specs.declared.node.SizeRule.TheVariants.{Prefix, Slot, Ended}
use Rattle.acn_grammar.specs.declared.node.ChoiceRule.TheVariants.{Index, Tests, Item}

-- the slots whose numbers are known at a place, since their fields stand before it
abbrev pub Known : Type 0
Known = ℕ → Bool

abbrev pub with_slot : ℕ → Known → Known
with_slot k ks s = nat_eq k s || ks s

-- both have the same number for each known slot
abbrev pub Agree : Known → Env → Env → Type 0
Agree ks env env' = (s : ℕ) → ks s ≡ true → at_slot env s ≡ at_slot env' s

-- Uses of known slots.

abbrev pub TestIn : Known → Test → Type 0
TestIn ks (Flag s) = ks s ≡ true
TestIn ks (Equals s k) = ks s ≡ true

abbrev pub TestsIn : Known → List Test → Type 0
TestsIn ks [] = Unit {0}
TestsIn ks (t ∷ ts) = TestIn ks t × TestsIn ks ts

abbrev pub PresenceIn : Known → Presence → Type 0
PresenceIn ks (When ts) = TestsIn ks ts
PresenceIn ks _ = Unit {0}

abbrev pub RuleIn : Known → SizeRule → Type 0
RuleIn ks (Prefix low width) = Unit {0}
RuleIn ks (Slot s) = ks s ≡ true
RuleIn ks (Ended p) = Unit {0}

-- the pattern that ends a list can be told from the first bits of an element, and there is a greatest size
pub record IsTold (p : List Bool) (sizes : List (ℤ × ℤ)) (g : Grammar) : Type 0 where
  pub fine : IsTrue (sizes_fine sizes)
  pub told : LeadAmbiguous p (lead (length p) g) → ⊥

abbrev pub EndTold : Option (List Bool) → List (ℤ × ℤ) → Grammar → Type 0
EndTold None sizes g = Unit {0}
EndTold (Some p) sizes g = IsTold p sizes g

-- the slots at home here have their fields inside, so none is known yet
abbrev pub Apart : Known → List ℕ → Type 0
Apart ks home = (s : ℕ) → ks s ≡ true → holds home s ≡ false

-- an inserted field's leaf keeps its rules
abbrev pub FineField : Grammar → Type 0
FineField (node align (num leaf)) = IsTrue (num_fine leaf)
FineField _ = ⊥

-- What is known behind a node: the slots of outer homes whose fields stand in it are known then too.

abbrev pub choose_known : Presence → (there always : Known) → Known
choose_known Always there always = always
choose_known _ there always = there

-- with the slot of a component
abbrev pub with_own : Option ℕ → Known → Known
with_own None ks = ks
with_own (Some s) ks = with_slot s ks

abbrev mutual
  pub after : Known → Grammar → Known
  after ks (node align form) = form_after ks form

  pub form_after : Known → Form → Known
  form_after ks (seq fields home) = λ s. fields_after ks fields s && not (holds home s)
  form_after ks _ = ks

  pub fields_after : Known → Fields → Known
  fields_after ks no_fields = ks
  fields_after ks (component name g presence default own fs) = fields_after (choose_known presence ks (with_own own (after ks g))) fs
  fields_after ks (inserted name g (Some s) fs) = fields_after (with_slot s ks) fs
  fields_after ks (inserted name g None fs) = fields_after ks fs

-- the conditions of the alternative of a number, none where there is none
abbrev pub tests_at : Alternatives → ℕ → List Test
tests_at no_alternatives i = []
tests_at (alternative name g ts more) zero = ts
tests_at (alternative name g ts more) (suc i) = tests_at more i

abbrev pub names_of : Alternatives → List (List ℕ)
names_of no_alternatives = []
names_of (alternative name g ts more) = name ∷ names_of more

module _ (root : Grammar) where
  -- each number is a permitted one of its slot
  abbrev pub Permitted : Env → Type 0
  Permitted env = AllByRecursion (λ e. In (domain_of root e.0) e.1) env

  -- no permitted numbers choose two alternatives
  abbrev pub NoOverlap : Alternatives → Type 0
  NoOverlap cases = (env : Env) → Permitted env → (i j : ℕ) → i < count_of cases → j < count_of cases → AllHold env (tests_at cases i) → AllHold env (tests_at cases j) → i ≡ j

  abbrev mutual
    pub Scoped : Known → Grammar → Type 0
    Scoped ks (node align form) = FormScoped ks form

    pub FormScoped : Known → Form → Type 0
    FormScoped ks (num leaf) = IsTrue (num_fine leaf)
    FormScoped ks (octets sizing) = RuleIn ks sizing.rule
    FormScoped ks (bits sizing) = RuleIn ks sizing.rule
    FormScoped ks (text leaf) = RuleIn ks leaf.sized.rule × IsTrue (text_fine leaf)
    FormScoped ks (seq fields home) = Apart ks home × FieldsScoped ks fields
    FormScoped ks (list sizing g) = RuleIn ks sizing.rule × Scoped ks g × EndTold (ending sizing.rule) sizing.sizes g
    FormScoped ks (contained sizing g) = RuleIn ks sizing.rule × Scoped ks g
    FormScoped ks (choice cases (Index width)) = AlternativesScoped ks cases
    FormScoped ks (choice cases Tests) = AlternativesScoped ks cases × ((i : ℕ) → TestsIn ks (tests_at cases i)) × NoOverlap cases
    FormScoped ks (choice cases (Item s)) = AlternativesScoped ks cases × (ks s ≡ true) × (all_differ same_name (names_of cases) ≡ true)

    pub FieldsScoped : Known → Fields → Type 0
    FieldsScoped ks no_fields = Unit {0}
    FieldsScoped ks (component name g presence default own fs) = PresenceIn ks presence × Scoped ks g × FieldsScoped (choose_known presence ks (with_own own (after ks g))) fs
    FieldsScoped ks (inserted name g (Some s) fs) = FineField g × FieldsScoped (with_slot s ks) fs
    FieldsScoped ks (inserted name g None fs) = Scoped ks g × FieldsScoped ks fs

    pub AlternativesScoped : Known → Alternatives → Type 0
    AlternativesScoped ks no_alternatives = Unit {0}
    AlternativesScoped ks (alternative name g tests more) = Scoped ks g × AlternativesScoped ks more
