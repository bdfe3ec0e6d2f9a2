-- A value of a sound tree that meets its constraints can be gathered.
use Rattle.std.proofs.Common.{◌≡◌, ℕ, zero, suc, ◌+◌, ◌*◌, ◌^◌, ◌≤◌, Bool, true, false, ◌&&◌, ◌||◌, not, List, [], ◌∷◌, ◌++◌, length, Option, Some, None, nat_eq, refl, sym, subst, arith, true≢false}
use Rattle.std.specs.Prelude.{◌⊎◌, ◌-◌, map, nat_lt}
use Rattle.std.specs.List.{list_any}
use Rattle.std.proofs.Common.{inl, inr}
use Rattle.std.proofs.lemmas.Bool.{eqb-true}
use Rattle.std.proofs.lemmas.Bool.Decides.{nat_tests}
use Rattle.acn_num.specs.Bits.{octets as octets_for, is_least_width}
use Rattle.acn_grammar.specs.Grammar.{Grammar, Form, Fields, Alternatives, Data, Places, Elements, node, num, octets, bits, text, seq, list, choice, contained, no_fields, component, inserted, no_alternatives, alternative, record_of, list_of, alt, no_places, empty, filled, no_elements, element, element_count}
use Rattle.acn_grammar.specs.Asks.{same_name}
use Rattle.acn_grammar.specs.Leaves.{all_differ}
use Rattle.acn_grammar.specs.Length.{bit_length, form_length, fields_length, alternative_length, run_length, list_length, inserted_length, padding, presence_bits, index_width, rule_width, ending}
use Rattle.acn_grammar.specs.Meets.{Why, Unfit, unless, at_path, size_breach, size_out_of_range, breaches, form_breaches, field_breaches, alternative_breaches, run_breaches}
use Rattle.acn_grammar.specs.Scoped.{Known, with_slot, with_own, choose_known, after, TestsIn, PresenceIn, RuleIn, tests_at}
use Rattle.acn_grammar.specs.Sound.{Sound, FormSound, FieldsSound, AlternativesSound, SaysSlot, OwnSound, PresenceSound, RuleSound}
use Rattle.acn_grammar.specs.Tree.{holds, choice_fine, choice_rule_fine, has_tests}
use Rattle.acn_grammar.specs.Walk.{conditions_of}
use Rattle.acn_grammar.specs.declared.node.ChoiceRule.{ChoiceRule}
use Rattle.acn_grammar.specs.declared.node.ChoiceRule.TheVariants.{Index, Tests, Item}
use Rattle.acn_grammar.specs.declared.node.Presence.{Presence}
use Rattle.acn_grammar.specs.declared.node.Presence.TheVariants.{Always, Bit, When}
use Rattle.acn_grammar.specs.declared.node.SizeRule.{SizeRule}
use Rattle.acn_grammar.specs.declared.node.SizeRule.TheVariants.{Prefix, Slot, Ended}
use Rattle.acn_grammar.specs.declared.node.Test.{Test}
use Rattle.acn_grammar.specs.declared.node.Test.TheVariants.{Flag, Equals}
use Rattle.acn_num.specs.declared.limits.TheConstants.{MOST_STEPS}
use Rattle.acn_grammar.proofs.TextRules.{size_few}
use Rattle.acn_packet_laws.specs.Laws.{KnownBehind}
use Rattle.acn_lengths.proofs.CanMeasureLaw.{measured}
use Rattle.acn_asking.specs.Uses.{OwnIn, CaseIn}
use Rattle.acn_gather_laws.specs.CanGather.{CanGatherEach, CanGather, CanGatherForm, CanGatherFields, CanGatherCase, SoundValuesCanBeGathered}

last_three : {A B C : Type 0} → A × B × C → C
last_three h = h.2

-- the slots that are known are at home round the place
abbrev Near : Known → List ℕ → Type 0
Near ks around = (s : ℕ) → ks s ≡ true → holds around s ≡ true

rule_in : (ks : Known) (around : List ℕ) (rule : SizeRule) → Near ks around → RuleIn ks rule → RuleIn (holds around) rule
rule_in ks around (Prefix low width) w h = tt
rule_in ks around (Slot s) w h = w s h
rule_in ks around (Ended p) w h = tt

tests_in : (ks : Known) (around : List ℕ) (ts : List Test) → Near ks around → TestsIn ks ts → TestsIn (holds around) ts
tests_in ks around [] w h = tt
tests_in ks around (Flag s ∷ ts) w h = (w s h.0, tests_in ks around ts w h.1)
tests_in ks around (Equals s k ∷ ts) w h = (w s h.0, tests_in ks around ts w h.1)

presence_in : (ks : Known) (around : List ℕ) (presence : Presence) → Near ks around → PresenceSound ks presence → PresenceIn (holds around) presence
presence_in ks around Always w h = tt
presence_in ks around Bit w h = tt
presence_in ks around (When ts) w h = tests_in ks around ts w h.1

more_near : (home around : List ℕ) (s : ℕ) → holds around s ≡ true → holds (home ++ around) s ≡ true
more_near [] around s h = h
more_near (t ∷ home) around s h = either (nat_eq t s) (more_near home around s h)
  where
    either : (a : Bool) {b : Bool} → b ≡ true → (a || b) ≡ true
    either true h = refl
    either false h = h

octets_hold : (n : ℕ) → n ≤ 8 * octets_for n
octets_hold n = omega arith

front_none : (a b : List Unfit) → a ++ b ≡ [] → a ≡ []
front_none [] b e = refl
front_none (x ∷ a) b e = cc

back_none : (a b : List Unfit) → a ++ b ≡ [] → b ≡ []
back_none [] b e = e
back_none (x ∷ a) b e = cc

is_in : (path : List ℕ) (b : Bool) (why : Why) → at_path path (unless b why) ≡ [] → b ≡ true
is_in path true why e = refl
is_in path false why e = cc

both_first : (a b : Bool) → (a && b) ≡ true → a ≡ true
both_first true b h = refl
both_first false b h = h

both_second : (a b : Bool) → (a && b) ≡ true → b ≡ true
both_second true b h = h
both_second false b h = absurd (true≢false (sym h))

-- under an index no alternative has a condition

index_rule : (cs : List (List ℕ × List Test)) (n : ℕ) → choice_fine cs (Index n) ≡ true → list_any has_tests cs ≡ false
index_rule cs n h =
    let named = all_differ same_name (map (λ c. c.0) cs) in
    let rule = choice_rule_fine cs (Index n) in
    none (list_any has_tests cs) (both_second (is_least_width (length cs - 1) n) (not (list_any has_tests cs)) (both_second named rule (both_second (nat_lt 0 (length cs)) (named && rule) h)))
  where
    none : (b : Bool) → not b ≡ true → b ≡ false
    none true h = sym h
    none false h = refl

no_tests_in : (ts : List Test) → nat_lt 0 (length ts) ≡ false → ts ≡ []
no_tests_in [] e = refl
no_tests_in (t ∷ ts) e = absurd (some (length ts) e)
  where
    some : (n : ℕ) → nat_lt 0 (suc n) ≡ false → ⊥
    some n e = grind (arith, nat_tests)

neither_first : (a b : Bool) → (a || b) ≡ false → a ≡ false
neither_first true b e = e
neither_first false b e = refl

neither_second : (a b : Bool) → (a || b) ≡ false → b ≡ false
neither_second true b e = absurd (true≢false e)
neither_second false b e = e

no_tests_at : (cases : Alternatives) (i : ℕ) → list_any has_tests (conditions_of cases) ≡ false → tests_at cases i ≡ []
no_tests_at no_alternatives i e = refl
no_tests_at (alternative name g ts more) zero e = no_tests_in ts (neither_first (has_tests (name, ts)) (list_any has_tests (conditions_of more)) e)
no_tests_at (alternative name g ts more) (suc i) e = no_tests_at more i (neither_second (has_tests (name, ts)) (list_any has_tests (conditions_of more)) e)

no_tests : (cases : Alternatives) (n i : ℕ) → choice_fine (conditions_of cases) (Index n) ≡ true → tests_at cases i ≡ []
no_tests cases n i h = no_tests_at cases i (index_rule (conditions_of cases) n h)

near_home : (home around : List ℕ) (ks : Known) → Near ks around → Near ks (home ++ around)
near_home home around ks w s h = more_near home around s (w s h)

near_slot : (around : List ℕ) (ks : Known) (t : ℕ) → holds around t ≡ true → Near ks around → Near (with_slot t ks) around
near_slot around ks t home w s h = by (nat_eq t s) refl h
  where
    by : (b : Bool) → nat_eq t s ≡ b → (b || ks s) ≡ true → holds around s ≡ true
    by true e g = subst (λ (z : ℕ). holds around z ≡ true) (eqb-true t s e) home
    by false e g = w s g

module _ (root : Grammar) (behind : KnownBehind) where
  says_home : (around : List ℕ) (ks : Known) (s : ℕ) (g : Grammar) → SaysSlot root around ks s g → holds around s ≡ true
  says_home around ks s (node align (num leaf)) h = h.0
  says_home around ks s (node align (octets sizing)) h = absurd h
  says_home around ks s (node align (bits sizing)) h = absurd h
  says_home around ks s (node align (text leaf)) h = absurd h
  says_home around ks s (node align (seq fs home)) h = absurd h
  says_home around ks s (node align (list sizing g)) h = absurd h
  says_home around ks s (node align (choice cases rule)) h = absurd h
  says_home around ks s (node align (contained sizing g)) h = absurd h

  own_in : (around : List ℕ) (ks : Known) (own : Option ℕ) (presence : Presence) (g : Grammar) → OwnSound root around ks own presence g → OwnIn (holds around) own
  own_in around ks None presence g h = tt
  own_in around ks (Some s) presence g h = says_home around ks s g h.1

  near_after : (g : Grammar) (k : ℕ) (around : List ℕ) (ks : Known) → Sound root k around ks g → Near ks around → Near (after ks g) around
  near_after g k around ks sound w s h = by (behind root k around ks g sound s h)
    where
      by : (ks s ≡ true) ⊎ (holds around s ≡ true) → holds around s ≡ true
      by (inl e) = w s e
      by (inr e) = e

  near_component : (presence : Presence) (own : Option ℕ) (g : Grammar) (k : ℕ) (around : List ℕ) (ks : Known) → Sound root k around ks g → OwnSound root around ks own presence g → Near ks around → Near (choose_known presence ks (with_own own (after ks g))) around
  near_component Bit own g k around ks sound o w = w
  near_component (When ts) own g k around ks sound o w = w
  near_component Always None g k around ks sound o w = near_after g k around ks sound w
  near_component Always (Some t) g k around ks sound o w = near_slot around (after ks g) t (says_home around ks t g o.1) (near_after g k around ks sound w)

  deep : (g : Grammar) (k : ℕ) (around : List ℕ) (ks : Known) → Sound root k around ks g → k ≤ MOST_STEPS
  deep (node align form) k around ks s = s.1

  case_in : (cases : Alternatives) (rule : ChoiceRule) (around : List ℕ) (ks : Known) → Near ks around → choice_fine (conditions_of cases) rule ≡ true → RuleSound root ks cases rule → (i : ℕ) → CaseIn (holds around) rule (tests_at cases i)
  case_in cases (Index n) around ks w fine h i = subst (λ ts. TestsIn (holds around) ts) (sym (no_tests cases n i fine)) tt
  case_in cases Tests around ks w fine h i = tests_in ks around (tests_at cases i) w (h.0 i)
  case_in cases (Item s) around ks w fine h i = w s h.0

  each_can : (g : Grammar) (k : ℕ) (around : List ℕ) → ((path : List ℕ) (d : Data) (at : ℕ) → breaches path g d ≡ [] → bit_length g at d ≤ 2 ^ 40 → CanGather root k around g d)
      → (path : List ℕ) (n at : ℕ) (es : Elements) → run_breaches (λ k d. breaches (path ++ k ∷ []) g d) n es ≡ [] → run_length (bit_length g) at es ≤ 2 ^ 40 → CanGatherEach (CanGather root k around g) es
  each_can g k around h path n at no_elements e l = tt
  each_can g k around h path n at (element d es) e l =
      let here = breaches (path ++ n ∷ []) g d in
      let rest = run_breaches (λ k d. breaches (path ++ k ∷ []) g d) (suc n) es in
      let long = bit_length g at d in
      (h (path ++ n ∷ []) d at (front_none here rest e) (omega (arith, l)), each_can g k around h path (suc n) (at + long) es (back_none here rest e) (omega (arith, l)))

  list_near : (end : Option (List Bool)) (rule : SizeRule) (each : ℕ → Data → ℕ) (at : ℕ) (es : Elements) → list_length end rule each at es ≤ 2 ^ 40 → (from : ℕ) × (run_length each from es ≤ 2 ^ 40)
  list_near None rule each at es l = (at + rule_width rule, omega (arith, l))
  list_near (Some p) rule each at es l = (at, omega (arith, l))

  mutual
    pub node_can : (g : Grammar) (k : ℕ) (around : List ℕ) (ks : Known) → Sound root k around ks g → Near ks around → (path : List ℕ) (d : Data) (at : ℕ) → breaches path g d ≡ [] → bit_length g at d ≤ 2 ^ 40 → CanGather root k around g d
    node_can (node align form) k around ks s w path d at e l = (s.1, form_can form k around ks s.2 w path d (at + padding align at) e (omega (arith, l)))

    form_can : (form : Form) (k : ℕ) (around : List ℕ) (ks : Known) → FormSound root k around ks form → Near ks around → (path : List ℕ) (d : Data) (at : ℕ) → form_breaches path form d ≡ [] → form_length form at d ≤ 2 ^ 40 → CanGatherForm root k around form d
    form_can (octets sizing) k around ks s w path d at e l = rule_in ks around sizing.rule w s.1
    form_can (bits sizing) k around ks s w path d at e l = rule_in ks around sizing.rule w s.1
    form_can (text leaf) k around ks s w path d at e l = rule_in ks around leaf.sized.rule w s.1
    form_can (seq fields home) k around ks s w path (record_of ps) at e l = (
      record { depth = k; around = around; known = ks; sound = s },
      fields_can fields (suc k) (home ++ around) ks s.1 (near_home home around ks w) path 0 ps (at + length (presence_bits fields ps)) e (omega (arith, l)),
    )
    form_can (list sizing g) k around ks s w path (list_of es) at e l =
        let size = at_path path (size_breach sizing (element_count es)) in
        let rest = run_breaches (λ n d. breaches (path ++ n ∷ []) g d) 0 es in
        let from = list_near (ending sizing.rule) sizing.rule (bit_length g) at es l in (
          rule_in ks around sizing.rule w s.1,
          size_few sizing.sizes (element_count es) (both_first _ _ s.0) (is_in path _ (size_out_of_range (element_count es)) (front_none size rest e)),
          each_can g (suc k) around (λ p d a b n. node_can g (suc k) around ks s.4 w p d a b n) path 0 from.0 es (back_none size rest e) from.1,
        )
    form_can (choice cases rule) k around ks s w path (alt i d) at e l =
        case_can cases rule (suc k) around ks s.3 w (case_in cases rule around ks w s.0 s.2) path i i d (at + index_width rule) e (omega (arith, l))
    form_can (contained sizing g) k around ks s w path d at e l =
        let hold = octets_hold (bit_length g 0 d) in
        let near : bit_length g 0 d ≤ 2 ^ 40 = omega (arith, l, hold) in (
          rule_in ks around sizing.rule w s.1,
          record { can = measured root g (suc k) around ks s.3 (path ++ 0 ∷ []) d e; near = near },
          node_can g (suc k) around ks s.3 w (path ++ 0 ∷ []) d 0 e near,
        )
    form_can _ k around ks s w path d at e l = tt

    fields_can : (fs : Fields) (k : ℕ) (around : List ℕ) (ks : Known) → FieldsSound root k around ks fs → Near ks around → (path : List ℕ) (n : ℕ) (ps : Places) (at : ℕ) → field_breaches path n fs ps ≡ [] → fields_length fs at ps ≤ 2 ^ 40 → CanGatherFields root k around fs ps
    fields_can no_fields k around ks s w path n ps at e l = tt
    fields_can (component name g presence default own fs) k around ks s w path n (filled d ps) at e l =
        let here = breaches (path ++ n ∷ []) g d in
        let rest = field_breaches path (suc n) fs ps in (
          own_in around ks own presence g s.1,
          presence_in ks around presence w s.0,
          node_can g k around ks s.3 w (path ++ n ∷ []) d at (front_none here rest e) (omega (arith, l)),
          fields_can fs k around _ s.4 (near_component presence own g k around ks s.3 s.1 w) path (suc n) ps (at + bit_length g at d) (back_none here rest e) (omega (arith, l)),
        )
    fields_can (component name g presence default own fs) k around ks s w path n (empty ps) at e l =
        (deep g k around ks s.3, presence_in ks around presence w s.0, fields_can fs k around _ s.4 (near_component presence own g k around ks s.3 s.1 w) path (suc n) ps at e l)
    fields_can (component name g presence default own fs) k around ks s w path n no_places at e l = tt
    fields_can (inserted name g None fs) k around ks s w path n ps at e l =
        fields_can fs k around ks s.2 w path (suc n) ps (at + inserted_length g at) e (omega (arith, l))
    fields_can (inserted name g (Some t) fs) k around ks s w path n ps at e l =
        fields_can fs k around _ s.3 (near_slot around ks t (says_home around ks t g s.0) w) path (suc n) ps (at + inserted_length g at) e (omega (arith, l))

    case_can : (cases : Alternatives) (rule : ChoiceRule) (k : ℕ) (around : List ℕ) (ks : Known) → AlternativesSound root k around ks cases → Near ks around → ((i : ℕ) → CaseIn (holds around) rule (tests_at cases i))
        → (path : List ℕ) (i j : ℕ) (d : Data) (at : ℕ) → alternative_breaches path i cases j d ≡ [] → alternative_length cases j at d ≤ 2 ^ 40 → CanGatherCase root k around rule cases j d
    case_can no_alternatives rule k around ks s w known path i j d at e l = tt
    case_can (alternative name g tests more) rule k around ks s w known path i zero d at e l = (known 0, node_can g k around ks s.1 w (path ++ i ∷ []) d at e l)
    case_can (alternative name g tests more) rule k around ks s w known path i (suc j) d at e l = case_can more rule k around ks s.2 w (λ m. known (suc m)) path i j d at e l

pub sound_values_gathered : KnownBehind → SoundValuesCanBeGathered
sound_values_gathered behind root k around ks g s w d m l = node_can root behind g k around ks s w [] d 0 m.none l
