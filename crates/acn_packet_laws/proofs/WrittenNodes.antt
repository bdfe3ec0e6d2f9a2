-- A value of a node's form without a breach, whose walk can be met, is written.
use Rattle.std.proofs.Common.{◌≡◌, ℕ, zero, suc, ◌-◌, ◌^◌, ◌<◌, ◌≤◌, ℤ, pos, true, false, not, List, [], ◌∷◌, ◌++◌, length, map, Option, Some, None, refl, sym, ap, ◌∙◌, arith, inl, inr, ◌&&◌, ◌||◌, nat_eq, nat_lt, nat_le, subst, append_assoc, append-nil}
use Rattle.std.proofs.lemmas.Bool.{or_left, or_right, and_parts, ltb-true}
use Rattle.std.specs.Prelude.{slice_get, Contains, ◌≤ℤ◌}
use Rattle.std.specs.List.{AllByRecursion, list_any, flat_map, zip}
use Rattle.std.proofs.lemmas.Int.{ints}
use Rattle.acn_num.specs.Bits.{low_bits, bits as bits_of, octets as octets_for, is_least_width}
use Rattle.acn_num.specs.Ranges.{In, has}
use Rattle.acn_grammar.specs.Asks.{Ask, Equal, Avoid, Moment, asks, counts, FieldPaths, field_path, with_fields, presence_asks, size_asks, own_asks, rule_asks, run_moments, moments, form_moments, fields_moments, alternative_moments, same_name, index_of}
use Rattle.acn_grammar.specs.AsksOn.{MeetsAsk, Meetable, LeastAnswer, on, test_ask_on, presence_asks_on, size_asks_on, own_asks_on, rule_asks_on, run_asks_on, asks_on, form_asks_on, fields_asks_on, alternative_asks_on}
use Rattle.acn_grammar.specs.Walk.{conditions_of}
use Rattle.acn_grammar.specs.Code.{Written, Code, NumberOf}
use Rattle.acn_grammar.specs.Env.{Env, at_slot, Holds, AllHold, MayBeThere, MayBeAway}
use Rattle.acn_grammar.specs.Grammar.{Grammar, Form, Fields, Alternatives, Data, Places, Elements, node, num, octets, bits, text, seq, list, choice, contained, no_fields, component, inserted, no_alternatives, alternative, int, boolean, item, null, octet_string, bit_string, characters, record_of, list_of, alt, no_places, empty, filled, no_elements, element, element_count}
use Rattle.acn_grammar.specs.Leaves.{all_differ, is_range, no_items}
use Rattle.acn_grammar.specs.Length.{bit_length, number_of, ending, presence_bits}
use Rattle.acn_grammar.specs.Meets.{unless, at_path, out_of_range, size_out_of_range, size_breach, text_breach, run_breaches, breaches, form_breaches, field_breaches, alternative_breaches}
use Rattle.acn_grammar.specs.PartAt.{Occurrence, occurrence, part_at, field_part, alternative_part, element_part}
use Rattle.acn_grammar.specs.Refused.{asks_of}
use Rattle.acn_grammar.specs.Scoped.{Known, after, choose_known, with_own, with_slot}
use Rattle.acn_grammar.specs.Shaped.{may_be_absent, num_fits, each_element, fits, form_fits, fields_fit, alternative_fits}
use Rattle.acn_grammar.specs.Slots.{items_of, domain_of}
use Rattle.acn_grammar.specs.Sound.{Sound, FormSound, FieldsSound, AlternativesSound, IsNull, SaysSlot, SequenceSound, RuleSound}
use Rattle.acn_grammar.specs.Spell.{Fill, Window, RunPart, Spell, FormPart, FieldsPart, AlternativePart, IndexPart, SlotField, Carries, Chosen, with_home}
use Rattle.acn_grammar.specs.Tree.{holds, choice_fine, choice_rule_fine, has_tests}
use Rattle.acn_grammar.specs.declared.node.ChoiceRule.{ChoiceRule}
use Rattle.acn_grammar.specs.declared.node.ChoiceRule.TheVariants.{Index, Tests, Item}
use Rattle.acn_grammar.specs.declared.node.NumKind.{NumKind}
use Rattle.acn_grammar.specs.declared.node.NumKind.TheVariants.{Integer, Boolean, Enumerated, Null}
use Rattle.acn_grammar.specs.declared.node.Presence.{Presence}
use Rattle.acn_grammar.specs.declared.node.Presence.TheVariants.{Always, Bit, When}
use Rattle.acn_grammar.specs.declared.node.SizeRule.{SizeRule}
use Rattle.acn_grammar.specs.declared.node.SizeRule.TheVariants.{Prefix, Slot, Ended}
use Rattle.acn_grammar.specs.declared.node.Test.{Test}
use Rattle.acn_grammar.specs.declared.node.Test.TheVariants.{Flag, Equals}
use Rattle.acn_grammar.proofs.Counts.{number_bits}
use Rattle.acn_grammar.proofs.FineLeaves.{rules_of}
use Rattle.acn_grammar.proofs.SpellLength.{Steady, SteadyForm, SteadyFields, SteadyAlternatives}
use Rattle.acn_packet_laws.specs.Laws.{IsAccepted}
use Rattle.acn_packet_laws.proofs.Homes.{truth}
use Rattle.acn_packet_laws.proofs.Answering.{at_home, not_at_home}
use Rattle.acn_packet_laws.proofs.AskHomes.{FormHomes, NodeHomes, FieldsHomes, CasesHomes, tree_homes, differs, if_yes, if_no, some_is}
use Rattle.acn_packet_laws.proofs.Codes.{each_number_has_a_code}
use Rattle.acn_packet_laws.proofs.SlotNumbers.{some_number, domain_is}
use Rattle.acn_packet_laws.proofs.LeastAnswers.{least_answer}
use Rattle.acn_packet_laws.proofs.Occurrences.{each_occurrence_asks}
use Rattle.acn_packet_laws.proofs.OneRefusals.{EachMet, Held, IsOf, held}
use Rattle.acn_packet_laws.proofs.PathSlots.{slot_at, LeadsTo, IsLed, Led, NodeLed, FieldsLed, case_slot_at, led_on, led_component, led_behind, led_inserted, home_leads, moments_led}
use Rattle.acn_packet_laws.proofs.Placed.{holds_either}
use Rattle.acn_packet_laws.proofs.Sounding.{got_name}
use Rattle.acn_packet_laws.proofs.Used.{each_left, each_right, TestFits, TestsFit, PresenceFits, CaseFits, RuleFits, OwnFits, ChoiceFits, NodeUsed, FormUsed, FieldsUsed, CasesUsed, accepted_used}
use Rattle.acn_packet_laws.proofs.WrittenParts.{Writes, then_writes, where_writes, exactly_writes, padding_writes, RuleHas, size_writes, nothing_left, no_breach, passes, text_writes, list_writes, window_writes}
use Rattle.acn_grammar.proofs.Characters.{same_name-is}
use Rattle.acn_packet_laws.proofs.Tuples.{first_five, first_four, first_three, first_two, fourth_five, last_five, last_four, last_three, last_two, second_four, second_three, third_four}
use Rattle.acn_grammar.proofs.TextRules.{text_rules}
use Rattle.acn_grammar.proofs.HasImage.{range_within}
use Rattle.acn_grammar.proofs.SlotLists.{same_eq}

-- The number of a value, and of a NULL.

number_back : (kind : NumKind) (n : ℕ) (d : Data) → num_fits kind n d ≡ true → NumberOf kind d (number_of d)
number_back Integer n (int x) h = refl
number_back Boolean n (boolean true) h = refl
number_back Boolean n (boolean false) h = refl
number_back Enumerated n (item i) h = refl
number_back Null n null h = refl
number_back _ n _ h = cc

-- An item by its name.

named_item : (name : List ℕ) (items : List (List ℕ × ℤ)) → list_any (same_name name) (map (λ e. e.0) items) ≡ true → (x : ℤ) × (slice_get items (index_of (same_name name) items) ≡ Some (name, x))
named_item name [] h = cc
named_item name (e ∷ items) h = truth {F = (x : ℤ) × (slice_get (e ∷ items) (index_of (same_name name) (e ∷ items)) ≡ Some (name, x))} (same_name name e.0)
    (λ q. (e.1, ap (slice_get (e ∷ items)) (if_yes (same_name name e.0) 0 (suc (index_of (same_name name) items)) q) ∙ ap (λ n. Some (n, e.1)) (sym (same_name-is name e.0 q))))
    (λ q.
    let rest = named_item name items (sym (ap (λ b. b || list_any (same_name name) (map (λ e. e.0) items)) q) ∙ h) in
    (rest.0, ap (slice_get (e ∷ items)) (if_no (same_name name e.0) 0 (suc (index_of (same_name name) items)) q) ∙ rest.1))

module _ (root : Grammar) where
  -- each slot at home round a place has a number, permitted and an answer to what is wanted of it
  abbrev pub Told : Env → List ℕ → (ℕ → List Ask) → Type 0
  Told env around wanted = (t : ℕ) → holds around t ≡ true → (x : ℤ) × (at_slot env t ≡ Some x) × In (domain_of root t) x × AllByRecursion (MeetsAsk x) (wanted t)

  left : (env : Env) (around : List ℕ) (a b : ℕ → List Ask) → Told env around (λ t. a t ++ b t) → Told env around a
  left env around a b told t h = let r = told t h in (r.0, r.1, r.2, each_left (MeetsAsk r.0) (a t) (b t) r.3)

  right : (env : Env) (around : List ℕ) (a b : ℕ → List Ask) → Told env around (λ t. a t ++ b t) → Told env around b
  right env around a b told t h = let r = told t h in (r.0, r.1, r.2, each_right (MeetsAsk r.0) (a t) (b t) r.3)

  -- what was asked of a slot
  heard : (env : Env) (around : List ℕ) (t : ℕ) (a : Ask) → Told env around (λ s. on s t a) → holds around t ≡ true → (x : ℤ) × (at_slot env t ≡ Some x) × MeetsAsk x a
  heard env around t a told h =
      let r = told t h in
      (r.0, r.1, (subst (AllByRecursion (MeetsAsk r.0)) (if_yes (nat_eq t t) (a ∷ []) [] (same_eq t)) r.3).0)

  equal : (env : Env) (around : List ℕ) (t : ℕ) (n : ℤ) → Told env around (λ s. on s t (Equal n)) → holds around t ≡ true → at_slot env t ≡ Some n
  equal env around t n told h = let r = heard env around t (Equal n) told h in r.1 ∙ ap Some r.2

  test_fits : (around : List ℕ) (t : Test) → TestFits root around t → (env : Env) → Told env around (λ s. test_ask_on s true t) → Holds env t
  test_fits around (Flag t) f env told = equal env around t (pos 1) told f.0
  test_fits around (Equals t k) f env told = equal env around t k told f

  tests_hold : (around : List ℕ) (ts : List Test) → TestsFit root around ts → (env : Env) → Told env around (λ s. flat_map (test_ask_on s true) ts) → AllHold env ts
  tests_hold around [] f env told = tt
  tests_hold around (t ∷ ts) f env told =
      (test_fits around t f.0 env (left env around (λ s. test_ask_on s true t) (λ s. flat_map (test_ask_on s true) ts) told), tests_hold around ts f.1 env (right env around (λ s. test_ask_on s true t) (λ s. flat_map (test_ask_on s true) ts) told))

  there : (around : List ℕ) (presence : Presence) → PresenceFits root around presence → (env : Env) → Told env around (λ s. presence_asks_on s true presence) → MayBeThere env presence
  there around Always f env told = tt
  there around Bit f env told = tt
  there around (When ts) f env told = tests_hold around ts f.1 env told

  test_fails : (around : List ℕ) (t : Test) → TestFits root around t → (env : Env) → Told env around (λ s. test_ask_on s false t) → Holds env t → ⊥
  test_fails around (Flag t) f env told h =
      let no' = equal env around t (pos 0) told f.0 in
      let both : pos 0 ≡ pos 1 = some_is (pos 0) (pos 1) (sym no' ∙ h) in
      cc
  test_fails around (Equals t k) f env told h = let r = heard env around t (Avoid k) told f in r.2 (some_is r.0 k (sym r.1 ∙ h))

  away : (around : List ℕ) (presence : Presence) → PresenceFits root around presence → may_be_absent presence ≡ true → (env : Env) → Told env around (λ s. presence_asks_on s false presence) → MayBeAway env presence
  away around Always f m env told = cc
  away around Bit f m env told = tt
  away around (When []) f m env told = let n = f.0 in absurd (omega arith)
  away around (When (t ∷ ts)) f m env told = λ h. test_fails around t (f.1).0 env (left env around (λ s. test_ask_on s false t) (λ s. flat_map (test_ask_on s false) ts) told) h.0

  size_had : (around : List ℕ) (rule : SizeRule) → RuleFits root around rule → (env : Env) (n : ℕ) → Told env around (λ s. size_asks_on s n rule) → RuleHas env rule n
  size_had around (Slot t) f env n told = equal env around t (pos n) told f
  size_had around (Prefix low width) f env n told = tt
  size_had around (Ended p) f env n told = tt

  carried : (around : List ℕ) (own : Option ℕ) → OwnFits root around own → (env : Env) (d : Data) → Told env around (λ s. own_asks_on s own d) → Carries env own d
  carried around None f env d told = tt
  carried around (Some t) f env d told = equal env around t (number_of d) told f

  -- Choices.

  abbrev HasItem : ChoiceRule → List ℕ → Type 0
  HasItem (Item t) name = list_any (same_name name) (map (λ e. e.0) (items_of root t)) ≡ true
  HasItem Tests name = Unit {0}
  HasItem (Index width) name = Unit {0}

  abbrev EachHasItem : ChoiceRule → Alternatives → Type 0
  EachHasItem rule cases = (name : List ℕ) → Contains (map (λ c. c.0) (conditions_of cases)) name → HasItem rule name

  each_has_item : (ks : Known) (cases : Alternatives) (rule : ChoiceRule) → RuleSound root ks cases rule → EachHasItem rule cases
  each_has_item ks cases (Item t) h name c = let r = (last_two h) name c in got_name (map (λ e. e.0) (items_of root t)) name r.0 r.1 r.2
  each_has_item ks cases Tests h name c = tt
  each_has_item ks cases (Index width) h name c = tt

  later_item : (rule : ChoiceRule) (name : List ℕ) (g : Grammar) (tests : List Test) (more : Alternatives) → EachHasItem rule (alternative name g tests more) → EachHasItem rule more
  later_item rule name g tests more h other c = h other (suc c.0, (let l = c.1 in omega (arith, l)), c.2)

  first_item : (rule : ChoiceRule) (name : List ℕ) (g : Grammar) (tests : List Test) (more : Alternatives) → EachHasItem rule (alternative name g tests more) → HasItem rule name
  first_item rule name g tests more h = h name (zero, omega arith, refl)

  chosen : (around : List ℕ) (rule : ChoiceRule) → ChoiceFits root around rule → (name : List ℕ) → HasItem rule name → (tests : List Test) → CaseFits root around rule tests → (env : Env) → Told env around (λ s. rule_asks_on root s rule name tests) → Chosen root rule env name tests
  chosen around (Item t) c name i tests f env told =
      let x = named_item name (items_of root t) i in
      (index_of (same_name name) (items_of root t), x.0, equal env around t (pos (index_of (same_name name) (items_of root t))) told c, x.1)
  chosen around Tests c name i tests f env told = tests_hold around tests f env told
  chosen around (Index width) c name i tests f env told = tt

  case_there : (cases : Alternatives) (i : ℕ) (d : Data) → alternative_fits cases i d ≡ true → i < length (conditions_of cases)
  case_there no_alternatives i d h = cc
  case_there (alternative name g tests more) zero d h = omega arith
  case_there (alternative name g tests more) (suc i) d h = let r = case_there more i d h in omega (arith, r)

  index_writes : (cases : Alternatives) (rule : ChoiceRule) (i : ℕ) → choice_fine (conditions_of cases) rule ≡ true → i < length (conditions_of cases) → Writes (IndexPart root rule i)
  index_writes cases Tests i f l at = ([], refl)
  index_writes cases (Item t) i f l at = ([], refl)
  index_writes cases (Index width) i f l at =
      let n = length (conditions_of cases) in
      let a = and_parts (nat_lt 0 n) (all_differ same_name (map (λ c. c.0) (conditions_of cases)) && choice_rule_fine (conditions_of cases) (Index width)) f in
      let b = and_parts (all_differ same_name (map (λ c. c.0) (conditions_of cases))) (choice_rule_fine (conditions_of cases) (Index width)) a.1 in
      let c = and_parts (is_least_width (n - 1) width) (not (list_any has_tests (conditions_of cases))) b.1 in
      let few = ltb-true (n - 1) (2 ^ width) (and_parts (nat_lt (n - 1) (2 ^ width)) (nat_eq width 0 || nat_le (2 ^ (width - 1)) (n - 1)) c.0).0 in
      (low_bits width i, number_bits width i (omega (arith, few, l)))

-- a number for each slot at home
choose : (P : ℕ → ℤ → Type 0) (home : List ℕ) → ((s : ℕ) → holds home s ≡ true → (x : ℤ) × P s x) → (xs : List ℤ) × (length xs ≡ length home) × AllByRecursion (λ e. P e.0 e.1) (zip home xs)
choose P [] h = ([], refl, tt)
choose P (s ∷ home) h =
    let x = h s (or_left (nat_eq s s) (holds home s) (same_eq s)) in
    let r = choose P home (λ t q. h t (or_right (nat_eq s t) (holds home t) q)) in
    (x.0 ∷ r.0, ap suc r.1, (x.1, r.2))

weaker : {A : Type 0} (P Q : A → Type 0) → ((x : A) → P x → Q x) → (xs : List A) → AllByRecursion P xs → AllByRecursion Q xs
weaker P Q f [] h = tt
weaker P Q f (x ∷ xs) h = (f x h.0, weaker P Q f xs h.1)

abbrev pub Counted : Moment → Type 0
Counted (asks path field s a) = Unit {0}
Counted (counts path n sizing) = In sizing.sizes (pos n)

module _ (root : Grammar) (accepted : IsAccepted root) (whole : Data) (met : EachMet root (moments root root [] [] whole)) where
  abbrev Stands : List ℕ → (List ℕ → Option Occurrence) → Type 0
  Stands p find = (r : List ℕ) (o : Occurrence) → find r ≡ Some o → part_at root whole (p ++ r) ≡ Some o

  deeper : (p : List ℕ) (k : ℕ) (find : List ℕ → Option Occurrence) → ((r : List ℕ) (o : Occurrence) → find r ≡ Some o → part_at root whole (p ++ k ∷ r) ≡ Some o) → Stands (p ++ k ∷ []) find
  deeper p k find h r o e = ap (part_at root whole) (append_assoc p (k ∷ []) r) ∙ h r o e

  -- Numbers of slots.

  led_of : (m : Moment) → IsLed root m → IsOf root (LeadsTo root) m
  led_of (asks path field s a) h = h
  led_of (counts path n sizing) h = tt

  meetable : (p : List ℕ) (align : ℕ) (fields : Fields) (home : List ℕ) (part : Data) (around : List ℕ) (ks : Known) → SequenceSound root around ks fields home → FormHomes (seq fields home) → Led root p (seq fields home) → part_at root whole p ≡ Some (occurrence (node align (seq fields home)) part)
      → (s : ℕ) → holds home s ≡ true → Meetable (domain_of root s) (form_asks_on root s (seq fields home) part)
  meetable p align fields home part around ks sound homes led stands s h =
      by (held root (LeadsTo root) (field_path p fields s) (moments root root [] [] whole) (weaker (IsLed root) (IsOf root (LeadsTo root)) led_of (moments root root [] [] whole) (moments_led root (tree_homes root accepted.formed) (accepted_used root accepted) whole)) met)
    where
      is : asks_of (field_path p fields s) (moments root root [] [] whole) ≡ form_asks_on root s (seq fields home) part
      is = each_occurrence_asks root whole part p home align s fields accepted.formed stands h

      mine : LeadsTo root (field_path p fields s) s
      mine = home_leads root p fields home led (λ t q. (homes.0 t q).0) s h

      by : Held root (LeadsTo root) (field_path p fields s) (moments root root [] [] whole) → Meetable (domain_of root s) (form_asks_on root s (seq fields home) part)
      by (inl e) =
          let x = sound.permits s h in
          (x.0, record { permitted = x.1; meets = subst (AllByRecursion (MeetsAsk x.0)) (sym e ∙ is) tt })
      by (inr r) = subst (Meetable (domain_of root s)) is (subst (λ n. Meetable (domain_of root n) (asks_of (field_path p fields s) (moments root root [] [] whole))) (some_is r.0 s (sym r.1 ∙ mine)) r.2)

  slot_writes : (k : ℕ) (around : List ℕ) (ks : Known) (s : ℕ) (g : Grammar) → Sound root k around ks g → SaysSlot root around ks s g → (env : Env) (wanted : ℕ → List Ask) → Told root env around wanted → Writes (SlotField root Written g env s)
  slot_writes k around ks s (node align (num leaf)) sound says env wanted told at =
      let r = told s says.0 in
      let c = each_number_has_a_code Written leaf (last_three sound) r.0 (subst (λ set. In set r.0) (domain_is root s leaf says.2) r.2) in
      let t = then_writes {Q = λ n cs. Code Written leaf r.0 cs} (padding_writes align (first_three sound)) (λ n. c) at in
      (t.0, (r.0, r.1, t.1))
  slot_writes k around ks s (node align (octets sizing)) sound says env wanted told at = absurd says
  slot_writes k around ks s (node align (bits sizing)) sound says env wanted told at = absurd says
  slot_writes k around ks s (node align (text leaf)) sound says env wanted told at = absurd says
  slot_writes k around ks s (node align (seq _ home)) sound says env wanted told at = absurd says
  slot_writes k around ks s (node align (list sizing g)) sound says env wanted told at = absurd says
  slot_writes k around ks s (node align (choice cases rule)) sound says env wanted told at = absurd says
  slot_writes k around ks s (node align (contained sizing g)) sound says env wanted told at = absurd says

  null_number : (kind : NumKind) → kind ≡ Null → NumberOf kind null (pos 0)
  null_number Null e = refl
  null_number Integer e = cc
  null_number Boolean e = cc
  null_number Enumerated e = cc

  zero_only : (x : ℤ) → pos 0 ≤ℤ x → x ≤ℤ pos 0 → x ≡ pos 0
  zero_only x h k = omega (arith, ints)

  null_writes : (k : ℕ) (around : List ℕ) (ks : Known) (g : Grammar) → Sound root k around ks g → IsNull g → (env : Env) → Writes (Spell root Written g env null)
  null_writes k around ks (node align (num leaf)) sound n env =
      let x = some_number leaf (last_three sound) in
      let set = rw n at (rules_of leaf (last_three sound)).set in
      let w = range_within (pos 0) (pos 0) leaf.set x.0 (and_parts (is_range (pos 0) (pos 0) leaf.set) (no_items leaf.items) set).0 x.1 in
      let c = each_number_has_a_code Written leaf (last_three sound) (pos 0) (subst (In leaf.set) (zero_only x.0 w.0 w.1) x.1) in
      then_writes (padding_writes align (first_three sound)) (λ at. (c.0, (pos 0, null_number leaf.kind n, c.1)))
  null_writes k around ks (node align (octets sizing)) sound n env = absurd n
  null_writes k around ks (node align (bits sizing)) sound n env = absurd n
  null_writes k around ks (node align (text leaf)) sound n env = absurd n
  null_writes k around ks (node align (seq _ home)) sound n env = absurd n
  null_writes k around ks (node align (list sizing g)) sound n env = absurd n
  null_writes k around ks (node align (choice cases rule)) sound n env = absurd n
  null_writes k around ks (node align (contained sizing g)) sound n env = absurd n

  -- Nodes.

  run_writes : (g : Grammar) (paths : FieldPaths) (p : List ℕ) (env : Env) (around : List ℕ)
      → ((j : ℕ) (d : Data) → Stands (p ++ j ∷ []) (part_at g d) → fits g d ≡ true → breaches (p ++ j ∷ []) g d ≡ [] → AllByRecursion Counted (moments root g paths (p ++ j ∷ []) d) → Told root env around (λ t. asks_on root t g d) → Writes (Spell root Written g env d))
      → (k : ℕ) (es : Elements) → ((m : ℕ) (r : List ℕ) (o : Occurrence) → k ≤ m → element_part (λ d. part_at g d r) k es m ≡ Some o → part_at root whole (p ++ m ∷ r) ≡ Some o)
      → each_element (fits g) es ≡ true → run_breaches (λ j d. breaches (p ++ j ∷ []) g d) k es ≡ [] → AllByRecursion Counted (run_moments (λ j d. moments root g paths (p ++ j ∷ []) d) k es) → Told root env around (λ t. run_asks_on (asks_on root t g) es) → Writes (RunPart (Spell root Written g env) es)
  run_writes g paths p env around one k no_elements s f n c told = exactly_writes []
  run_writes g paths p env around one k (element d es) s f n c told =
      let a = and_parts (fits g d) (each_element (fits g) es) f in
      let b = nothing_left (breaches (p ++ k ∷ []) g d) (run_breaches (λ j d'. breaches (p ++ j ∷ []) g d') (suc k) es) n in
      let x = moments root g paths (p ++ k ∷ []) d in
      let y = run_moments (λ j d'. moments root g paths (p ++ j ∷ []) d') (suc k) es in
      then_writes
      (one k d (deeper p k (part_at g d) (λ r o e. s k r o (omega arith) (if_yes (nat_eq k k) (part_at g d r) (element_part (λ d'. part_at g d' r) (suc k) es k) (same_eq k) ∙ e))) a.0 b.0 (each_left Counted x y c)
      (left root env around (λ t. asks_on root t g d) (λ t. run_asks_on (asks_on root t g) es) told))
      (run_writes g paths p env around one (suc k) es (λ m r o l e. s m r o (omega arith) (if_no (nat_eq m k) (part_at g d r) (element_part (λ d'. part_at g d' r) (suc k) es m) (differs m k l) ∙ e)) a.1 b.1 (each_right Counted x y c)
      (right root env around (λ t. asks_on root t g d) (λ t. run_asks_on (asks_on root t g) es) told))

  mutual
    pub write_node : (g : Grammar) (k : ℕ) (around : List ℕ) (ks : Known) → Sound root k around ks g → NodeHomes g → Steady g → NodeUsed root around g → (p : List ℕ) → NodeLed root p g → (paths : FieldPaths) (d : Data) → Stands p (part_at g d) → fits g d ≡ true → breaches p g d ≡ []
        → AllByRecursion Counted (moments root g paths p d) → (env : Env) → Told root env around (λ t. asks_on root t g d) → Writes (Spell root Written g env d)
    write_node (node align form) k around ks sound homes w u p led paths d s f n c env told =
        then_writes (padding_writes align (first_three sound)) (write_form form align k around ks (last_three sound) homes w u p led paths d s f n c env told)

    write_form : (form : Form) (align k : ℕ) (around : List ℕ) (ks : Known) → FormSound root k around ks form → FormHomes form → SteadyForm form → FormUsed root around form → (p : List ℕ) → Led root p form → (paths : FieldPaths) (d : Data) → Stands p (part_at (node align form) d) → form_fits form d ≡ true → form_breaches p form d ≡ []
        → AllByRecursion Counted (form_moments root form paths p d) → (env : Env) → Told root env around (λ t. form_asks_on root t form d) → Writes (FormPart root Written form env d)
    write_form (num leaf) align k around ks sound homes w u p led paths d s f n c env told = λ at.
        let h = passes (has leaf.set (number_of d)) (out_of_range (number_of d)) (no_breach p (unless (has leaf.set (number_of d)) (out_of_range (number_of d))) n) in
        let code = each_number_has_a_code Written leaf sound (number_of d) h in
        (code.0, (number_of d, number_back leaf.kind (length leaf.items.items) d f, code.1))
    write_form (octets sizing) align k around ks sound homes w u p led paths (octet_string os) s f n c env told =
        let h = passes (has sizing.sizes (pos (length os))) (size_out_of_range (length os)) (no_breach p (size_breach sizing (length os)) n) in
        then_writes (size_writes sizing (first_two sound) env (length os) h (size_had root around sizing.rule u env (length os) told)) (where_writes f (exactly_writes (bits_of os)))
    write_form (bits sizing) align k around ks sound homes w u p led paths (bit_string cs) s f n c env told =
        let h = passes (has sizing.sizes (pos (length cs))) (size_out_of_range (length cs)) (no_breach p (size_breach sizing (length cs)) n) in
        then_writes (size_writes sizing (first_two sound) env (length cs) h (size_had root around sizing.rule u env (length cs) told)) (exactly_writes cs)
    write_form (text leaf) align k around ks sound homes w u p led paths (characters cs) s f n c env told =
        text_writes leaf (text_rules leaf (first_two sound)) env cs (no_breach p (text_breach leaf cs) n) (λ e. size_had root around leaf.sized.rule (first_two u) env (length cs) told)
    write_form (seq fields home) align k around ks sound homes w u p led paths (record_of ps) s f n c env told = λ at.
        let t = then_writes (exactly_writes (presence_bits fields ps)) (write_fields fields (suc k) (home ++ around) ks (last_two sound) homes.1 w u p 0 (λ m q l. led m q) (with_fields p fields home paths) ps (λ m r o l e. s (m ∷ r) o e) f n c (with_home home xs.0 env) inner) at in
        (t.0, record { numbers = xs.0; fine = record { count = xs.1; permitted = weaker (λ e. LeastAnswer (domain_of root e.0) (form_asks_on root e.0 (seq fields home) (record_of ps)) e.1) (λ e. In (domain_of root e.0) e.1) (λ e l. (l.answers).permitted) (zip home xs.0) xs.2; least = λ e. xs.2 }; spelled = t.1 })
      where
        xs : (xs : List ℤ) × (length xs ≡ length home) × AllByRecursion (λ e. LeastAnswer (domain_of root e.0) (form_asks_on root e.0 (seq fields home) (record_of ps)) e.1) (zip home xs)
        xs = choose (λ r x. LeastAnswer (domain_of root r) (form_asks_on root r (seq fields home) (record_of ps)) x) home (λ r h. least_answer (domain_of root r) (form_asks_on root r (seq fields home) (record_of ps))
            (meetable p align fields home (record_of ps) around ks (first_two sound) homes led (ap (part_at root whole) (sym (append-nil p)) ∙ s [] (occurrence (node align (seq fields home)) (record_of ps)) refl) r h))

        inner : Told root (with_home home xs.0 env) (home ++ around) (λ t. fields_asks_on root t fields ps)
        inner r h = truth {F = (x : ℤ) × (at_slot (with_home home xs.0 env) r ≡ Some x) × In (domain_of root r) x × AllByRecursion (MeetsAsk x) (fields_asks_on root r fields ps)} (holds home r)
            (λ e. let y = at_home (λ n x. LeastAnswer (domain_of root n) (form_asks_on root n (seq fields home) (record_of ps)) x) home xs.0 env r xs.1 xs.2 e in (y.0, y.1, ((y.2).answers).permitted, ((y.2).answers).meets))
            (λ e. let y = told r (holds_either {F = holds around r ≡ true} home around r h (λ q. cc) (λ q. q)) in (y.0, not_at_home home xs.0 env r e ∙ y.1, y.2, y.3))
    write_form (list sizing g) align k around ks sound homes w u p led paths (list_of es) s f n c env told =
        let b = nothing_left (at_path p (size_breach sizing (element_count es))) (run_breaches (λ j d. breaches (p ++ j ∷ []) g d) 0 es) n in
        let h = passes (has sizing.sizes (pos (element_count es))) (size_out_of_range (element_count es)) (no_breach p (size_breach sizing (element_count es)) b.0) in
        list_writes (ending sizing.rule) sizing refl (first_five sound) env (Spell root Written g env) es h
        (size_had root around sizing.rule (first_two u) env (element_count es) (left root env around (λ t. size_asks_on t (element_count es) sizing.rule) (λ t. run_asks_on (asks_on root t g) es) told))
        (run_writes g paths p env around
        (λ j d s' f' n' c' told'. write_node g (suc k) around ks (last_five sound) homes w (last_two u) (p ++ j ∷ []) (led_on root p j g (λ m q. led j (m ∷ q))) paths d s' f' n' c' env told') 0 es (λ m r o l e. s (m ∷ r) o e) f b.1
        (each_right Counted (size_asks paths p (element_count es) sizing.rule) (run_moments (λ j d. moments root g paths (p ++ j ∷ []) d) 0 es) c)
        (right root env around (λ t. size_asks_on t (element_count es) sizing.rule) (λ t. run_asks_on (asks_on root t g) es) told))
    write_form (choice cases rule) align k around ks sound homes w u p led paths (alt i d) s f n c env told =
        then_writes (index_writes root cases rule i (first_four sound) (case_there root cases i d f))
        (write_case cases rule (each_has_item root ks cases rule (third_four sound)) (suc k) around ks (last_four sound) homes w (first_two u) (last_two u) p i i (λ m q. led i (m ∷ q)) paths d (deeper p i (alternative_part cases i d) (λ r o e. s (i ∷ r) o (if_yes (nat_eq i i) (alternative_part cases i d r) None (same_eq i) ∙ e))) f n c env told)
    write_form (contained sizing g) align k around ks sound homes w u p led paths d s f n c env told = λ at.
        let m = octets_for (bit_length g 0 d) in
        let x = moments root g paths (p ++ 0 ∷ []) d in
        let y = counts p m sizing ∷ size_asks paths p m sizing.rule in
        let t = then_writes {Q = Window (Spell root Written g env d) (Fill Written) (octets_for (bit_length g 0 d))} (size_writes sizing (first_four sound) env (octets_for (bit_length g 0 d)) (each_right Counted x y c).0 (size_had root around sizing.rule (first_two u) env (octets_for (bit_length g 0 d)) (right root env around (λ t. asks_on root t g d) (λ t. size_asks_on t (octets_for (bit_length g 0 d)) sizing.rule) told)))
        (window_writes root g w env d (write_node g (suc k) around ks (last_four sound) homes w (last_two u) (p ++ 0 ∷ []) (led_on root p 0 g (λ m' q. led 0 (m' ∷ q))) paths d (deeper p 0 (part_at g d) (λ r o e. s (0 ∷ r) o e)) f n (each_left Counted x y c) env
        (left root env around (λ t. asks_on root t g d) (λ t. size_asks_on t (octets_for (bit_length g 0 d)) sizing.rule) told))) at in
        (t.0, record { some = octets_for (bit_length g 0 d); spelled = t.1 })
    write_form (octets sizing) align k around ks sound homes w u p led paths _ s f n c env told = cc
    write_form (bits sizing) align k around ks sound homes w u p led paths _ s f n c env told = cc
    write_form (text leaf) align k around ks sound homes w u p led paths _ s f n c env told = cc
    write_form (seq fields home) align k around ks sound homes w u p led paths _ s f n c env told = cc
    write_form (list sizing g) align k around ks sound homes w u p led paths _ s f n c env told = cc
    write_form (choice cases rule) align k around ks sound homes w u p led paths _ s f n c env told = cc

    write_fields : (fs : Fields) (k : ℕ) (around : List ℕ) (ks : Known) → FieldsSound root k around ks fs → FieldsHomes fs → SteadyFields fs → FieldsUsed root around fs → (p : List ℕ) (i : ℕ) → FieldsLed root p fs i → (paths : FieldPaths) (ps : Places)
        → ((m : ℕ) (r : List ℕ) (o : Occurrence) → i ≤ m → field_part fs i ps m r ≡ Some o → part_at root whole (p ++ m ∷ r) ≡ Some o) → fields_fit fs ps ≡ true → field_breaches p i fs ps ≡ [] → AllByRecursion Counted (fields_moments root fs paths p i ps) → (env : Env) → Told root env around (λ t. fields_asks_on root t fs ps) → Writes (FieldsPart root Written fs env ps)
    write_fields no_fields k around ks sound homes w u p i led paths no_places s f n c env told = exactly_writes []
    write_fields (component name g presence default o fs) k around ks sound homes w u p i led paths (filled d ps) s f n c env told =
        let here = p ++ i ∷ [] in
        let x = and_parts (fits g d) (fields_fit fs ps) f in
        let y = nothing_left (breaches here g d) (field_breaches p (suc i) fs ps) n in
        let one = own_asks paths here o d in
        let two = presence_asks paths here true presence in
        let three = moments root g paths here d in
        let four = fields_moments root fs paths p (suc i) ps in
        let a = left root env around (λ t. own_asks_on t o d ++ presence_asks_on t true presence ++ asks_on root t g d) (λ t. fields_asks_on root t fs ps) told in
        let b = left root env around (λ t. own_asks_on t o d ++ presence_asks_on t true presence) (λ t. asks_on root t g d) a in
        then_writes
        (where_writes (there root around presence (second_four u) env (right root env around (λ t. own_asks_on t o d) (λ t. presence_asks_on t true presence) b), carried root around o (first_four u) env d (left root env around (λ t. own_asks_on t o d) (λ t. presence_asks_on t true presence) b))
        (write_node g k around ks (fourth_five sound) homes.0 w.0 (third_four u) here (led_component root p i name g presence default o fs led) paths d
        (deeper p i (part_at g d) (λ r q e. s i r q (omega arith) (if_yes (nat_eq i i) (part_at g d r) (field_part fs (suc i) ps i r) (same_eq i) ∙ e))) x.0 y.0 (each_right Counted (one ++ two) three (each_left Counted (one ++ two ++ three) four c)) env
        (right root env around (λ t. own_asks_on t o d ++ presence_asks_on t true presence) (λ t. asks_on root t g d) a)))
        (write_fields fs k around (choose_known presence ks (with_own o (after ks g))) (last_five sound) homes.1 w.1 (last_four u) p (suc i) (led_behind root p i name g presence default o fs led) paths ps
        (λ m r q l e. s m r q (omega arith) (if_no (nat_eq m i) (part_at g d r) (field_part fs (suc i) ps m r) (differs m i l) ∙ e)) x.1 y.1 (each_right Counted (one ++ two ++ three) four c) env
        (right root env around (λ t. own_asks_on t o d ++ presence_asks_on t true presence ++ asks_on root t g d) (λ t. fields_asks_on root t fs ps) told))
    write_fields (component name g presence default o fs) k around ks sound homes w u p i led paths (empty ps) s f n c env told =
        let x = and_parts (may_be_absent presence) (fields_fit fs ps) f in
        where_writes (away root around presence (second_four u) x.0 env (left root env around (λ t. presence_asks_on t false presence) (λ t. fields_asks_on root t fs ps) told))
        (write_fields fs k around (choose_known presence ks (with_own o (after ks g))) (last_five sound) homes.1 w.1 (last_four u) p (suc i) (led_behind root p i name g presence default o fs led) paths ps
        (λ m r q l e. s m r q (omega arith) (if_no (nat_eq m i) None (field_part fs (suc i) ps m r) (differs m i l) ∙ e)) x.1 n (each_right Counted (presence_asks paths (p ++ i ∷ []) false presence) (fields_moments root fs paths p (suc i) ps) c) env
        (right root env around (λ t. presence_asks_on t false presence) (λ t. fields_asks_on root t fs ps) told))
    write_fields (inserted name g (Some r) fs) k around ks sound homes w u p i led paths ps s f n c env told =
        then_writes (slot_writes k around ks r g (third_four sound) (first_four sound) env (λ t. fields_asks_on root t fs ps) told)
        (write_fields fs k around (with_slot r ks) (last_four sound) homes w.1 u p (suc i) (led_inserted root p i name g (Some r) fs led) paths ps
        (λ m q o l e. s m q o (omega arith) (if_no (nat_eq m i) None (field_part fs (suc i) ps m q) (differs m i l) ∙ e)) f n c env told)
    write_fields (inserted name g None fs) k around ks sound homes w u p i led paths ps s f n c env told =
        then_writes (null_writes k around ks g (second_three sound) (first_three sound) env)
        (write_fields fs k around ks (last_three sound) homes w.1 u p (suc i) (led_inserted root p i name g None fs led) paths ps
        (λ m q o l e. s m q o (omega arith) (if_no (nat_eq m i) None (field_part fs (suc i) ps m q) (differs m i l) ∙ e)) f n c env told)
    write_fields no_fields k around ks sound homes w u p i led paths _ s f n c env told = cc
    write_fields (component name g presence default o fs) k around ks sound homes w u p i led paths no_places s f n c env told = cc

    write_case : (cases : Alternatives) (rule : ChoiceRule) → EachHasItem root rule cases → (k : ℕ) (around : List ℕ) (ks : Known) → AlternativesSound root k around ks cases → CasesHomes cases → SteadyAlternatives cases → ChoiceFits root around rule → CasesUsed root around rule cases → (p : List ℕ) (i j : ℕ)
        → ((m : ℕ) (q : List ℕ) → slot_at root None (p ++ i ∷ m ∷ q) ≡ case_slot_at cases j (m ∷ q)) → (paths : FieldPaths) (d : Data) → Stands (p ++ i ∷ []) (alternative_part cases j d) → alternative_fits cases j d ≡ true → alternative_breaches p i cases j d ≡ []
        → AllByRecursion Counted (alternative_moments root cases rule paths p i j d) → (env : Env) → Told root env around (λ t. alternative_asks_on root t cases rule j d) → Writes (AlternativePart root Written cases rule env j d)
    write_case no_alternatives rule items k around ks sound homes w cf u p i j led paths d s f n c env told = cc
    write_case (alternative name g tests more) rule items k around ks sound homes w cf u p i zero led paths d s f n c env told =
        where_writes (chosen root around rule cf name (first_item root rule name g tests more items) tests (first_three u) env (left root env around (λ t. rule_asks_on root t rule name tests) (λ t. asks_on root t g d) told))
        (write_node g k around ks (second_three sound) homes.0 w.0 (second_three u) (p ++ i ∷ []) (led_on root p i g led) paths d s f n (each_right Counted (rule_asks root paths p i rule name tests) (moments root g paths (p ++ i ∷ []) d) c) env
        (right root env around (λ t. rule_asks_on root t rule name tests) (λ t. asks_on root t g d) told))
    write_case (alternative name g tests more) rule items k around ks sound homes w cf u p i (suc j) led paths d s f n c env told =
        write_case more rule (later_item root rule name g tests more items) k around ks (last_three sound) homes.1 w.1 cf (last_three u) p i j led paths d s f n c env told
