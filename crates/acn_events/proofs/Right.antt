-- The events of a value of a sound node come in good order.
use Rattle.std.proofs.Common.{◌≡◌, ℕ, zero, suc, ◌+◌, ◌-◌, ◌*◌, ◌^◌, ◌<◌, ◌≤◌, pos, Bool, true, false, not, ◌&&◌, ◌||◌, List, [], ◌∷◌, ◌++◌, length, Some, None, nat_eq, IsTrue, refl, sym, ap, ◌∙◌, subst, arith, map, inl, inr}
use Rattle.std.specs.Prelude.{◌⊎◌, option_map, unwrap_or, nat_lt}
use Rattle.std.proofs.lemmas.Bool.{and_parts, not-true, eqb-true, or_parts}
use Rattle.std.specs.List.{AllByRecursion, list_any}
use Rattle.std.proofs.lemmas.Bool.Decides.{nat_tests}
use Rattle.acn_bits.specs.declared.word.TheConstants.{WORD_BITS}
use Rattle.acn_grammar.proofs.SpellLength.{bits-length}
use Rattle.acn_num.specs.Bits.{bits as bits_of, octets as octets_for, is_least_width}
use Rattle.acn_num.specs.Ranges.{has}
use Rattle.acn_grammar.specs.Asks.{Ask, Equal, Avoid, same_name, field_path}
use Rattle.acn_grammar.specs.Fails.{count_of}
use Rattle.acn_grammar.specs.Grammar.{Grammar, Form, Fields, Alternatives, Data, Places, Elements, node, num, octets, bits, text, seq, list, choice, contained, no_fields, component, inserted, no_alternatives, alternative, octet_string, bit_string, characters, record_of, list_of, alt, no_places, empty, filled, no_elements, element, element_count}
use Rattle.acn_grammar.specs.Leaves.{all_differ, sizing_fine}
use Rattle.acn_grammar.specs.Length.{bit_length, form_length, fields_length, alternative_length, run_length, list_length, padding, presence_bits, rule_width, ending, number_of, num_length, least, text_length}
use Rattle.acn_grammar.specs.Scoped.{Known, with_slot, with_own, choose_known, after, form_after, fields_after, TestIn, TestsIn, RuleIn, tests_at}
use Rattle.acn_grammar.specs.Shaped.{fits, form_fits, fields_fit, alternative_fits, each_element, may_be_absent}
use Rattle.acn_grammar.specs.Slots.{domain_of, slot_leaf}
use Rattle.acn_grammar.specs.Sound.{NothingLeavesIt, PresenceSound, RuleSound, Sound, FormSound, FieldsSound, AlternativesSound}
use Rattle.acn_grammar.specs.Tree.{holds, choice_fine, choice_rule_fine, has_tests}
use Rattle.acn_grammar.specs.Walk.{conditions_of}
use Rattle.acn_grammar.specs.declared.node.ChoiceRule.{ChoiceRule}
use Rattle.acn_grammar.specs.declared.node.ChoiceRule.TheVariants.{Index, Tests, Item}
use Rattle.acn_grammar.specs.declared.node.NumLeaf.{NumLeaf}
use Rattle.acn_grammar.specs.declared.node.Presence.{Presence}
use Rattle.acn_grammar.specs.declared.node.Presence.TheVariants.{Always, Bit, When}
use Rattle.acn_grammar.specs.declared.node.SizeRule.{SizeRule}
use Rattle.acn_grammar.specs.declared.node.SizeRule.TheVariants.{Prefix, Slot, Ended}
use Rattle.acn_grammar.specs.declared.node.Sizing.{Sizing}
use Rattle.acn_grammar.specs.declared.node.Test.{Test}
use Rattle.acn_grammar.specs.declared.node.Test.TheVariants.{Flag, Equals}
use Rattle.acn_grammar.specs.declared.limits.TheConstants.{MOST_NODES}
use Rattle.acn_num.specs.declared.limits.TheConstants.{MOST_STEPS}
use Rattle.acn_events.specs.Event.{Event, aligns, copies, begins, puts, sizes, codes, texts, opens, notes, wants, fills, enters, closes}
use Rattle.acn_events.specs.Events.{test_event, presence_events, size_wants, end_events, run_events, rule_events, events, form_events, field_events, case_events}
use Rattle.acn_packet_laws.specs.Laws.{AcceptedIsSound, KnownBehind}
use Rattle.acn_events.specs.Laws.{EventsAreInOrder}
use Rattle.acn_events.specs.Marks.{Mark, first_mark, marked, ends, start_of, rest_of, Right, AllRight, ClosesRight, CanBeEntered, CanBeClosed}
use Rattle.acn_events.specs.Steps.{SizeFits}
use Rattle.acn_events.proofs.Small.{truth, align_some, both_first, both_second, none_behind, sum_assoc, filled_octets, size_fits, entered_fits, list_fits, null_width, narrow, eq_here}

-- Marks along events.

pub ends_then : (a b : List Event) (p : Mark) → ends (a ++ b) p ≡ ends b (ends a p)
ends_then [] b p = refl
ends_then (e ∷ a) b p = ends_then a b (marked e p)

pub right_then : (root : Grammar) (a b : List Event) (p : Mark) → AllRight root a p → AllRight root b (ends a p) → AllRight root (a ++ b) p
right_then root [] b p f g = g
right_then root (e ∷ a) b p f g = (f.0, right_then root a b (marked e p) f.1 g)

abbrev pub SameKnown : Known → Known → Type 0
SameKnown ks ks' = (s : ℕ) → ks s ≡ ks' s

-- the events come in good order, and lead to this position, in the same contents, with these slots
pub record Goes (root : Grammar) (es : List Event) (p : Mark) (at : ℕ) (ks : Known) : Type 0 where
  pub right : AllRight root es p
  pub at_is : (ends es p).at ≡ at
  pub outer : (ends es p).outer ≡ p.outer
  pub known : SameKnown (ends es p).known ks

pub domain_is : (root : Grammar) (s : ℕ) (leaf : NumLeaf) → slot_leaf root s ≡ Some leaf → domain_of root s ≡ leaf.set
domain_is root s leaf e = ap (λ o. unwrap_or (option_map (λ (l : NumLeaf). l.set) o) []) e

-- the bits of the pattern behind the elements
abbrev end_length : SizeRule → ℕ
end_length (Ended p) = length p
end_length (Slot s) = 0
end_length (Prefix low width) = 0

list_ends : (rule : SizeRule) (each : ℕ → Data → ℕ) (at : ℕ) (es : Elements) → at + rule_width rule + run_length each (at + rule_width rule) es + end_length rule ≡ at + list_length (ending rule) rule each at es
list_ends (Prefix low width) each at es = omega arith
list_ends (Slot s) each at es = omega arith
list_ends (Ended p) each at es = ap (λ z. z + run_length each z es + length p) (none_behind at) ∙ sum_assoc at (run_length each at es) (length p)

module _ (root : Grammar) where
  goes_none : (p : Mark) (at : ℕ) (ks : Known) → p.at ≡ at → SameKnown p.known ks → Goes root [] p at ks
  goes_none p at ks e h = record { right = tt; at_is = e; outer = refl; known = h }

  goes_on : (e : Event) (es : List Event) (p : Mark) (at : ℕ) (ks : Known) → Right root e p → (marked e p).outer ≡ p.outer → Goes root es (marked e p) at ks → Goes root (e ∷ es) p at ks
  goes_on e es p at ks r o g = record { right = (r, g.right); at_is = g.at_is; outer = g.outer ∙ o; known = g.known }

  goes_then : (a b : List Event) (p : Mark) (at at' : ℕ) (ks ks' : Known) → Goes root a p at ks → Goes root b (ends a p) at' ks' → Goes root (a ++ b) p at' ks'
  goes_then a b p at at' ks ks' f g =
      let e = ends_then a b p in
      record {
        right = right_then root a b p f.right g.right;
        at_is = ap (λ (z : Mark). z.at) e ∙ g.at_is;
        outer = ap (λ (z : Mark). z.outer) e ∙ (g.outer ∙ f.outer);
        known = λ s. ap (λ (z : Mark). z.known s) e ∙ g.known s;
      }

  goes_to : (es : List Event) (p : Mark) (at at' : ℕ) (ks : Known) → at ≡ at' → Goes root es p at ks → Goes root es p at' ks
  goes_to es p at at' ks e g = record { right = g.right; at_is = g.at_is ∙ e; outer = g.outer; known = g.known }

  goes_known : (es : List Event) (p : Mark) (at : ℕ) (ks ks' : Known) → SameKnown ks ks' → Goes root es p at ks → Goes root es p at ks'
  goes_known es p at ks ks' e g = record { right = g.right; at_is = g.at_is; outer = g.outer; known = λ s. g.known s ∙ e s }

  -- What comes behind events that only ask.
  abbrev Onward : List Event → Mark → ℕ → Known → Type 0
  Onward es p at ks = (q : Mark) → q.at ≡ p.at → q.outer ≡ p.outer → SameKnown q.known p.known → Goes root es q at ks

  here : (es : List Event) (p : Mark) (at : ℕ) (ks : Known) → Onward es p at ks → Goes root es p at ks
  here es p at ks f = f p refl refl (λ s. refl)

  wants_then : (path : List ℕ) (s : ℕ) (a : Ask) (es : List Event) (p : Mark) (at : ℕ) (ks : Known) → p.known s ≡ true → Onward es p at ks → Goes root (wants path s a ∷ es) p at ks
  wants_then path s a es p at ks h f = goes_on (wants path s a) es p at ks h refl (f (marked (wants path s a) p) (none_behind p.at) refl (λ t. refl))

  size_then : (path : List ℕ) (n : ℕ) (rule : SizeRule) (es : List Event) (p : Mark) (at : ℕ) (ks ks' : Known) → SameKnown p.known ks → RuleIn ks rule → Onward es p at ks' → Goes root (size_wants path n rule ++ es) p at ks'
  size_then path n (Slot s) es p at ks ks' same h f = wants_then path s (Equal (pos n)) es p at ks' (same s ∙ h) f
  size_then path n (Prefix low width) es p at ks ks' same h f = here es p at ks' f
  size_then path n (Ended q) es p at ks ks' same h f = here es p at ks' f

  test_then : (path : List ℕ) (there : Bool) (t : Test) (es : List Event) (p : Mark) (at : ℕ) (ks : Known) → TestIn p.known t → Onward es p at ks → Goes root (test_event path there t ∷ es) p at ks
  test_then path true (Flag s) es p at ks h f = wants_then path s (Equal (pos 1)) es p at ks h f
  test_then path false (Flag s) es p at ks h f = wants_then path s (Equal (pos 0)) es p at ks h f
  test_then path true (Equals s n) es p at ks h f = wants_then path s (Equal n) es p at ks h f
  test_then path false (Equals s n) es p at ks h f = wants_then path s (Avoid n) es p at ks h f

  same_test : (ks ks' : Known) → SameKnown ks' ks → (t : Test) → TestIn ks t → TestIn ks' t
  same_test ks ks' same (Flag s) h = same s ∙ h
  same_test ks ks' same (Equals s n) h = same s ∙ h

  tests_then : (path : List ℕ) (there : Bool) (ts : List Test) (es : List Event) (p : Mark) (at : ℕ) (ks ks' : Known) → SameKnown p.known ks → TestsIn ks ts → Onward es p at ks' → Goes root (map (test_event path there) ts ++ es) p at ks'
  tests_then path there [] es p at ks ks' same h f = here es p at ks' f
  tests_then path there (t ∷ ts) es p at ks ks' same h f =
      test_then path there t (map (test_event path there) ts ++ es) p at ks' (same_test ks p.known same t h.0)
      (λ q a o k. tests_then path there ts es q at ks ks' (λ s. k s ∙ same s) h.1 (λ r b u m. f r (b ∙ a) (u ∙ o) (λ s. m s ∙ k s)))

  presence_then : (path : List ℕ) (there : Bool) (presence : Presence) (es : List Event) (p : Mark) (at : ℕ) (ks ks' : Known) → SameKnown p.known ks → PresenceSound ks presence → Onward es p at ks' → Goes root (presence_events path there presence ++ es) p at ks'
  presence_then path there Always es p at ks ks' same h f = here es p at ks' f
  presence_then path there Bit es p at ks ks' same h f = here es p at ks' f
  presence_then path there (When ts) es p at ks ks' same h f = tests_then path there ts es p at ks ks' same h.1 f

  -- what says that an alternative is chosen is known
  abbrev pub CaseKnown : Known → ChoiceRule → List Test → Type 0
  CaseKnown ks (Index width) ts = ts ≡ []
  CaseKnown ks Tests ts = TestsIn ks ts
  CaseKnown ks (Item s) ts = ks s ≡ true

  rule_then : (path : List ℕ) (i : ℕ) (rule : ChoiceRule) (name : List ℕ) (ts : List Test) (es : List Event) (p : Mark) (at : ℕ) (ks ks' : Known) → SameKnown p.known ks → CaseKnown ks rule ts → Onward es p at ks' → Goes root (rule_events root path i rule name ts ++ es) p at ks'
  rule_then path i (Index width) name ts es p at ks ks' same h f = tests_then (path ++ i ∷ []) true ts es p at ks ks' same (subst (λ (z : List Test). TestsIn ks z) (sym h) tt) f
  rule_then path i Tests name ts es p at ks ks' same h f = tests_then (path ++ i ∷ []) true ts es p at ks ks' same h f
  rule_then path i (Item s) name ts es p at ks ks' same h f = wants_then path s _ es p at ks' (same s ∙ h) f

  -- Slots at home that are ended.

  after_fill : (ks : Known) (s : ℕ) (home : List ℕ) (t : ℕ) → ((ks t && not (nat_eq s t)) && not (holds home t)) ≡ (ks t && not (nat_eq s t || holds home t))
  after_fill ks s home t = by (ks t) (nat_eq s t) (holds home t)
    where
      by : (a b c : Bool) → ((a && not b) && not c) ≡ (a && not (b || c))
      by true true c = refl
      by true false c = refl
      by false b c = refl

  fills_go : (home : List ℕ) (p : Mark) → all_differ nat_eq home ≡ true → ((s : ℕ) → holds home s ≡ true → p.known s ≡ true) → Goes root (map fills home) p p.at (λ s. p.known s && not (holds home s))
  fills_go [] p d h = goes_none p p.at (λ s. p.known s && not false) refl (λ s. and_true (p.known s))
    where
      and_true : (b : Bool) → b ≡ (b && not false)
      and_true true = refl
      and_true false = refl
  fills_go (s ∷ home) p d h =
      let f = and_parts (not (list_any (nat_eq s) home)) (all_differ nat_eq home) d in
      let q = marked (fills s) p in
      let g = fills_go home q f.1 (λ t e. still t e (h t (or_second (nat_eq s t) (holds home t) e)) (apart home t (not-true (list_any (nat_eq s) home) f.0) e)) in
      goes_on (fills s) (map fills home) p p.at (λ t. p.known t && not (nat_eq s t || holds home t)) (h s (first s home)) refl
      (goes_known (map fills home) q p.at (λ t. q.known t && not (holds home t)) (λ t. p.known t && not (nat_eq s t || holds home t)) (λ t. after_fill p.known s home t) (goes_to (map fills home) q q.at p.at (λ t. q.known t && not (holds home t)) (none_behind p.at) g))
    where
      or_second : (a b : Bool) → b ≡ true → (a || b) ≡ true
      or_second true b e = refl
      or_second false b e = e

      first : (s : ℕ) (home : List ℕ) → (nat_eq s s || holds home s) ≡ true
      first s home = let e = eq_here s in cc

      still : (t : ℕ) → holds home t ≡ true → p.known t ≡ true → nat_eq s t ≡ false → (p.known t && not (nat_eq s t)) ≡ true
      still t e k n = cc

      apart : (home : List ℕ) (t : ℕ) → list_any (nat_eq s) home ≡ false → holds home t ≡ true → nat_eq s t ≡ false
      apart [] t a e = cc
      apart (u ∷ home) t a e =
          let n = or_parts (nat_eq s u) (list_any (nat_eq s) home) a in
          truth {F = nat_eq s t ≡ false} (nat_eq u t)
          (λ y. subst (λ (z : ℕ). nat_eq s z ≡ false) (eqb-true u t y) n.0)
          (λ y. apart home t n.1 (rest (nat_eq u t) (holds home t) y e))
        where
          rest : (a b : Bool) → a ≡ false → (a || b) ≡ true → b ≡ true
          rest true b x y = cc
          rest false b x y = y

  apart_false : (a b : Bool) → (a ≡ true → b ≡ false) → b ≡ true → a ≡ false
  apart_false true b f h = (let n = f refl in cc)
  apart_false false b f h = refl

  unknown : (path : List ℕ) (fields : Fields) (home : List ℕ) (ks : Known) → ((s : ℕ) → holds home s ≡ true → ks s ≡ false) → AllByRecursion (λ (h : ℕ × List ℕ). ks h.0 ≡ false) (map (λ s. (s, field_path path fields s)) home)
  unknown path _ [] ks h = tt
  unknown path fields (s ∷ home) ks h = (h s (first s (holds home s)), unknown path fields home ks (λ t e. h t (behind (nat_eq s t) (holds home t) e)))
    where
      behind : (a b : Bool) → b ≡ true → (a || b) ≡ true
      behind true b e = refl
      behind false b e = e

      first : (s : ℕ) (b : Bool) → (nat_eq s s || b) ≡ true
      first s b = let e = eq_here s in cc

  -- Lists.

  run_go : (each : ℕ → Data → List Event) (long : ℕ → Data → ℕ) (fine : Data → Bool) (ks : Known) (deep : ℕ)
      → ((k : ℕ) (d : Data) (p : Mark) → fine d ≡ true → SameKnown p.known ks → length p.outer ≤ deep → Goes root (each k d) p (p.at + long p.at d) ks)
      → (k : ℕ) (es : Elements) (p : Mark) → each_element fine es ≡ true → SameKnown p.known ks → length p.outer ≤ deep → Goes root (run_events each k es) p (p.at + run_length long p.at es) ks
  run_go each long fine ks deep h k no_elements p f same l = goes_none p (p.at + 0) ks (sym (none_behind p.at)) same
  run_go each long fine ks deep h k (element d es) p f same l =
      let g = h k d p (both_first (fine d) (each_element fine es) f) same l in
      let q = ends (each k d) p in
      let r = run_go each long fine ks deep h (suc k) es q (both_second (fine d) (each_element fine es) f) g.known (subst (λ (z : List (ℕ × SizeRule)). length z ≤ deep) (sym g.outer) l) in
      goes_then (each k d) (run_events each (suc k) es) p (p.at + long p.at d) (p.at + (long p.at d + run_length long (p.at + long p.at d) es)) ks ks g
      (goes_to (run_events each (suc k) es) q (q.at + run_length long q.at es) (p.at + (long p.at d + run_length long (p.at + long p.at d) es)) ks (ap (λ z. z + run_length long z es) g.at_is ∙ sum_assoc p.at (long p.at d) (run_length long (p.at + long p.at d) es)) r)

  -- the pattern behind the elements
  end_goes : (rule : SizeRule) (p : Mark) (ks : Known) → SameKnown p.known ks → (end : ℕ) → (end_length rule ≡ end) → Goes root (end_events rule) p (p.at + end) ks
  end_goes (Ended e) p ks same end h = goes_on (copies e) [] p (p.at + end) ks tt refl (goes_none (marked (copies e) p) (p.at + end) ks (ap (λ z. p.at + z) h) same)
  end_goes (Slot s) p ks same end h = goes_none p (p.at + end) ks (sym (none_behind p.at) ∙ ap (λ z. p.at + z) h) same
  end_goes (Prefix low width) p ks same end h = goes_none p (p.at + end) ks (sym (none_behind p.at) ∙ ap (λ z. p.at + z) h) same

  zero_front : (n : ℕ) → 0 + n ≡ n
  zero_front n = omega arith

  no_index : (cases : Alternatives) (i : ℕ) (d : Data) (at : ℕ) → at + alternative_length cases i at d ≡ at + (0 + alternative_length cases i (at + 0) d)
  no_index cases i d at = let e = ap (λ z. alternative_length cases i z d) (none_behind at) in omega (arith, e)

  -- a size, and bits behind it
  string_goes : (sizing : Sizing) (path : List ℕ) (n : ℕ) (bs : List Bool) (long : ℕ) (p : Mark) (ks : Known) → length bs ≡ long → IsTrue (sizing_fine sizing) → RuleIn ks sizing.rule → SameKnown p.known ks
      → Goes root (sizes sizing n ∷ (size_wants path n sizing.rule ++ copies bs ∷ [])) p (p.at + (rule_width sizing.rule + long)) ks
  string_goes sizing path n bs long p ks e fine rule same =
      let q = marked (sizes sizing n) p in
      let at = p.at + (rule_width sizing.rule + long) in
      goes_on (sizes sizing n) (size_wants path n sizing.rule ++ copies bs ∷ []) p at ks (λ h. size_fits sizing n fine h) refl
      (size_then path n sizing.rule (copies bs ∷ []) q at ks ks same rule
      (λ r a o m. goes_on (copies bs) [] r at ks tt refl (goes_none (marked (copies bs) r) at ks (ap (λ z. z + length bs) a ∙ (ap (λ z. p.at + rule_width sizing.rule + z) e ∙ sum_assoc p.at (rule_width sizing.rule) long)) (λ t. m t ∙ same t))))

  -- Alternatives.

  none_in : (ts : List Test) → nat_lt 0 (length ts) ≡ false → ts ≡ []
  none_in [] e = refl
  none_in (t ∷ ts) e = absurd (some (length ts) e)
    where
      some : (n : ℕ) → nat_lt 0 (suc n) ≡ false → ⊥
      some n e = grind (arith, nat_tests)

  no_tests : (cases : Alternatives) (i : ℕ) → list_any has_tests (conditions_of cases) ≡ false → tests_at cases i ≡ []
  no_tests no_alternatives i e = refl
  no_tests (alternative name g ts more) zero e = none_in ts (or_parts (has_tests (name, ts)) (list_any has_tests (conditions_of more)) e).0
  no_tests (alternative name g ts more) (suc i) e = no_tests more i (or_parts (has_tests (name, ts)) (list_any has_tests (conditions_of more)) e).1

  index_fine : (cs : List (List ℕ × List Test)) (n : ℕ) → choice_fine cs (Index n) ≡ true → (is_least_width (length cs - 1) n ≡ true) × (list_any has_tests cs ≡ false)
  index_fine cs n h =
      let named = all_differ same_name (map (λ c. c.0) cs) in
      let rule = choice_rule_fine cs (Index n) in
      let f = and_parts (is_least_width (length cs - 1) n) (not (list_any has_tests cs)) (both_second named rule (both_second (nat_lt 0 (length cs)) (named && rule) h)) in
      (f.0, not-true (list_any has_tests cs) f.1)

  pub case_known : (cases : Alternatives) (rule : ChoiceRule) (ks : Known) → choice_fine (conditions_of cases) rule ≡ true → RuleSound root ks cases rule → (i : ℕ) → CaseKnown ks rule (tests_at cases i)
  case_known cases (Index n) ks fine h i = no_tests cases i (index_fine (conditions_of cases) n fine).1
  case_known cases Tests ks fine h i = h.0 i
  case_known cases (Item s) ks fine h i = h.0

  case_within : (cases : Alternatives) (i : ℕ) (d : Data) → alternative_fits cases i d ≡ true → i < count_of cases
  case_within no_alternatives i d f = cc
  case_within (alternative name g ts more) zero d f = omega arith
  case_within (alternative name g ts more) (suc i) d f = let l = case_within more i d f in omega (arith, l)

  case_count : (cases : Alternatives) → length (conditions_of cases) ≡ count_of cases
  case_count no_alternatives = refl
  case_count (alternative name g ts more) = ap suc (case_count more)

  index_right : (cases : Alternatives) (n i : ℕ) (d : Data) → choice_fine (conditions_of cases) (Index n) ≡ true → count_of cases ≤ MOST_NODES → alternative_fits cases i d ≡ true → (n ≤ WORD_BITS) × (i < 2 ^ n)
  index_right cases n i d fine few f =
      let w = case_within cases i d f in
      let c = case_count cases in
      let t = narrow n (length (conditions_of cases) - 1) (index_fine (conditions_of cases) n fine).0 (omega (arith, few, c, w)) in
      let low = t.0 in
      (t.1, omega (arith, w, c, low))

  -- Fields.

  choose_same : (presence : Presence) (ks : Known) (g : Grammar) → NothingLeavesIt presence ks g → SameKnown (after ks g) (choose_known presence ks (after ks g))
  choose_same Always ks g h s = refl
  choose_same Bit ks g h s = h s
  choose_same (When ts) ks g h s = h s

  -- where a component is absent
  away_same : (presence : Presence) (ks : Known) (there : Known) → may_be_absent presence ≡ true → SameKnown ks (choose_known presence ks there)
  away_same Always ks there h s = cc
  away_same Bit ks there h s = refl
  away_same (When ts) ks there h s = refl

  deep : (g : Grammar) (k : ℕ) (around : List ℕ) (ks : Known) → Sound root k around ks g → k ≤ MOST_STEPS
  deep (node align form) k around ks s = s.1

  still_short : (p q : Mark) (k : ℕ) → q.outer ≡ p.outer → length p.outer ≤ k → length q.outer ≤ k
  still_short p q k e l = subst (λ (z : List (ℕ × SizeRule)). length z ≤ k) (sym e) l

  close_right : (sizing : Sizing) (n : ℕ) (ks ks' : Known) → IsTrue (sizing_fine sizing) → RuleIn ks sizing.rule → SameKnown ks' ks → CanBeClosed sizing.rule ks' n (has sizing.sizes (pos n))
  close_right sizing n ks ks' f h same = by sizing.rule (entered_fits sizing f) (size_fits sizing n f) h
    where
      by : (rule : SizeRule) → CanBeEntered rule → (has sizing.sizes (pos n) ≡ true → SizeFits rule n) → RuleIn ks rule → CanBeClosed rule ks' n (has sizing.sizes (pos n))
      by (Prefix low width) e t r = t
      by (Slot s) e t r = same s ∙ r
      by (Ended p) e t r = e

  -- contents that are entered, run and closed
  contents_go : (sizing : Sizing) (path : List ℕ) (x : List Event) (n long : ℕ) (p : Mark) (ks ks' : Known) → IsTrue (sizing_fine sizing) → RuleIn ks sizing.rule → length p.outer < MOST_STEPS → n ≡ octets_for long → SameKnown ks' ks
      → Goes root x (marked (enters sizing.rule) p) (0 + long) ks' → Goes root (enters sizing.rule ∷ (x ++ aligns 8 ∷ closes path sizing n ∷ [])) p (p.at + (rule_width sizing.rule + 8 * n)) ks
  contents_go sizing path x n long p ks ks' fine rule short count same g =
      let p1 = marked (enters sizing.rule) p in
      let q = ends x p1 in
      let y = aligns 8 ∷ closes path sizing n ∷ [] in
      let e = ends_then x y p1 in
      let at : q.at ≡ long = g.at_is ∙ zero_front long in
      let whole : q.at + padding 8 q.at ≡ 8 * n = ap (λ z. z + padding 8 z) at ∙ (filled_octets long ∙ ap (λ z. 8 * z) (sym count)) in
      let known : SameKnown q.known ks = λ s. g.known s ∙ same s in
      let closing : ClosesRight sizing.rule n (has sizing.sizes (pos n)) (marked (aligns 8) q) =
      record { start = p.at + rule_width sizing.rule; rest = p.outer; outer = g.outer; octets = whole; closes = close_right sizing n ks q.known fine rule known } in
      record {
        right = ((short, entered_fits sizing fine), right_then root x y p1 g.right (eight, (closing, tt)));
        at_is = ap (λ (z : Mark). z.at) e ∙ (ap (λ z. start_of z + (q.at + padding 8 q.at)) g.outer ∙ (ap (λ z. p.at + rule_width sizing.rule + z) whole ∙ sum_assoc p.at (rule_width sizing.rule) (8 * n)));
        outer = ap (λ (z : Mark). z.outer) e ∙ ap rest_of g.outer;
        known = λ s. ap (λ (z : Mark). z.known s) e ∙ known s;
      }
    where
      eight : 0 < 8
      eight = omega arith

  mutual
    pub node_goes : (g : Grammar) (k : ℕ) (around : List ℕ) (ks : Known) → Sound root k around ks g → (p : Mark) → SameKnown p.known ks → length p.outer ≤ k → (path : List ℕ) (d : Data) → fits g d ≡ true → Goes root (events root g path d) p (p.at + bit_length g p.at d) (after ks g)
    node_goes (node align form) k around ks s p same l path d f =
        let q = marked (aligns align) p in
        goes_on (aligns align) (form_events root form path d) p (p.at + (padding align p.at + form_length form (p.at + padding align p.at) d)) (form_after ks form) (align_some align s.0) refl
        (goes_to (form_events root form path d) q (q.at + form_length form q.at d) (p.at + (padding align p.at + form_length form (p.at + padding align p.at) d)) (form_after ks form) (sum_assoc p.at (padding align p.at) (form_length form q.at d)) (form_goes form k around ks s.2 q same l path d f))

    pub form_goes : (form : Form) (k : ℕ) (around : List ℕ) (ks : Known) → FormSound root k around ks form → (p : Mark) → SameKnown p.known ks → length p.outer ≤ k → (path : List ℕ) (d : Data) → form_fits form d ≡ true → Goes root (form_events root form path d) p (p.at + form_length form p.at d) (form_after ks form)
    form_goes (num leaf) k around ks s p same l path d f = goes_on (codes leaf (number_of d)) [] p (p.at + num_length leaf (number_of d)) ks s refl (goes_none (marked (codes leaf (number_of d)) p) (p.at + num_length leaf (number_of d)) ks refl same)
    form_goes (octets sizing) k around ks s p same l path (octet_string os) f = string_goes sizing path (length os) (bits_of os) (8 * length os) p ks (bits-length os) s.0 s.1 same
    form_goes (bits sizing) k around ks s p same l path (bit_string bs) f = string_goes sizing path (length bs) bs (length bs) p ks refl s.0 s.1 same
    form_goes (text leaf) k around ks s p same l path (characters cs) f =
        let at = p.at + text_length leaf.ended leaf (length cs) in
        size_then path (length cs) leaf.sized.rule (texts leaf cs ∷ []) p at ks ks same s.1
        (λ q a o m. goes_on (texts leaf cs) [] q at ks s.0 refl (goes_none (marked (texts leaf cs) q) at ks (ap (λ z. z + text_length leaf.ended leaf (length cs)) a) (λ t. m t ∙ same t)))
    form_goes (seq fields home) k around ks s p same l path (record_of ps) f =
        let e = begins (map (λ t. (t, field_path path fields t)) home) (presence_bits fields ps) in
        let q = marked e p in
        let x = field_events root fields path 0 ps in
        let front = length (presence_bits fields ps) in
        let at = q.at + fields_length fields q.at ps in
        let g = fields_go fields (suc k) (home ++ around) ks s.1 q same (omega (arith, l)) path 0 ps f in
        let r = ends x q in
        let fill = fills_go home r s.0.named_once (λ t h. g.known t ∙ s.0.read_inside t h) in
        goes_on e (x ++ map fills home) p (p.at + (front + fields_length fields (p.at + front) ps)) (form_after ks (seq fields home)) (unknown path fields home p.known (λ t h. same t ∙ apart_false (ks t) (holds home t) (s.0.unknown t) h)) refl
        (goes_to (x ++ map fills home) q at (p.at + (front + fields_length fields (p.at + front) ps)) (form_after ks (seq fields home)) (sum_assoc p.at front (fields_length fields q.at ps))
        (goes_then x (map fills home) q at at (fields_after ks fields) (form_after ks (seq fields home)) g
        (goes_known (map fills home) r at (λ t. r.known t && not (holds home t)) (form_after ks (seq fields home)) (λ t. ap (λ b. b && not (holds home t)) (g.known t)) (goes_to (map fills home) r r.at at (λ t. r.known t && not (holds home t)) g.at_is fill))))
    form_goes (list sizing g) k around ks s p same l path (list_of es) f =
        let n = element_count es in
        let each : ℕ → Data → List Event = λ j d. events root g (path ++ j ∷ []) d in
        let q = marked (sizes sizing n) p in
        let at = p.at + list_length (ending sizing.rule) sizing.rule (bit_length g) p.at es in
        goes_on (sizes sizing n) (size_wants path n sizing.rule ++ (run_events each 0 es ++ end_events sizing.rule)) p at ks (λ h. list_fits sizing n s.0 h) refl
        (size_then path n sizing.rule (run_events each 0 es ++ end_events sizing.rule) q at ks ks same s.1
        (λ r a o m.
        let known : SameKnown r.known ks = λ t. m t ∙ same t in
        let run = run_go each (bit_length g) (fits g) ks (suc k) (λ j d t u v w. goes_known (each j d) t (t.at + bit_length g t.at d) (after ks g) ks s.3 (node_goes g (suc k) around ks s.4 t v w (path ++ j ∷ []) d u)) 0 es r f known (omega (arith, still_short p r k o l)) in
        let z = ends (run_events each 0 es) r in
        goes_then (run_events each 0 es) (end_events sizing.rule) r (r.at + run_length (bit_length g) r.at es) at ks ks run
        (goes_to (end_events sizing.rule) z (z.at + end_length sizing.rule) at ks (ap (λ y. y + end_length sizing.rule) (run.at_is ∙ ap (λ y. y + run_length (bit_length g) y es) a) ∙ list_ends sizing.rule (bit_length g) p.at es)
        (end_goes sizing.rule z ks run.known (end_length sizing.rule) refl))))
    form_goes (choice cases (Index width)) k around ks s p same l path (alt i d) f =
        let q = marked (puts width i) p in
        let at = p.at + (width + alternative_length cases i (p.at + width) d) in
        goes_on (puts width i) (case_events root cases (Index width) path i i d) p at ks (index_right cases width i d s.0 s.1 f) refl
        (goes_to (case_events root cases (Index width) path i i d) q (q.at + alternative_length cases i q.at d) at ks (sum_assoc p.at width (alternative_length cases i q.at d))
        (case_goes cases (Index width) (suc k) around ks s.3 (case_known cases (Index width) ks s.0 s.2) q same (omega (arith, l)) path i i d f))
    form_goes (choice cases Tests) k around ks s p same l path (alt i d) f =
        goes_to (case_events root cases Tests path i i d) p (p.at + alternative_length cases i p.at d) (p.at + (0 + alternative_length cases i (p.at + 0) d)) ks (no_index cases i d p.at)
        (case_goes cases Tests (suc k) around ks s.3 (case_known cases Tests ks s.0 s.2) p same (omega (arith, l)) path i i d f)
    form_goes (choice cases (Item t)) k around ks s p same l path (alt i d) f =
        goes_to (case_events root cases (Item t) path i i d) p (p.at + alternative_length cases i p.at d) (p.at + (0 + alternative_length cases i (p.at + 0) d)) ks (no_index cases i d p.at)
        (case_goes cases (Item t) (suc k) around ks s.3 (case_known cases (Item t) ks s.0 s.2) p same (omega (arith, l)) path i i d f)
    form_goes (contained sizing g) k around ks s p same l path d f =
        let p1 = marked (enters sizing.rule) p in
        let below = deep g (suc k) around ks s.3 in
        contents_go sizing path (events root g (path ++ 0 ∷ []) d) (octets_for (bit_length g 0 d)) (bit_length g 0 d) p ks (after ks g) s.0 s.1 (omega (arith, l, below)) refl s.2
        (node_goes g (suc k) around ks s.3 p1 same (omega (arith, l)) (path ++ 0 ∷ []) d f)
    form_goes _ k around ks s p same l path d f = cc

    pub fields_go : (fs : Fields) (k : ℕ) (around : List ℕ) (ks : Known) → FieldsSound root k around ks fs → (p : Mark) → SameKnown p.known ks → length p.outer ≤ k → (path : List ℕ) (n : ℕ) (ps : Places) → fields_fit fs ps ≡ true → Goes root (field_events root fs path n ps) p (p.at + fields_length fs p.at ps) (fields_after ks fs)
    fields_go no_fields k around ks s p same l path n no_places f = goes_none p (p.at + 0) ks (sym (none_behind p.at)) same
    fields_go (component name g presence default None fs) k around ks s p same l path n (filled d ps) f =
        let x = events root g (path ++ n ∷ []) d in
        let y = field_events root fs path (suc n) ps in
        let ks2 = choose_known presence ks (after ks g) in
        let m = bit_length g p.at d in
        let at = p.at + (m + fields_length fs (p.at + m) ps) in
        presence_then (path ++ n ∷ []) true presence (x ++ y) p at ks (fields_after ks2 fs) same s.0
        (λ q a o u.
        let g1 = node_goes g k around ks s.3 q (λ t. u t ∙ same t) (still_short p q k o l) (path ++ n ∷ []) d (both_first (fits g d) (fields_fit fs ps) f) in
        let r = ends x q in
        let here : r.at ≡ p.at + m = g1.at_is ∙ ap (λ z. z + bit_length g z d) a in
        let g2 = fields_go fs k around ks2 s.4 r (λ t. g1.known t ∙ choose_same presence ks g s.2 t) (still_short p r k (g1.outer ∙ o) l) path (suc n) ps (both_second (fits g d) (fields_fit fs ps) f) in
        goes_then x y q (q.at + bit_length g q.at d) at (after ks g) (fields_after ks2 fs) g1 (goes_to y r (r.at + fields_length fs r.at ps) at (fields_after ks2 fs) (ap (λ z. z + fields_length fs z ps) here ∙ sum_assoc p.at m (fields_length fs (p.at + m) ps)) g2))
    fields_go (component name (node align (num leaf)) Always default (Some t) fs) k around ks s p same l path n (filled d ps) f =
        let y = field_events root fs path (suc n) ps in
        let e1 = notes (path ++ n ∷ []) t leaf.set (number_of d) in
        let e3 = codes leaf (number_of d) in
        let p1 = marked e1 p in
        let p2 = marked (aligns align) p1 in
        let p3 = marked e3 p2 in
        let m = padding align p.at + num_length leaf (number_of d) in
        let at = p.at + (m + fields_length fs (p.at + m) ps) in
        let ks2 = with_slot t ks in
        let here : p3.at ≡ p.at + m = ap (λ z. z + padding align z + num_length leaf (number_of d)) (none_behind p.at) ∙ sum_assoc p.at (padding align p.at) (num_length leaf (number_of d)) in
        let g2 = fields_go fs k around ks2 s.4 p3 (λ u. ap (λ b. nat_eq t u || b) (same u)) l path (suc n) ps (both_second (fits (node align (num leaf)) d) (fields_fit fs ps) f) in
        goes_on e1 (aligns align ∷ e3 ∷ y) p at (fields_after ks2 fs) (same t ∙ s.1.1.1, domain_is root t leaf s.1.1.2) refl
        (goes_on (aligns align) (e3 ∷ y) p1 at (fields_after ks2 fs) (align_some align s.3.0) refl
        (goes_on e3 y p2 at (fields_after ks2 fs) s.3.2 refl (goes_to y p3 (p3.at + fields_length fs p3.at ps) at (fields_after ks2 fs) (ap (λ z. z + fields_length fs z ps) here ∙ sum_assoc p.at m (fields_length fs (p.at + m) ps)) g2)))
    fields_go (component name (node align (num leaf)) Bit default (Some t) fs) k around ks s p same l path n (filled d ps) f = (let never = s.1.0 in cc)
    fields_go (component name (node align (num leaf)) (When ts) default (Some t) fs) k around ks s p same l path n (filled d ps) f = (let never = s.1.0 in cc)
    fields_go (component name (node align _) presence default (Some t) fs) k around ks s p same l path n (filled d ps) f = absurd s.1.1
    fields_go (component name g presence default own fs) k around ks s p same l path n (empty ps) f =
        let y = field_events root fs path (suc n) ps in
        let ks2 = choose_known presence ks (with_own own (after ks g)) in
        let away = both_first (may_be_absent presence) (fields_fit fs ps) f in
        presence_then (path ++ n ∷ []) false presence y p (p.at + fields_length fs p.at ps) ks (fields_after ks2 fs) same s.0
        (λ q a o u.
        goes_to y q (q.at + fields_length fs q.at ps) (p.at + fields_length fs p.at ps) (fields_after ks2 fs) (ap (λ z. z + fields_length fs z ps) a)
        (fields_go fs k around ks2 s.4 q (λ t. u t ∙ (same t ∙ away_same presence ks (with_own own (after ks g)) away t)) (still_short p q k o l) path (suc n) ps (both_second (may_be_absent presence) (fields_fit fs ps) f)))
    fields_go (component name g presence default own fs) k around ks s p same l path n no_places f = cc
    fields_go (inserted name (node align (num leaf)) (Some t) fs) k around ks s p same l path n ps f =
        let y = field_events root fs path (suc n) ps in
        let p1 = marked (aligns align) p in
        let p2 = marked (opens t leaf) p1 in
        let m = padding align p.at + num_length leaf (least leaf.set) in
        let at = p.at + (m + fields_length fs (p.at + m) ps) in
        let ks2 = with_slot t ks in
        let here : p2.at ≡ p.at + m = sum_assoc p.at (padding align p.at) (num_length leaf (least leaf.set)) in
        let g2 = fields_go fs k around ks2 s.3 p2 (λ u. ap (λ b. nat_eq t u || b) (same u)) l path (suc n) ps f in
        goes_on (aligns align) (opens t leaf ∷ y) p at (fields_after ks2 fs) (align_some align s.2.0) refl
        (goes_on (opens t leaf) y p1 at (fields_after ks2 fs) (record { fresh = same t ∙ s.0.1; fine = s.2.2; width = s.1; of_slot = s.0.2 }) refl
        (goes_to y p2 (p2.at + fields_length fs p2.at ps) at (fields_after ks2 fs) (ap (λ z. z + fields_length fs z ps) here ∙ sum_assoc p.at m (fields_length fs (p.at + m) ps)) g2))
    fields_go (inserted name (node align (num leaf)) None fs) k around ks s p same l path n ps f =
        let y = field_events root fs path (suc n) ps in
        let p1 = marked (aligns align) p in
        let p2 = marked (codes leaf (pos 0)) p1 in
        let m = padding align p.at + num_length leaf (least leaf.set) in
        let at = p.at + (m + fields_length fs (p.at + m) ps) in
        let here : p2.at ≡ p.at + m = ap (λ z. p.at + padding align p.at + z) (null_width leaf s.1.2 s.0) ∙ sum_assoc p.at (padding align p.at) (num_length leaf (least leaf.set)) in
        let g2 = fields_go fs k around ks s.2 p2 same l path (suc n) ps f in
        goes_on (aligns align) (codes leaf (pos 0) ∷ y) p at (fields_after ks fs) (align_some align s.1.0) refl
        (goes_on (codes leaf (pos 0)) y p1 at (fields_after ks fs) s.1.2 refl
        (goes_to y p2 (p2.at + fields_length fs p2.at ps) at (fields_after ks fs) (ap (λ z. z + fields_length fs z ps) here ∙ sum_assoc p.at m (fields_length fs (p.at + m) ps)) g2))
    fields_go (inserted name (node align _) (Some t) fs) k around ks s p same l path n ps f = absurd s.0
    fields_go (inserted name (node align _) None fs) k around ks s p same l path n ps f = absurd s.0
    fields_go _ k around ks s p same l path n ps f = cc

    pub case_goes : (cases : Alternatives) (rule : ChoiceRule) (k : ℕ) (around : List ℕ) (ks : Known) → AlternativesSound root k around ks cases → ((i : ℕ) → CaseKnown ks rule (tests_at cases i)) → (p : Mark) → SameKnown p.known ks → length p.outer ≤ k → (path : List ℕ) (i j : ℕ) (d : Data) → alternative_fits cases j d ≡ true
        → Goes root (case_events root cases rule path i j d) p (p.at + alternative_length cases j p.at d) ks
    case_goes no_alternatives rule k around ks s known p same l path i j d f = cc
    case_goes (alternative name g tests more) rule k around ks s known p same l path i zero d f =
        rule_then path i rule name tests (events root g (path ++ i ∷ []) d) p (p.at + bit_length g p.at d) ks ks same (known 0)
        (λ q a o u.
        goes_known (events root g (path ++ i ∷ []) d) q (p.at + bit_length g p.at d) (after ks g) ks s.0
        (goes_to (events root g (path ++ i ∷ []) d) q (q.at + bit_length g q.at d) (p.at + bit_length g p.at d) (after ks g) (ap (λ z. z + bit_length g z d) a)
        (node_goes g k around ks s.1 q (λ t. u t ∙ same t) (still_short p q k o l) (path ++ i ∷ []) d f)))
    case_goes (alternative name g tests more) rule k around ks s known p same l path i (suc j) d f = case_goes more rule k around ks s.2 (λ m. known (suc m)) p same l path i j d f

pub events_in_order : AcceptedIsSound → KnownBehind → EventsAreInOrder
events_in_order sound behind root d accepted shaped =
    let s = sound root accepted in
    let g = node_goes root root 0 [] (λ t. false) s first_mark (λ t. refl) (omega arith) [] d shaped in
    record { right = g.right; at_end = g.at_is; outermost = g.outer; none_known = λ t. g.known t ∙ none t (behind root 0 [] (λ u. false) root s t) }
  where
    none : (t : ℕ) → (after (λ u. false) root t ≡ true → (false ≡ true) ⊎ (false ≡ true)) → after (λ u. false) root t ≡ false
    none t h = truth {F = after (λ u. false) root t ≡ false} (after (λ u. false) root t) (λ e. never (h e)) (λ e. e)
      where
        never : (false ≡ true) ⊎ (false ≡ true) → after (λ u. false) root t ≡ false
        never (inl x) = cc
        never (inr x) = cc
