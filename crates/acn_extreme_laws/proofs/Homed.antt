-- Each ask of a walk is of the field of a slot at home in an occurrence of a SEQUENCE, so what can be met at each occurrence is written.
use Rattle.std.proofs.Common.{◌≡◌, ℕ, zero, suc, ◌≤◌, ℤ, Bool, true, false, ◌||◌, List, [], ◌∷◌, ◌++◌, length, map, Option, Some, None, refl, sym, ap, ◌∙◌, arith, append_assoc, append-nil, inl, inr, ◌⊎◌, nat_eq, subst}
use Rattle.std.proofs.lemmas.Bool.{or_parts, and_parts, not-true}
use Rattle.std.proofs.lemmas.Bool.Decides.{nat_tests}
use Rattle.std.specs.Prelude.{if◌then◌else◌, nat_lt, ◌-◌, ◌&&◌, not, IsTrue}
use Rattle.std.specs.List.{AllByRecursion, list_any}
use Rattle.acn_num.specs.Bits.{octets as octets_for}
use Rattle.acn_grammar.specs.Asks.{Ask, Moment, asks, counts, FieldPaths, field_of, field_path, with_fields, test_asks, presence_asks, size_asks, own_asks, rule_asks, run_moments, moments, form_moments, fields_moments, alternative_moments, same_name}
use Rattle.acn_grammar.specs.AsksOn.{MeetsAsk, form_asks_on}
use Rattle.acn_grammar.specs.Front.{IsWritten}
use Rattle.acn_grammar.specs.Grammar.{Grammar, Form, Fields, Alternatives, Data, Places, Elements, node, num, octets, bits, text, seq, list, choice, contained, no_fields, component, inserted, no_alternatives, alternative, octet_string, bit_string, characters, record_of, list_of, alt, empty, filled, no_places, no_elements, element, element_count}
use Rattle.acn_grammar.specs.Length.{bit_length}
use Rattle.acn_grammar.specs.Meets.{Unfit, first_of}
use Rattle.acn_grammar.specs.PartAt.{Occurrence, occurrence, part_at, field_part, alternative_part, element_part}
use Rattle.acn_grammar.specs.Refused.{FirstUnmet, Refused, RefusedAfter, CanBeMet, asks_of, of_field}
use Rattle.acn_grammar.specs.Scoped.{Known, TestIn, TestsIn, RuleIn, with_slot, with_own, after, choose_known, tests_at}
use Rattle.acn_grammar.specs.Sound.{Sound, FormSound, FieldsSound, AlternativesSound, PresenceSound, OwnSound, RuleSound}
use Rattle.acn_grammar.specs.Tree.{holds, has_tests, choice_fine, choice_rule_fine}
use Rattle.acn_grammar.specs.Walk.{conditions_of}
use Rattle.acn_grammar.specs.Leaves.{all_differ}
use Rattle.acn_num.specs.Bits.{is_least_width}
use Rattle.acn_grammar.specs.declared.node.ChoiceRule.{ChoiceRule}
use Rattle.acn_grammar.specs.declared.node.ChoiceRule.TheVariants.{Index, Tests, Item}
use Rattle.acn_grammar.specs.declared.node.Presence.{Presence}
use Rattle.acn_grammar.specs.declared.node.Presence.TheVariants.{Always, Bit, When}
use Rattle.acn_grammar.specs.declared.node.SizeRule.{SizeRule}
use Rattle.acn_grammar.specs.declared.node.SizeRule.TheVariants.{Prefix, Slot, Ended}
use Rattle.acn_grammar.specs.declared.node.Test.{Test}
use Rattle.acn_grammar.specs.declared.node.Test.TheVariants.{Flag, Equals}
use Rattle.acn_grammar.proofs.SlotLists.{holds-append, same_eq}
use Rattle.acn_packet_laws.specs.Laws.{AcceptedIsSound, KnownBehind, EachOccurrenceAsks, EachValueIsWrittenOrRefused}
use Rattle.acn_extreme_laws.specs.Laws.{CountPermitted, MeetableIsWritten}
use Rattle.acn_extreme_laws.proofs.Scopes.{Open, open_inside, open_after, says_open, open_slot, open_own, open_choose}
use Rattle.acn_extreme_laws.proofs.Tuples.{first_two, first_four, first_five, second_three, second_four, second_five, third_four, fourth_five, last_two, last_three, last_four, last_five}

-- Where the fields of slots are.

field_in : (f : ℕ → List ℕ) (home : List ℕ) (paths : FieldPaths) (s : ℕ) → holds home s ≡ true → field_of (map (λ t. (t, f t)) home ++ paths) s ≡ f s
field_in f [] paths s h = cc
field_in f (k ∷ home) paths s h = by (nat_eq k s) refl (λ e. field_in f home paths s (rest (nat_eq k s) (holds home s) h e))
  where
    rest : (a b : Bool) → (a || b) ≡ true → a ≡ false → b ≡ true
    rest true b h e = cc
    rest false b h e = h

    by : (t : Bool) → nat_eq k s ≡ t → (t ≡ false → field_of (map (λ t. (t, f t)) home ++ paths) s ≡ f s) → (if nat_eq k s then f k else field_of (map (λ t. (t, f t)) home ++ paths) s) ≡ f s
    by true e g = let same : k ≡ s = grind (arith, nat_tests, e) in rw e (ap f same)
    by false e g = rw e (g refl)

field_out : (f : ℕ → List ℕ) (home : List ℕ) (paths : FieldPaths) (s : ℕ) → holds home s ≡ false → field_of (map (λ t. (t, f t)) home ++ paths) s ≡ field_of paths s
field_out f [] paths s h = refl
field_out f (k ∷ home) paths s h = by (nat_eq k s) (holds home s) h (λ e. field_out f home paths s e)
  where
    by : (a b : Bool) → (a || b) ≡ false → (b ≡ false → field_of (map (λ t. (t, f t)) home ++ paths) s ≡ field_of paths s) → (if a then f k else field_of (map (λ t. (t, f t)) home ++ paths) s) ≡ field_of paths s
    by true b h g = cc
    by false b h g = g h

-- Asks on one field.

same_self : (xs : List ℕ) → same_name xs xs ≡ true
same_self [] = refl
same_self (x ∷ xs) = rw (same_eq x) (same_self xs)

asks-append : (field : List ℕ) (ms ns : List Moment) → asks_of field (ms ++ ns) ≡ asks_of field ms ++ asks_of field ns
asks-append field [] ns = refl
asks-append field (m ∷ ms) ns = ap (λ z. of_field field m ++ z) (asks-append field ms ns) ∙ sym (append_assoc (of_field field m) (asks_of field ms) (asks_of field ns))

all_joined : {A : Type 0} (P : A → Type 0) (xs ys : List A) → AllByRecursion P xs → AllByRecursion P ys → AllByRecursion P (xs ++ ys)
all_joined P [] ys h k = k
all_joined P (x ∷ xs) ys h k = (h.0, all_joined P xs ys h.1 k)

met_so_far : (x : ℤ) (xs ys : List Ask) (a : Ask) → AllByRecursion (MeetsAsk x) (xs ++ (a ∷ ys)) → AllByRecursion (MeetsAsk x) (xs ++ a ∷ [])
met_so_far x [] ys a h = (h.0, tt)
met_so_far x (b ∷ xs) ys a h = (h.0, met_so_far x xs ys a h.1)

all_at : {A : Type 0} (P : A → Type 0) (xs ys : List A) (x : A) → AllByRecursion P (xs ++ x ∷ ys) → P x
all_at P [] ys x h = h.0
all_at P (y ∷ xs) ys x h = all_at P xs ys x h.1

if_yes : {A : Type 0} (b : Bool) (x y : A) → b ≡ true → (if b then x else y) ≡ x
if_yes true x y e = refl
if_yes false x y e = cc

if_no : {A : Type 0} (b : Bool) (x y : A) → b ≡ false → (if b then x else y) ≡ y
if_no true x y e = cc
if_no false x y e = refl

differs : (m k : ℕ) → suc k ≤ m → nat_eq m k ≡ false
differs m k l = grind (arith, nat_tests, l)

-- no condition where none of the alternatives has one
pub no_tests : (cases : Alternatives) (i : ℕ) → list_any has_tests (conditions_of cases) ≡ false → tests_at cases i ≡ []
no_tests no_alternatives i h = refl
no_tests (alternative name g ts more) zero h = none ts (or_parts (nat_lt 0 (length ts)) (list_any has_tests (conditions_of more)) h).0
  where
    none : (ts : List Test) → nat_lt 0 (length ts) ≡ false → ts ≡ []
    none [] e = refl
    none (t ∷ ts) e = (let p : nat_lt 0 (suc (length ts)) ≡ true = grind (arith, nat_tests) in cc)
no_tests (alternative name g ts more) (suc i) h = no_tests more i (or_parts (nat_lt 0 (length ts)) (list_any has_tests (conditions_of more)) h).1

module _ (root : Grammar) (known_behind : KnownBehind) (whole : Data) where
  -- the field of a slot at home in an occurrence of a SEQUENCE
  record HomedAt (field : List ℕ) (s : ℕ) : Type 0 where
    path : List ℕ
    align : ℕ
    fields : Fields
    home : List ℕ
    part : Data
    stands : part_at root whole path ≡ Some (occurrence (node align (seq fields home)) part)
    here : holds home s ≡ true
    is : field ≡ field_path path fields s

  abbrev IsHomed : Moment → Type 0
  IsHomed (asks path field s a) = HomedAt field s
  IsHomed (counts path n sizing) = Unit {0}

  abbrev AllHomed : List Moment → Type 0
  AllHomed ms = AllByRecursion IsHomed ms

  -- each slot at home round a place is told its field
  abbrev Told : List ℕ → FieldPaths → Type 0
  Told around paths = (s : ℕ) → holds around s ≡ true → HomedAt (field_of paths s) s

  abbrev Stands : List ℕ → (List ℕ → Option Occurrence) → Type 0
  Stands p find = (r : List ℕ) (o : Occurrence) → find r ≡ Some o → part_at root whole (p ++ r) ≡ Some o

  deeper : (p : List ℕ) (k : ℕ) (find : List ℕ → Option Occurrence) → ((r : List ℕ) (o : Occurrence) → find r ≡ Some o → part_at root whole (p ++ k ∷ r) ≡ Some o) → Stands (p ++ k ∷ []) find
  deeper p k find h r o e = ap (part_at root whole) (append_assoc p (k ∷ []) r) ∙ h r o e

  told_home : (p : List ℕ) (align : ℕ) (fields : Fields) (home around : List ℕ) (paths : FieldPaths) (part : Data) → part_at root whole p ≡ Some (occurrence (node align (seq fields home)) part) → Told around paths → Told (home ++ around) (with_fields p fields home paths)
  told_home p align fields home around paths part e told s h = by (holds home s) refl (sym (holds-append home around s) ∙ h)
    where
      by : (t : Bool) → holds home s ≡ t → (holds home s || holds around s) ≡ true → HomedAt (field_of (with_fields p fields home paths) s) s
      by true q l = record { path = p; align = align; fields = fields; home = home; part = part; stands = e; here = q; is = field_in (λ t. field_path p fields t) home paths s q }
      by false q l = subst (λ (f : List ℕ). HomedAt f s) (sym (field_out (λ t. field_path p fields t) home paths s q)) (told s (sym (ap (λ b. b || holds around s) q) ∙ l))

  test_homed : (ks : Known) (around : List ℕ) (paths : FieldPaths) → Open root known_behind ks around → Told around paths → (p : List ℕ) (there : Bool) (t : Test) → TestIn ks t → IsHomed (test_asks paths p there t)
  test_homed ks around paths o told p true (Flag s) h = told s (o s h)
  test_homed ks around paths o told p false (Flag s) h = told s (o s h)
  test_homed ks around paths o told p true (Equals s k) h = told s (o s h)
  test_homed ks around paths o told p false (Equals s k) h = told s (o s h)

  tests_homed : (ks : Known) (around : List ℕ) (paths : FieldPaths) → Open root known_behind ks around → Told around paths → (p : List ℕ) (there : Bool) (ts : List Test) → TestsIn ks ts → AllHomed (map (test_asks paths p there) ts)
  tests_homed ks around paths o told p there [] h = tt
  tests_homed ks around paths o told p there (t ∷ ts) h = (test_homed ks around paths o told p there t h.0, tests_homed ks around paths o told p there ts h.1)

  presence_homed : (ks : Known) (around : List ℕ) (paths : FieldPaths) → Open root known_behind ks around → Told around paths → (p : List ℕ) (there : Bool) (presence : Presence) → PresenceSound ks presence → AllHomed (presence_asks paths p there presence)
  presence_homed ks around paths o told p there Always h = tt
  presence_homed ks around paths o told p there Bit h = tt
  presence_homed ks around paths o told p there (When ts) h = tests_homed ks around paths o told p there ts h.1

  size_homed : (ks : Known) (around : List ℕ) (paths : FieldPaths) → Open root known_behind ks around → Told around paths → (p : List ℕ) (n : ℕ) (rule : SizeRule) → RuleIn ks rule → AllHomed (size_asks paths p n rule)
  size_homed ks around paths o told p n (Slot s) h = (told s (o s h), tt)
  size_homed ks around paths o told p n (Prefix low width) h = tt
  size_homed ks around paths o told p n (Ended q) h = tt

  own_homed : (ks : Known) (around : List ℕ) (paths : FieldPaths) → Told around paths → (p : List ℕ) (own : Option ℕ) (presence : Presence) (g : Grammar) (d : Data) → OwnSound root around ks own presence g → AllHomed (own_asks paths p own d)
  own_homed ks around paths told p None presence g d h = tt
  own_homed ks around paths told p (Some s) presence g d h = (told s (says_open root known_behind around ks s g (last_two h)), tt)

  -- what an alternative asks is of known slots
  abbrev AsksIn : Known → ChoiceRule → List Test → Type 0
  AsksIn ks (Item s) ts = ks s ≡ true
  AsksIn ks Tests ts = TestsIn ks ts
  AsksIn ks (Index width) ts = TestsIn ks ts

  cases_in : (ks : Known) (cases : Alternatives) (rule : ChoiceRule) → IsTrue (choice_fine (conditions_of cases) rule) → RuleSound root ks cases rule → (i : ℕ) → AsksIn ks rule (tests_at cases i)
  cases_in ks cases (Item s) fine h i = first_two h
  cases_in ks cases Tests fine h i = first_two h i
  cases_in ks cases (Index width) fine h i =
      let a = and_parts (nat_lt 0 (length (conditions_of cases))) (all_differ same_name (map (λ c. c.0) (conditions_of cases)) && choice_rule_fine (conditions_of cases) (Index width)) fine in
      let b = and_parts (all_differ same_name (map (λ c. c.0) (conditions_of cases))) (choice_rule_fine (conditions_of cases) (Index width)) a.1 in
      let c = and_parts (is_least_width (length (conditions_of cases) - 1) width) (not (list_any has_tests (conditions_of cases))) b.1 in
      subst (λ (z : List Test). TestsIn ks z) (sym (no_tests cases i (not-true (list_any has_tests (conditions_of cases)) c.1))) tt

  rule_homed : (ks : Known) (around : List ℕ) (paths : FieldPaths) → Open root known_behind ks around → Told around paths → (p : List ℕ) (i : ℕ) (rule : ChoiceRule) (name : List ℕ) (ts : List Test) → AsksIn ks rule ts → AllHomed (rule_asks root paths p i rule name ts)
  rule_homed ks around paths o told p i (Item s) name ts h = (told s (o s h), tt)
  rule_homed ks around paths o told p i Tests name ts h = tests_homed ks around paths o told (p ++ i ∷ []) true ts h
  rule_homed ks around paths o told p i (Index width) name ts h = tests_homed ks around paths o told (p ++ i ∷ []) true ts h

  run_homed : (each : ℕ → Data → List Moment) (part : ℕ → List ℕ → Data → Option Occurrence) (p : List ℕ) (k : ℕ) (es : Elements)
      → ((j : ℕ) (d : Data) → Stands (p ++ j ∷ []) (λ r. part j r d) → AllHomed (each j d))
      → ((m : ℕ) (r : List ℕ) (o : Occurrence) → k ≤ m → element_part (λ d. part m r d) k es m ≡ Some o → part_at root whole (p ++ m ∷ r) ≡ Some o)
      → AllHomed (run_moments each k es)
  run_homed each part p k no_elements h s = tt
  run_homed each part p k (element d es) h s =
      all_joined IsHomed (each k d) (run_moments each (suc k) es)
      (h k d (deeper p k (λ r. part k r d) (λ r o e. s k r o (omega arith) (if_yes (nat_eq k k) (part k r d) (element_part (λ d. part k r d) (suc k) es k) (same_eq k) ∙ e))))
      (run_homed each part p (suc k) es h (λ m r o l e. s m r o (omega arith) (if_no (nat_eq m k) (part m r d) (element_part (λ d. part m r d) (suc k) es m) (differs m k l) ∙ e)))

  mutual
    node_homed : (g : Grammar) (k : ℕ) (around : List ℕ) (ks : Known) → Sound root k around ks g → Open root known_behind ks around → (paths : FieldPaths) → Told around paths → (p : List ℕ) (d : Data) → Stands p (part_at g d) → AllHomed (moments root g paths p d)
    node_homed (node align form) k around ks sound o paths told p d s = form_homed form align k around ks (last_three sound) o paths told p d s

    form_homed : (form : Form) (align k : ℕ) (around : List ℕ) (ks : Known) → FormSound root k around ks form → Open root known_behind ks around → (paths : FieldPaths) → Told around paths → (p : List ℕ) (d : Data) → Stands p (part_at (node align form) d) → AllHomed (form_moments root form paths p d)
    form_homed (num leaf) align k around ks sound o paths told p d s = tt
    form_homed (octets sizing) align k around ks sound o paths told p (octet_string os) s = size_homed ks around paths o told p (length os) sizing.rule (last_two sound)
    form_homed (bits sizing) align k around ks sound o paths told p (bit_string bs) s = size_homed ks around paths o told p (length bs) sizing.rule (last_two sound)
    form_homed (text leaf) align k around ks sound o paths told p (characters cs) s = size_homed ks around paths o told p (length cs) leaf.sized.rule (last_two sound)
    form_homed (seq fields home) align k around ks sound o paths told p (record_of ps) s =
        fields_homed fields (suc k) (home ++ around) ks (last_two sound) (open_inside root known_behind ks home around o) (with_fields p fields home paths)
        (told_home p align fields home around paths (record_of ps) (ap (part_at root whole) (sym (append-nil p)) ∙ s [] (occurrence (node align (seq fields home)) (record_of ps)) refl) told) p 0 ps (λ m r q l e. s (m ∷ r) q e)
    form_homed (list sizing g) align k around ks sound o paths told p (list_of es) s =
        all_joined IsHomed (size_asks paths p (element_count es) sizing.rule) (run_moments (λ j d. moments root g paths (p ++ j ∷ []) d) 0 es)
        (size_homed ks around paths o told p (element_count es) sizing.rule (second_five sound))
        (run_homed (λ j d. moments root g paths (p ++ j ∷ []) d) (λ j r d. part_at g d r) p 0 es
        (λ j d t. node_homed g (suc k) around ks (last_five sound) o paths told (p ++ j ∷ []) d t) (λ m r q l e. s (m ∷ r) q e))
    form_homed (choice cases rule) align k around ks sound o paths told p (alt i d) s =
        case_homed cases rule (suc k) around ks (cases_in ks cases rule (first_four sound) (third_four sound)) (last_four sound) o paths told p i i d
        (deeper p i (alternative_part cases i d) (λ r q e. s (i ∷ r) q (if_yes (nat_eq i i) (alternative_part cases i d r) None (same_eq i) ∙ e)))
    form_homed (contained sizing g) align k around ks sound o paths told p d s =
        let n = octets_for (bit_length g 0 d) in
        all_joined IsHomed (moments root g paths (p ++ 0 ∷ []) d) (counts p n sizing ∷ size_asks paths p n sizing.rule)
        (node_homed g (suc k) around ks (last_four sound) o paths told (p ++ 0 ∷ []) d (deeper p 0 (part_at g d) (λ r q e. s (0 ∷ r) q e)))
        (tt, size_homed ks around paths o told p n sizing.rule (second_four sound))
    form_homed (octets sizing) align k around ks sound o paths told p _ s = tt
    form_homed (bits sizing) align k around ks sound o paths told p _ s = tt
    form_homed (text leaf) align k around ks sound o paths told p _ s = tt
    form_homed (seq fields home) align k around ks sound o paths told p _ s = tt
    form_homed (list sizing g) align k around ks sound o paths told p _ s = tt
    form_homed (choice cases rule) align k around ks sound o paths told p _ s = tt

    fields_homed : (fs : Fields) (k : ℕ) (around : List ℕ) (ks : Known) → FieldsSound root k around ks fs → Open root known_behind ks around → (paths : FieldPaths) → Told around paths → (p : List ℕ) (i : ℕ) (ps : Places)
        → ((m : ℕ) (r : List ℕ) (o : Occurrence) → i ≤ m → field_part fs i ps m r ≡ Some o → part_at root whole (p ++ m ∷ r) ≡ Some o) → AllHomed (fields_moments root fs paths p i ps)
    fields_homed no_fields k around ks sound o paths told p i ps s = tt
    fields_homed (component name g presence default own fs) k around ks sound o paths told p i no_places s = tt
    fields_homed (component name g presence default own fs) k around ks sound o paths told p i (filled d ps) s =
        let here = p ++ i ∷ [] in
        all_joined IsHomed (own_asks paths here own d ++ presence_asks paths here true presence ++ moments root g paths here d) (fields_moments root fs paths p (suc i) ps)
        (all_joined IsHomed (own_asks paths here own d ++ presence_asks paths here true presence) (moments root g paths here d)
        (all_joined IsHomed (own_asks paths here own d) (presence_asks paths here true presence)
        (own_homed ks around paths told here own presence g d (second_five sound)) (presence_homed ks around paths o told here true presence (first_five sound)))
        (node_homed g k around ks (fourth_five sound) o paths told here d
        (deeper p i (part_at g d) (λ r q e. s i r q (omega arith) (if_yes (nat_eq i i) (part_at g d r) (field_part fs (suc i) ps i r) (same_eq i) ∙ e)))))
        (fields_homed fs k around (choose_known presence ks (with_own own (after ks g))) (last_five sound)
        (open_choose root known_behind around presence ks (with_own own (after ks g)) o (open_own root known_behind around ks (after ks g) own presence g (second_five sound) (open_after root known_behind k around ks g (fourth_five sound) o)))
        paths told p (suc i) ps (λ m r q l e. s m r q (omega arith) (if_no (nat_eq m i) (part_at g d r) (field_part fs (suc i) ps m r) (differs m i l) ∙ e)))
    fields_homed (component name g presence default own fs) k around ks sound o paths told p i (empty ps) s =
        all_joined IsHomed (presence_asks paths (p ++ i ∷ []) false presence) (fields_moments root fs paths p (suc i) ps)
        (presence_homed ks around paths o told (p ++ i ∷ []) false presence (first_five sound))
        (fields_homed fs k around (choose_known presence ks (with_own own (after ks g))) (last_five sound)
        (open_choose root known_behind around presence ks (with_own own (after ks g)) o (open_own root known_behind around ks (after ks g) own presence g (second_five sound) (open_after root known_behind k around ks g (fourth_five sound) o)))
        paths told p (suc i) ps (λ m r q l e. s m r q (omega arith) (if_no (nat_eq m i) None (field_part fs (suc i) ps m r) (differs m i l) ∙ e)))
    fields_homed (inserted name g (Some u) fs) k around ks sound o paths told p i ps s =
        fields_homed fs k around (with_slot u ks) (last_four sound) (open_slot root known_behind around ks u (says_open root known_behind around ks u g (first_four sound)) o) paths told p (suc i) ps
        (λ m r q l e. s m r q (omega arith) (if_no (nat_eq m i) None (field_part fs (suc i) ps m r) (differs m i l) ∙ e))
    fields_homed (inserted name g None fs) k around ks sound o paths told p i ps s =
        fields_homed fs k around ks (last_three sound) o paths told p (suc i) ps
        (λ m r q l e. s m r q (omega arith) (if_no (nat_eq m i) None (field_part fs (suc i) ps m r) (differs m i l) ∙ e))

    case_homed : (cases : Alternatives) (rule : ChoiceRule) (k : ℕ) (around : List ℕ) (ks : Known) → ((j : ℕ) → AsksIn ks rule (tests_at cases j)) → AlternativesSound root k around ks cases → Open root known_behind ks around → (paths : FieldPaths) → Told around paths → (p : List ℕ) (i j : ℕ) (d : Data)
        → Stands (p ++ i ∷ []) (alternative_part cases j d) → AllHomed (alternative_moments root cases rule paths p i j d)
    case_homed no_alternatives rule k around ks inn sound o paths told p i j d s = tt
    case_homed (alternative name g ts more) rule k around ks inn sound o paths told p i zero d s =
        all_joined IsHomed (rule_asks root paths p i rule name ts) (moments root g paths (p ++ i ∷ []) d)
        (rule_homed ks around paths o told p i rule name ts (inn 0)) (node_homed g k around ks (second_three sound) o paths told (p ++ i ∷ []) d s)
    case_homed (alternative name g ts more) rule k around ks inn sound o paths told p i (suc j) d s = case_homed more rule k around ks (λ q. inn (suc q)) (last_three sound) o paths told p i j d s

-- What can be met at each occurrence.

pub meetable_is_written : AcceptedIsSound → KnownBehind → EachOccurrenceAsks → EachValueIsWrittenOrRefused → MeetableIsWritten
meetable_is_written sound behind occurs each root d a meets counted can = by (each root d a meets.shaped)
  where
    homed : AllByRecursion (IsHomed root behind d) (moments root root [] [] d)
    homed = node_homed root behind d root 0 [] (λ s. false) (sound root a) (λ s e. cc) [] (λ s e. cc) [] d (λ r o e. e)

    met : (before after : List Moment) (here : Moment) → moments root root [] [] d ≡ before ++ here ∷ after → IsHomed root behind d here → CountPermitted here → CanBeMet root before here
    met before after (counts path n sizing) e h c = c
    met before after (asks path field s w) e h c =
        let m = can h.path h.home h.align s h.fields h.part h.stands h.here in
        let one : asks_of field (moments root root [] [] d) ≡ form_asks_on root s (seq h.fields h.home) h.part = ap (λ f. asks_of f (moments root root [] [] d)) h.is ∙ occurs root d h.part h.path h.home h.align s h.fields a.formed h.stands h.here in
        let two : asks_of field (moments root root [] [] d) ≡ asks_of field before ++ (w ∷ asks_of field after) = ap (asks_of field) e ∙ asks-append field before (asks path field s w ∷ after) ∙ ap (λ (b : Bool). asks_of field before ++ ((if b then w ∷ [] else []) ++ asks_of field after)) (same_self field) in
        (m.0, record { permitted = (m.1).permitted; meets = met_so_far m.0 (asks_of field before) (asks_of field after) w (subst (AllByRecursion (MeetsAsk m.0)) (sym one ∙ two) (m.1).meets) })

    unmet : (u : Unfit) → FirstUnmet root (moments root root [] [] d) u → ⊥
    unmet u f = f.unmet (met f.before f.after f.here f.whole
        (all_at (IsHomed root behind d) f.before f.after f.here (subst (AllByRecursion (IsHomed root behind d)) f.whole homed))
        (all_at CountPermitted f.before f.after f.here (subst (AllByRecursion CountPermitted) f.whole counted)))

    by : ((bs : List Bool) × IsWritten root d bs) ⊎ ((u : Unfit) × Refused root d u) → (bs : List Bool) × IsWritten root d bs
    by (inl w) = w
    by (inr r) = absurd (unmet r.0 (subst (λ (o : Option Unfit). RefusedAfter root o d r.0) (ap first_of meets.none) r.1))
