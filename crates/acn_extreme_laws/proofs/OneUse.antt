-- What is asked once can be met.
use Rattle.std.proofs.Common.{◌≡◌, ℕ, zero, suc, ◌+◌, ◌*◌, ◌≤◌, ℤ, pos, Bool, true, false, ◌||◌, List, [], ◌∷◌, ◌++◌, length, Option, Some, None, refl, sym, ap, ◌∙◌, arith, nat_eq, subst}
use Rattle.std.proofs.lemmas.Bool.{or_parts}
use Rattle.std.specs.Prelude.{if◌then◌else◌}
use Rattle.std.specs.List.{flat_map, list_any}
use Rattle.acn_num.specs.Bits.{octets as octets_for}
use Rattle.acn_num.specs.Ranges.{In, Ranges}
use Rattle.acn_grammar.specs.Asks.{Ask, Equal}
use Rattle.acn_grammar.specs.AsksOn.{Meetable, on, test_ask_on, presence_asks_on, size_asks_on, own_asks_on, run_asks_on, rule_asks_on, asks_on, form_asks_on, fields_asks_on, alternative_asks_on}
use Rattle.acn_grammar.specs.Grammar.{Grammar, Form, Fields, Alternatives, Data, Places, Elements, node, num, octets, bits, text, seq, list, choice, contained, no_fields, component, inserted, no_alternatives, alternative, octet_string, bit_string, characters, record_of, list_of, alt, no_places, empty, filled, no_elements, element, element_count}
use Rattle.acn_grammar.specs.Length.{bit_length, number_of}
use Rattle.acn_grammar.specs.Slots.{domain_of}
use Rattle.acn_grammar.specs.Walk.{conditions_of}
use Rattle.acn_grammar.specs.declared.node.ChoiceRule.{ChoiceRule}
use Rattle.acn_grammar.specs.declared.node.ChoiceRule.TheVariants.{Index, Tests, Item}
use Rattle.acn_grammar.specs.declared.node.Presence.{Presence}
use Rattle.acn_grammar.specs.declared.node.Presence.TheVariants.{Always, Bit, When}
use Rattle.acn_grammar.specs.declared.node.SizeRule.{SizeRule}
use Rattle.acn_grammar.specs.declared.node.SizeRule.TheVariants.{Prefix, Slot, Ended}
use Rattle.acn_grammar.specs.declared.node.Test.{Test}
use Rattle.acn_grammar.specs.declared.node.Test.TheVariants.{Flag, Equals}
use Rattle.acn_extreme_laws.specs.Laws.{OneUseIsMeetable}
use Rattle.acn_extreme_laws.specs.OneUse.{rule_weight, presence_weight, own_weight, chooser_weight, weight, form_weight, fields_weight, cases_weight, Settled, FormSettled, FieldsSettled, CaseSettled}
use Rattle.acn_extreme_laws.specs.Single.{once_if, count_of_slot, tested}

-- asks that are none where nothing counts, and that can be met where at most one counts
record Asked (set : Ranges) (w : ℕ) (asks : List Ask) : Type 0 where
  none : w ≡ 0 → asks ≡ []
  meets : w ≤ 1 → Meetable set asks

append-none : (xs : List Ask) → xs ++ [] ≡ xs
append-none [] = refl
append-none (x ∷ xs) = ap (λ z. x ∷ z) (append-none xs)

no_asks : (set : Ranges) (x : ℤ) → In set x → Asked set 0 []
no_asks set x h = record { none = λ e. refl; meets = λ l. (x, record { permitted = h; meets = tt }) }

zero_or_one : (v w : ℕ) → v + w ≤ 1 → (F : Type 0) → (v ≡ 0 → F) → (w ≡ 0 → F) → F
zero_or_one zero w l F f g = f refl
zero_or_one (suc v) w l F f g = g (omega arith)

both : (set : Ranges) (v w : ℕ) (xs ys : List Ask) → Asked set v xs → Asked set w ys → Asked set (v + w) (xs ++ ys)
both set v w xs ys a b = record {
  none = λ e. ap (λ z. z ++ ys) (a.none (omega arith)) ∙ b.none (omega arith);
  meets = λ l. zero_or_one v w l (Meetable set (xs ++ ys))
      (λ e. subst (λ z. Meetable set (z ++ ys)) (sym (a.none e)) (b.meets (omega arith)))
      (λ e. subst (λ z. Meetable set (xs ++ z)) (sym (b.none e)) (subst (λ z. Meetable set z) (sym (append-none xs)) (a.meets (omega arith))));
}

more : (set : Ranges) (v w : ℕ) (xs : List Ask) → v ≤ w → Asked set v xs → Asked set w xs
more set v w xs l a = record { none = λ e. a.none (omega arith); meets = λ m. a.meets (omega arith) }

-- what is asked of another slot
on_none : (s t : ℕ) (a : Ask) → once_if (nat_eq t s) ≡ 0 → on s t a ≡ []
on_none s t a e = by (nat_eq t s) e
  where
    by : (b : Bool) → once_if b ≡ 0 → (if b then a ∷ [] else []) ≡ []
    by true e = absurd (omega arith)
    by false e = refl

rule_asked : (set : Ranges) (s n : ℕ) (rule : SizeRule) → Meetable set (size_asks_on s n rule) → Asked set (rule_weight s rule) (size_asks_on s n rule)
rule_asked set s n (Slot t) m = record { none = on_none s t (Equal (pos n)); meets = λ l. m }
rule_asked set s n (Prefix low width) m = record { none = λ e. refl; meets = λ l. m }
rule_asked set s n (Ended p) m = record { none = λ e. refl; meets = λ l. m }

own_asked : (set : Ranges) (s : ℕ) (own : Option ℕ) (d : Data) → Meetable set (own_asks_on s own d) → Asked set (own_weight s own) (own_asks_on s own d)
own_asked set s None d m = record { none = λ e. refl; meets = λ l. m }
own_asked set s (Some t) d m = record { none = on_none s t (Equal (number_of d)); meets = λ l. m }

test_none : (s : ℕ) (there : Bool) (t : Test) → count_of_slot s (tested (t ∷ [])) ≡ 0 → test_ask_on s there t ≡ []
test_none s true (Flag t) e = on_none s t _ (omega arith)
test_none s false (Flag t) e = on_none s t _ (omega arith)
test_none s true (Equals t k) e = on_none s t _ (omega arith)
test_none s false (Equals t k) e = on_none s t _ (omega arith)

tests_none : (s : ℕ) (there : Bool) (ts : List Test) → count_of_slot s (tested ts) ≡ 0 → flat_map (test_ask_on s there) ts ≡ []
tests_none s there [] e = refl
tests_none s there (t ∷ ts) e = ap (λ z. z ++ flat_map (test_ask_on s there) ts) (test_none s there t (omega arith)) ∙ tests_none s there ts (omega arith)

presence_asked : (set : Ranges) (s : ℕ) (there : Bool) (p : Presence) → Meetable set (presence_asks_on s there p) → Asked set (presence_weight s p) (presence_asks_on s there p)
presence_asked set s there Always m = record { none = λ e. refl; meets = λ l. m }
presence_asked set s there Bit m = record { none = λ e. refl; meets = λ l. m }
presence_asked set s there (When ts) m = record { none = tests_none s there ts; meets = λ l. m }

any_none : (s : ℕ) (ts : List Test) → list_any (λ t. nat_eq t s) (tested ts) ≡ false → flat_map (test_ask_on s true) ts ≡ []
any_none s [] e = refl
any_none s (Flag t ∷ ts) e = (let p = or_parts (nat_eq t s) (list_any (λ t. nat_eq t s) (tested ts)) e in ap (λ z. z ++ flat_map (test_ask_on s true) ts) (on_none s t _ (ap once_if p.0)) ∙ any_none s ts p.1)
any_none s (Equals t k ∷ ts) e = (let p = or_parts (nat_eq t s) (list_any (λ t. nat_eq t s) (tested ts)) e in ap (λ z. z ++ flat_map (test_ask_on s true) ts) (on_none s t _ (ap once_if p.0)) ∙ any_none s ts p.1)

is_none : (b : Bool) → once_if b ≡ 0 → b ≡ false
is_none true e = absurd (omega arith)
is_none false e = refl

module _ (root : Grammar) (s : ℕ) (x : ℤ) (some : In (domain_of root s) x) where
  abbrev Heard : ℕ → List Ask → Type 0
  Heard w asks = Asked (domain_of root s) w asks

  nothing : Heard 0 []
  nothing = no_asks (domain_of root s) x some

  -- what is inside a list isn't asked at all where it counts at most once
  record Quiet (w : ℕ) (each : Data → List Ask) : Type 0 where
    none : w ≡ 0 → (d : Data) → each d ≡ []

  run_none : (each : Data → List Ask) → ((d : Data) → each d ≡ []) → (es : Elements) → run_asks_on each es ≡ []
  run_none each h no_elements = refl
  run_none each h (element d es) = ap (λ z. z ++ run_asks_on each es) (h d) ∙ run_none each h es

  append_none : (xs ys : List Ask) → xs ≡ [] → ys ≡ [] → xs ++ ys ≡ []
  append_none xs ys e f = ap (λ z. z ++ ys) e ∙ f

  rule_none : (n : ℕ) (rule : SizeRule) → rule_weight s rule ≡ 0 → size_asks_on s n rule ≡ []
  rule_none n (Slot t) e = on_none s t _ e
  rule_none n (Prefix low width) e = refl
  rule_none n (Ended p) e = refl

  own_none : (own : Option ℕ) (d : Data) → own_weight s own ≡ 0 → own_asks_on s own d ≡ []
  own_none None d e = refl
  own_none (Some t) d e = on_none s t _ e

  presence_none : (there : Bool) (p : Presence) → presence_weight s p ≡ 0 → presence_asks_on s there p ≡ []
  presence_none there Always e = refl
  presence_none there Bit e = refl
  presence_none there (When ts) e = tests_none s there ts e

  chooser_none : (rule : ChoiceRule) (cases : Alternatives) (name : List ℕ) (g : Grammar) (ts : List Test) → chooser_weight s (alternative name g ts cases) rule ≡ 0 → rule_asks_on root s rule name ts ≡ []
  chooser_none (Item t) cases name g ts e = on_none s t _ e
  chooser_none Tests cases name g ts e = any_none s ts (or_parts (list_any (λ t. nat_eq t s) (tested ts)) (list_any (λ c. list_any (λ t. nat_eq t s) (tested c.1)) (conditions_of cases)) (is_none _ e)).0
  chooser_none (Index width) cases name g ts e = any_none s ts (or_parts (list_any (λ t. nat_eq t s) (tested ts)) (list_any (λ c. list_any (λ t. nat_eq t s) (tested c.1)) (conditions_of cases)) (is_none _ e)).0

  once_grows : (a b : Bool) → once_if b ≤ once_if (a || b)
  once_grows true true = omega arith
  once_grows true false = omega arith
  once_grows false b = omega arith

  chooser_grows : (rule : ChoiceRule) (cases : Alternatives) (name : List ℕ) (g : Grammar) (ts : List Test) → chooser_weight s cases rule ≤ chooser_weight s (alternative name g ts cases) rule
  chooser_grows (Item t) cases name g ts = omega arith
  chooser_grows Tests cases name g ts = once_grows (list_any (λ t. nat_eq t s) (tested ts)) (list_any (λ c. list_any (λ t. nat_eq t s) (tested c.1)) (conditions_of cases))
  chooser_grows (Index width) cases name g ts = once_grows (list_any (λ t. nat_eq t s) (tested ts)) (list_any (λ c. list_any (λ t. nat_eq t s) (tested c.1)) (conditions_of cases))

  mutual
    node_none : (g : Grammar) → weight s g ≡ 0 → (d : Data) → asks_on root s g d ≡ []
    node_none (node a f) e d = form_none f e d

    form_none : (f : Form) → form_weight s f ≡ 0 → (d : Data) → form_asks_on root s f d ≡ []
    form_none (num l) e d = refl
    form_none (octets z) e (octet_string os) = rule_none (length os) z.rule e
    form_none (bits z) e (bit_string bs) = rule_none (length bs) z.rule e
    form_none (text l) e (characters cs) = rule_none (length cs) l.sized.rule e
    form_none (seq fs home) e (record_of ps) = fields_none fs e ps
    form_none (list z g) e (list_of es) = append_none (size_asks_on s (element_count es) z.rule) (run_asks_on (asks_on root s g) es) (rule_none (element_count es) z.rule (omega arith)) (run_none (asks_on root s g) (λ d. node_none g (omega arith) d) es)
    form_none (choice cases rule) e (alt i d) = case_none cases rule e i d
    form_none (contained z g) e d = append_none (asks_on root s g d) (size_asks_on s (octets_for (bit_length g 0 d)) z.rule) (node_none g (omega arith) d) (rule_none (octets_for (bit_length g 0 d)) z.rule (omega arith))
    form_none (octets z) e _ = refl
    form_none (bits z) e _ = refl
    form_none (text l) e _ = refl
    form_none (seq fs home) e _ = refl
    form_none (list z g) e _ = refl
    form_none (choice cases rule) e _ = refl

    fields_none : (fs : Fields) → fields_weight s fs ≡ 0 → (ps : Places) → fields_asks_on root s fs ps ≡ []
    fields_none (component n g p def own fs) e (filled d ps) =
        append_none (own_asks_on s own d ++ presence_asks_on s true p ++ asks_on root s g d) (fields_asks_on root s fs ps)
        (append_none (own_asks_on s own d ++ presence_asks_on s true p) (asks_on root s g d)
        (append_none (own_asks_on s own d) (presence_asks_on s true p) (own_none own d (omega arith)) (presence_none true p (omega arith))) (node_none g (omega arith) d))
        (fields_none fs (omega arith) ps)
    fields_none (component n g p def own fs) e (empty ps) = append_none (presence_asks_on s false p) (fields_asks_on root s fs ps) (presence_none false p (omega arith)) (fields_none fs (omega arith) ps)
    fields_none (component n g p def own fs) e no_places = refl
    fields_none (inserted n g slot fs) e ps = fields_none fs e ps
    fields_none no_fields e ps = refl

    case_none : (cases : Alternatives) (rule : ChoiceRule) → chooser_weight s cases rule + cases_weight s cases ≡ 0 → (i : ℕ) (d : Data) → alternative_asks_on root s cases rule i d ≡ []
    case_none no_alternatives rule e i d = refl
    case_none (alternative n g ts more') rule e zero d = append_none (rule_asks_on root s rule n ts) (asks_on root s g d) (chooser_none rule more' n g ts (omega arith)) (node_none g (omega arith) d)
    case_none (alternative n g ts more') rule e (suc i) d = (let l = chooser_grows rule more' n g ts in case_none more' rule (omega arith) i d)

  mutual
    node_heard : (g : Grammar) (d : Data) → Settled root s g d → Heard (weight s g) (asks_on root s g d)
    node_heard (node a f) d h = form_heard f d h

    form_heard : (f : Form) (d : Data) → FormSettled root s f d → Heard (form_weight s f) (form_asks_on root s f d)
    form_heard (num l) d h = nothing
    form_heard (octets z) (octet_string os) h = rule_asked (domain_of root s) s (length os) z.rule h
    form_heard (bits z) (bit_string bs) h = rule_asked (domain_of root s) s (length bs) z.rule h
    form_heard (text l) (characters cs) h = rule_asked (domain_of root s) s (length cs) l.sized.rule h
    form_heard (seq fs home) (record_of ps) h = fields_heard fs ps h
    form_heard (list z g) (list_of es) h = both (domain_of root s) (rule_weight s z.rule) (2 * weight s g) (size_asks_on s (element_count es) z.rule) (run_asks_on (asks_on root s g) es)
        (rule_asked (domain_of root s) s (element_count es) z.rule h)
        (record { none = λ e. run_none (asks_on root s g) (λ d. node_none g (omega arith) d) es; meets = λ l. subst (λ z. Meetable (domain_of root s) z) (sym (run_none (asks_on root s g) (λ d. node_none g (omega arith) d) es)) (nothing.meets (omega arith)) })
    form_heard (choice cases rule) (alt i d) h = case_heard cases rule i d h
    form_heard (contained z g) d h = both (domain_of root s) (weight s g) (rule_weight s z.rule) (asks_on root s g d) (size_asks_on s (octets_for (bit_length g 0 d)) z.rule) (node_heard g d h.0) (rule_asked (domain_of root s) s (octets_for (bit_length g 0 d)) z.rule h.1)
    form_heard (octets z) _ h = more (domain_of root s) 0 _ [] (omega arith) nothing
    form_heard (bits z) _ h = more (domain_of root s) 0 _ [] (omega arith) nothing
    form_heard (text l) _ h = more (domain_of root s) 0 _ [] (omega arith) nothing
    form_heard (seq fs home) _ h = more (domain_of root s) 0 _ [] (omega arith) nothing
    form_heard (list z g) _ h = more (domain_of root s) 0 _ [] (omega arith) nothing
    form_heard (choice cases rule) _ h = more (domain_of root s) 0 _ [] (omega arith) nothing

    fields_heard : (fs : Fields) (ps : Places) → FieldsSettled root s fs ps → Heard (fields_weight s fs) (fields_asks_on root s fs ps)
    fields_heard (component n g p def own fs) (filled d ps) h =
        both (domain_of root s) (own_weight s own + presence_weight s p + weight s g) (fields_weight s fs) (own_asks_on s own d ++ presence_asks_on s true p ++ asks_on root s g d) (fields_asks_on root s fs ps)
        (both (domain_of root s) (own_weight s own + presence_weight s p) (weight s g) (own_asks_on s own d ++ presence_asks_on s true p) (asks_on root s g d)
        (both (domain_of root s) (own_weight s own) (presence_weight s p) (own_asks_on s own d) (presence_asks_on s true p) (own_asked (domain_of root s) s own d h.0) (presence_asked (domain_of root s) s true p h.1)) (node_heard g d h.2))
        (fields_heard fs ps h.3)
    fields_heard (component n g p def own fs) (empty ps) h =
        more (domain_of root s) (presence_weight s p + fields_weight s fs) (fields_weight s (component n g p def own fs)) (presence_asks_on s false p ++ fields_asks_on root s fs ps) (omega arith)
        (both (domain_of root s) (presence_weight s p) (fields_weight s fs) (presence_asks_on s false p) (fields_asks_on root s fs ps) (presence_asked (domain_of root s) s false p h.0) (fields_heard fs ps h.1))
    fields_heard (component n g p def own fs) no_places h = more (domain_of root s) 0 _ [] (omega arith) nothing
    fields_heard (inserted n g slot fs) ps h = fields_heard fs ps h
    fields_heard no_fields ps h = nothing

    case_heard : (cases : Alternatives) (rule : ChoiceRule) (i : ℕ) (d : Data) → CaseSettled root s cases rule i d → Heard (chooser_weight s cases rule + cases_weight s cases) (alternative_asks_on root s cases rule i d)
    case_heard no_alternatives rule i d h = more (domain_of root s) 0 _ [] (omega arith) nothing
    case_heard (alternative n g ts more') rule zero d h =
        more (domain_of root s) (chooser_weight s (alternative n g ts more') rule + weight s g) _ (rule_asks_on root s rule n ts ++ asks_on root s g d) (omega arith)
        (both (domain_of root s) (chooser_weight s (alternative n g ts more') rule) (weight s g) (rule_asks_on root s rule n ts) (asks_on root s g d)
        (record { none = chooser_none rule more' n g ts; meets = λ l. h.0 }) (node_heard g d h.1))
    case_heard (alternative n g ts more') rule (suc i) d h =
        (let l = chooser_grows rule more' n g ts in more (domain_of root s) (chooser_weight s more' rule + cases_weight s more') _ (alternative_asks_on root s more' rule i d) (omega arith) (case_heard more' rule i d h))

pub one_use_is_meetable : OneUseIsMeetable
one_use_is_meetable root s g d x w h p = (node_heard root s x p g d h).meets w
