-- The moments of the whole walk that are of one field are the asks of one occurrence on one slot.
use Rattle.std.proofs.Common.{◌≡◌, ℕ, zero, suc, ◌≤◌, Bool, true, false, List, [], ◌∷◌, ◌++◌, Option, Some, None, refl, sym, ap, ◌∙◌, arith, nat_eq, ◌||◌, append_assoc, append-nil, subst, pos}
use Rattle.std.proofs.lemmas.Bool.{false_from_ne_true, or_parts, ne_eqb, eqb-true}
use Rattle.std.specs.Prelude.{map, unwrap_or, if◌then◌else◌, length}
use Rattle.std.specs.List.{flat_map}
use Rattle.std.proofs.lemmas.Grind.{flat_map-append}
use Rattle.acn_num.specs.Bits.{octets as octets_for}
use Rattle.acn_grammar.specs.Asks.{Ask, Equal, Avoid, Moment, counts, FieldPaths, field_of, field_steps, field_path, with_fields, asked, test_asks, presence_asks, size_asks, own_asks, rule_asks, run_moments, moments, form_moments, fields_moments, alternative_moments, same_name}
use Rattle.acn_grammar.specs.AsksOn.{on, test_ask_on, presence_asks_on, size_asks_on, own_asks_on, rule_asks_on, run_asks_on, asks_on, form_asks_on, fields_asks_on, alternative_asks_on}
use Rattle.acn_grammar.specs.Grammar.{Grammar, Form, Fields, Alternatives, Data, Places, Elements, node, num, octets, bits, text, seq, list, choice, contained, no_fields, component, inserted, no_alternatives, alternative, octet_string, bit_string, characters, record_of, list_of, alt, no_places, empty, filled, no_elements, element, element_count}
use Rattle.acn_grammar.specs.Length.{bit_length, number_of}
use Rattle.acn_grammar.specs.PartAt.{Occurrence, occurrence, part_at, field_part, alternative_part, element_part}
use Rattle.acn_grammar.specs.Refused.{of_field, asks_of}
use Rattle.acn_grammar.specs.Tree.{holds, near}
use Rattle.acn_grammar.specs.declared.node.Presence.{Presence}
use Rattle.acn_grammar.specs.declared.node.Presence.TheVariants.{Always, Bit, When}
use Rattle.acn_grammar.specs.declared.node.Test.{Test}
use Rattle.acn_grammar.specs.declared.node.Test.TheVariants.{Flag, Equals}
use Rattle.acn_grammar.specs.declared.node.SizeRule.{SizeRule}
use Rattle.acn_grammar.specs.declared.node.SizeRule.TheVariants.{Prefix, Slot, Ended}
use Rattle.acn_grammar.specs.declared.node.ChoiceRule.{ChoiceRule}
use Rattle.acn_grammar.specs.declared.node.ChoiceRule.TheVariants.{Index, Tests, Item}
use Rattle.acn_packet_laws.specs.Laws.{EachOccurrenceAsks}
use Rattle.acn_packet_laws.proofs.Homes.{truth}
use Rattle.acn_packet_laws.proofs.AskHomes.{form_slot, field_slot, node_slot, differs, field_leads, near_steps, FormNot, NodeNot, FieldsNot, CasesNot, FormHomes, NodeHomes, FieldsHomes, CasesHomes, tree_homes, if_yes, if_no, some_is}
use Rattle.acn_grammar.proofs.Characters.{same_name-is, same_name-refl}
use Rattle.acn_grammar.proofs.SlotLists.{same_eq}

-- Lists.

both : {A : Type 0} (a b c d : List A) → a ≡ b → c ≡ d → a ++ c ≡ b ++ d
both a b c d p q = cc

cancel : (p a b : List ℕ) → p ++ a ≡ p ++ b → a ≡ b
cancel [] a b e = e
cancel (x ∷ p) a b e = let h : p ++ a ≡ p ++ b = cc in cancel p a b h

differ : (a b : List ℕ) → (a ≡ b → ⊥) → same_name a b ≡ false
differ a b h = false_from_ne_true (same_name a b) (λ q. h (same_name-is a b q))

or_rest : (a b : Bool) → a ≡ false → (a || b) ≡ true → b ≡ true
or_rest true b e h = cc
or_rest false b e h = h

pub field_in : (v : ℕ → List ℕ) (home : List ℕ) (paths : FieldPaths) (t : ℕ) → holds home t ≡ true → field_of (map (λ s. (s, v s)) home ++ paths) t ≡ v t
field_in v [] paths t h = cc
field_in v (s ∷ home) paths t h = truth {F = field_of (map (λ s. (s, v s)) (s ∷ home) ++ paths) t ≡ v t} (nat_eq s t)
    (λ e. if_yes (nat_eq s t) (v s) (field_of (map (λ s. (s, v s)) home ++ paths) t) e ∙ ap v (eqb-true s t e))
    (λ e. if_no (nat_eq s t) (v s) (field_of (map (λ s. (s, v s)) home ++ paths) t) e ∙ field_in v home paths t (or_rest (nat_eq s t) (holds home t) e h))

pub field_out : (v : ℕ → List ℕ) (home : List ℕ) (paths : FieldPaths) (t : ℕ) → holds home t ≡ false → field_of (map (λ s. (s, v s)) home ++ paths) t ≡ field_of paths t
field_out v [] paths t h = refl
field_out v (s ∷ home) paths t h =
    let n = or_parts (nat_eq s t) (holds home t) h in
    if_no (nat_eq s t) (v s) (field_of (map (λ s. (s, v s)) home ++ paths) t) n.0 ∙ field_out v home paths t n.1

-- where the field of a slot at home is
pub record Told (fields : Fields) (t : ℕ) : Type 0 where
  pub m : ℕ
  pub q : List ℕ
  pub is : unwrap_or (field_steps fields 0 t) [] ≡ m ∷ q
  pub slot : field_slot fields 0 m q ≡ Some t

pub told : (fields : Fields) (t : ℕ) → holds (near fields) t ≡ true → Told fields t
told fields t h =
    let s = near_steps fields 0 t h in
    let l = field_leads fields 0 t s.0 s.1 in
    record { m = l.number; q = l.more; is = ap (λ o. unwrap_or o []) s.1 ∙ l.is; slot = l.slot }

slot_one : (o : Option ℕ) (s t : ℕ) → o ≡ Some s → o ≡ Some t → s ≡ t
slot_one o s t p q = some_is s t (sym p ∙ q)

abbrev form_of : Grammar → Form
form_of (node align form) = form

parts_one : (a b : ℕ) (x y : Form) (d e : Data) → Some (occurrence (node a x) d) ≡ Some (occurrence (node b y) e) → (x ≡ y) × (d ≡ e)
parts_one a b x y d e h =
    let u : Occurrence = occurrence (node a x) d in
    let v : Occurrence = occurrence (node b y) e in
    let p : u ≡ v = some_is u v h in
    (ap (λ (z : Occurrence). form_of z.0) p, ap (λ (z : Occurrence). z.1) p)

module _ (root : Grammar) (f : List ℕ) where
  split : (a b : List Moment) → asks_of f (a ++ b) ≡ asks_of f a ++ asks_of f b
  split a b = flat_map-append (of_field f) a b

  none_of : (a b : List Moment) → asks_of f a ≡ [] → asks_of f b ≡ [] → asks_of f (a ++ b) ≡ []
  none_of a b p q = split a b ∙ both (asks_of f a) [] (asks_of f b) [] p q

  -- no further path from here is the field's
  abbrev Off : List ℕ → Type 0
  Off p = (q : List ℕ) → p ++ q ≡ f → ⊥

  off_from : (p : List ℕ) (k : ℕ) → ((q : List ℕ) → p ++ k ∷ q ≡ f → ⊥) → Off (p ++ k ∷ [])
  off_from p k h q e = h q (sym (append_assoc p (k ∷ []) q) ∙ e)

  off_more : (p : List ℕ) → Off p → (k : ℕ) → Off (p ++ k ∷ [])
  off_more p off k = off_from p k (λ q e. off (k ∷ q) e)

  off_other : (p : List ℕ) (k m : ℕ) (rest : List ℕ) → f ≡ p ++ m ∷ rest → (k ≡ m → ⊥) → Off (p ++ k ∷ [])
  off_other p k m rest is apart = off_from p k (λ q e. apart (first_is k m q rest (cancel p (k ∷ q) (m ∷ rest) (e ∙ is))))
    where
      first_is : (k m : ℕ) (q r : List ℕ) → k ∷ q ≡ m ∷ r → k ≡ m
      first_is k m q r e = cc

  -- Where no slot has the field.

  abbrev Deaf : FieldPaths → Type 0
  Deaf paths = (t : ℕ) → same_name f (field_of paths t) ≡ false

  deaf_one : (paths : FieldPaths) → Deaf paths → (path : List ℕ) (t : ℕ) (a : Ask) → of_field f (asked paths path t a) ≡ []
  deaf_one paths h path t a = if_no (same_name f (field_of paths t)) (a ∷ []) [] (h t)

  deaf_ask : (paths : FieldPaths) → Deaf paths → (path : List ℕ) (t : ℕ) (a : Ask) → asks_of f (asked paths path t a ∷ []) ≡ []
  deaf_ask paths h path t a = both (of_field f (asked paths path t a)) [] [] [] (deaf_one paths h path t a) refl

  deaf_test : (paths : FieldPaths) → Deaf paths → (path : List ℕ) (there : Bool) (t : Test) → of_field f (test_asks paths path there t) ≡ []
  deaf_test paths h path true (Flag t) = deaf_one paths h path t (Equal (pos 1))
  deaf_test paths h path false (Flag t) = deaf_one paths h path t (Equal (pos 0))
  deaf_test paths h path true (Equals t k) = deaf_one paths h path t (Equal k)
  deaf_test paths h path false (Equals t k) = deaf_one paths h path t (Avoid k)

  deaf_tests : (paths : FieldPaths) → Deaf paths → (path : List ℕ) (there : Bool) (ts : List Test) → asks_of f (map (test_asks paths path there) ts) ≡ []
  deaf_tests paths h path there [] = refl
  deaf_tests paths h path there (t ∷ ts) = both (of_field f (test_asks paths path there t)) [] (asks_of f (map (test_asks paths path there) ts)) [] (deaf_test paths h path there t) (deaf_tests paths h path there ts)

  deaf_presence : (paths : FieldPaths) → Deaf paths → (path : List ℕ) (there : Bool) (presence : Presence) → asks_of f (presence_asks paths path there presence) ≡ []
  deaf_presence paths h path there Always = refl
  deaf_presence paths h path there Bit = refl
  deaf_presence paths h path there (When ts) = deaf_tests paths h path there ts

  deaf_size : (paths : FieldPaths) → Deaf paths → (path : List ℕ) (n : ℕ) (rule : SizeRule) → asks_of f (size_asks paths path n rule) ≡ []
  deaf_size paths h path n (Slot t) = deaf_ask paths h path t (Equal (pos n))
  deaf_size paths h path n (Prefix low width) = refl
  deaf_size paths h path n (Ended p) = refl

  deaf_own : (paths : FieldPaths) → Deaf paths → (path : List ℕ) (own : Option ℕ) (d : Data) → asks_of f (own_asks paths path own d) ≡ []
  deaf_own paths h path None d = refl
  deaf_own paths h path (Some t) d = deaf_ask paths h path t (Equal (number_of d))

  deaf_rule : (paths : FieldPaths) → Deaf paths → (path : List ℕ) (i : ℕ) (rule : ChoiceRule) (name : List ℕ) (tests : List Test) → asks_of f (rule_asks root paths path i rule name tests) ≡ []
  deaf_rule paths h path i (Item t) name tests = deaf_ask paths h path t _
  deaf_rule paths h path i (Index width) name tests = deaf_tests paths h (path ++ i ∷ []) true tests
  deaf_rule paths h path i Tests name tests = deaf_tests paths h (path ++ i ∷ []) true tests

  deaf_run : (each : ℕ → Data → List Moment) (k : ℕ) → ((j : ℕ) (d : Data) → k ≤ j → asks_of f (each j d) ≡ []) → (es : Elements) → asks_of f (run_moments each k es) ≡ []
  deaf_run each k h no_elements = refl
  deaf_run each k h (element d es) = none_of (each k d) (run_moments each (suc k) es) (h k d (omega arith)) (deaf_run each (suc k) (λ j e l. h j e (omega arith)) es)

  deaf_more : (p : List ℕ) (fields : Fields) (home : List ℕ) (paths : FieldPaths) → Deaf paths → ((t : ℕ) → holds home t ≡ true → f ≡ field_path p fields t → ⊥) → Deaf (with_fields p fields home paths)
  deaf_more p fields home paths h off t = truth {F = same_name f (field_of (with_fields p fields home paths) t) ≡ false} (holds home t)
      (λ e. ap (same_name f) (field_in (field_path p fields) home paths t e) ∙ differ f (field_path p fields t) (off t e))
      (λ e. ap (same_name f) (field_out (field_path p fields) home paths t e) ∙ h t)

  mutual
    deaf_node : (g : Grammar) (paths : FieldPaths) → Deaf paths → (p : List ℕ) → Off p → (d : Data) → asks_of f (moments root g paths p d) ≡ []
    deaf_node (node align form) paths h p off d = deaf_form form paths h p off d

    deaf_form : (form : Form) (paths : FieldPaths) → Deaf paths → (p : List ℕ) → Off p → (d : Data) → asks_of f (form_moments root form paths p d) ≡ []
    deaf_form (octets sizing) paths h p off (octet_string os) = deaf_size paths h p (length os) sizing.rule
    deaf_form (bits sizing) paths h p off (bit_string bs) = deaf_size paths h p (length bs) sizing.rule
    deaf_form (text leaf) paths h p off (characters cs) = deaf_size paths h p (length cs) leaf.sized.rule
    deaf_form (seq fields home) paths h p off (record_of ps) =
        deaf_fields fields (with_fields p fields home paths) (deaf_more p fields home paths h (λ t e i. off (unwrap_or (field_steps fields 0 t) []) (sym i))) p 0 (λ j l. off_more p off j) ps
    deaf_form (list sizing g) paths h p off (list_of es) =
        none_of (size_asks paths p (element_count es) sizing.rule) (run_moments (λ k d. moments root g paths (p ++ k ∷ []) d) 0 es) (deaf_size paths h p (element_count es) sizing.rule)
        (deaf_run (λ k d. moments root g paths (p ++ k ∷ []) d) 0 (λ j d l. deaf_node g paths h (p ++ j ∷ []) (off_more p off j) d) es)
    deaf_form (choice cases rule) paths h p off (alt i d) = deaf_case cases paths h rule p i i d (off_more p off i)
    deaf_form (contained sizing g) paths h p off d =
        none_of (moments root g paths (p ++ 0 ∷ []) d) (counts p (octets_for (bit_length g 0 d)) sizing ∷ size_asks paths p (octets_for (bit_length g 0 d)) sizing.rule)
        (deaf_node g paths h (p ++ 0 ∷ []) (off_more p off 0) d) (deaf_size paths h p (octets_for (bit_length g 0 d)) sizing.rule)
    deaf_form _ paths h p off d = refl

    deaf_fields : (fs : Fields) (paths : FieldPaths) → Deaf paths → (p : List ℕ) (k : ℕ) → ((j : ℕ) → k ≤ j → Off (p ++ j ∷ [])) → (ps : Places) → asks_of f (fields_moments root fs paths p k ps) ≡ []
    deaf_fields (component name g presence default own fs) paths h p k off (filled d ps) =
        let at = p ++ k ∷ [] in
        none_of (own_asks paths at own d ++ presence_asks paths at true presence ++ moments root g paths at d) (fields_moments root fs paths p (suc k) ps)
        (none_of (own_asks paths at own d ++ presence_asks paths at true presence) (moments root g paths at d)
        (none_of (own_asks paths at own d) (presence_asks paths at true presence) (deaf_own paths h (p ++ k ∷ []) own d) (deaf_presence paths h (p ++ k ∷ []) true presence))
        (deaf_node g paths h (p ++ k ∷ []) (off k (omega arith)) d))
        (deaf_fields fs paths h p (suc k) (λ j l. off j (omega arith)) ps)
    deaf_fields (component name g presence default own fs) paths h p k off (empty ps) =
        none_of (presence_asks paths (p ++ k ∷ []) false presence) (fields_moments root fs paths p (suc k) ps) (deaf_presence paths h (p ++ k ∷ []) false presence) (deaf_fields fs paths h p (suc k) (λ j l. off j (omega arith)) ps)
    deaf_fields (inserted name g slot fs) paths h p k off ps = deaf_fields fs paths h p (suc k) (λ j l. off j (omega arith)) ps
    deaf_fields _ paths h p k off ps = refl

    deaf_case : (cases : Alternatives) (paths : FieldPaths) → Deaf paths → (rule : ChoiceRule) (p : List ℕ) (i j : ℕ) (d : Data) → Off (p ++ i ∷ []) → asks_of f (alternative_moments root cases rule paths p i j d) ≡ []
    deaf_case (alternative name g tests more) paths h rule p i zero d off =
        none_of (rule_asks root paths p i rule name tests) (moments root g paths (p ++ i ∷ []) d) (deaf_rule paths h p i rule name tests) (deaf_node g paths h (p ++ i ∷ []) off d)
    deaf_case (alternative name g tests more) paths h rule p i (suc j) d off = deaf_case more paths h rule p i j d off
    deaf_case no_alternatives paths h rule p i j d off = refl

  -- Where the field is that of the slot s.
  module _ (s : ℕ) where
    abbrev Hears : FieldPaths → Type 0
    Hears paths = (t : ℕ) → same_name f (field_of paths t) ≡ nat_eq t s

    join : (a b : List Moment) (c e : List Ask) → asks_of f a ≡ c → asks_of f b ≡ e → asks_of f (a ++ b) ≡ c ++ e
    join a b c e p q = split a b ∙ both (asks_of f a) c (asks_of f b) e p q

    one : (paths : FieldPaths) → Hears paths → (path : List ℕ) (t : ℕ) (a : Ask) → of_field f (asked paths path t a) ≡ on s t a
    one paths h path t a = ap (λ b. if b then a ∷ [] else []) (h t)

    ask : (paths : FieldPaths) → Hears paths → (path : List ℕ) (t : ℕ) (a : Ask) → asks_of f (asked paths path t a ∷ []) ≡ on s t a
    ask paths h path t a = append-nil (of_field f (asked paths path t a)) ∙ one paths h path t a

    test : (paths : FieldPaths) → Hears paths → (path : List ℕ) (there : Bool) (t : Test) → of_field f (test_asks paths path there t) ≡ test_ask_on s there t
    test paths h path true (Flag t) = one paths h path t (Equal (pos 1))
    test paths h path false (Flag t) = one paths h path t (Equal (pos 0))
    test paths h path true (Equals t k) = one paths h path t (Equal k)
    test paths h path false (Equals t k) = one paths h path t (Avoid k)

    tests_on : (paths : FieldPaths) → Hears paths → (path : List ℕ) (there : Bool) (ts : List Test) → asks_of f (map (test_asks paths path there) ts) ≡ flat_map (test_ask_on s there) ts
    tests_on paths h path there [] = refl
    tests_on paths h path there (t ∷ ts) =
        both (of_field f (test_asks paths path there t)) (test_ask_on s there t) (asks_of f (map (test_asks paths path there) ts)) (flat_map (test_ask_on s there) ts) (test paths h path there t) (tests_on paths h path there ts)

    presence_on : (paths : FieldPaths) → Hears paths → (path : List ℕ) (there : Bool) (presence : Presence) → asks_of f (presence_asks paths path there presence) ≡ presence_asks_on s there presence
    presence_on paths h path there Always = refl
    presence_on paths h path there Bit = refl
    presence_on paths h path there (When ts) = tests_on paths h path there ts

    size_on : (paths : FieldPaths) → Hears paths → (path : List ℕ) (n : ℕ) (rule : SizeRule) → asks_of f (size_asks paths path n rule) ≡ size_asks_on s n rule
    size_on paths h path n (Slot t) = ask paths h path t (Equal (pos n))
    size_on paths h path n (Prefix low width) = refl
    size_on paths h path n (Ended p) = refl

    own_on : (paths : FieldPaths) → Hears paths → (path : List ℕ) (own : Option ℕ) (d : Data) → asks_of f (own_asks paths path own d) ≡ own_asks_on s own d
    own_on paths h path None d = refl
    own_on paths h path (Some t) d = ask paths h path t (Equal (number_of d))

    rule_on : (paths : FieldPaths) → Hears paths → (path : List ℕ) (i : ℕ) (rule : ChoiceRule) (name : List ℕ) (tests : List Test) → asks_of f (rule_asks root paths path i rule name tests) ≡ rule_asks_on root s rule name tests
    rule_on paths h path i (Item t) name tests = ask paths h path t _
    rule_on paths h path i (Index width) name tests = tests_on paths h (path ++ i ∷ []) true tests
    rule_on paths h path i Tests name tests = tests_on paths h (path ++ i ∷ []) true tests

    run_on : (each : ℕ → Data → List Moment) (wants : Data → List Ask) → ((k : ℕ) (d : Data) → asks_of f (each k d) ≡ wants d) → (k : ℕ) (es : Elements) → asks_of f (run_moments each k es) ≡ run_asks_on wants es
    run_on each wants h k no_elements = refl
    run_on each wants h k (element d es) = join (each k d) (run_moments each (suc k) es) (wants d) (run_asks_on wants es) (h k d) (run_on each wants h (suc k) es)

    -- a further path that is the field's leads through SEQUENCEs to the field of s
    abbrev OnlyForm : Form → List ℕ → Type 0
    OnlyForm form p = (m : ℕ) (q : List ℕ) → p ++ m ∷ q ≡ f → form_slot form m q ≡ Some s

    abbrev OnlyFields : Fields → List ℕ → ℕ → Type 0
    OnlyFields fs p k = (m : ℕ) (q : List ℕ) → k ≤ m → p ++ m ∷ q ≡ f → field_slot fs k m q ≡ Some s

    never : (form : Form) (p : List ℕ) → Off p → OnlyForm form p
    never form p off m q e = absurd (off (m ∷ q) e)

    hears_more : (fields : Fields) (home : List ℕ) → ((t : ℕ) → holds home t ≡ true → (holds (near fields) t ≡ true) × FieldsNot t fields) → holds home s ≡ false → (paths : FieldPaths) → Hears paths → (p : List ℕ) → OnlyForm (seq fields home) p → Hears (with_fields p fields home paths)
    hears_more fields home homes none paths h p only t = truth {F = same_name f (field_of (with_fields p fields home paths) t) ≡ nat_eq t s} (holds home t)
        (λ e.
        let apart : t ≡ s → ⊥ = λ i. (let r = ap (holds home) (sym i) ∙ e in cc) in
        let w = told fields t (homes t e).0 in
        ap (same_name f) (field_in (field_path p fields) home paths t e) ∙ (differ f (field_path p fields t) (λ i. apart (slot_one (field_slot fields 0 w.m w.q) t s w.slot (only w.m w.q (sym (i ∙ ap (λ z. p ++ z) w.is))))) ∙ sym (ne_eqb t s apart)))
        (λ e. ap (same_name f) (field_out (field_path p fields) home paths t e) ∙ h t)

    behind_it : (name : List ℕ) (g : Grammar) (slot : Option ℕ) (fs : Fields) (p : List ℕ) (k m : ℕ) (q : List ℕ) → suc k ≤ m → field_slot (inserted name g slot fs) k m q ≡ Some s → field_slot fs (suc k) m q ≡ Some s
    behind_it name g slot fs p k m [] l e = sym (if_no (nat_eq m k) slot (field_slot fs (suc k) m []) (differs m k l)) ∙ e
    behind_it name g slot fs p k m (j ∷ q) l e = sym (if_no (nat_eq m k) None (field_slot fs (suc k) m (j ∷ q)) (differs m k l)) ∙ e

    mutual
      pub ask_form : (form : Form) → FormHomes form → FormNot s form → (paths : FieldPaths) → Hears paths → (p : List ℕ) → OnlyForm form p → (d : Data) → asks_of f (form_moments root form paths p d) ≡ form_asks_on root s form d
      ask_form (octets sizing) homes none paths h p only (octet_string os) = size_on paths h p (length os) sizing.rule
      ask_form (bits sizing) homes none paths h p only (bit_string bs) = size_on paths h p (length bs) sizing.rule
      ask_form (text leaf) homes none paths h p only (characters cs) = size_on paths h p (length cs) leaf.sized.rule
      ask_form (seq fields home) homes none paths h p only (record_of ps) =
          ask_fields fields homes.1 none.1 (with_fields p fields home paths) (hears_more fields home homes.0 none.0 paths h p only) p 0 (λ m q l e. only m q e) ps
      ask_form (list sizing g) homes none paths h p only (list_of es) =
          join (size_asks paths p (element_count es) sizing.rule) (run_moments (λ k d. moments root g paths (p ++ k ∷ []) d) 0 es) (size_asks_on s (element_count es) sizing.rule) (run_asks_on (asks_on root s g) es)
          (size_on paths h p (element_count es) sizing.rule)
          (run_on (λ k d. moments root g paths (p ++ k ∷ []) d) (asks_on root s g) (λ k d. ask_node g homes none paths h (p ++ k ∷ []) (off_from p k (λ q e. let x = only k q e in cc)) d) 0 es)
      ask_form (choice cases rule) homes none paths h p only (alt i d) = ask_case cases homes none paths h rule p i i d (off_from p i (λ q e. let x = only i q e in cc))
      ask_form (contained sizing g) homes none paths h p only d =
          let n = octets_for (bit_length g 0 d) in
          join (moments root g paths (p ++ 0 ∷ []) d) (counts p n sizing ∷ size_asks paths p n sizing.rule) (asks_on root s g d) (size_asks_on s n sizing.rule)
          (ask_node g homes none paths h (p ++ 0 ∷ []) (off_from p 0 (λ q e. let x = only 0 q e in cc)) d) (size_on paths h p (octets_for (bit_length g 0 d)) sizing.rule)
      ask_form _ homes none paths h p only d = refl

      -- a node that the field isn't in
      pub ask_node : (g : Grammar) → NodeHomes g → NodeNot s g → (paths : FieldPaths) → Hears paths → (p : List ℕ) → Off p → (d : Data) → asks_of f (moments root g paths p d) ≡ asks_on root s g d
      ask_node (node align form) homes none paths h p off d = ask_form form homes none paths h p (never form p off) d

      pub ask_fields : (fs : Fields) → FieldsHomes fs → FieldsNot s fs → (paths : FieldPaths) → Hears paths → (p : List ℕ) (k : ℕ) → OnlyFields fs p k → (ps : Places) → asks_of f (fields_moments root fs paths p k ps) ≡ fields_asks_on root s fs ps
      ask_fields (component name (node align form) presence default own fs) homes none paths h p k only (filled d ps) =
          let at = p ++ k ∷ [] in
          join (own_asks paths at own d ++ presence_asks paths at true presence ++ form_moments root form paths at d) (fields_moments root fs paths p (suc k) ps)
          (own_asks_on s own d ++ presence_asks_on s true presence ++ form_asks_on root s form d) (fields_asks_on root s fs ps)
          (join (own_asks paths at own d ++ presence_asks paths at true presence) (form_moments root form paths at d) (own_asks_on s own d ++ presence_asks_on s true presence) (form_asks_on root s form d)
          (join (own_asks paths at own d) (presence_asks paths at true presence) (own_asks_on s own d) (presence_asks_on s true presence) (own_on paths h (p ++ k ∷ []) own d) (presence_on paths h (p ++ k ∷ []) true presence))
          (ask_form form homes.0 none.0 paths h (p ++ k ∷ []) (λ j q e.
          sym (if_yes (nat_eq k k) (form_slot form j q) (field_slot fs (suc k) k (j ∷ q)) (same_eq k)) ∙ only k (j ∷ q) (omega arith) (sym (append_assoc p (k ∷ []) (j ∷ q)) ∙ e)) d))
          (ask_fields fs homes.1 none.1 paths h p (suc k) (λ m q l e. sym (if_no (nat_eq m k) (node_slot (node align form) own q) (field_slot fs (suc k) m q) (differs m k l)) ∙ only m q (omega arith) e) ps)
      ask_fields (component name g presence default own fs) homes none paths h p k only (empty ps) =
          join (presence_asks paths (p ++ k ∷ []) false presence) (fields_moments root fs paths p (suc k) ps) (presence_asks_on s false presence) (fields_asks_on root s fs ps) (presence_on paths h (p ++ k ∷ []) false presence)
          (ask_fields fs homes.1 none.1 paths h p (suc k) (λ m q l e. sym (if_no (nat_eq m k) (node_slot g own q) (field_slot fs (suc k) m q) (differs m k l)) ∙ only m q (omega arith) e) ps)
      ask_fields (inserted name g slot fs) homes none paths h p k only ps =
          ask_fields fs homes none paths h p (suc k) (λ m q l e. behind_it name g slot fs p k m q l (only m q (omega arith) e)) ps
      ask_fields _ homes none paths h p k only ps = refl

      pub ask_case : (cases : Alternatives) → CasesHomes cases → CasesNot s cases → (paths : FieldPaths) → Hears paths → (rule : ChoiceRule) (p : List ℕ) (i j : ℕ) (d : Data) → Off (p ++ i ∷ []) → asks_of f (alternative_moments root cases rule paths p i j d) ≡ alternative_asks_on root s cases rule j d
      ask_case (alternative name g tests more) homes none paths h rule p i zero d off =
          join (rule_asks root paths p i rule name tests) (moments root g paths (p ++ i ∷ []) d) (rule_asks_on root s rule name tests) (asks_on root s g d) (rule_on paths h p i rule name tests) (ask_node g homes.0 none.0 paths h (p ++ i ∷ []) off d)
      ask_case (alternative name g tests more) homes none paths h rule p i (suc j) d off = ask_case more homes.1 none.1 paths h rule p i j d off
      ask_case no_alternatives homes none paths h rule p i j d off = refl

    -- The walk to the occurrence, a SEQUENCE at whose home the slot is.
    module _ (align0 : ℕ) (fields0 : Fields) (home0 : List ℕ) (part0 : Data) (mine : holds home0 s ≡ true) (where0 : Told fields0 s) where
      abbrev steps0 : List ℕ
      steps0 = where0.m ∷ where0.q

      abbrev target : Occurrence
      target = (node align0 (seq fields0 home0), part0)

      abbrev wants : List Ask
      wants = form_asks_on root s (seq fields0 home0) part0

      pub start : (paths : FieldPaths) → Deaf paths → (p : List ℕ) → f ≡ p ++ steps0 → FormHomes (seq fields0 home0) → (d : Data) → asks_of f (form_moments root (seq fields0 home0) paths p d) ≡ form_asks_on root s (seq fields0 home0) d
      start paths deaf p is homes (record_of ps) =
          ask_fields fields0 homes.1 (homes.0 s mine).1 (with_fields p fields0 home0 paths) hears p 0 (λ m q l e. led m q e) ps
        where
          led : (m : ℕ) (q : List ℕ) → p ++ m ∷ q ≡ f → field_slot fields0 0 m q ≡ Some s
          led m q e = at_steps m q (cancel p (m ∷ q) steps0 (e ∙ is))
            where
              at_steps : (m : ℕ) (q : List ℕ) → m ∷ q ≡ where0.m ∷ where0.q → field_slot fields0 0 m q ≡ Some s
              at_steps m q i =
                  let a : m ≡ where0.m = cc in
                  let b : q ≡ where0.q = cc in
                  rw (a, b) where0.slot

          hears : Hears (with_fields p fields0 home0 paths)
          hears t = truth {F = same_name f (field_of (with_fields p fields0 home0 paths) t) ≡ nat_eq t s} (holds home0 t)
              (λ e. ap (same_name f) (field_in (field_path p fields0) home0 paths t e) ∙ truth {F = same_name f (field_path p fields0 t) ≡ nat_eq t s} (nat_eq t s)
              (λ y. let same = eqb-true t s y in ap (λ z. same_name f (field_path p fields0 z)) same ∙ (ap (λ z. same_name f (p ++ z)) where0.is ∙ (ap (same_name f) (sym is) ∙ (same_name-refl f ∙ sym y))))
              (λ n. let w = told fields0 t (homes.0 t e).0 in differ f (field_path p fields0 t) (λ i. let r = slot_one (field_slot fields0 0 w.m w.q) t s w.slot (led w.m w.q (sym (i ∙ ap (λ z. p ++ z) w.is))) in let y = ap (λ z. nat_eq z s) r ∙ same_eq s in cc) ∙ sym n))
              (λ e. ap (same_name f) (field_out (field_path p fields0) home0 paths t e) ∙ (deaf t ∙ sym (ne_eqb t s (λ i. let r = ap (holds home0) i ∙ mine in cc))))
      start paths deaf p is homes _ = refl

      form_is : (align : ℕ) (form : Form) (d : Data) → Some (occurrence (node align form) d) ≡ Some target → (form ≡ seq fields0 home0) × (d ≡ part0)
      form_is align form d e = parts_one align align0 form (seq fields0 home0) d part0 e

      -- what is at home round the occurrence isn't at home in it, so its field is another
      mutual
        clash_form : (t : ℕ) (align : ℕ) (form : Form) → FormNot t form → (d : Data) (r : List ℕ) → part_at (node align form) d r ≡ Some target → node_slot (node align form) None (r ++ steps0) ≡ Some t → ⊥
        clash_form t align form none d [] e l =
            let i = (form_is align form d e).0 in
            let n : FormNot t (seq fields0 home0) = subst (λ z. FormNot t z) i none in
            let j : form_slot (seq fields0 home0) where0.m where0.q ≡ Some t = ap (λ z. form_slot z where0.m where0.q) (sym i) ∙ l in
            let same = slot_one (field_slot fields0 0 where0.m where0.q) t s j where0.slot in
            let no = n.0 in
            let yes' = ap (holds home0) same ∙ mine in
            cc
        clash_form t align (seq fields home) none (record_of ps) (m ∷ r) e l = clash_fields t fields none.1 0 ps m r e l
        clash_form t align (seq fields home) none _ (m ∷ r) e l = cc
        clash_form t align (num leaf) none d (m ∷ r) e l = cc
        clash_form t align (octets sizing) none d (m ∷ r) e l = cc
        clash_form t align (bits sizing) none d (m ∷ r) e l = cc
        clash_form t align (text leaf) none d (m ∷ r) e l = cc
        clash_form t align (list sizing g) none d (m ∷ r) e l = cc
        clash_form t align (choice cases rule) none d (m ∷ r) e l = cc
        clash_form t align (contained sizing g) none d (m ∷ r) e l = cc

        clash_fields : (t : ℕ) (fs : Fields) → FieldsNot t fs → (k : ℕ) (ps : Places) (m : ℕ) (r : List ℕ) → field_part fs k ps m r ≡ Some target → field_slot fs k m (r ++ steps0) ≡ Some t → ⊥
        clash_fields t (component name (node align form) presence default own fs) none k (filled d ps) m r e l = truth {F = ⊥} (nat_eq m k)
            (λ y. clash_form t align form none.0 d r (sym (if_yes (nat_eq m k) (part_at (node align form) d r) (field_part fs (suc k) ps m r) y) ∙ e) (no_own align form own r (sym (if_yes (nat_eq m k) (node_slot (node align form) own (r ++ steps0)) (field_slot fs (suc k) m (r ++ steps0)) y) ∙ l)))
            (λ n. clash_fields t fs none.1 (suc k) ps m r (sym (if_no (nat_eq m k) (part_at (node align form) d r) (field_part fs (suc k) ps m r) n) ∙ e) (sym (if_no (nat_eq m k) (node_slot (node align form) own (r ++ steps0)) (field_slot fs (suc k) m (r ++ steps0)) n) ∙ l))
          where
            no_own : (align : ℕ) (form : Form) (own : Option ℕ) (r : List ℕ) → node_slot (node align form) own (r ++ steps0) ≡ Some t → node_slot (node align form) None (r ++ steps0) ≡ Some t
            no_own align form own [] h = h
            no_own align form own (j ∷ r) h = h
        clash_fields t (component name g presence default own fs) none k (empty ps) m r e l = truth {F = ⊥} (nat_eq m k)
            (λ y. let x = sym (if_yes (nat_eq m k) None (field_part fs (suc k) ps m r) y) ∙ e in cc)
            (λ n. clash_fields t fs none.1 (suc k) ps m r (sym (if_no (nat_eq m k) None (field_part fs (suc k) ps m r) n) ∙ e) (sym (if_no (nat_eq m k) (node_slot g own (r ++ steps0)) (field_slot fs (suc k) m (r ++ steps0)) n) ∙ l))
        clash_fields t (inserted name g slot fs) none k ps m [] e l = truth {F = ⊥} (nat_eq m k)
            (λ y. let x = sym (if_yes (nat_eq m k) None (field_part fs (suc k) ps m []) y) ∙ e in cc)
            (λ n. clash_fields t fs none (suc k) ps m [] (sym (if_no (nat_eq m k) None (field_part fs (suc k) ps m []) n) ∙ e) (sym (if_no (nat_eq m k) None (field_slot fs (suc k) m steps0) n) ∙ l))
        clash_fields t (inserted name g slot fs) none k ps m (j ∷ r) e l = truth {F = ⊥} (nat_eq m k)
            (λ y. let x = sym (if_yes (nat_eq m k) None (field_part fs (suc k) ps m (j ∷ r)) y) ∙ e in cc)
            (λ n. clash_fields t fs none (suc k) ps m (j ∷ r) (sym (if_no (nat_eq m k) None (field_part fs (suc k) ps m (j ∷ r)) n) ∙ e) (sym (if_no (nat_eq m k) None (field_slot fs (suc k) m ((j ∷ r) ++ steps0)) n) ∙ l))
        clash_fields t no_fields none k ps m r e l = cc
        clash_fields t (component name g presence default own fs) none k no_places m r e l = cc

      three : (a b c e : List Moment) (x : List Ask) → asks_of f a ≡ [] → asks_of f b ≡ [] → asks_of f c ≡ x → asks_of f e ≡ [] → asks_of f (a ++ b ++ c ++ e) ≡ x
      three a b c e x p q r u = join (a ++ b ++ c) e x [] (join (a ++ b) c [] x (none_of a b p q) r) u ∙ append-nil x

      apart_by : (m k : ℕ) → nat_eq m k ≡ false → k ≡ m → ⊥
      apart_by m k n i = let y = ap (λ z. nat_eq m z) i ∙ same_eq m in cc

      after_it : (m k j : ℕ) → nat_eq m k ≡ true → suc k ≤ j → j ≡ m → ⊥
      after_it m k j y l i = let e = eqb-true m k y in absurd (omega arith)

      deeper : (p : List ℕ) (k m : ℕ) (rest : List ℕ) → nat_eq m k ≡ true → f ≡ p ++ m ∷ rest → f ≡ (p ++ k ∷ []) ++ rest
      deeper p k m rest y is = is ∙ (ap (λ z. p ++ z ∷ rest) (eqb-true m k y) ∙ sym (append_assoc p (k ∷ []) rest))

      reach_run : (each : ℕ → Data → List Moment) (find : Data → Option Occurrence) (m : ℕ) → ((j : ℕ) (d : Data) → (j ≡ m → ⊥) → asks_of f (each j d) ≡ []) → ((j : ℕ) (d : Data) → nat_eq m j ≡ true → find d ≡ Some target → asks_of f (each j d) ≡ wants)
          → (k : ℕ) (es : Elements) → element_part find k es m ≡ Some target → asks_of f (run_moments each k es) ≡ wants
      reach_run each find m off there k no_elements e = cc
      reach_run each find m off there k (element d es) e = truth {F = asks_of f (run_moments each k (element d es)) ≡ wants} (nat_eq m k)
          (λ y. join (each k d) (run_moments each (suc k) es) wants [] (there k d y (sym (if_yes (nat_eq m k) (find d) (element_part find (suc k) es m) y) ∙ e)) (deaf_run each (suc k) (λ j d' l. off j d' (after_it m k j y l)) es) ∙ append-nil wants)
          (λ n. join (each k d) (run_moments each (suc k) es) [] wants (off k d (apart_by m k n)) (reach_run each find m off there (suc k) es (sym (if_no (nat_eq m k) (find d) (element_part find (suc k) es m) n) ∙ e)))

      mutual
        pub reach : (g : Grammar) → NodeHomes g → (paths : FieldPaths) → Deaf paths → (p : List ℕ) (d : Data) (r : List ℕ) → f ≡ p ++ (r ++ steps0) → part_at g d r ≡ Some target → asks_of f (moments root g paths p d) ≡ wants
        reach (node align form) homes paths deaf p d [] is e =
            let i = form_is align form d e in
            subst (λ z. asks_of f (form_moments root z paths p d) ≡ wants) (sym i.0) (subst (λ z. asks_of f (form_moments root (seq fields0 home0) paths p z) ≡ wants) (sym i.1) (start paths deaf p is (subst (λ z. FormHomes z) i.0 homes) part0))
        reach (node align (seq fields home)) homes paths deaf p (record_of ps) (m ∷ r) is e =
            reach_fields fields homes.1 (with_fields p fields home paths)
            (deaf_more p fields home paths deaf (λ t h i.
            let w = told fields t (homes.0 t h).0 in
            clash_fields t fields (homes.0 t h).1 0 ps m r e (moved fields t w.m w.q m (r ++ steps0) w.slot (cancel p (w.m ∷ w.q) (m ∷ (r ++ steps0)) (sym (i ∙ ap (λ z. p ++ z) w.is) ∙ is)))))
            p 0 ps m r is e
          where
            moved : (fields : Fields) (t a : ℕ) (q : List ℕ) (b : ℕ) (rest : List ℕ) → field_slot fields 0 a q ≡ Some t → a ∷ q ≡ b ∷ rest → field_slot fields 0 b rest ≡ Some t
            moved fields t a q b rest h i =
                let x : b ≡ a = cc in
                let y : rest ≡ q = cc in
                rw (x, y) h
        reach (node align (seq fields home)) homes paths deaf p _ (m ∷ r) is e = cc
        reach (node align (list sizing g)) homes paths deaf p (list_of es) (m ∷ r) is e =
            join (size_asks paths p (element_count es) sizing.rule) (run_moments (λ k d. moments root g paths (p ++ k ∷ []) d) 0 es) [] wants (deaf_size paths deaf p (element_count es) sizing.rule)
            (reach_run (λ k d. moments root g paths (p ++ k ∷ []) d) (λ d. part_at g d r) m
            (λ j d a. deaf_node g paths deaf (p ++ j ∷ []) (off_other p j m (r ++ steps0) is a) d)
            (λ j d y i. reach g homes paths deaf (p ++ j ∷ []) d r (deeper p j m (r ++ steps0) y is) i) 0 es e)
        reach (node align (list sizing g)) homes paths deaf p _ (m ∷ r) is e = cc
        reach (node align (choice cases rule)) homes paths deaf p (alt i d) (m ∷ r) is e = truth {F = asks_of f (form_moments root (choice cases rule) paths p (alt i d)) ≡ wants} (nat_eq m i)
            (λ y. reach_case cases homes paths deaf rule p i i d r (deeper p i m (r ++ steps0) y is) (sym (if_yes (nat_eq m i) (alternative_part cases i d r) None y) ∙ e))
            (λ n. let x = sym (if_no (nat_eq m i) (alternative_part cases i d r) None n) ∙ e in cc)
        reach (node align (choice cases rule)) homes paths deaf p _ (m ∷ r) is e = cc
        reach (node align (contained sizing g)) homes paths deaf p d (m ∷ r) is e = truth {F = asks_of f (form_moments root (contained sizing g) paths p d) ≡ wants} (nat_eq m 0)
            (λ y.
            join (moments root g paths (p ++ 0 ∷ []) d) (counts p (octets_for (bit_length g 0 d)) sizing ∷ size_asks paths p (octets_for (bit_length g 0 d)) sizing.rule) wants []
            (reach g homes paths deaf (p ++ 0 ∷ []) d r (deeper p 0 m (r ++ steps0) y is) (sym (if_yes (nat_eq m 0) (part_at g d r) None y) ∙ e))
            (deaf_size paths deaf p (octets_for (bit_length g 0 d)) sizing.rule) ∙ append-nil wants)
            (λ n. let x = sym (if_no (nat_eq m 0) (part_at g d r) None n) ∙ e in cc)
        reach (node align (num leaf)) homes paths deaf p d (m ∷ r) is e = cc
        reach (node align (octets sizing)) homes paths deaf p d (m ∷ r) is e = cc
        reach (node align (bits sizing)) homes paths deaf p d (m ∷ r) is e = cc
        reach (node align (text leaf)) homes paths deaf p d (m ∷ r) is e = cc

        reach_fields : (fs : Fields) → FieldsHomes fs → (paths : FieldPaths) → Deaf paths → (p : List ℕ) (k : ℕ) (ps : Places) (m : ℕ) (r : List ℕ) → f ≡ p ++ m ∷ (r ++ steps0) → field_part fs k ps m r ≡ Some target → asks_of f (fields_moments root fs paths p k ps) ≡ wants
        reach_fields no_fields homes paths deaf p k ps m r is e = cc
        reach_fields (component name g presence default own fs) homes paths deaf p k (filled d ps) m r is e =
            truth {F = asks_of f (fields_moments root (component name g presence default own fs) paths p k (filled d ps)) ≡ wants} (nat_eq m k)
            (λ y.
            three (own_asks paths (p ++ k ∷ []) own d) (presence_asks paths (p ++ k ∷ []) true presence) (moments root g paths (p ++ k ∷ []) d) (fields_moments root fs paths p (suc k) ps) wants
            (deaf_own paths deaf (p ++ k ∷ []) own d) (deaf_presence paths deaf (p ++ k ∷ []) true presence)
            (reach g homes.0 paths deaf (p ++ k ∷ []) d r (deeper p k m (r ++ steps0) y is) (sym (if_yes (nat_eq m k) (part_at g d r) (field_part fs (suc k) ps m r) y) ∙ e))
            (deaf_fields fs paths deaf p (suc k) (λ j l. off_other p j m (r ++ steps0) is (after_it m k j y l)) ps))
            (λ n.
            join (own_asks paths (p ++ k ∷ []) own d ++ presence_asks paths (p ++ k ∷ []) true presence ++ moments root g paths (p ++ k ∷ []) d) (fields_moments root fs paths p (suc k) ps) [] wants
            (none_of (own_asks paths (p ++ k ∷ []) own d ++ presence_asks paths (p ++ k ∷ []) true presence) (moments root g paths (p ++ k ∷ []) d)
            (none_of (own_asks paths (p ++ k ∷ []) own d) (presence_asks paths (p ++ k ∷ []) true presence) (deaf_own paths deaf (p ++ k ∷ []) own d) (deaf_presence paths deaf (p ++ k ∷ []) true presence))
            (deaf_node g paths deaf (p ++ k ∷ []) (off_other p k m (r ++ steps0) is (apart_by m k n)) d))
            (reach_fields fs homes.1 paths deaf p (suc k) ps m r is (sym (if_no (nat_eq m k) (part_at g d r) (field_part fs (suc k) ps m r) n) ∙ e)))
        reach_fields (component name g presence default own fs) homes paths deaf p k (empty ps) m r is e =
            truth {F = asks_of f (fields_moments root (component name g presence default own fs) paths p k (empty ps)) ≡ wants} (nat_eq m k)
            (λ y. let x = sym (if_yes (nat_eq m k) None (field_part fs (suc k) ps m r) y) ∙ e in cc)
            (λ n.
            join (presence_asks paths (p ++ k ∷ []) false presence) (fields_moments root fs paths p (suc k) ps) [] wants (deaf_presence paths deaf (p ++ k ∷ []) false presence)
            (reach_fields fs homes.1 paths deaf p (suc k) ps m r is (sym (if_no (nat_eq m k) None (field_part fs (suc k) ps m r) n) ∙ e)))
        reach_fields (component name g presence default own fs) homes paths deaf p k no_places m r is e = cc
        reach_fields (inserted name g slot fs) homes paths deaf p k ps m r is e =
            truth {F = asks_of f (fields_moments root (inserted name g slot fs) paths p k ps) ≡ wants} (nat_eq m k)
            (λ y. let x = sym (if_yes (nat_eq m k) None (field_part fs (suc k) ps m r) y) ∙ e in cc)
            (λ n. reach_fields fs homes paths deaf p (suc k) ps m r is (sym (if_no (nat_eq m k) None (field_part fs (suc k) ps m r) n) ∙ e))

        reach_case : (cases : Alternatives) → CasesHomes cases → (paths : FieldPaths) → Deaf paths → (rule : ChoiceRule) (p : List ℕ) (i j : ℕ) (d : Data) (r : List ℕ) → f ≡ (p ++ i ∷ []) ++ (r ++ steps0) → alternative_part cases j d r ≡ Some target → asks_of f (alternative_moments root cases rule paths p i j d) ≡ wants
        reach_case (alternative name g tests more) homes paths deaf rule p i zero d r is e =
            join (rule_asks root paths p i rule name tests) (moments root g paths (p ++ i ∷ []) d) [] wants (deaf_rule paths deaf p i rule name tests) (reach g homes.0 paths deaf (p ++ i ∷ []) d r is e)
        reach_case (alternative name g tests more) homes paths deaf rule p i (suc j) d r is e = reach_case more homes.1 paths deaf rule p i j d r is e
        reach_case no_alternatives homes paths deaf rule p i j d r is e = cc

-- The homes at a path.

homes_run : (find : Data → Option Occurrence) (h : Grammar) (e : Data) → ((d : Data) → find d ≡ Some (occurrence h e) → NodeHomes h) → (k : ℕ) (es : Elements) (m : ℕ) → element_part find k es m ≡ Some (occurrence h e) → NodeHomes h
homes_run find h e each k no_elements m i = cc
homes_run find h e each k (element d es) m i = truth {F = NodeHomes h} (nat_eq m k)
    (λ y. each d (sym (if_yes (nat_eq m k) (find d) (element_part find (suc k) es m) y) ∙ i))
    (λ n. homes_run find h e each (suc k) es m (sym (if_no (nat_eq m k) (find d) (element_part find (suc k) es m) n) ∙ i))

mutual
  pub homes_at : (g : Grammar) → NodeHomes g → (d : Data) (r : List ℕ) (h : Grammar) (e : Data) → part_at g d r ≡ Some (occurrence h e) → NodeHomes h
  homes_at (node align form) homes d [] h e i =
      let u : Occurrence = occurrence (node align form) d in
      let v : Occurrence = occurrence h e in
      let p : u ≡ v = some_is u v i in
      subst (λ z. NodeHomes z) (ap (λ (z : Occurrence). z.0) p) homes
  homes_at (node align (seq fields home)) homes (record_of ps) (m ∷ r) h e i = homes_fields fields homes.1 0 ps m r h e i
  homes_at (node align (seq fields home)) homes _ (m ∷ r) h e i = cc
  homes_at (node align (list sizing g)) homes (list_of es) (m ∷ r) h e i = homes_run (λ d. part_at g d r) h e (λ d j. homes_at g homes d r h e j) 0 es m i
  homes_at (node align (list sizing g)) homes _ (m ∷ r) h e i = cc
  homes_at (node align (choice cases rule)) homes (alt n d) (m ∷ r) h e i = truth {F = NodeHomes h} (nat_eq m n)
      (λ y. homes_case cases homes n d r h e (sym (if_yes (nat_eq m n) (alternative_part cases n d r) None y) ∙ i))
      (λ o. let x = sym (if_no (nat_eq m n) (alternative_part cases n d r) None o) ∙ i in cc)
  homes_at (node align (choice cases rule)) homes _ (m ∷ r) h e i = cc
  homes_at (node align (contained sizing g)) homes d (m ∷ r) h e i = truth {F = NodeHomes h} (nat_eq m 0)
      (λ y. homes_at g homes d r h e (sym (if_yes (nat_eq m 0) (part_at g d r) None y) ∙ i))
      (λ o. let x = sym (if_no (nat_eq m 0) (part_at g d r) None o) ∙ i in cc)
  homes_at (node align (num leaf)) homes d (m ∷ r) h e i = cc
  homes_at (node align (octets sizing)) homes d (m ∷ r) h e i = cc
  homes_at (node align (bits sizing)) homes d (m ∷ r) h e i = cc
  homes_at (node align (text leaf)) homes d (m ∷ r) h e i = cc

  homes_fields : (fs : Fields) → FieldsHomes fs → (k : ℕ) (ps : Places) (m : ℕ) (r : List ℕ) (h : Grammar) (e : Data) → field_part fs k ps m r ≡ Some (occurrence h e) → NodeHomes h
  homes_fields no_fields homes k ps m r h e i = cc
  homes_fields (component name g presence default own fs) homes k (filled d ps) m r h e i = truth {F = NodeHomes h} (nat_eq m k)
      (λ y. homes_at g homes.0 d r h e (sym (if_yes (nat_eq m k) (part_at g d r) (field_part fs (suc k) ps m r) y) ∙ i))
      (λ n. homes_fields fs homes.1 (suc k) ps m r h e (sym (if_no (nat_eq m k) (part_at g d r) (field_part fs (suc k) ps m r) n) ∙ i))
  homes_fields (component name g presence default own fs) homes k (empty ps) m r h e i = truth {F = NodeHomes h} (nat_eq m k)
      (λ y. let x = sym (if_yes (nat_eq m k) None (field_part fs (suc k) ps m r) y) ∙ i in cc)
      (λ n. homes_fields fs homes.1 (suc k) ps m r h e (sym (if_no (nat_eq m k) None (field_part fs (suc k) ps m r) n) ∙ i))
  homes_fields (component name g presence default own fs) homes k no_places m r h e i = cc
  homes_fields (inserted name g slot fs) homes k ps m r h e i = truth {F = NodeHomes h} (nat_eq m k)
      (λ y. let x = sym (if_yes (nat_eq m k) None (field_part fs (suc k) ps m r) y) ∙ i in cc)
      (λ n. homes_fields fs homes (suc k) ps m r h e (sym (if_no (nat_eq m k) None (field_part fs (suc k) ps m r) n) ∙ i))

  homes_case : (cases : Alternatives) → CasesHomes cases → (n : ℕ) (d : Data) (r : List ℕ) (h : Grammar) (e : Data) → alternative_part cases n d r ≡ Some (occurrence h e) → NodeHomes h
  homes_case (alternative name g tests more) homes zero d r h e i = homes_at g homes.0 d r h e i
  homes_case (alternative name g tests more) homes (suc n) d r h e i = homes_case more homes.1 n d r h e i
  homes_case no_alternatives homes n d r h e i = cc

some_path : (path : List ℕ) (m : ℕ) (q : List ℕ) → path ++ m ∷ q ≡ [] → ⊥
some_path [] m q e = cc
some_path (x ∷ path) m q e = cc

pub each_occurrence_asks : EachOccurrenceAsks
each_occurrence_asks root d part path home align s fields tree at mine =
    let homes = tree_homes root tree in
    let here = homes_at root homes d path (node align (seq fields home)) part at in
    let where0 = told fields s (here.0 s mine).0 in
    let f = field_path path fields s in
    let is = ap (λ z. path ++ z) where0.is in
    reach root f s align fields home part mine where0 root homes [] (λ t. differ f [] (λ e. some_path path where0.m where0.q (sym is ∙ e))) [] d path is at
