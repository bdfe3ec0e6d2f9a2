-- What a path of a packet leads to: the slot whose field is there is told by the grammar and the path alone, so two moments of one field are of one slot.
use Rattle.std.proofs.Common.{◌≡◌, ℕ, zero, suc, ◌≤◌, Bool, true, false, List, [], ◌∷◌, ◌++◌, length, map, Option, Some, None, refl, sym, ap, ◌∙◌, arith, append_assoc, subst, nat_eq}
use Rattle.std.specs.Prelude.{if◌then◌else◌}
use Rattle.std.specs.List.{AllByRecursion}
use Rattle.acn_num.specs.Bits.{octets as octets_for}
use Rattle.acn_grammar.specs.Asks.{Moment, asks, counts, FieldPaths, field_of, field_path, with_fields, test_asks, presence_asks, size_asks, own_asks, rule_asks, run_moments, moments, form_moments, fields_moments, alternative_moments}
use Rattle.acn_grammar.specs.Grammar.{Grammar, Form, Fields, Alternatives, Data, Places, Elements, node, num, octets, bits, text, seq, list, choice, contained, no_fields, component, inserted, no_alternatives, alternative, octet_string, bit_string, characters, record_of, list_of, alt, no_places, empty, filled, no_elements, element, element_count}
use Rattle.acn_grammar.specs.Length.{bit_length}
use Rattle.acn_grammar.specs.Tree.{holds, near}
use Rattle.acn_grammar.specs.declared.node.ChoiceRule.{ChoiceRule}
use Rattle.acn_grammar.specs.declared.node.ChoiceRule.TheVariants.{Index, Tests, Item}
use Rattle.acn_grammar.specs.declared.node.Presence.{Presence}
use Rattle.acn_grammar.specs.declared.node.Presence.TheVariants.{Always, Bit, When}
use Rattle.acn_grammar.specs.declared.node.SizeRule.{SizeRule}
use Rattle.acn_grammar.specs.declared.node.SizeRule.TheVariants.{Prefix, Slot, Ended}
use Rattle.acn_grammar.specs.declared.node.Test.{Test}
use Rattle.acn_grammar.specs.declared.node.Test.TheVariants.{Flag, Equals}
use Rattle.acn_packet_laws.proofs.Homes.{truth}
use Rattle.acn_packet_laws.proofs.AskHomes.{form_slot, field_slot, node_slot, differs, FormHomes, NodeHomes, FieldsHomes, CasesHomes, if_yes, if_no}
use Rattle.acn_packet_laws.proofs.Occurrences.{told, field_in, field_out}
use Rattle.acn_packet_laws.proofs.Placed.{holds_either}
use Rattle.acn_packet_laws.proofs.Used.{each_both, TestFits, TestsFit, PresenceFits, CaseFits, RuleFits, OwnFits, ChoiceFits, NodeUsed, FormUsed, FieldsUsed, CasesUsed}
use Rattle.acn_packet_laws.proofs.Tuples.{first_four, first_three, first_two, last_four, last_three, last_two, second_four, second_three, third_four}
use Rattle.acn_grammar.proofs.SlotLists.{same_eq}

abbrev mutual
  -- the slot whose field is at this path
  pub slot_at : Grammar → (own : Option ℕ) → (path : List ℕ) → Option ℕ
  slot_at (node align form) own [] = own
  slot_at (node align form) own (m ∷ q) = form_slot_at form m q

  pub form_slot_at : Form → (m : ℕ) → List ℕ → Option ℕ
  form_slot_at (seq fields home) m q = field_slot_at fields 0 m q
  form_slot_at (list sizing g) m q = slot_at g None q
  form_slot_at (choice cases rule) m q = case_slot_at cases m q
  form_slot_at (contained sizing g) m q = slot_at g None q
  form_slot_at _ m q = None

  pub field_slot_at : Fields → (k m : ℕ) → List ℕ → Option ℕ
  field_slot_at no_fields k m q = None
  field_slot_at (component name g presence default own fs) k m q = if nat_eq m k then slot_at g own q else field_slot_at fs (suc k) m q
  field_slot_at (inserted name g slot fs) k m [] = if nat_eq m k then slot else field_slot_at fs (suc k) m []
  field_slot_at (inserted name g slot fs) k m (j ∷ q) = if nat_eq m k then None else field_slot_at fs (suc k) m (j ∷ q)

  pub case_slot_at : Alternatives → (m : ℕ) → List ℕ → Option ℕ
  case_slot_at no_alternatives m q = None
  case_slot_at (alternative name g tests more) zero q = slot_at g None q
  case_slot_at (alternative name g tests more) (suc m) q = case_slot_at more m q

-- steps through SEQUENCEs are steps
mutual
  form_led : (form : Form) (m : ℕ) (q : List ℕ) (s : ℕ) → form_slot form m q ≡ Some s → form_slot_at form m q ≡ Some s
  form_led (seq fields home) m q s e = field_led fields 0 m q s e
  form_led (num leaf) m q s e = cc
  form_led (octets sizing) m q s e = cc
  form_led (bits sizing) m q s e = cc
  form_led (text leaf) m q s e = cc
  form_led (list sizing g) m q s e = cc
  form_led (choice cases rule) m q s e = cc
  form_led (contained sizing g) m q s e = cc

  field_led : (fs : Fields) (k m : ℕ) (q : List ℕ) (s : ℕ) → field_slot fs k m q ≡ Some s → field_slot_at fs k m q ≡ Some s
  field_led no_fields k m q s e = cc
  field_led (component name g presence default own fs) k m q s e = truth {F = field_slot_at (component name g presence default own fs) k m q ≡ Some s} (nat_eq m k)
      (λ y. if_yes (nat_eq m k) (slot_at g own q) (field_slot_at fs (suc k) m q) y ∙ node_led g own q s (sym (if_yes (nat_eq m k) (node_slot g own q) (field_slot fs (suc k) m q) y) ∙ e))
      (λ n. if_no (nat_eq m k) (slot_at g own q) (field_slot_at fs (suc k) m q) n ∙ field_led fs (suc k) m q s (sym (if_no (nat_eq m k) (node_slot g own q) (field_slot fs (suc k) m q) n) ∙ e))
  field_led (inserted name g slot fs) k m [] s e = truth {F = field_slot_at (inserted name g slot fs) k m [] ≡ Some s} (nat_eq m k)
      (λ y. if_yes (nat_eq m k) slot (field_slot_at fs (suc k) m []) y ∙ (sym (if_yes (nat_eq m k) slot (field_slot fs (suc k) m []) y) ∙ e))
      (λ n. if_no (nat_eq m k) slot (field_slot_at fs (suc k) m []) n ∙ field_led fs (suc k) m [] s (sym (if_no (nat_eq m k) slot (field_slot fs (suc k) m []) n) ∙ e))
  field_led (inserted name g slot fs) k m (j ∷ q) s e = truth {F = field_slot_at (inserted name g slot fs) k m (j ∷ q) ≡ Some s} (nat_eq m k)
      (λ y. let none = sym (if_yes (nat_eq m k) None (field_slot fs (suc k) m (j ∷ q)) y) ∙ e in cc)
      (λ n. if_no (nat_eq m k) None (field_slot_at fs (suc k) m (j ∷ q)) n ∙ field_led fs (suc k) m (j ∷ q) s (sym (if_no (nat_eq m k) None (field_slot fs (suc k) m (j ∷ q)) n) ∙ e))

  node_led : (g : Grammar) (own : Option ℕ) (q : List ℕ) (s : ℕ) → node_slot g own q ≡ Some s → slot_at g own q ≡ Some s
  node_led (node align form) own [] s e = e
  node_led (node align form) own (j ∷ q) s e = form_led form j q s e

module _ (root : Grammar) where
  -- the field is one of the slot
  abbrev pub LeadsTo : List ℕ → ℕ → Type 0
  LeadsTo field s = slot_at root None field ≡ Some s

  -- from this path on the form tells what is led to
  abbrev pub Led : List ℕ → Form → Type 0
  Led p form = (m : ℕ) (q : List ℕ) → slot_at root None (p ++ m ∷ q) ≡ form_slot_at form m q

  abbrev pub FieldsLed : List ℕ → Fields → ℕ → Type 0
  FieldsLed p fs k = (m : ℕ) (q : List ℕ) → k ≤ m → slot_at root None (p ++ m ∷ q) ≡ field_slot_at fs k m q

  abbrev pub NodeLed : List ℕ → Grammar → Type 0
  NodeLed p g = (m : ℕ) (q : List ℕ) → slot_at root None (p ++ m ∷ q) ≡ slot_at g None (m ∷ q)

  -- a step further
  pub led_on : (p : List ℕ) (k : ℕ) (g : Grammar) → ((m : ℕ) (q : List ℕ) → slot_at root None (p ++ k ∷ m ∷ q) ≡ slot_at g None (m ∷ q)) → NodeLed (p ++ k ∷ []) g
  led_on p k g h m q = ap (slot_at root None) (append_assoc p (k ∷ []) (m ∷ q)) ∙ h m q

  any_own : (g : Grammar) (own : Option ℕ) (m : ℕ) (q : List ℕ) → slot_at g own (m ∷ q) ≡ slot_at g None (m ∷ q)
  any_own (node align form) own m q = refl

  pub led_component : (p : List ℕ) (k : ℕ) (name : List ℕ) (g : Grammar) (presence : Presence) (default : Option (List ℕ)) (own : Option ℕ) (fs : Fields) → FieldsLed p (component name g presence default own fs) k → NodeLed (p ++ k ∷ []) g
  led_component p k name g presence default own fs led = led_on p k g (λ m q. led k (m ∷ q) (omega arith) ∙ (if_yes (nat_eq k k) (slot_at g own (m ∷ q)) (field_slot_at fs (suc k) k (m ∷ q)) (same_eq k) ∙ any_own g own m q))

  pub led_behind : (p : List ℕ) (k : ℕ) (name : List ℕ) (g : Grammar) (presence : Presence) (default : Option (List ℕ)) (own : Option ℕ) (fs : Fields) → FieldsLed p (component name g presence default own fs) k → FieldsLed p fs (suc k)
  led_behind p k name g presence default own fs led m q l = led m q (omega arith) ∙ if_no (nat_eq m k) (slot_at g own q) (field_slot_at fs (suc k) m q) (differs m k l)

  pub led_inserted : (p : List ℕ) (k : ℕ) (name : List ℕ) (g : Grammar) (slot : Option ℕ) (fs : Fields) → FieldsLed p (inserted name g slot fs) k → FieldsLed p fs (suc k)
  led_inserted p k name g slot fs led m [] l = led m [] (omega arith) ∙ if_no (nat_eq m k) slot (field_slot_at fs (suc k) m []) (differs m k l)
  led_inserted p k name g slot fs led m (j ∷ q) l = led m (j ∷ q) (omega arith) ∙ if_no (nat_eq m k) None (field_slot_at fs (suc k) m (j ∷ q)) (differs m k l)

  -- the field of a slot at home leads to it
  pub home_leads : (p : List ℕ) (fields : Fields) (home : List ℕ) → Led p (seq fields home) → ((t : ℕ) → holds home t ≡ true → holds (near fields) t ≡ true) → (t : ℕ) → holds home t ≡ true → LeadsTo (field_path p fields t) t
  home_leads p fields home led near' t h =
      let w = told fields t (near' t h) in
      ap (λ z. slot_at root None (p ++ z)) w.is ∙ (led w.m w.q ∙ field_led fields 0 w.m w.q t w.slot)

  abbrev pub IsLed : Moment → Type 0
  IsLed (asks path field t a) = LeadsTo field t
  IsLed (counts path n sizing) = Unit {0}

  abbrev AllLed : List Moment → Type 0
  AllLed ms = AllByRecursion IsLed ms

  abbrev Outer : List ℕ → FieldPaths → Type 0
  Outer around paths = (t : ℕ) → holds around t ≡ true → LeadsTo (field_of paths t) t

  led_test : (around : List ℕ) (paths : FieldPaths) → Outer around paths → (path : List ℕ) (there : Bool) (t : Test) → TestFits root around t → IsLed (test_asks paths path there t)
  led_test around paths outer path true (Flag t) f = outer t f.0
  led_test around paths outer path false (Flag t) f = outer t f.0
  led_test around paths outer path true (Equals t k) f = outer t f
  led_test around paths outer path false (Equals t k) f = outer t f

  led_tests : (around : List ℕ) (paths : FieldPaths) → Outer around paths → (path : List ℕ) (there : Bool) (ts : List Test) → TestsFit root around ts → AllLed (map (test_asks paths path there) ts)
  led_tests around paths outer path there [] f = tt
  led_tests around paths outer path there (t ∷ ts) f = (led_test around paths outer path there t f.0, led_tests around paths outer path there ts f.1)

  led_presence : (around : List ℕ) (paths : FieldPaths) → Outer around paths → (path : List ℕ) (there : Bool) (presence : Presence) → PresenceFits root around presence → AllLed (presence_asks paths path there presence)
  led_presence around paths outer path there Always f = tt
  led_presence around paths outer path there Bit f = tt
  led_presence around paths outer path there (When ts) f = led_tests around paths outer path there ts f.1

  led_size : (around : List ℕ) (paths : FieldPaths) → Outer around paths → (path : List ℕ) (n : ℕ) (rule : SizeRule) → RuleFits root around rule → AllLed (size_asks paths path n rule)
  led_size around paths outer path n (Slot t) f = (outer t f, tt)
  led_size around paths outer path n (Prefix low width) f = tt
  led_size around paths outer path n (Ended p) f = tt

  led_own : (around : List ℕ) (paths : FieldPaths) → Outer around paths → (path : List ℕ) (o : Option ℕ) (d : Data) → OwnFits root around o → AllLed (own_asks paths path o d)
  led_own around paths outer path None d f = tt
  led_own around paths outer path (Some t) d f = (outer t f, tt)

  led_rule : (around : List ℕ) (paths : FieldPaths) → Outer around paths → (path : List ℕ) (i : ℕ) (rule : ChoiceRule) (name : List ℕ) (tests : List Test) → ChoiceFits root around rule → CaseFits root around rule tests → AllLed (rule_asks root paths path i rule name tests)
  led_rule around paths outer path i (Item t) name tests c f = (outer t c, tt)
  led_rule around paths outer path i Tests name tests c f = led_tests around paths outer (path ++ i ∷ []) true tests f
  led_rule around paths outer path i (Index width) name tests c f = subst (λ ts. AllLed (map (test_asks paths (path ++ i ∷ []) true) ts)) (sym f) tt

  led_run : (each : ℕ → Data → List Moment) → ((k : ℕ) (d : Data) → AllLed (each k d)) → (k : ℕ) (es : Elements) → AllLed (run_moments each k es)
  led_run each h k no_elements = tt
  led_run each h k (element d es) = each_both IsLed (each k d) (run_moments each (suc k) es) (h k d) (led_run each h (suc k) es)

  mutual
    led_node : (g : Grammar) → NodeHomes g → (around : List ℕ) → NodeUsed root around g → (paths : FieldPaths) → Outer around paths → (p : List ℕ) → NodeLed p g → (d : Data) → AllLed (moments root g paths p d)
    led_node (node align form) homes around u paths outer p led d = led_form form homes around u paths outer p led d

    led_form : (form : Form) → FormHomes form → (around : List ℕ) → FormUsed root around form → (paths : FieldPaths) → Outer around paths → (p : List ℕ) → Led p form → (d : Data) → AllLed (form_moments root form paths p d)
    led_form (octets sizing) homes around u paths outer p led (octet_string os) = led_size around paths outer p (length os) sizing.rule u
    led_form (bits sizing) homes around u paths outer p led (bit_string cs) = led_size around paths outer p (length cs) sizing.rule u
    led_form (text leaf) homes around u paths outer p led (characters cs) = led_size around paths outer p (length cs) leaf.sized.rule (first_two u)
    led_form (seq fields home) homes around u paths outer p led (record_of ps) =
        led_fields fields homes.1 (home ++ around) u (with_fields p fields home paths) more p 0 (λ m q l. led m q) ps
      where
        more : Outer (home ++ around) (with_fields p fields home paths)
        more r h = truth {F = LeadsTo (field_of (with_fields p fields home paths) r) r} (holds home r)
            (λ e. ap (slot_at root None) (field_in (field_path p fields) home paths r e) ∙ home_leads p fields home led (λ n i. (homes.0 n i).0) r e)
            (λ e. ap (slot_at root None) (field_out (field_path p fields) home paths r e) ∙ outer r (holds_either {F = holds around r ≡ true} home around r h (λ q. cc) (λ q. q)))
    led_form (list sizing g) homes around u paths outer p led (list_of es) =
        each_both IsLed (size_asks paths p (element_count es) sizing.rule) (run_moments (λ k d. moments root g paths (p ++ k ∷ []) d) 0 es) (led_size around paths outer p (element_count es) sizing.rule (first_two u))
        (led_run (λ k d. moments root g paths (p ++ k ∷ []) d) (λ k d. led_node g homes around (last_two u) paths outer (p ++ k ∷ []) (led_on p k g (λ m q. led k (m ∷ q))) d) 0 es)
    led_form (choice cases rule) homes around u paths outer p led (alt i d) = led_case cases homes rule around (first_two u) (last_two u) paths outer p i i (λ m q. led i (m ∷ q)) d
    led_form (contained sizing g) homes around u paths outer p led d =
        each_both IsLed (moments root g paths (p ++ 0 ∷ []) d) (counts p (octets_for (bit_length g 0 d)) sizing ∷ size_asks paths p (octets_for (bit_length g 0 d)) sizing.rule)
        (led_node g homes around (last_two u) paths outer (p ++ 0 ∷ []) (led_on p 0 g (λ m q. led 0 (m ∷ q))) d)
        (tt, led_size around paths outer p (octets_for (bit_length g 0 d)) sizing.rule (first_two u))
    led_form _ homes around u paths outer p led d = tt

    led_fields : (fs : Fields) → FieldsHomes fs → (around : List ℕ) → FieldsUsed root around fs → (paths : FieldPaths) → Outer around paths → (p : List ℕ) (k : ℕ) → FieldsLed p fs k → (ps : Places) → AllLed (fields_moments root fs paths p k ps)
    led_fields no_fields homes around u paths outer p k led ps = tt
    led_fields (component name g presence default o fs) homes around u paths outer p k led (filled d ps) =
        let here = p ++ k ∷ [] in
        each_both IsLed (own_asks paths here o d ++ presence_asks paths here true presence ++ moments root g paths here d) (fields_moments root fs paths p (suc k) ps)
        (each_both IsLed (own_asks paths here o d ++ presence_asks paths here true presence) (moments root g paths here d)
        (each_both IsLed (own_asks paths here o d) (presence_asks paths here true presence) (led_own around paths outer (p ++ k ∷ []) o d (first_four u)) (led_presence around paths outer (p ++ k ∷ []) true presence (second_four u)))
        (led_node g homes.0 around (third_four u) paths outer (p ++ k ∷ []) (led_component p k name g presence default o fs led) d))
        (led_fields fs homes.1 around (last_four u) paths outer p (suc k) (led_behind p k name g presence default o fs led) ps)
    led_fields (component name g presence default o fs) homes around u paths outer p k led (empty ps) =
        each_both IsLed (presence_asks paths (p ++ k ∷ []) false presence) (fields_moments root fs paths p (suc k) ps) (led_presence around paths outer (p ++ k ∷ []) false presence (second_four u))
        (led_fields fs homes.1 around (last_four u) paths outer p (suc k) (led_behind p k name g presence default o fs led) ps)
    led_fields (component name g presence default o fs) homes around u paths outer p k led no_places = tt
    led_fields (inserted name g slot fs) homes around u paths outer p k led ps = led_fields fs homes around u paths outer p (suc k) (led_inserted p k name g slot fs led) ps

    led_case : (cases : Alternatives) → CasesHomes cases → (rule : ChoiceRule) (around : List ℕ) → ChoiceFits root around rule → CasesUsed root around rule cases → (paths : FieldPaths) → Outer around paths → (p : List ℕ) (i j : ℕ) → ((m : ℕ) (q : List ℕ) → slot_at root None (p ++ i ∷ m ∷ q) ≡ case_slot_at cases j (m ∷ q)) → (d : Data)
        → AllLed (alternative_moments root cases rule paths p i j d)
    led_case (alternative name g tests more) homes rule around c u paths outer p i zero led d =
        each_both IsLed (rule_asks root paths p i rule name tests) (moments root g paths (p ++ i ∷ []) d) (led_rule around paths outer p i rule name tests c (first_three u)) (led_node g homes.0 around (second_three u) paths outer (p ++ i ∷ []) (led_on p i g led) d)
    led_case (alternative name g tests more) homes rule around c u paths outer p i (suc j) led d = led_case more homes.1 rule around c (last_three u) paths outer p i j led d
    led_case no_alternatives homes rule around c u paths outer p i j led d = tt

  -- each moment of the walk is of the slot that its field leads to
  pub moments_led : NodeHomes root → NodeUsed root [] root → (d : Data) → AllByRecursion IsLed (moments root root [] [] d)
  moments_led homes u d = led_node root homes [] u [] (λ t h. cc) [] (λ m q. refl) d
