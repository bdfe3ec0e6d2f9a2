-- The path of a field tells its slot, wherever a part of a value is.
use Rattle.std.proofs.Common.{◌≡◌, ℕ, zero, suc, true, List, [], ◌∷◌, ◌++◌, Option, Some, None, refl, sym, ap, ◌∙◌, arith, append_assoc, subst, nat_eq}
use Rattle.std.specs.List.{AllByRecursion}
use Rattle.std.proofs.lemmas.List.{append-nil}
use Rattle.std.proofs.lemmas.Bool.Decides.{nat_tests}
use Rattle.acn_grammar.specs.Asks.{Moment, asks, counts, moments}
use Rattle.acn_grammar.specs.Grammar.{Grammar, Fields, Alternatives, Data, Places, Elements, node, num, octets, bits, text, seq, list, choice, contained, no_fields, component, inserted, no_alternatives, alternative, record_of, list_of, alt, no_places, empty, filled, no_elements, element}
use Rattle.acn_grammar.specs.PartAt.{Occurrence, occurrence, part_at, element_part, field_part, alternative_part}
use Rattle.acn_packet_laws.specs.Laws.{NamesItsSlot, FieldsTellTheirSlots}
use Rattle.acn_packet_laws.proofs.AskHomes.{if_yes, if_no, some_is, tree_homes}
use Rattle.acn_packet_laws.proofs.Homes.{truth}
use Rattle.acn_packet_laws.proofs.Occurrences.{homes_at}
use Rattle.acn_packet_laws.proofs.PathSlots.{slot_at, case_slot_at, IsLed, NodeLed, FieldsLed, led_on, led_component, led_behind, led_inserted, home_leads, moments_led}
use Rattle.acn_packet_laws.proofs.Used.{accepted_used}

is_nat : (m k : ℕ) → nat_eq m k ≡ true → k ≡ m
is_nat m k h = grind (arith, nat_tests)

named : (root : Grammar) (ms : List Moment) → AllByRecursion (IsLed root) ms → AllByRecursion (NamesItsSlot (slot_at root None)) ms
named root [] h = tt
named root (asks path field s a ∷ ms) h = (h.0, named root ms h.1)
named root (counts path n sizing ∷ ms) h = (tt, named root ms h.1)

module _ (root : Grammar) where
  joined : (p r : List ℕ) (k : ℕ) (h : Grammar) → NodeLed root ((p ++ k ∷ []) ++ r) h → NodeLed root (p ++ k ∷ r) h
  joined p r k h led = subst (λ z. NodeLed root z h) (append_assoc p (k ∷ []) r) led

  renamed : (p r : List ℕ) (m k : ℕ) (h : Grammar) → nat_eq m k ≡ true → NodeLed root (p ++ k ∷ r) h → NodeLed root (p ++ m ∷ r) h
  renamed p r m k h e led = subst (λ n. NodeLed root (p ++ n ∷ r) h) (is_nat m k e) led

  led_run : (find : Data → Option Occurrence) (G : Type 0) (h : Grammar) (e : Data) → ((d : Data) → find d ≡ Some (occurrence h e) → G) → (k : ℕ) (es : Elements) (m : ℕ) → element_part find k es m ≡ Some (occurrence h e) → G
  led_run find G h e each k no_elements m i = cc
  led_run find G h e each k (element d es) m i = truth {F = G} (nat_eq m k)
      (λ y. each d (sym (if_yes (nat_eq m k) (find d) (element_part find (suc k) es m) y) ∙ i))
      (λ n. led_run find G h e each (suc k) es m (sym (if_no (nat_eq m k) (find d) (element_part find (suc k) es m) n) ∙ i))

  mutual
    led_at : (g : Grammar) (p : List ℕ) → NodeLed root p g → (d : Data) (r : List ℕ) (h : Grammar) (e : Data) → part_at g d r ≡ Some (occurrence h e) → NodeLed root (p ++ r) h
    led_at (node align form) p led d [] h e i =
        let u : Occurrence = occurrence (node align form) d in
        let v : Occurrence = occurrence h e in
        let same : u ≡ v = some_is u v i in
        subst (λ z. NodeLed root z h) (sym (append-nil p)) (subst (λ z. NodeLed root p z) (ap (λ (z : Occurrence). z.0) same) led)
    led_at (node align (seq fields home)) p led (record_of ps) (m ∷ r) h e i = led_fields fields p 0 (λ j q l. led j q) ps m r h e i
    led_at (node align (seq fields home)) p led _ (m ∷ r) h e i = cc
    led_at (node align (list sizing g)) p led (list_of es) (m ∷ r) h e i =
        led_run (λ d. part_at g d r) (NodeLed root (p ++ m ∷ r) h) h e (λ d j. joined p r m h (led_at g (p ++ m ∷ []) (led_on root p m g (λ j' q. led m (j' ∷ q))) d r h e j)) 0 es m i
    led_at (node align (list sizing g)) p led _ (m ∷ r) h e i = cc
    led_at (node align (choice cases rule)) p led (alt n d) (m ∷ r) h e i = truth {F = NodeLed root (p ++ m ∷ r) h} (nat_eq m n)
        (λ y. renamed p r m n h y (led_case cases p n n (λ j q. led n (j ∷ q)) d r h e (sym (if_yes (nat_eq m n) (alternative_part cases n d r) None y) ∙ i)))
        (λ o. let x = sym (if_no (nat_eq m n) (alternative_part cases n d r) None o) ∙ i in cc)
    led_at (node align (choice cases rule)) p led _ (m ∷ r) h e i = cc
    led_at (node align (contained sizing g)) p led d (m ∷ r) h e i = truth {F = NodeLed root (p ++ m ∷ r) h} (nat_eq m 0)
        (λ y. joined p r m h (led_at g (p ++ m ∷ []) (led_on root p m g (λ j q. led m (j ∷ q))) d r h e (sym (if_yes (nat_eq m 0) (part_at g d r) None y) ∙ i)))
        (λ o. let x = sym (if_no (nat_eq m 0) (part_at g d r) None o) ∙ i in cc)
    led_at (node align (num leaf)) p led d (m ∷ r) h e i = cc
    led_at (node align (octets sizing)) p led d (m ∷ r) h e i = cc
    led_at (node align (bits sizing)) p led d (m ∷ r) h e i = cc
    led_at (node align (text leaf)) p led d (m ∷ r) h e i = cc

    led_fields : (fs : Fields) (p : List ℕ) (k : ℕ) → FieldsLed root p fs k → (ps : Places) (m : ℕ) (r : List ℕ) (h : Grammar) (e : Data) → field_part fs k ps m r ≡ Some (occurrence h e) → NodeLed root (p ++ m ∷ r) h
    led_fields no_fields p k led ps m r h e i = cc
    led_fields (component name g presence default own fs) p k led (filled d ps) m r h e i = truth {F = NodeLed root (p ++ m ∷ r) h} (nat_eq m k)
        (λ y. renamed p r m k h y (joined p r k h (led_at g (p ++ k ∷ []) (led_component root p k name g presence default own fs led) d r h e (sym (if_yes (nat_eq m k) (part_at g d r) (field_part fs (suc k) ps m r) y) ∙ i))))
        (λ n. led_fields fs p (suc k) (led_behind root p k name g presence default own fs led) ps m r h e (sym (if_no (nat_eq m k) (part_at g d r) (field_part fs (suc k) ps m r) n) ∙ i))
    led_fields (component name g presence default own fs) p k led (empty ps) m r h e i = truth {F = NodeLed root (p ++ m ∷ r) h} (nat_eq m k)
        (λ y. let x = sym (if_yes (nat_eq m k) None (field_part fs (suc k) ps m r) y) ∙ i in cc)
        (λ n. led_fields fs p (suc k) (led_behind root p k name g presence default own fs led) ps m r h e (sym (if_no (nat_eq m k) None (field_part fs (suc k) ps m r) n) ∙ i))
    led_fields (component name g presence default own fs) p k led no_places m r h e i = cc
    led_fields (inserted name g slot fs) p k led ps m r h e i = truth {F = NodeLed root (p ++ m ∷ r) h} (nat_eq m k)
        (λ y. let x = sym (if_yes (nat_eq m k) None (field_part fs (suc k) ps m r) y) ∙ i in cc)
        (λ n. led_fields fs p (suc k) (led_inserted root p k name g slot fs led) ps m r h e (sym (if_no (nat_eq m k) None (field_part fs (suc k) ps m r) n) ∙ i))

    led_case : (cases : Alternatives) (p : List ℕ) (i j : ℕ) → ((m : ℕ) (q : List ℕ) → slot_at root None (p ++ i ∷ m ∷ q) ≡ case_slot_at cases j (m ∷ q)) → (d : Data) (r : List ℕ) (h : Grammar) (e : Data) → alternative_part cases j d r ≡ Some (occurrence h e) → NodeLed root (p ++ i ∷ r) h
    led_case (alternative name g tests more) p i zero led d r h e at = joined p r i h (led_at g (p ++ i ∷ []) (led_on root p i g led) d r h e at)
    led_case (alternative name g tests more) p i (suc j) led d r h e at = led_case more p i j led d r h e at
    led_case no_alternatives p i j led d r h e at = cc

pub fields_tell_their_slots : FieldsTellTheirSlots
fields_tell_their_slots root accepted =
    let homes = tree_homes root accepted.formed in (
      slot_at root None,
      record {
        asked = λ d. named root (moments root root [] [] d) (moments_led root homes (accepted_used root accepted) d);
        at_home = λ d part path home align s fields at mine.
            let here = homes_at root homes d path (node align (seq fields home)) part at in
            let led = led_at root root [] (λ m q. refl) d path (node align (seq fields home)) part at in
            home_leads root path fields home led (λ t i. (here.0 t i).0) s mine;
      },
    )
