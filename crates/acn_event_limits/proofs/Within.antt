-- Each slot that is begun is at home, with all slots that are begun before it, in the SEQUENCEs round one node; and these have not
-- too many slots.
use Rattle.std.proofs.Common.{◌≡◌, ℕ, zero, suc, ◌≤◌, pos, Bool, true, false, not, ◌&&◌, ◌||◌, List, [], ◌∷◌, ◌++◌, length, map, Some, None, nat_eq, refl, subst, arith, length-append}
use Rattle.std.proofs.lemmas.Bool.{eqb-true}
use Rattle.acn_num.specs.Bits.{bits as bits_of, octets as octets_for}
use Rattle.acn_grammar.specs.Asks.{Equal, Avoid}
use Rattle.acn_grammar.specs.Grammar.{Grammar, Form, Fields, Alternatives, Data, Places, Elements, node, num, octets, bits, text, seq, list, choice, contained, no_fields, component, inserted, no_alternatives, alternative, octet_string, bit_string, characters, record_of, list_of, alt, no_places, empty, filled, no_elements, element, element_count}
use Rattle.acn_grammar.specs.Length.{bit_length, number_of}
use Rattle.acn_grammar.specs.Scoped.{Known, with_slot, with_own, choose_known, after}
use Rattle.acn_grammar.specs.Sound.{Sound, FormSound, FieldsSound, AlternativesSound}
use Rattle.acn_grammar.specs.Tree.{holds}
use Rattle.acn_grammar.specs.declared.limits.TheConstants.{MOST_OPEN_SLOTS}
use Rattle.acn_grammar.specs.declared.node.ChoiceRule.{ChoiceRule}
use Rattle.acn_grammar.specs.declared.node.ChoiceRule.TheVariants.{Index, Tests, Item}
use Rattle.acn_grammar.specs.declared.node.Presence.{Presence}
use Rattle.acn_grammar.specs.declared.node.Presence.TheVariants.{Always, Bit, When}
use Rattle.acn_grammar.specs.declared.node.SizeRule.{SizeRule}
use Rattle.acn_grammar.specs.declared.node.SizeRule.TheVariants.{Prefix, Slot, Ended}
use Rattle.acn_grammar.specs.declared.node.Sizing.{Sizing}
use Rattle.acn_grammar.specs.declared.node.Test.{Test}
use Rattle.acn_grammar.specs.declared.node.Test.TheVariants.{Flag, Equals}
use Rattle.acn_grammar.proofs.WholeTests.{either}
use Rattle.acn_packet_laws.proofs.Placed.{holds_right}
use Rattle.acn_events.specs.Event.{Event, aligns, copies, sizes, codes, texts, opens, notes, wants, fills, enters, closes}
use Rattle.acn_events.specs.Events.{test_event, presence_events, size_wants, end_events, index_events, run_events, rule_events, events, form_events, field_events, case_events}
use Rattle.acn_events.specs.Marks.{known_after}

-- these slots are at home here
abbrev pub AreHere : (around : List ℕ) → Known → Type 0
AreHere around ks = (s : ℕ) → ks s ≡ true → holds around s ≡ true

-- the slot and these are at home in the SEQUENCEs round one node
pub record HasHome (s : ℕ) (ks : Known) : Type 0 where
  pub around : List ℕ
  pub few : length around ≤ MOST_OPEN_SLOTS
  pub own : holds around s ≡ true
  pub others : AreHere around ks

-- a slot that the event begins has its home
abbrev pub Housed : Event → Known → Type 0
Housed (opens s leaf) ks = HasHome s ks
Housed (notes path s set x) ks = HasHome s ks
Housed _ ks = Unit {0}

abbrev pub AllHoused : List Event → Known → Type 0
AllHoused [] ks = Unit {0}
AllHoused (e ∷ es) ks = Housed e ks × AllHoused es (known_after e ks)

-- the slots that are begun behind the events
abbrev begun_after : List Event → Known → Known
begun_after [] ks = ks
begun_after (e ∷ es) ks = begun_after es (known_after e ks)

record Stays (around : List ℕ) (es : List Event) (ks : Known) : Type 0 where
  pub housed : AllHoused es ks
  pub here : AreHere around (begun_after es ks)

-- from slots at home in one list to slots at home in another
abbrev Leads : (around behind : List ℕ) → List Event → Type 0
Leads around behind es = (ks : Known) → AreHere around ks → Stays behind es ks

nothing : (around : List ℕ) → Leads around around []
nothing around ks h = record { housed = tt; here = h }

on : (around behind : List ℕ) (e : Event) (es : List Event) → ((ks : Known) → AreHere around ks → Housed e ks × AreHere around (known_after e ks)) → Leads around behind es → Leads around behind (e ∷ es)
on around behind e es f g ks h =
    let a = f ks h in
    let r = g (known_after e ks) a.1 in
    record { housed = (a.0, r.housed); here = r.here }

both : (around behind : List ℕ) (a b : List Event) → Leads around around a → Leads around behind b → Leads around behind (a ++ b)
both around behind a b f g ks h = let r = f ks h in from a ks r.housed r.here
  where
    from : (c : List Event) (js : Known) → AllHoused c js → AreHere around (begun_after c js) → Stays behind (c ++ b) js
    from [] js x y = g js y
    from (e ∷ c) js x y = let r = from c (known_after e js) x.1 y in record { housed = (x.0, r.housed); here = r.here }

-- a slot more that is at home here
one_more : (around : List ℕ) (s : ℕ) (ks : Known) → holds around s ≡ true → AreHere around ks → AreHere around (with_slot s ks)
one_more around s ks own h t e = either {F = holds around t ≡ true} (nat_eq s t) (ks t) e (λ q. subst (λ z. holds around z ≡ true) (eqb-true s t q) own) (λ q. h t q)

begins_slot : (around : List ℕ) (s : ℕ) → length around ≤ MOST_OPEN_SLOTS → holds around s ≡ true → (ks : Known) → AreHere around ks → HasHome s ks × AreHere around (with_slot s ks)
begins_slot around s few own ks h = (record { around = around; few = few; own = own; others = h }, one_more around s ks own h)

-- slots at home here are ended
fills_lead : (home around : List ℕ) → Leads (home ++ around) around (map fills home)
fills_lead [] around ks h = record { housed = tt; here = h }
fills_lead (s ∷ home) around ks h =
    let r = fills_lead home around (λ t. ks t && not (nat_eq s t)) (λ t e. left (nat_eq s t) (ks t) (holds (home ++ around) t) e (h t)) in
    record { housed = (tt, r.housed); here = r.here }
  where
    left : (is known rest : Bool) → (known && not is) ≡ true → (known ≡ true → (is || rest) ≡ true) → rest ≡ true
    left true true rest e f = cc
    left true false rest e f = cc
    left false known rest e f = f (first known e)
      where
        first : (b : Bool) → (b && true) ≡ true → b ≡ true
        first true x = refl
        first false x = x

module _ (around : List ℕ) where
  -- events that begin no slot
  abbrev Quiet : List Event → Type 0
  Quiet es = Leads around around es

  test_quiet : (path : List ℕ) (there : Bool) (t : Test) (es : List Event) → Quiet es → Quiet (test_event path there t ∷ es)
  test_quiet path true (Flag s) es f = on around around (wants path s (Equal (pos 1))) es (λ ks h. (tt, h)) f
  test_quiet path false (Flag s) es f = on around around (wants path s (Equal (pos 0))) es (λ ks h. (tt, h)) f
  test_quiet path true (Equals s k) es f = on around around (wants path s (Equal k)) es (λ ks h. (tt, h)) f
  test_quiet path false (Equals s k) es f = on around around (wants path s (Avoid k)) es (λ ks h. (tt, h)) f

  tests_quiet : (path : List ℕ) (there : Bool) (ts : List Test) → Quiet (map (test_event path there) ts)
  tests_quiet path there [] = nothing around
  tests_quiet path there (t ∷ ts) = test_quiet path there t (map (test_event path there) ts) (tests_quiet path there ts)

  presence_quiet : (path : List ℕ) (there : Bool) (presence : Presence) → Quiet (presence_events path there presence)
  presence_quiet path there Always = nothing around
  presence_quiet path there Bit = nothing around
  presence_quiet path there (When ts) = tests_quiet path there ts

  rule_quiet : (root : Grammar) (path : List ℕ) (i : ℕ) (rule : ChoiceRule) (name : List ℕ) (ts : List Test) → Quiet (rule_events root path i rule name ts)
  rule_quiet root path i (Index width) name ts = tests_quiet (path ++ i ∷ []) true ts
  rule_quiet root path i Tests name ts = tests_quiet (path ++ i ∷ []) true ts
  rule_quiet root path i (Item s) name ts = λ ks h. record { housed = (tt, tt); here = h }

  index_quiet : (rule : ChoiceRule) (i : ℕ) → Quiet (index_events rule i)
  index_quiet (Index width) i = λ ks h. record { housed = (tt, tt); here = h }
  index_quiet Tests i = nothing around
  index_quiet (Item s) i = nothing around

  size_quiet : (path : List ℕ) (n : ℕ) (rule : SizeRule) → Quiet (size_wants path n rule)
  size_quiet path n (Slot s) = λ ks h. record { housed = (tt, tt); here = h }
  size_quiet path n (Prefix low width) = nothing around
  size_quiet path n (Ended p) = nothing around

  size_then : (path : List ℕ) (n : ℕ) (rule : SizeRule) (es : List Event) → Quiet es → Quiet (size_wants path n rule ++ es)
  size_then path n rule es f = both around around (size_wants path n rule) es (size_quiet path n rule) f

  string_quiet : (path : List ℕ) (sizing : Sizing) (n : ℕ) (bs : List Bool) → Quiet (sizes sizing n ∷ (size_wants path n sizing.rule ++ copies bs ∷ []))
  string_quiet path sizing n bs = on around around (sizes sizing n) (size_wants path n sizing.rule ++ copies bs ∷ []) (λ ks h. (tt, h)) (size_then path n sizing.rule (copies bs ∷ []) (λ ks h. record { housed = (tt, tt); here = h }))

  end_quiet : (rule : SizeRule) → Quiet (end_events rule)
  end_quiet (Ended p) = λ ks h. record { housed = (tt, tt); here = h }
  end_quiet (Prefix low width) = nothing around
  end_quiet (Slot s) = nothing around

  run_quiet : (each : ℕ → Data → List Event) → ((k : ℕ) (d : Data) → Quiet (each k d)) → (k : ℕ) (es : Elements) → Quiet (run_events each k es)
  run_quiet each f k no_elements = nothing around
  run_quiet each f k (element d es) = both around around (each k d) (run_events each (suc k) es) (f k d) (run_quiet each f (suc k) es)

module _ (root : Grammar) where
  mutual
    node_stays : (g : Grammar) (k : ℕ) (around : List ℕ) (ks : Known) → Sound root k around ks g → length around ≤ MOST_OPEN_SLOTS → (path : List ℕ) (d : Data) → Leads around around (events root g path d)
    node_stays (node align form) k around ks s few path d = on around around (aligns align) (form_events root form path d) (λ js h. (tt, h)) (form_stays form k around ks s.2 few path d)

    form_stays : (form : Form) (k : ℕ) (around : List ℕ) (ks : Known) → FormSound root k around ks form → length around ≤ MOST_OPEN_SLOTS → (path : List ℕ) (d : Data) → Leads around around (form_events root form path d)
    form_stays (num leaf) k around ks s few path d = λ js h. record { housed = (tt, tt); here = h }
    form_stays (octets sizing) k around ks s few path (octet_string os) = string_quiet around path sizing (length os) (bits_of os)
    form_stays (bits sizing) k around ks s few path (bit_string bs) = string_quiet around path sizing (length bs) bs
    form_stays (text leaf) k around ks s few path (characters cs) =
        size_then around path (length cs) leaf.sized.rule (texts leaf cs ∷ []) (λ js h. record { housed = (tt, tt); here = h })
    form_stays (seq fields home) k around ks s few path (record_of ps) = λ js h.
        let within = home ++ around in
        let long = length-append home around in
        let few_here = s.0.few_open in
        let r = both within around (field_events root fields path 0 ps) (map fills home) (fields_stay fields (suc k) within ks s.1 (omega (arith, long, few_here)) path 0 ps) (fills_lead home around) js (λ t e. holds_right home around t (h t e)) in
        record { housed = (tt, r.housed); here = r.here }
    form_stays (list sizing g) k around ks s few path (list_of es) =
        let each : ℕ → Data → List Event = λ j d. events root g (path ++ j ∷ []) d in
        let n = element_count es in
        let run = run_events each 0 es in
        let end = end_events sizing.rule in
        on around around (sizes sizing n) (size_wants path n sizing.rule ++ (run ++ end)) (λ js h. (tt, h))
        (size_then around path n sizing.rule (run ++ end)
        (both around around run end (run_quiet around each (λ j d. node_stays g (suc k) around ks s.4 few (path ++ j ∷ []) d) 0 es) (end_quiet around sizing.rule)))
    form_stays (choice cases rule) k around ks s few path (alt i d) =
        both around around (index_events rule i) (case_events root cases rule path i i d) (index_quiet around rule i) (cases_stay cases rule (suc k) around ks s.3 few path i i d)
    form_stays (contained sizing g) k around ks s few path d =
        let x = events root g (path ++ 0 ∷ []) d in
        let end = closes path sizing (octets_for (bit_length g 0 d)) in
        on around around (enters sizing.rule) (x ++ aligns 8 ∷ end ∷ []) (λ js h. (tt, h))
        (both around around x (aligns 8 ∷ end ∷ []) (node_stays g (suc k) around ks s.3 few (path ++ 0 ∷ []) d) (λ js h. record { housed = (tt, (tt, tt)); here = h }))
    form_stays _ k around ks s few path d = nothing around

    fields_stay : (fs : Fields) (k : ℕ) (around : List ℕ) (ks : Known) → FieldsSound root k around ks fs → length around ≤ MOST_OPEN_SLOTS → (path : List ℕ) (n : ℕ) (ps : Places) → Leads around around (field_events root fs path n ps)
    fields_stay (component name g presence default None fs) k around ks s few path n (filled d ps) =
        let q = path ++ n ∷ [] in
        let x = events root g q d in
        let behind = field_events root fs path (suc n) ps in
        both around around (presence_events q true presence) (x ++ behind) (presence_quiet around q true presence)
        (both around around x behind (node_stays g k around ks s.3 few q d) (fields_stay fs k around (choose_known presence ks (with_own None (after ks g))) s.4 few path (suc n) ps))
    fields_stay (component name (node align (num leaf)) presence default (Some t) fs) k around ks s few path n (filled d ps) =
        let q = path ++ n ∷ [] in
        let x = aligns align ∷ codes leaf (number_of d) ∷ [] in
        let behind = field_events root fs path (suc n) ps in
        on around around (notes q t leaf.set (number_of d)) (presence_events q true presence ++ (x ++ behind)) (begins_slot around t few s.1.1.0)
        (both around around (presence_events q true presence) (x ++ behind) (presence_quiet around q true presence)
        (both around around x behind (λ js h. record { housed = (tt, (tt, tt)); here = h }) (fields_stay fs k around (choose_known presence ks (with_own (Some t) (after ks (node align (num leaf))))) s.4 few path (suc n) ps)))
    fields_stay (component name (node align _) presence default (Some t) fs) k around ks s few path n (filled d ps) = absurd s.1.1
    fields_stay (component name g presence default own fs) k around ks s few path n (empty ps) =
        let q = path ++ n ∷ [] in
        both around around (presence_events q false presence) (field_events root fs path (suc n) ps) (presence_quiet around q false presence)
        (fields_stay fs k around (choose_known presence ks (with_own own (after ks g))) s.4 few path (suc n) ps)
    fields_stay (inserted name (node align (num leaf)) (Some t) fs) k around ks s few path n ps =
        let behind = field_events root fs path (suc n) ps in
        on around around (aligns align) (opens t leaf ∷ behind) (λ js h. (tt, h)) (on around around (opens t leaf) behind (begins_slot around t few s.0.0) (fields_stay fs k around (with_slot t ks) s.3 few path (suc n) ps))
    fields_stay (inserted name (node align (num leaf)) None fs) k around ks s few path n ps =
        let behind = field_events root fs path (suc n) ps in
        let e = codes leaf (pos 0) in
        on around around (aligns align) (e ∷ behind) (λ js h. (tt, h)) (on around around e behind (λ js h. (tt, h)) (fields_stay fs k around ks s.2 few path (suc n) ps))
    fields_stay (inserted name (node align _) (Some t) fs) k around ks s few path n ps = absurd s.0
    fields_stay (inserted name (node align _) None fs) k around ks s few path n ps = absurd s.0
    fields_stay no_fields k around ks s few path n ps = nothing around
    fields_stay (component name g presence default own fs) k around ks s few path n no_places = nothing around

    cases_stay : (cases : Alternatives) (rule : ChoiceRule) (k : ℕ) (around : List ℕ) (ks : Known) → AlternativesSound root k around ks cases → length around ≤ MOST_OPEN_SLOTS → (path : List ℕ) (i j : ℕ) (d : Data) → Leads around around (case_events root cases rule path i j d)
    cases_stay no_alternatives rule k around ks s few path i j d = nothing around
    cases_stay (alternative name g tests more) rule k around ks s few path i zero d =
        both around around (rule_events root path i rule name tests) (events root g (path ++ i ∷ []) d) (rule_quiet around root path i rule name tests) (node_stays g k around ks s.1 few (path ++ i ∷ []) d)
    cases_stay (alternative name g tests more) rule k around ks s few path i (suc j) d = cases_stay more rule k around ks s.2 few path i j d

  -- the events of a whole value
  pub all_housed : Sound root 0 [] (λ s. false) root → (d : Data) → AllHoused (events root root [] d) (λ s. false)
  all_housed s d = (node_stays root 0 [] (λ t. false) s (omega arith) [] d (λ t. false) (λ t e. e)).housed
