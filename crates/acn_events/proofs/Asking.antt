-- What the events of a value ask of a slot.
use Rattle.std.proofs.Common.{◌≡◌, ℕ, zero, suc, Bool, true, false, List, [], ◌∷◌, ◌++◌, Option, Some, None, refl, sym, ◌∙◌, pos, append_assoc, append-nil}
use Rattle.std.specs.Prelude.{map, length}
use Rattle.std.specs.List.{flat_map}
use Rattle.std.proofs.lemmas.Grind.{flat_map-append}
use Rattle.acn_num.specs.Bits.{bits as bits_of, octets as octets_for}
use Rattle.acn_grammar.specs.Asks.{Ask, Equal, index_of, same_name}
use Rattle.acn_grammar.specs.AsksOn.{on, test_ask_on, presence_asks_on, size_asks_on, own_asks_on, rule_asks_on, run_asks_on, asks_on, form_asks_on, fields_asks_on, alternative_asks_on}
use Rattle.acn_grammar.specs.Grammar.{Grammar, Form, Fields, Alternatives, Data, Places, Elements, node, num, octets, bits, text, seq, list, choice, contained, component, inserted, no_alternatives, alternative, octet_string, bit_string, characters, record_of, list_of, alt, empty, filled, no_elements, element, element_count}
use Rattle.acn_grammar.specs.Length.{bit_length, number_of}
use Rattle.acn_grammar.specs.Slots.{items_of}
use Rattle.acn_grammar.specs.declared.node.ChoiceRule.{ChoiceRule}
use Rattle.acn_grammar.specs.declared.node.ChoiceRule.TheVariants.{Index, Tests, Item}
use Rattle.acn_grammar.specs.declared.node.Presence.{Presence}
use Rattle.acn_grammar.specs.declared.node.Presence.TheVariants.{Always, Bit, When}
use Rattle.acn_grammar.specs.declared.node.SizeRule.{SizeRule}
use Rattle.acn_grammar.specs.declared.node.SizeRule.TheVariants.{Prefix, Slot, Ended}
use Rattle.acn_grammar.specs.declared.node.Test.{Test}
use Rattle.acn_grammar.specs.declared.node.Test.TheVariants.{Flag, Equals}
use Rattle.acn_events.specs.Event.{Event, aligns, copies, texts, fills, closes}
use Rattle.acn_events.specs.Events.{test_event, presence_events, size_wants, end_events, own_events, inserted_events, index_events, run_events, rule_events, events, form_events, field_events, case_events}
use Rattle.acn_events.specs.Laws.{EventsAsk}
use Rattle.acn_events.specs.Marks.{ask_on}

both : {A : Type 0} (a b c d : List A) → a ≡ b → c ≡ d → a ++ c ≡ b ++ d
both a b c d p q = cc

regroup : {A : Type 0} (a b c d : List A) → a ++ (b ++ (c ++ d)) ≡ a ++ b ++ c ++ d
regroup a b c d = sym (append_assoc (a ++ b) c d ∙ append_assoc a b (c ++ d))

module _ (root : Grammar) (s : ℕ) where
  -- what events ask
  abbrev pub all_on : List Event → List Ask
  all_on es = flat_map (ask_on s) es

  pub join : (a b : List Event) (c e : List Ask) → all_on a ≡ c → all_on b ≡ e → all_on (a ++ b) ≡ c ++ e
  join a b c e p q = flat_map-append (ask_on s) a b ∙ both (all_on a) c (all_on b) e p q

  test_on : (path : List ℕ) (there : Bool) (t : Test) → ask_on s (test_event path there t) ≡ test_ask_on s there t
  test_on path true (Flag t) = refl
  test_on path false (Flag t) = refl
  test_on path true (Equals t k) = refl
  test_on path false (Equals t k) = refl

  tests_on : (path : List ℕ) (there : Bool) (ts : List Test) → all_on (map (test_event path there) ts) ≡ flat_map (test_ask_on s there) ts
  tests_on path there [] = refl
  tests_on path there (t ∷ ts) = both (ask_on s (test_event path there t)) (test_ask_on s there t) (all_on (map (test_event path there) ts)) (flat_map (test_ask_on s there) ts) (test_on path there t) (tests_on path there ts)

  presence_on : (path : List ℕ) (there : Bool) (presence : Presence) → all_on (presence_events path there presence) ≡ presence_asks_on s there presence
  presence_on path there Always = refl
  presence_on path there Bit = refl
  presence_on path there (When ts) = tests_on path there ts

  one_on : (t : ℕ) (a : Ask) → on s t a ++ [] ≡ on s t a
  one_on t a = append-nil (on s t a)

  size_on : (path : List ℕ) (n : ℕ) (rule : SizeRule) → all_on (size_wants path n rule) ≡ size_asks_on s n rule
  size_on path n (Slot t) = one_on t (Equal (pos n))
  size_on path n (Prefix low width) = refl
  size_on path n (Ended p) = refl

  end_on : (rule : SizeRule) → all_on (end_events rule) ≡ []
  end_on (Ended p) = refl
  end_on (Slot t) = refl
  end_on (Prefix low width) = refl

  own_on : (path : List ℕ) (own : Option ℕ) (g : Grammar) (d : Data) → all_on (own_events path own g d) ≡ own_asks_on s own d
  own_on path None g d = refl
  own_on path (Some t) g d = one_on t (Equal (number_of d))

  inserted_on : (own : Option ℕ) (g : Grammar) → all_on (inserted_events own g) ≡ []
  inserted_on (Some t) (node align (num leaf)) = refl
  inserted_on None (node align (num leaf)) = refl
  inserted_on (Some t) (node align _) = refl
  inserted_on None (node align _) = refl

  index_on : (rule : ChoiceRule) (i : ℕ) → all_on (index_events rule i) ≡ []
  index_on (Index width) i = refl
  index_on Tests i = refl
  index_on (Item t) i = refl

  fills_on : (home : List ℕ) → all_on (map fills home) ≡ []
  fills_on [] = refl
  fills_on (t ∷ home) = fills_on home

  rule_on : (path : List ℕ) (i : ℕ) (rule : ChoiceRule) (name : List ℕ) (tests : List Test) → all_on (rule_events root path i rule name tests) ≡ rule_asks_on root s rule name tests
  rule_on path i (Item t) name tests = one_on t (Equal (pos (index_of (same_name name) (items_of root t))))
  rule_on path i (Index width) name tests = tests_on (path ++ i ∷ []) true tests
  rule_on path i Tests name tests = tests_on (path ++ i ∷ []) true tests

  run_on : (each : ℕ → Data → List Event) (wants' : Data → List Ask) → ((k : ℕ) (d : Data) → all_on (each k d) ≡ wants' d) → (k : ℕ) (es : Elements) → all_on (run_events each k es) ≡ run_asks_on wants' es
  run_on each wants' h k no_elements = refl
  run_on each wants' h k (element d es) = join (each k d) (run_events each (suc k) es) (wants' d) (run_asks_on wants' es) (h k d) (run_on each wants' h (suc k) es)

  mutual
    pub asks_here : (g : Grammar) (path : List ℕ) (d : Data) → all_on (events root g path d) ≡ asks_on root s g d
    asks_here (node align form) path d = form_asks form path d

    pub form_asks : (form : Form) (path : List ℕ) (d : Data) → all_on (form_events root form path d) ≡ form_asks_on root s form d
    form_asks (octets sizing) path (octet_string os) = join (size_wants path (length os) sizing.rule) (copies (bits_of os) ∷ []) (size_asks_on s (length os) sizing.rule) [] (size_on path (length os) sizing.rule) refl ∙ append-nil (size_asks_on s (length os) sizing.rule)
    form_asks (bits sizing) path (bit_string bs) = join (size_wants path (length bs) sizing.rule) (copies bs ∷ []) (size_asks_on s (length bs) sizing.rule) [] (size_on path (length bs) sizing.rule) refl ∙ append-nil (size_asks_on s (length bs) sizing.rule)
    form_asks (text leaf) path (characters cs) = join (size_wants path (length cs) leaf.sized.rule) (texts leaf cs ∷ []) (size_asks_on s (length cs) leaf.sized.rule) [] (size_on path (length cs) leaf.sized.rule) refl ∙ append-nil (size_asks_on s (length cs) leaf.sized.rule)
    form_asks (seq fields home) path (record_of ps) = join (field_events root fields path 0 ps) (map fills home) (fields_asks_on root s fields ps) [] (fields_ask fields path 0 ps) (fills_on home) ∙ append-nil (fields_asks_on root s fields ps)
    form_asks (list sizing g) path (list_of es) =
        join (size_wants path (element_count es) sizing.rule) (run_events (λ k d. events root g (path ++ k ∷ []) d) 0 es ++ end_events sizing.rule) (size_asks_on s (element_count es) sizing.rule) (run_asks_on (asks_on root s g) es) (size_on path (element_count es) sizing.rule)
        (join (run_events (λ k d. events root g (path ++ k ∷ []) d) 0 es) (end_events sizing.rule) (run_asks_on (asks_on root s g) es) [] (run_on (λ k d. events root g (path ++ k ∷ []) d) (asks_on root s g) (λ k d. asks_here g (path ++ k ∷ []) d) 0 es) (end_on sizing.rule)
        ∙ append-nil (run_asks_on (asks_on root s g) es))
    form_asks (choice cases rule) path (alt i d) = join (index_events rule i) (case_events root cases rule path i i d) [] (alternative_asks_on root s cases rule i d) (index_on rule i) (case_asks cases rule path i i d)
    form_asks (contained sizing g) path d =
        let n = octets_for (bit_length g 0 d) in
        join (events root g (path ++ 0 ∷ []) d) (aligns 8 ∷ closes path sizing n ∷ []) (asks_on root s g d) (size_asks_on s n sizing.rule) (asks_here g (path ++ 0 ∷ []) d) (append-nil (size_asks_on s n sizing.rule))
    form_asks _ path d = refl

    pub fields_ask : (fs : Fields) (path : List ℕ) (k : ℕ) (ps : Places) → all_on (field_events root fs path k ps) ≡ fields_asks_on root s fs ps
    fields_ask (component name g presence default own fs) path k (filled d ps) =
        join (own_events (path ++ k ∷ []) own g d) (presence_events (path ++ k ∷ []) true presence ++ (events root g (path ++ k ∷ []) d ++ field_events root fs path (suc k) ps)) (own_asks_on s own d) (presence_asks_on s true presence ++ (asks_on root s g d ++ fields_asks_on root s fs ps)) (own_on (path ++ k ∷ []) own g d)
        (join (presence_events (path ++ k ∷ []) true presence) (events root g (path ++ k ∷ []) d ++ field_events root fs path (suc k) ps) (presence_asks_on s true presence) (asks_on root s g d ++ fields_asks_on root s fs ps) (presence_on (path ++ k ∷ []) true presence)
        (join (events root g (path ++ k ∷ []) d) (field_events root fs path (suc k) ps) (asks_on root s g d) (fields_asks_on root s fs ps) (asks_here g (path ++ k ∷ []) d) (fields_ask fs path (suc k) ps)))
        ∙ regroup (own_asks_on s own d) (presence_asks_on s true presence) (asks_on root s g d) (fields_asks_on root s fs ps)
    fields_ask (component name g presence default own fs) path k (empty ps) =
        join (presence_events (path ++ k ∷ []) false presence) (field_events root fs path (suc k) ps) (presence_asks_on s false presence) (fields_asks_on root s fs ps) (presence_on (path ++ k ∷ []) false presence) (fields_ask fs path (suc k) ps)
    fields_ask (inserted name g own fs) path k ps = join (inserted_events own g) (field_events root fs path (suc k) ps) [] (fields_asks_on root s fs ps) (inserted_on own g) (fields_ask fs path (suc k) ps)
    fields_ask _ path k ps = refl

    pub case_asks : (cases : Alternatives) (rule : ChoiceRule) (path : List ℕ) (i j : ℕ) (d : Data) → all_on (case_events root cases rule path i j d) ≡ alternative_asks_on root s cases rule j d
    case_asks (alternative name g tests more) rule path i zero d =
        join (rule_events root path i rule name tests) (events root g (path ++ i ∷ []) d) (rule_asks_on root s rule name tests) (asks_on root s g d) (rule_on path i rule name tests) (asks_here g (path ++ i ∷ []) d)
    case_asks (alternative name g tests more) rule path i (suc j) d = case_asks more rule path i j d
    case_asks no_alternatives rule path i j d = refl

pub events_ask : EventsAsk
events_ask root g s path d = asks_here root s g path d
