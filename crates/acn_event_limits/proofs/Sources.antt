-- Each event stands for something that a node of the tree says: the slot of a hole or of an own number is the node's, and a number
-- that is to be avoided is one with which a condition of the node compares the slot.
use Rattle.std.proofs.Common.{◌≡◌, ℕ, zero, suc, ℤ, Bool, true, false, List, [], ◌∷◌, ◌++◌, length, map, Option, Some, None, refl, sym, subst, inl, inr}
use Rattle.std.specs.List.{AllByRecursion}
use Rattle.acn_num.specs.Bits.{bits as bits_of, octets as octets_for}
use Rattle.acn_grammar.specs.Asks.{Ask, Equal, Avoid}
use Rattle.acn_grammar.specs.Grammar.{Grammar, Form, Fields, Alternatives, Data, Places, Elements, node, num, octets, bits, text, seq, list, choice, contained, no_fields, component, inserted, no_alternatives, alternative, octet_string, bit_string, characters, record_of, list_of, alt, no_places, empty, filled, no_elements, element, element_count}
use Rattle.acn_grammar.specs.Length.{bit_length}
use Rattle.acn_grammar.specs.Walk.{Stand, Role, component_role, an_inserted, alternative_role, an_element, a_content, nodes, form_nodes, field_nodes, alternative_nodes, own_tests, presence_tests, slot_here}
use Rattle.acn_grammar.specs.declared.node.ChoiceRule.{ChoiceRule}
use Rattle.acn_grammar.specs.declared.node.ChoiceRule.TheVariants.{Index, Tests, Item}
use Rattle.acn_grammar.specs.declared.node.Presence.{Presence}
use Rattle.acn_grammar.specs.declared.node.Presence.TheVariants.{Always, Bit, When}
use Rattle.acn_grammar.specs.declared.node.SizeRule.{SizeRule}
use Rattle.acn_grammar.specs.declared.node.SizeRule.TheVariants.{Prefix, Slot, Ended}
use Rattle.acn_grammar.specs.declared.node.Test.{Test}
use Rattle.acn_grammar.specs.declared.node.Test.TheVariants.{Flag, Equals}
use Rattle.acn_events.specs.Event.{Event, aligns, copies, texts, opens, notes, wants, fills, closes}
use Rattle.acn_events.specs.Events.{test_event, presence_events, size_wants, end_events, own_events, inserted_events, index_events, run_events, rule_events, events, form_events, field_events, case_events}
use Rattle.acn_event_limits.proofs.Members.{Member, member_left, member_right, each_of_both}

-- a condition of one of the nodes compares the slot with the number
pub record IsCompared (all : List Stand) (s : ℕ) (k : ℤ) : Type 0 where
  pub at : Stand
  pub is_one : Member at all
  pub condition : Member (Equals s k) (own_tests at.role)

-- one of the nodes says the slot
pub record IsField (all : List Stand) (s : ℕ) : Type 0 where
  pub at : Stand
  pub is_one : Member at all
  pub slot : slot_here at.role ≡ Some s

-- the node that stands first among those of a grammar
record First (role : Role) (part : List Stand) : Type 0 where
  pub at : Stand
  pub is_one : Member at part
  pub role_is : at.role ≡ role

first_of : (role : Role) (path around : List ℕ) (g : Grammar) → First role (nodes role path around g)
first_of role path around (node align form) = record { at = record { path = path; around = around; role = role; align = align; form = form }; is_one = inl refl; role_is = refl }

module _ (all : List Stand) where
  abbrev pub AskSourced : (s : ℕ) → Ask → Type 0
  AskSourced s (Equal x) = Unit {0}
  AskSourced s (Avoid k) = IsCompared all s k

  abbrev pub Sourced : Event → Type 0
  Sourced (opens s leaf) = IsField all s
  Sourced (notes path s set x) = IsField all s
  Sourced (wants path s a) = AskSourced s a
  Sourced _ = Unit {0}

  abbrev pub AllSourced : List Event → Type 0
  AllSourced es = AllByRecursion Sourced es

  -- these nodes are among all
  abbrev pub AreAmong : List Stand → Type 0
  AreAmong part = (at : Stand) → Member at part → Member at all

  both : (a b : List Event) → AllSourced a → AllSourced b → AllSourced (a ++ b)
  both a b f g = each_of_both Sourced a b f g

  -- The conditions of a node.

  test_from : (path : List ℕ) (there : Bool) (t : Test) → ((s : ℕ) (k : ℤ) → t ≡ Equals s k → IsCompared all s k) → Sourced (test_event path there t)
  test_from path true (Flag s) h = tt
  test_from path false (Flag s) h = tt
  test_from path true (Equals s k) h = tt
  test_from path false (Equals s k) h = h s k refl

  tests_from : (path : List ℕ) (there : Bool) (ts : List Test) → ((s : ℕ) (k : ℤ) → Member (Equals s k) ts → IsCompared all s k) → AllSourced (map (test_event path there) ts)
  tests_from path there [] h = tt
  tests_from path there (t ∷ ts) h = (test_from path there t (λ s k e. h s k (inl e)), tests_from path there ts (λ s k m. h s k (inr m)))

  presence_from : (path : List ℕ) (there : Bool) (presence : Presence) → ((s : ℕ) (k : ℤ) → Member (Equals s k) (presence_tests presence) → IsCompared all s k) → AllSourced (presence_events path there presence)
  presence_from path there Always h = tt
  presence_from path there Bit h = tt
  presence_from path there (When ts) h = tests_from path there ts h

  own_compared : (part : List Stand) (role : Role) → AreAmong part → First role part → (s : ℕ) (k : ℤ) → Member (Equals s k) (own_tests role) → IsCompared all s k
  own_compared part role among first s k m =
      record { at = first.at; is_one = among first.at first.is_one; condition = subst (λ (r : Role). Member (Equals s k) (own_tests r)) (sym first.role_is) m }

  own_field : (part : List Stand) (role : Role) → AreAmong part → First role part → (s : ℕ) → slot_here role ≡ Some s → IsField all s
  own_field part role among first s e = record { at = first.at; is_one = among first.at first.is_one; slot = subst (λ (r : Role). slot_here r ≡ Some s) (sym first.role_is) e }

  -- what an alternative asks
  chosen_from : (path : List ℕ) (ts : List Test) → AllSourced (map (test_event path true) ts)
  chosen_from path [] = tt
  chosen_from path (Flag s ∷ ts) = (tt, chosen_from path ts)
  chosen_from path (Equals s k ∷ ts) = (tt, chosen_from path ts)

  rule_from : (root : Grammar) (path : List ℕ) (i : ℕ) (rule : ChoiceRule) (name : List ℕ) (ts : List Test) → AllSourced (rule_events root path i rule name ts)
  rule_from root path i (Index width) name ts = chosen_from (path ++ i ∷ []) ts
  rule_from root path i Tests name ts = chosen_from (path ++ i ∷ []) ts
  rule_from root path i (Item s) name ts = (tt, tt)

  index_from : (rule : ChoiceRule) (i : ℕ) → AllSourced (index_events rule i)
  index_from (Index width) i = (tt, tt)
  index_from Tests i = tt
  index_from (Item s) i = tt

  size_from : (path : List ℕ) (n : ℕ) (rule : SizeRule) → AllSourced (size_wants path n rule)
  size_from path n (Slot s) = (tt, tt)
  size_from path n (Prefix low width) = tt
  size_from path n (Ended p) = tt

  end_from : (rule : SizeRule) → AllSourced (end_events rule)
  end_from (Slot s) = tt
  end_from (Prefix low width) = tt
  end_from (Ended p) = (tt, tt)

  fills_from : (home : List ℕ) → AllSourced (map fills home)
  fills_from [] = tt
  fills_from (s ∷ home) = (tt, fills_from home)

  own_from : (path : List ℕ) (own : Option ℕ) (g : Grammar) (d : Data) → ((s : ℕ) → own ≡ Some s → IsField all s) → AllSourced (own_events path own g d)
  own_from path None g d h = tt
  own_from path (Some s) g d h = (h s refl, tt)

  inserted_from : (own : Option ℕ) (g : Grammar) → ((s : ℕ) → own ≡ Some s → IsField all s) → AllSourced (inserted_events own g)
  inserted_from (Some s) (node align (num leaf)) h = (tt, (h s refl, tt))
  inserted_from None (node align (num leaf)) h = (tt, (tt, tt))
  inserted_from (Some s) (node align _) h = tt
  inserted_from None (node align _) h = tt

  run_from : (each : ℕ → Data → List Event) → ((k : ℕ) (d : Data) → AllSourced (each k d)) → (k : ℕ) (es : Elements) → AllSourced (run_events each k es)
  run_from each h k no_elements = tt
  run_from each h k (element d es) = both (each k d) (run_events each (suc k) es) (h k d) (run_from each h (suc k) es)

  -- Along the grammar: `at` is where the nodes stand in the tree, `path` where the value does.
  module _ (root : Grammar) where
    mutual
      pub node_from : (g : Grammar) (role : Role) (at around : List ℕ) → AreAmong (nodes role at around g) → (path : List ℕ) (d : Data) → AllSourced (events root g path d)
      node_from (node align form) role at around h path d = (tt, form_from form at around (λ n m. h n (inr m)) path d)

      form_from : (form : Form) (at around : List ℕ) → AreAmong (form_nodes at around form) → (path : List ℕ) (d : Data) → AllSourced (form_events root form path d)
      form_from (num leaf) at around h path d = (tt, tt)
      form_from (octets sizing) at around h path (octet_string os) = (tt, both (size_wants path (length os) sizing.rule) (copies (bits_of os) ∷ []) (size_from path (length os) sizing.rule) (tt, tt))
      form_from (bits sizing) at around h path (bit_string bs) = (tt, both (size_wants path (length bs) sizing.rule) (copies bs ∷ []) (size_from path (length bs) sizing.rule) (tt, tt))
      form_from (text leaf) at around h path (characters cs) = both (size_wants path (length cs) leaf.sized.rule) (texts leaf cs ∷ []) (size_from path (length cs) leaf.sized.rule) (tt, tt)
      form_from (seq fields home) at around h path (record_of ps) = (tt, both (field_events root fields path 0 ps) (map fills home) (fields_from fields at (home ++ around) 0 h path 0 ps) (fills_from home))
      form_from (list sizing g) at around h path (list_of es) =
          let each : ℕ → Data → List Event = λ j d. events root g (path ++ j ∷ []) d in
          let n = element_count es in (
            tt,
            both (size_wants path n sizing.rule) (run_events each 0 es ++ end_events sizing.rule) (size_from path n sizing.rule)
                (both (run_events each 0 es) (end_events sizing.rule) (run_from each (λ j d. node_from g an_element (at ++ 0 ∷ []) around h (path ++ j ∷ []) d) 0 es) (end_from sizing.rule)),
          )
      form_from (choice cases rule) at around h path (alt i d) = both (index_events rule i) (case_events root cases rule path i i d) (index_from rule i) (cases_from cases rule at around 0 h path i i d)
      form_from (contained sizing g) at around h path d =
          (tt, both (events root g (path ++ 0 ∷ []) d) (aligns 8 ∷ closes path sizing (octets_for (bit_length g 0 d)) ∷ []) (node_from g a_content (at ++ 0 ∷ []) around h (path ++ 0 ∷ []) d) (tt, (tt, tt)))
      form_from _ at around h path d = tt

      fields_from : (fs : Fields) (at around : List ℕ) (k : ℕ) → AreAmong (field_nodes at around k fs) → (path : List ℕ) (n : ℕ) (ps : Places) → AllSourced (field_events root fs path n ps)
      fields_from (component name g presence default own fs) at around k h path n (filled d ps) =
          let role = component_role name presence default own in
          let here = nodes role (at ++ k ∷ []) around g in
          let rest = field_nodes at around (suc k) fs in
          let mine : AreAmong here = λ x m. h x (member_left x here rest m) in
          let first = first_of role (at ++ k ∷ []) around g in
          let q = path ++ n ∷ [] in
          let behind = field_events root fs path (suc n) ps in
          both (own_events q own g d) (presence_events q true presence ++ (events root g q d ++ behind)) (own_from q own g d (own_field here role mine first))
          (both (presence_events q true presence) (events root g q d ++ behind) (presence_from q true presence (own_compared here role mine first))
          (both (events root g q d) behind (node_from g role (at ++ k ∷ []) around mine q d) (fields_from fs at around (suc k) (λ x m. h x (member_right x here rest m)) path (suc n) ps)))
      fields_from (component name g presence default own fs) at around k h path n (empty ps) =
          let role = component_role name presence default own in
          let here = nodes role (at ++ k ∷ []) around g in
          let rest = field_nodes at around (suc k) fs in
          let mine : AreAmong here = λ x m. h x (member_left x here rest m) in
          let q = path ++ n ∷ [] in
          both (presence_events q false presence) (field_events root fs path (suc n) ps) (presence_from q false presence (own_compared here role mine (first_of role (at ++ k ∷ []) around g)))
          (fields_from fs at around (suc k) (λ x m. h x (member_right x here rest m)) path (suc n) ps)
      fields_from (inserted name g own fs) at around k h path n ps =
          let role = an_inserted name own in
          let here = nodes role (at ++ k ∷ []) around g in
          let rest = field_nodes at around (suc k) fs in
          let mine : AreAmong here = λ x m. h x (member_left x here rest m) in
          both (inserted_events own g) (field_events root fs path (suc n) ps) (inserted_from own g (own_field here role mine (first_of role (at ++ k ∷ []) around g)))
          (fields_from fs at around (suc k) (λ x m. h x (member_right x here rest m)) path (suc n) ps)
      fields_from no_fields at around k h path n ps = tt
      fields_from (component name g presence default own fs) at around k h path n no_places = tt

      cases_from : (cases : Alternatives) (rule : ChoiceRule) (at around : List ℕ) (k : ℕ) → AreAmong (alternative_nodes rule at around k cases) → (path : List ℕ) (i j : ℕ) (d : Data) → AllSourced (case_events root cases rule path i j d)
      cases_from no_alternatives rule at around k h path i j d = tt
      cases_from (alternative name g tests more) rule at around k h path i zero d =
          let here = nodes (alternative_role name tests rule) (at ++ k ∷ []) around g in
          let rest = alternative_nodes rule at around (suc k) more in
          both (rule_events root path i rule name tests) (events root g (path ++ i ∷ []) d) (rule_from root path i rule name tests)
          (node_from g (alternative_role name tests rule) (at ++ k ∷ []) around (λ x m. h x (member_left x here rest m)) (path ++ i ∷ []) d)
      cases_from (alternative name g tests more) rule at around k h path i (suc j) d =
          let here = nodes (alternative_role name tests rule) (at ++ k ∷ []) around g in
          let rest = alternative_nodes rule at around (suc k) more in
          cases_from more rule at around (suc k) (λ x m. h x (member_right x here rest m)) path i j d
