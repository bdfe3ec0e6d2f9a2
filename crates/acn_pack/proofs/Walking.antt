-- How the walk goes on, form by form.
use Rattle.std.proofs.Common.{◌≡◌, ℕ, suc, ◌+◌, ◌<◌, ◌≤◌, List, [], ◌∷◌, ◌++◌, drop, length, get_or, Option, Some, None, refl, sym, ap, ◌∙◌, add-one, append_assoc}
use Rattle.std.specs.Prelude.{option_map, pos, Result, IsErrAnd}
use Rattle.acn_grammar.specs.Grammar.{Grammar, Form, Fields, Data, node, num, list, list_of, element_count}
use Rattle.acn_grammar.specs.View.{OneField, a_component, an_inserted, with_field, data_of, elements_view, places_view}
use Rattle.acn_grammar.specs.declared.node.ChoiceRule.{ChoiceRule}
use Rattle.acn_grammar.specs.declared.node.NumLeaf.{NumLeaf}
use Rattle.acn_grammar.specs.declared.node.Presence.{Presence}
use Rattle.acn_grammar.specs.declared.node.Sizing.{Sizing}
use Rattle.acn_grammar.specs.declared.value.Value.{Value}
use Rattle.acn_plan.specs.Back.{StepAt, marks, node_at, form_at, form_in}
use Rattle.acn_plan.specs.declared.step.Act.{Act}
use Rattle.acn_plan.specs.declared.step.Place.{Place}
use Rattle.acn_plan.specs.declared.step.Step.{Step}
use Rattle.acn_plan.proofs.Marks.{node_is}
use Rattle.acn_events.specs.Event.{Event, Halt, aligns, codes, opens, sizes}
use Rattle.acn_events.specs.Events.{events, form_events, field_events, inserted_events, run_events, size_wants, end_events, rule_events}
use Rattle.acn_writer.specs.Answers.{HaltsFor}
use Rattle.acn_writer.specs.declared.halt.Halt.{Halt as HaltData}
use Rattle.acn_writer.specs.declared.halt.Halted.{Halted}
use Rattle.acn_writer.specs.declared.writer.Writer.{Writer}
use Rattle.acn_pack.specs.Packs.{Ran, Stopped, Packs, GoesOn}
use Rattle.acn_pack.specs.Parts.{place_events, left_of, name_in, tests_in, item_events, case_tests}
use Rattle.acn_pack.proofs.Cases.{rule_parts}
use Rattle.acn_pack.proofs.Fields.{component_events, no_component, inserted_first, element_first}
use Rattle.acn_pack.proofs.Levels.{form_by}
use Rattle.acn_pack.proofs.Ways.{begin, then_some, then_on, left_as, whole_as, stop_some, stop_on, ended, packs_as, failed_one}

-- as many elements as values
count_elements : (vs : List Value) → element_count (elements_view vs) ≡ length vs
count_elements [] = refl
count_elements (v ∷ vs) = ap suc (count_elements vs)

-- the events of the elements of a list at a path
abbrev pub element_events : (root g : Grammar) → (path : List ℕ) → ℕ → Data → List Event
element_events root g path k d = events root g (path ++ k ∷ []) d

-- the events of the alternative of a place
abbrev pub case_whole : (root : Grammar) → ChoiceRule → (path : List ℕ) → (i : ℕ) → Grammar → Data → Place → List Event
case_whole root rule path i g d place = rule_events root path i rule (name_in place) (tests_in place) ++ events root g (path ++ i ∷ []) d

module _ {N S A : ℕ} (root : Grammar) where
  pub node_begins : (steps : List Step) (i : ℕ) (s : Step) (path : List ℕ) (d : Data) (m : Writer N S A) → StepAt steps i s → GoesOn (events root (node_at steps i) path d) (aligns s.align ∷ form_events root (form_at steps i s) path d) m m
  node_begins steps i s path d m h =
      let es = aligns s.align ∷ form_events root (form_at steps i s) path d in
      whole_as es (events root (node_at steps i) path d) es m m (sym (ap (λ (g : Grammar). events root g path d) (node_is steps i s h))) (begin es m)

  -- the events of a step's body, by its act
  pub body_as : {R : Type 0} (steps : List Step) (i : ℕ) (s : Step) (a : Act) (path q : List ℕ) (d : Data) (m n : Writer N S A) (why : HaltData) (r : Result R Halted)
      → s.act ≡ a → Packs (form_events root (form_in a s.next (i + 1) (marks (i + 1) (drop (i + 1) steps))) path d) m n q why r → Packs (form_events root (form_at steps i s) path d) m n q why r
  body_as steps i s a path q d m n why r is p =
      packs_as (form_events root (form_in a s.next (i + 1) (marks (i + 1) (drop (i + 1) steps))) path d) (form_events root (form_at steps i s) path d) m n q why r (ap (λ (f : Form). form_events root f path d) (sym (form_by steps i s a is))) p

  -- Fields.

  component_begins : (f : OneField) (name : List ℕ) (g : Grammar) (presence : Presence) (default : Option (List ℕ)) (own : Option ℕ) (fs : Fields) (path : List ℕ) (k next : ℕ) (p : Option Value) (ps : List (Option Value)) (m : Writer N S A)
      → f ≡ a_component name g presence default own → next < length ps → p ≡ get_or ps next p
      → GoesOn (field_events root (with_field f fs) path k (places_view (drop next ps))) (place_events root g presence own (path ++ k ∷ []) (option_map data_of p) ++ left_of root fs path (suc k) ps (Some (next + 1))) m m
  component_begins f name g presence default own fs path k next p ps m e h is =
      let whole = field_events root (with_field f fs) path k (places_view (drop next ps)) in
      left_as whole whole (place_events root g presence own (path ++ k ∷ []) (option_map data_of p) ++ left_of root fs path (suc k) ps (Some (next + 1))) m m (component_events root f name g presence default own fs path k next p ps e h is) (begin whole m)

  pub component_on : (f : OneField) (name : List ℕ) (g : Grammar) (presence : Presence) (default : Option (List ℕ)) (own : Option ℕ) (fs : Fields) (path : List ℕ) (k next : ℕ) (p : Option Value) (ps : List (Option Value)) (m n : Writer N S A)
      → f ≡ a_component name g presence default own → next < length ps → p ≡ get_or ps next p
      → Ran (place_events root g presence own (path ++ k ∷ []) (option_map data_of p)) m n → GoesOn (field_events root (with_field f fs) path k (places_view (drop next ps))) (left_of root fs path (suc k) ps (Some (next + 1))) m n
  component_on f name g presence default own fs path k next p ps m n e h is r =
      then_some (field_events root (with_field f fs) path k (places_view (drop next ps))) (place_events root g presence own (path ++ k ∷ []) (option_map data_of p)) (left_of root fs path (suc k) ps (Some (next + 1))) m m n (component_begins f name g presence default own fs path k next p ps m e h is) r

  pub component_stops : (f : OneField) (name : List ℕ) (g : Grammar) (presence : Presence) (default : Option (List ℕ)) (own : Option ℕ) (fs : Fields) (path : List ℕ) (k next : ℕ) (p : Option Value) (ps : List (Option Value)) (m n : Writer N S A) (halt : Halt)
      → f ≡ a_component name g presence default own → next < length ps → p ≡ get_or ps next p
      → Stopped (place_events root g presence own (path ++ k ∷ []) (option_map data_of p)) m n halt → Stopped (field_events root (with_field f fs) path k (places_view (drop next ps))) m n halt
  component_stops f name g presence default own fs path k next p ps m n halt e h is r =
      stop_some (field_events root (with_field f fs) path k (places_view (drop next ps))) (place_events root g presence own (path ++ k ∷ []) (option_map data_of p)) (left_of root fs path (suc k) ps (Some (next + 1))) m m n halt (component_begins f name g presence default own fs path k next p ps m e h is) r

  -- a component that has no place ends the fields
  pub component_ends : (f : OneField) (name : List ℕ) (g : Grammar) (presence : Presence) (default : Option (List ℕ)) (own : Option ℕ) (fs : Fields) (path : List ℕ) (k next : ℕ) (ps : List (Option Value)) (m : Writer N S A)
      → f ≡ a_component name g presence default own → length ps ≤ next → GoesOn (field_events root (with_field f fs) path k (places_view (drop next ps))) [] m m
  component_ends f name g presence default own fs path k next ps m e h =
      let whole = field_events root (with_field f fs) path k (places_view (drop next ps)) in left_as whole whole [] m m (no_component root f name g presence default own fs path k next ps e h) (begin whole m)

  inserted_begins : (f : OneField) (name : List ℕ) (g : Grammar) (slot : Option ℕ) (fs : Fields) (path : List ℕ) (k next : ℕ) (ps : List (Option Value)) (m : Writer N S A)
      → f ≡ an_inserted name g slot → GoesOn (field_events root (with_field f fs) path k (places_view (drop next ps))) (inserted_events slot g ++ left_of root fs path (suc k) ps (Some next)) m m
  inserted_begins f name g slot fs path k next ps m e =
      let whole = field_events root (with_field f fs) path k (places_view (drop next ps)) in
      left_as whole whole (inserted_events slot g ++ left_of root fs path (suc k) ps (Some next)) m m (inserted_first root f name g slot fs path k next ps e) (begin whole m)

  pub inserted_on : (f : OneField) (name : List ℕ) (g : Grammar) (slot : Option ℕ) (fs : Fields) (path : List ℕ) (k next : ℕ) (ps : List (Option Value)) (m n : Writer N S A)
      → f ≡ an_inserted name g slot → Ran (inserted_events slot g) m n → GoesOn (field_events root (with_field f fs) path k (places_view (drop next ps))) (left_of root fs path (suc k) ps (Some next)) m n
  inserted_on f name g slot fs path k next ps m n e r =
      then_some (field_events root (with_field f fs) path k (places_view (drop next ps))) (inserted_events slot g) (left_of root fs path (suc k) ps (Some next)) m m n (inserted_begins f name g slot fs path k next ps m e) r

  pub inserted_stops : (f : OneField) (name : List ℕ) (g : Grammar) (slot : Option ℕ) (fs : Fields) (path : List ℕ) (k next : ℕ) (ps : List (Option Value)) (m n : Writer N S A) (halt : Halt)
      → f ≡ an_inserted name g slot → Stopped (inserted_events slot g) m n halt → Stopped (field_events root (with_field f fs) path k (places_view (drop next ps))) m n halt
  inserted_stops f name g slot fs path k next ps m n halt e r =
      stop_some (field_events root (with_field f fs) path k (places_view (drop next ps))) (inserted_events slot g) (left_of root fs path (suc k) ps (Some next)) m m n halt (inserted_begins f name g slot fs path k next ps m e) r

  -- One turn of the loop over fields. The path in it is the first one again.
  module _ (whole : List Event) (fields : Fields) (f : OneField) (fs : Fields) (p q : List ℕ) (k next : ℕ) (ps : List (Option Value)) (m n o : Writer N S A)
      (first : fields ≡ with_field f fs) (back : q ≡ p) (done : GoesOn whole (field_events root fields p k (places_view (drop next ps))) m n) where
    here : GoesOn whole (field_events root (with_field f fs) q k (places_view (drop next ps))) m n
    here = left_as whole (field_events root fields p k (places_view (drop next ps))) (field_events root (with_field f fs) q k (places_view (drop next ps))) m n
        (ap (λ (x : Fields). field_events root x p k (places_view (drop next ps))) first ∙ ap (λ (x : List ℕ). field_events root (with_field f fs) x k (places_view (drop next ps))) (sym back)) done

    pub field_on : (behind : ℕ) → GoesOn (field_events root (with_field f fs) q k (places_view (drop next ps))) (left_of root fs q (suc k) ps (Some behind)) n o → GoesOn whole (field_events root fs p (k + 1) (places_view (drop behind ps))) m o
    field_on behind g =
        left_as whole (field_events root fs q (suc k) (places_view (drop behind ps))) (field_events root fs p (k + 1) (places_view (drop behind ps))) m o
        (ap (λ (x : List ℕ). field_events root fs x (suc k) (places_view (drop behind ps))) back ∙ ap (λ (x : ℕ). field_events root fs p x (places_view (drop behind ps))) (sym (add-one k)))
        (then_on whole (field_events root (with_field f fs) q k (places_view (drop next ps))) (field_events root fs q (suc k) (places_view (drop behind ps))) m n o here g)

    pub field_ends : GoesOn (field_events root (with_field f fs) q k (places_view (drop next ps))) [] n o → Ran whole m o
    field_ends g = ended whole m o (then_on whole (field_events root (with_field f fs) q k (places_view (drop next ps))) [] m n o here g)

    pub field_stops : (halt : Halt) → Stopped (field_events root (with_field f fs) q k (places_view (drop next ps))) n o halt → Stopped whole m o halt
    field_stops halt s = stop_on whole (field_events root (with_field f fs) q k (places_view (drop next ps))) m n o halt here s

  -- Elements.

  module _ (g : Grammar) (p q : List ℕ) (k i : ℕ) (v : Value) (vs : List Value) (m n o : Writer N S A) (there : i < length vs) (is : v ≡ get_or vs i v) (back : q ≡ p)
      (done : GoesOn (run_events (element_events root g p) 0 (elements_view vs)) (run_events (element_events root g p) k (elements_view (drop i vs))) m n) where
    element_here : GoesOn (run_events (element_events root g p) 0 (elements_view vs)) (events root g (q ++ k ∷ []) (data_of v) ++ run_events (element_events root g p) (suc k) (elements_view (drop (i + 1) vs))) m n
    element_here =
        left_as (run_events (element_events root g p) 0 (elements_view vs)) (run_events (element_events root g p) k (elements_view (drop i vs))) (events root g (q ++ k ∷ []) (data_of v) ++ run_events (element_events root g p) (suc k) (elements_view (drop (i + 1) vs))) m n
        (element_first (element_events root g p) k i v vs there is ∙ ap (λ (x : List ℕ). events root g (x ++ k ∷ []) (data_of v) ++ run_events (element_events root g p) (suc k) (elements_view (drop (i + 1) vs))) (sym back)) done

    pub element_on : Ran (events root g (q ++ k ∷ []) (data_of v)) n o → GoesOn (run_events (element_events root g p) 0 (elements_view vs)) (run_events (element_events root g p) (k + 1) (elements_view (drop (i + 1) vs))) m o
    element_on r =
        left_as (run_events (element_events root g p) 0 (elements_view vs)) (run_events (element_events root g p) (suc k) (elements_view (drop (i + 1) vs))) (run_events (element_events root g p) (k + 1) (elements_view (drop (i + 1) vs))) m o
        (ap (λ (x : ℕ). run_events (element_events root g p) x (elements_view (drop (i + 1) vs))) (sym (add-one k)))
        (then_some (run_events (element_events root g p) 0 (elements_view vs)) (events root g (q ++ k ∷ []) (data_of v)) (run_events (element_events root g p) (suc k) (elements_view (drop (i + 1) vs))) m n o element_here r)

    pub element_stops : (halt : Halt) → Stopped (events root g (q ++ k ∷ []) (data_of v)) n o halt → Stopped (run_events (element_events root g p) 0 (elements_view vs)) m o halt
    element_stops halt r = stop_some (run_events (element_events root g p) 0 (elements_view vs)) (events root g (q ++ k ∷ []) (data_of v)) (run_events (element_events root g p) (suc k) (elements_view (drop (i + 1) vs))) m n o halt element_here r

  -- Lists: the size, what it asks, the elements, and the pattern behind them.
  module _ (sizing : Sizing) (g : Grammar) (path : List ℕ) (vs : List Value) (m : Writer N S A) where
    pub list_begins : GoesOn (form_events root (list sizing g) path (list_of (elements_view vs))) (sizes sizing (length vs) ∷ size_wants path (length vs) sizing.rule ++ (run_events (element_events root g path) 0 (elements_view vs) ++ end_events sizing.rule)) m m
    list_begins =
        let es = λ (n : ℕ). sizes sizing n ∷ size_wants path n sizing.rule ++ (run_events (element_events root g path) 0 (elements_view vs) ++ end_events sizing.rule) in
        left_as (form_events root (list sizing g) path (list_of (elements_view vs))) (form_events root (list sizing g) path (list_of (elements_view vs))) (es (length vs)) m m (ap es (count_elements vs)) (begin (form_events root (list sizing g) path (list_of (elements_view vs))) m)

  -- The alternative of a place.
  pub case_begins : (rule : ChoiceRule) (path : List ℕ) (i : ℕ) (g : Grammar) (d : Data) (place : Place) (m : Writer N S A)
      → GoesOn (case_whole root rule path i g d place) (item_events root path rule (name_in place) ++ (case_tests (path ++ i ∷ []) rule (tests_in place) ++ events root g (path ++ i ∷ []) d)) m m
  case_begins rule path i g d place m =
      let whole = case_whole root rule path i g d place in
      let item = item_events root path rule (name_in place) in
      let tests = case_tests (path ++ i ∷ []) rule (tests_in place) in
      let inside = events root g (path ++ i ∷ []) d in
      left_as whole whole (item ++ (tests ++ inside)) m m (ap (λ (es : List Event). es ++ inside) (rule_parts root path i rule (name_in place) (tests_in place)) ∙ append_assoc item tests inside) (begin whole m)

-- an inserted number begins with its padding
pub align_stops : {R : Type 0} {N S A : ℕ} (slot : Option ℕ) (align : ℕ) (leaf : NumLeaf) (g : Grammar) (path : List ℕ) (m n : Writer N S A) (why : HaltData) (e : Halted) (r : Result R Halted)
    → g ≡ node align (num leaf) → IsErrAnd r (λ y. y ≡ e) → HaltsFor (λ p. aligns align) m n why → Packs (inserted_events slot g) m n path why r
align_stops None align leaf g path m n why e r is failed h =
    let whole = inserted_events None (node align (num leaf)) in
    packs_as whole (inserted_events None g) m n path why r (ap (inserted_events None) (sym is)) (failed_one whole (codes leaf (pos 0) ∷ []) (λ p. aligns align) path m m n why e r failed (begin whole m) h)
align_stops (Some s) align leaf g path m n why e r is failed h =
    let whole = inserted_events (Some s) (node align (num leaf)) in
    packs_as whole (inserted_events (Some s) g) m n path why r (ap (inserted_events (Some s)) (sym is)) (failed_one whole (opens s leaf ∷ []) (λ p. aligns align) path m m n why e r failed (begin whole m) h)
