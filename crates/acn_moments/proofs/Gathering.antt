-- The walk, one part at a time.
use Rattle.std.proofs.Common.{◌≡◌, ℕ, ℤ, zero, suc, ◌+◌, ◌<◌, ◌≤◌, Bool, true, List, [], ◌∷◌, ◌++◌, length, get_or, drop, drop_of_length-le, map, Option, Some, refl, sym, ap, subst, ◌∙◌, arith, rules, add-one, append-nil, ltb}
use Rattle.std.proofs.lemmas.Bool.Decides.{nat_tests}
use Rattle.std.proofs.lemmas.List.{drop_more, map-append}
use Rattle.acn_num.specs.Bits.{octets as octets_for}
use Rattle.acn_grammar.specs.Asks as asks
use Rattle.acn_grammar.specs.Asks.{FieldPaths, field_path, with_fields, run_moments}
use Rattle.acn_grammar.specs.Grammar.{Grammar, Form, Fields, Data, Places, octets, bits, text, seq, list, contained, no_fields, component, inserted, octet_string, bit_string, characters, record_of, list_of, no_places, empty, filled, element_count}
use Rattle.acn_grammar.specs.Length.{bit_length}
use Rattle.acn_grammar.specs.Sound.{field_count}
use Rattle.acn_grammar.specs.Tree.{holds}
use Rattle.acn_grammar.specs.View.{OneField, a_component, an_inserted, with_field, data_of, grammar_of, alternative_of, form_of, field_of, fields_view, places_view, elements_view, alternatives_view}
use Rattle.acn_grammar.specs.declared.limits.TheConstants.{MOST_NODES}
use Rattle.acn_grammar.specs.declared.node.Alternative.{Alternative}
use Rattle.acn_grammar.specs.declared.node.Body.{Octets as OctetsBody, Bits as BitsBody, Text as TextBody, List as ListBody, the_lemmas as node_lemmas}
use Rattle.acn_grammar.specs.declared.node.ChoiceRule.{ChoiceRule}
use Rattle.acn_grammar.specs.declared.node.Field.{Field}
use Rattle.acn_grammar.specs.declared.node.Node.{Node}
use Rattle.acn_grammar.specs.declared.node.Presence.{Presence}
use Rattle.acn_grammar.specs.declared.node.Sizing.{Sizing}
use Rattle.acn_grammar.specs.declared.node.TextLeaf.{TextLeaf}
use Rattle.acn_grammar.specs.declared.value.Value.{Value, Octets as OctetsValue, Bits as BitsValue, Text as TextValue, List as ListValue, the_lemmas as value_lemmas}
use Rattle.acn_grammar.proofs.Intervals.{alternative_of-grammar}
use Rattle.acn_asks.specs.Moments.{moment_of}
use Rattle.acn_asks.specs.declared.moments.Moment.{Moment}
use Rattle.acn_asks.specs.declared.moments.Moment.TheVariants as moment
use Rattle.acn_asking.specs.Gathered.{paths_of, slots_of, LeavesIn, Opened, with_numbers, with_domain, Gathers}
use Rattle.acn_asking.specs.declared.opened.Open.{Open}
use Rattle.acn_asking.specs.Uses.{CaseIn}
use Rattle.acn_asking.proofs.Opens.{leaves_both, paths_both}
use Rattle.acn_asking.proofs.Steps.{both, turn}
use Rattle.acn_determinants.specs.Determinants.{SequenceIn}
use Rattle.acn_gather_laws.specs.CanGather.{CanGather, CanGatherCase, CanGatherEach, CanGatherForm, CanGatherFields}
use Rattle.acn_moments.specs.PlaceMoments.{place_moments}
use Rattle.acn_moments.specs.Walk.{Left, Onward}

pub below : (a b : ℕ) → true ≡ ltb a b → a < b
below a b h = grind (arith, nat_tests)

-- What forms and values are seen as.

pub view_octets : (s : Sizing) → form_of (OctetsBody s) ≡ octets s
view_octets s = search (rules, node_lemmas)

pub view_bits : (s : Sizing) → form_of (BitsBody s) ≡ bits s
view_bits s = search (rules, node_lemmas)

pub view_text : (leaf : TextLeaf) → form_of (TextBody leaf) ≡ text leaf
view_text leaf = search (rules, node_lemmas)

pub view_list : (s : Sizing) (g : Node) → form_of (ListBody s g) ≡ list s (grammar_of g)
view_list s g = search (rules, node_lemmas)

pub view_octets_value : (os : List ℕ) → data_of (OctetsValue os) ≡ octet_string os
view_octets_value os = search (rules, value_lemmas)

pub view_bits_value : (xs : List Bool) → data_of (BitsValue xs) ≡ bit_string xs
view_bits_value xs = search (rules, value_lemmas)

pub view_text_value : (cs : List ℕ) → data_of (TextValue cs) ≡ characters cs
view_text_value cs = search (rules, value_lemmas)

pub view_list_value : (vs : List Value) → data_of (ListValue vs) ≡ list_of (elements_view vs)
view_list_value vs = search (rules, value_lemmas)

-- The slots of a SEQUENCE that are opened.

pub opened_paths : (own : FieldPaths) (IsIn : Grammar → Type 0) (old new : List Open) → Opened own IsIn old new → paths_of new ≡ own ++ paths_of old
opened_paths own IsIn old new x = ap paths_of x.is ∙ (paths_both old x.added ∙ ap (λ (z : FieldPaths). z ++ paths_of old) x.paths)

pub opened_leaves : (root : Grammar) (own : FieldPaths) (IsIn : Grammar → Type 0) (old new : List Open) → Opened own IsIn old new → LeavesIn root old → IsIn root → LeavesIn root new
opened_leaves root own IsIn old new x l i = subst (λ (os : List Open). LeavesIn root os) (sym x.is) (leaves_both root old x.added l (x.leaves root i))

-- What an alternative is seen as.

alternative_name : (a : Alternative) → (alternative_of a).name ≡ a.name
alternative_name a = search (rules, node_lemmas)

alternative_tests : (a : Alternative) → (alternative_of a).tests ≡ a.tests
alternative_tests a = search (rules, node_lemmas)

module _ (root : Grammar) where
  -- the moments alone, without their numbers
  pub without_numbers : (ms : List Moment) (qs : List asks.Moment) → map with_numbers ms ≡ map (with_domain root) qs → map moment_of ms ≡ qs
  without_numbers ms qs e = sym (front ms) ∙ (ap (map first) e ∙ back qs)
    where
      first : asks.Moment × List (ℤ × ℤ) → asks.Moment
      first x = x.0

      one : (m : Moment) → first (with_numbers m) ≡ moment_of m
      one (moment.Asks path field slot set wanted) = refl
      one (moment.Counts path count sizing) = refl

      other : (q : asks.Moment) → first (with_domain root q) ≡ q
      other (asks.asks path field s a) = refl
      other (asks.counts path n sizing) = refl

      front : (xs : List Moment) → map first (map with_numbers xs) ≡ map moment_of xs
      front [] = refl
      front (x ∷ xs) = ap (λ y. y ∷ map first (map with_numbers xs)) (one x) ∙ ap (λ ys. moment_of x ∷ ys) (front xs)

      back : (xs : List asks.Moment) → map first (map (with_domain root) xs) ≡ xs
      back [] = refl
      back (x ∷ xs) = ap (λ y. y ∷ map first (map (with_domain root) xs)) (other x) ∙ ap (λ ys. x ∷ ys) (back xs)

  -- Two parts, one behind the other, at one path.

  pub next : (p q : List ℕ) (f : List ℕ → List asks.Moment) (a : List asks.Moment) (old mid new : List Moment) → q ≡ p → Gathers root a old mid → Gathers root (f q) mid new → Gathers root (a ++ f p) old new
  next p q f a old mid new e x y = both root a (f p) old mid new x (subst (λ (z : List ℕ). Gathers root (f z) mid new) e y)

  pub component_said : (presence : Presence) (own : Option ℕ) (paths : FieldPaths) (here path : List ℕ) (g : Grammar) (d : Data) (old mid new : List Moment) → here ≡ path → Gathers root (asks.own_asks paths here own d ++ asks.presence_asks paths here true presence) old mid → Gathers root (asks.moments root g paths here d) mid new
      → Gathers root (place_moments root g presence own paths path (Some d)) old new
  component_said presence own paths here path g d old mid new e x y =
      subst (λ (p : List ℕ). Gathers root (place_moments root g presence own paths p (Some d)) old new) e (both root (asks.own_asks paths here own d ++ asks.presence_asks paths here true presence) (asks.moments root g paths here d) old mid new x y)

  pub contents_said : (sizing : Sizing) (g : Grammar) (paths : FieldPaths) (p q : List ℕ) (d : Data) (old mid new : List Moment) → q ≡ p → Gathers root (asks.moments root g paths (p ++ 0 ∷ []) d) old mid
      → Gathers root (asks.counts q (octets_for (bit_length g 0 d)) sizing ∷ asks.size_asks paths q (octets_for (bit_length g 0 d)) sizing.rule) mid new → Gathers root (asks.form_moments root (contained sizing g) paths p d) old new
  contents_said sizing g paths p q d old mid new e x y =
      next p q (λ (z : List ℕ). asks.counts z (octets_for (bit_length g 0 d)) sizing ∷ asks.size_asks paths z (octets_for (bit_length g 0 d)) sizing.rule) (asks.moments root g paths (p ++ 0 ∷ []) d) old mid new e x y

  -- SEQUENCEs.

  count_fields : (fs : List Field) → field_count (fields_view fs) ≡ length fs
  count_fields [] = refl
  count_fields (f ∷ fs) = by (field_of f) ∙ ap suc (count_fields fs)
    where
      by : (x : OneField) → field_count (with_field x (fields_view fs)) ≡ suc (field_count (fields_view fs))
      by (a_component name g presence default own) = refl
      by (an_inserted name g slot) = refl

  pub few_fields : (fs : List Field) (home : List ℕ) → SequenceIn root (fields_view fs) home → length fs ≤ MOST_NODES
  few_fields fs home h = (let few = (first_two h.sound).few_fields in omega (arith, few, count_fields fs))
    where
      first_two : {A B : Type 0} → A × B → A
      first_two x = x.0

  pub home_slots : (path : List ℕ) (fields : Fields) (home : List ℕ) (paths : FieldPaths) (new : List Open) → paths_of new ≡ with_fields path fields home paths → slots_of new ≡ home ++ map (λ e. e.0) paths
  home_slots path fields home paths new is =
      ap numbers is ∙ (map-append number (map own home) paths ∙ ap (λ (z : List ℕ). z ++ numbers paths) (each home))
    where
      number : ℕ × List ℕ → ℕ
      number e = e.0

      numbers : FieldPaths → List ℕ
      numbers p = map (λ e. e.0) p

      own : ℕ → ℕ × List ℕ
      own s = (s, field_path path fields s)

      each : (ss : List ℕ) → map number (map own ss) ≡ ss
      each [] = refl
      each (s ∷ ss) = ap (λ z. s ∷ z) (each ss)

  -- Fields.

  pub fields_from : (fs : List Field) (i : ℕ) (f : Field) → i < length fs → f ≡ get_or fs i f → fields_view (drop i fs) ≡ with_field (field_of f) (fields_view (drop (i + 1) fs))
  fields_from fs i f h e = ap fields_view (drop_more fs i f h) ∙ ap (λ (x : Field). with_field (field_of x) (fields_view (drop (i + 1) fs))) (sym e)

  -- without a place nothing is asked
  fields_none : (paths : FieldPaths) (path : List ℕ) (fs : Fields) (k : ℕ) → asks.fields_moments root fs paths path k no_places ≡ []
  fields_none paths path no_fields k = refl
  fields_none paths path (component name g presence default own fs) k = refl
  fields_none paths path (inserted name g slot fs) k = fields_none paths path fs (suc k)

  fields_free : (k : ℕ) (around : List ℕ) (fs : Fields) → CanGatherFields root k around fs no_places
  fields_free k around no_fields = tt
  fields_free k around (component name g presence default own fs) = tt
  fields_free k around (inserted name g slot fs) = fields_free k around fs

  pub no_place : (around : List ℕ) (paths : FieldPaths) (path : List ℕ) (k : ℕ) (all rest : Fields) (ps : List (Option Value)) (at : ℕ) (old : List Moment) → at ≤ length ps → length ps ≤ at → Onward root all rest around paths path k ps at at old old
  no_place around paths path k all rest ps at old h j =
      let none : places_view (drop at ps) ≡ no_places = ap places_view (drop_of_length-le ps j) in
      record {
        within = h;
        later = subst (λ (x : Places). CanGatherFields root (suc (length path)) around rest x) (sym none) (fields_free (suc (length path)) around rest);
        same = ap (λ z. map with_numbers old ++ map (with_domain root) z)
            ((ap (asks.fields_moments root rest paths path (suc k)) none ∙ fields_none paths path rest (suc k)) ∙ sym (ap (asks.fields_moments root all paths path k) none ∙ fields_none paths path all k));
      }

  -- what is left behind the field of this number
  pub fields_next : (fs : List Field) (i : ℕ) (paths : FieldPaths) (here path : List ℕ) (k : ℕ) (ps ps' : Places) (f : Field) (whole : List (asks.Moment × List (ℤ × ℤ))) (old new : List Moment) → here ≡ path → fields_view (drop i fs) ≡ with_field (field_of f) (fields_view (drop (i + 1) fs))
      → Left root (fields_view (drop (i + 1) fs)) paths here (suc k) ps' new ≡ Left root (with_field (field_of f) (fields_view (drop (i + 1) fs))) paths here k ps old → Left root (fields_view (drop i fs)) paths path k ps old ≡ whole
      → Left root (fields_view (drop (i + 1) fs)) paths path (k + 1) ps' new ≡ whole
  fields_next fs i paths here path k ps ps' f whole old new e from same w =
      let rest = fields_view (drop (i + 1) fs) in
      let at = subst (λ (p : List ℕ). Left root rest paths p (suc k) ps' new ≡ Left root (with_field (field_of f) rest) paths p k ps old) e same in
      ap (λ n. Left root rest paths path n ps' new) (add-one k) ∙ (at ∙ (ap (λ xs. Left root xs paths path k ps old) (sym from) ∙ w))

  pub fields_over : (paths : FieldPaths) (path : List ℕ) (fs : List Field) (ps : Places) (k i : ℕ) (ms : List asks.Moment) (old new : List Moment) → length fs ≤ i → Left root (fields_view (drop i fs)) paths path k ps new ≡ map with_numbers old ++ map (with_domain root) ms → Gathers root ms old new
  fields_over paths path fs ps k i ms old new h e =
      let none : asks.fields_moments root (fields_view (drop i fs)) paths path k ps ≡ [] = ap (λ xs. asks.fields_moments root (fields_view xs) paths path k ps) (drop_of_length-le fs h) ∙ by ps in
      sym (append-nil (map with_numbers new)) ∙ (ap (λ z. map with_numbers new ++ map (with_domain root) z) (sym none) ∙ e)
    where
      by : (x : Places) → asks.fields_moments root no_fields paths path k x ≡ []
      by no_places = refl
      by (empty x) = refl
      by (filled d x) = refl

  -- Elements.

  pub count_elements : (vs : List Value) → element_count (elements_view vs) ≡ length vs
  count_elements [] = refl
  count_elements (v ∷ vs) = ap suc (count_elements vs)

  pub element_can : (P : Data → Type 0) (vs : List Value) (i : ℕ) (v : Value) → i < length vs → v ≡ get_or vs i v → CanGatherEach P (elements_view (drop i vs)) → P (data_of v) × CanGatherEach P (elements_view (drop (i + 1) vs))
  element_can P vs i v h e c =
      let t = subst (λ (xs : List Value). CanGatherEach P (elements_view xs)) (drop_more vs i v h) c in
      (subst (λ (x : Value). P (data_of x)) (sym e) t.0, t.1)

  pub element_turn : (each : ℕ → Data → List asks.Moment) (vs : List Value) (k i : ℕ) (v : Value) (whole : List (asks.Moment × List (ℤ × ℤ))) (old mid : List Moment) → i < length vs → v ≡ get_or vs i v → Gathers root (each k (data_of v)) old mid
      → map with_numbers old ++ map (with_domain root) (run_moments each k (elements_view (drop i vs))) ≡ whole → map with_numbers mid ++ map (with_domain root) (run_moments each (k + 1) (elements_view (drop (i + 1) vs))) ≡ whole
  element_turn each vs k i v whole old mid h e a w =
      turn root (each k (data_of v)) (run_moments each (k + 1) (elements_view (drop (i + 1) vs))) whole old mid a (ap (λ z. map with_numbers old ++ map (with_domain root) z) (sym split) ∙ w)
    where
      split : run_moments each k (elements_view (drop i vs)) ≡ each k (data_of v) ++ run_moments each (k + 1) (elements_view (drop (i + 1) vs))
      split =
          ap (λ (xs : List Value). run_moments each k (elements_view xs)) (drop_more vs i v h)
          ∙ (ap (λ (x : Value). each k (data_of x) ++ run_moments each (suc k) (elements_view (drop (i + 1) vs))) (sym e) ∙ ap (λ (n : ℕ). each k (data_of v) ++ run_moments each n (elements_view (drop (i + 1) vs))) (sym (add-one k)))

  pub elements_over : (each : ℕ → Data → List asks.Moment) (vs : List Value) (k i : ℕ) (ms : List asks.Moment) (old new : List Moment) → length vs ≤ i → map with_numbers new ++ map (with_domain root) (run_moments each k (elements_view (drop i vs))) ≡ map with_numbers old ++ map (with_domain root) ms → Gathers root ms old new
  elements_over each vs k i ms old new h e =
      let none : run_moments each k (elements_view (drop i vs)) ≡ [] = ap (λ xs. run_moments each k (elements_view xs)) (drop_of_length-le vs h) in
      sym (append-nil (map with_numbers new)) ∙ (ap (λ z. map with_numbers new ++ map (with_domain root) z) (sym none) ∙ e)

  pub list_said : (sizing : Sizing) (n : Node) (vs : List Value) (paths : FieldPaths) (p q : List ℕ) (old mid new : List Moment) → q ≡ p → Gathers root (asks.size_asks paths p (length vs) sizing.rule) old mid
      → Gathers root (run_moments (λ k d. asks.moments root (grammar_of n) paths (q ++ k ∷ []) d) 0 (elements_view vs)) mid new → Gathers root (asks.form_moments root (list sizing (grammar_of n)) paths p (list_of (elements_view vs))) old new
  list_said sizing n vs paths p q old mid new e a b =
      next p q (λ (z : List ℕ). run_moments (λ k d. asks.moments root (grammar_of n) paths (z ++ k ∷ []) d) 0 (elements_view vs)) (asks.size_asks paths p (element_count (elements_view vs)) sizing.rule) old mid new e
      (subst (λ (c : ℕ). Gathers root (asks.size_asks paths p c sizing.rule) old mid) (sym (count_elements vs)) a) b

  -- Alternatives.

  pub alternative_at : (paths : FieldPaths) (path : List ℕ) (rule : ChoiceRule) (i : ℕ) (as' : List Alternative) (j : ℕ) (a : Alternative) (d : Data) → j < length as' → a ≡ get_or as' j a
      → asks.alternative_moments root (alternatives_view as') rule paths path i j d ≡ asks.rule_asks root paths path i rule a.name a.tests ++ asks.moments root (grammar_of a.node) paths (path ++ i ∷ []) d
  alternative_at paths path rule i as' j a d h e = there as' j h ∙ ap (λ (x : Alternative). asks.rule_asks root paths path i rule x.name x.tests ++ asks.moments root (grammar_of x.node) paths (path ++ i ∷ []) d) (sym e)
    where
      there : (xs : List Alternative) (m : ℕ) → m < length xs → asks.alternative_moments root (alternatives_view xs) rule paths path i m d ≡ asks.rule_asks root paths path i rule (get_or xs m a).name (get_or xs m a).tests ++ asks.moments root (grammar_of (get_or xs m a).node) paths (path ++ i ∷ []) d
      there [] m h = absurd (omega arith)
      there (x ∷ xs) zero h = rw (alternative_name x, alternative_tests x, alternative_of-grammar x) refl
      there (x ∷ xs) (suc m) h = there xs m (omega arith)

  pub can_case : (k : ℕ) (around : List ℕ) (rule : ChoiceRule) (as' : List Alternative) (j : ℕ) (a : Alternative) (d : Data) → j < length as' → a ≡ get_or as' j a → CanGatherCase root k around rule (alternatives_view as') j d → CaseIn (holds around) rule a.tests × CanGather root k around (grammar_of a.node) d
  can_case k around rule as' j a d h e c = subst (λ (x : Alternative). CaseIn (holds around) rule x.tests × CanGather root k around (grammar_of x.node) d) (sym e) (there as' j h c)
    where
      there : (xs : List Alternative) (m : ℕ) → m < length xs → CanGatherCase root k around rule (alternatives_view xs) m d → CaseIn (holds around) rule (get_or xs m a).tests × CanGather root k around (grammar_of (get_or xs m a).node) d
      there [] m h c = absurd (omega arith)
      there (x ∷ xs) zero h c = (subst (λ ts. CaseIn (holds around) rule ts) (alternative_tests x) c.0, subst (λ g. CanGather root k around g d) (alternative_of-grammar x) c.1)
      there (x ∷ xs) (suc m) h c = there xs m (omega arith) c

  pub alternative_past : (paths : FieldPaths) (path : List ℕ) (rule : ChoiceRule) (i : ℕ) (as' : List Alternative) (j : ℕ) (d : Data) → length as' ≤ j → asks.alternative_moments root (alternatives_view as') rule paths path i j d ≡ []
  alternative_past paths path rule i [] j d h = refl
  alternative_past paths path rule i (x ∷ xs) zero d h = absurd (omega arith)
  alternative_past paths path rule i (x ∷ xs) (suc j) d h = alternative_past paths path rule i xs j d (omega arith)

-- Bodies, with what the program sees of them.

module _ (root : Grammar) (paths : FieldPaths) (path : List ℕ) (form : Form) (d : Data) (old new : List Moment) where
  abbrev Said : Form → Data → Type 0
  Said f x = Gathers root (asks.form_moments root f paths path x) old new

  said : (form' : Form) (d' : Data) → form ≡ form' → d ≡ d' → Said form' d' → Said form d
  said form' d' e f a = subst (λ (x : Form). Said x d) (sym e) (subst (λ (y : Data). Said form' y) (sym f) a)

  pub octets_said : (sizing : Sizing) (os items : List ℕ) → form ≡ octets sizing → d ≡ octet_string os → items ≡ os → Gathers root (asks.size_asks paths path (length items) sizing.rule) old new → Said form d
  octets_said sizing os items e f is a = said (octets sizing) (octet_string os) e f (subst (λ (xs : List ℕ). Gathers root (asks.size_asks paths path (length xs) sizing.rule) old new) is a)

  pub bits_said : (sizing : Sizing) (bs items : List Bool) → form ≡ bits sizing → d ≡ bit_string bs → items ≡ bs → Gathers root (asks.size_asks paths path (length items) sizing.rule) old new → Said form d
  bits_said sizing bs items e f is a = said (bits sizing) (bit_string bs) e f (subst (λ (xs : List Bool). Gathers root (asks.size_asks paths path (length xs) sizing.rule) old new) is a)

  pub text_said : (leaf : TextLeaf) (cs items : List ℕ) → form ≡ text leaf → d ≡ characters cs → items ≡ cs → Gathers root (asks.size_asks paths path (length items) leaf.sized.rule) old new → Said form d
  text_said leaf cs items e f is a = said (text leaf) (characters cs) e f (subst (λ (xs : List ℕ). Gathers root (asks.size_asks paths path (length xs) leaf.sized.rule) old new) is a)

  pub seq_said : (fields fields' : List Field) (home home' : List ℕ) (ps ps' : List (Option Value)) → form ≡ seq (fields_view fields) home → d ≡ record_of (places_view ps) → fields' ≡ fields → home' ≡ home → ps' ≡ ps → Said (seq (fields_view fields') home') (record_of (places_view ps')) → Said form d
  seq_said fields fields' home home' ps ps' e f g h i a = said (seq (fields_view fields) home) (record_of (places_view ps)) e f (rw (g, h, i) at a)

  pub list_form_said : (sizing : Sizing) (n n' : Node) (vs vs' : List Value) → form ≡ list sizing (grammar_of n) → d ≡ list_of (elements_view vs) → n' ≡ n → vs' ≡ vs → Said (list sizing (grammar_of n')) (list_of (elements_view vs')) → Said form d
  list_form_said sizing n n' vs vs' e f g h a = said (list sizing (grammar_of n)) (list_of (elements_view vs)) e f (rw (g, h) at a)

module _ (root : Grammar) (k : ℕ) (around : List ℕ) (form : Form) (d : Data) where
  pub form_can : (form' : Form) (d' : Data) → form ≡ form' → d ≡ d' → CanGatherForm root k around form d → CanGatherForm root k around form' d'
  form_can form' d' e f c = subst (λ (x : Form). CanGatherForm root k around x d') e (subst (λ (y : Data). CanGatherForm root k around form y) f c)

  pub list_can : (sizing : Sizing) (n n' : Node) (vs vs' : List Value) → form ≡ list sizing (grammar_of n) → d ≡ list_of (elements_view vs) → n' ≡ n → vs' ≡ vs → CanGatherForm root k around form d → CanGatherForm root k around (list sizing (grammar_of n')) (list_of (elements_view vs'))
  list_can sizing n n' vs vs' e f g h c = rw (g, h) (form_can (list sizing (grammar_of n)) (list_of (elements_view vs)) e f c)
