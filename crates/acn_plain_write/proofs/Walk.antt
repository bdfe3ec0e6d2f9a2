-- The walk, one part at a time.
use Rattle.std.proofs.Common.{◌≡◌, ℕ, zero, suc, ◌+◌, ◌<◌, ◌≤◌, ℤ, Bool, true, List, [], ◌∷◌, ◌++◌, length, get_or, drop, drop_of_length-le, Option, Some, None, Result, Ok, Err, OnOk, refl, sym, ap, ◌∙◌, subst, arith, rules, length-append, IsTrue, ltb}
use Rattle.std.proofs.lemmas.Bool.Decides.{nat_tests}
use Rattle.std.specs.Prelude.{option_map}
use Rattle.std.specs.List.{AllByRecursion, zip}
use Rattle.std.proofs.lemmas.List.{drop_more}
use Rattle.acn_num.specs.Bits.{bits as bits_of, octets as octets_for}
use Rattle.acn_num.specs.Ranges.{In}
use Rattle.acn_num.specs.declared.limits.TheConstants.{MOST_STEPS}
use Rattle.acn_asks.specs.declared.asked.Asked.{Asked}
use Rattle.acn_grammar.specs.AsksOn.{LeastAnswer, form_asks_on}
use Rattle.acn_grammar.specs.Code.{Written, Code, NumberOf}
use Rattle.acn_grammar.specs.Env.{Env}
use Rattle.acn_grammar.specs.Grammar.{Grammar, Form, Fields, Alternatives, Data, Places, Elements, node, num, octets, bits, text, seq, list, choice, contained, no_fields, component, inserted, null, octet_string, bit_string, characters, record_of, list_of, alt, no_places, empty, filled, element_count}
use Rattle.acn_grammar.specs.Leaves.{text_fine}
use Rattle.acn_grammar.specs.Meets.{text_breach}
use Rattle.acn_grammar.specs.Length.{bit_length, number_of, ending, presence_bits}
use Rattle.acn_grammar.specs.Slots.{domain_of}
use Rattle.acn_grammar.specs.Sound.{field_count}
use Rattle.acn_grammar.specs.Spell.{Part, ◌then◌, Where, Exactly, Fill, Padding, RunPart, ListPart, AlternativePart, Spell, FormPart, FieldsPart, with_home}
use Rattle.acn_grammar.specs.View.{OneField, a_component, an_inserted, with_field, data_of, grammar_of, form_of, field_of, fields_view, places_view, elements_view, alternatives_view}
use Rattle.acn_grammar.specs.declared.limits.TheConstants.{MOST_NODES}
use Rattle.acn_grammar.specs.declared.node.Alternative.{Alternative}
use Rattle.acn_grammar.specs.declared.node.Body.{Num as NumBody, Octets as OctetsBody, Bits as BitsBody, Text as TextBody, List as ListBody, Choice as ChoiceBody, Contained as ContainedBody, the_lemmas as node_lemmas}
use Rattle.acn_grammar.specs.declared.node.Choice.{out-Choice, Choice as ChoiceNode}
use Rattle.acn_grammar.specs.declared.node.ChoiceRule.{ChoiceRule}
use Rattle.acn_grammar.specs.declared.node.Field.{Field, Component, Inserted}
use Rattle.acn_grammar.specs.declared.node.Node.{Node}
use Rattle.acn_grammar.specs.declared.node.NumLeaf.{NumLeaf}
use Rattle.acn_grammar.specs.declared.node.Presence.{Presence}
use Rattle.acn_grammar.specs.declared.node.Sizing.{Sizing}
use Rattle.acn_grammar.specs.declared.node.TextLeaf.{TextLeaf}
use Rattle.acn_grammar.specs.declared.value.Value.{Value, Octets as OctetsValue, Bits as BitsValue, Text as TextValue, List as ListValue, Alt as AltValue, the_lemmas as value_lemmas}
use Rattle.acn_grammar.proofs.Intervals.{alternative_of-grammar}
use Rattle.acn_grammar.proofs.Views.{view_component, view_inserted}
use Rattle.acn_text.specs.Texts.{TextCode, SlotSays, given_size}
use Rattle.acn_plain_write.specs.Adds.{Adds, Appends, Leads, PlacePart, InsertedPart, size_bits, end_bits, index_bits}
use Rattle.acn_plain_write.specs.Ready.{Ready, FormReady, FieldsReady, CaseReady, RunReady, PlaceReady, InsertedReady, KindReady, SaysNumber, HomeReady, SizeReady, CountReady, IndexReady, Onward}
use Rattle.acn_plain_write.proofs.Adding.{joined, in_front, turned, under, appended, leads_then, indexed, sized, octets_add, bits_add, list_adds, window_adds}

pub on_ok : {A E : Type 0} (r : Result A E) {P Q : Type 0} → (P → Q) → OnOk r P → OnOk r Q
on_ok (Ok x) f p = f p
on_ok (Err e) f p = tt

pub below : (a b : ℕ) → true ≡ ltb a b → a < b
below a b h = grind (arith, nat_tests)

-- What forms and values are seen as.

pub view_num : (leaf : NumLeaf) → form_of (NumBody leaf) ≡ num leaf
view_num leaf = search (rules, node_lemmas)

pub view_octets : (s : Sizing) → form_of (OctetsBody s) ≡ octets s
view_octets s = search (rules, node_lemmas)

pub view_bits : (s : Sizing) → form_of (BitsBody s) ≡ bits s
view_bits s = search (rules, node_lemmas)

pub view_text : (leaf : TextLeaf) → form_of (TextBody leaf) ≡ text leaf
view_text leaf = search (rules, node_lemmas)

pub view_list : (s : Sizing) (g : Node) → form_of (ListBody s g) ≡ list s (grammar_of g)
view_list s g = search (rules, node_lemmas)

pub view_contained : (s : Sizing) (g : Node) → form_of (ContainedBody s g) ≡ contained s (grammar_of g)
view_contained s g = search (rules, node_lemmas)

pub view_choice : (c : ChoiceNode) → form_of (ChoiceBody c) ≡ choice (alternatives_view (out-Choice c).alternatives) (out-Choice c).rule
view_choice c = search (rules, node_lemmas)

pub view_octets_value : (os : List ℕ) → data_of (OctetsValue os) ≡ octet_string os
view_octets_value os = search (rules, value_lemmas)

pub view_bits_value : (xs : List Bool) → data_of (BitsValue xs) ≡ bit_string xs
view_bits_value xs = search (rules, value_lemmas)

pub view_text_value : (cs : List ℕ) → data_of (TextValue cs) ≡ characters cs
view_text_value cs = search (rules, value_lemmas)

pub view_list_value : (vs : List Value) → data_of (ListValue vs) ≡ list_of (elements_view vs)
view_list_value vs = search (rules, value_lemmas)

pub view_alt_value : (i : ℕ) (v : Value) → data_of (AltValue i v) ≡ alt i (data_of v)
view_alt_value i v = search (rules, value_lemmas)

-- Bodies.

module _ (root : Grammar) where
  pub form_adds : (form form' : Form) (env : Env) (d d' : Data) (base : ℕ) (old new : List Bool) → form ≡ form' → d ≡ d' → Adds (FormPart root Written form' env d') base old new → Adds (FormPart root Written form env d) base old new
  form_adds form form' env d d' base old new e f a =
      subst (λ (x : Form). Adds (FormPart root Written x env d) base old new) (sym e) (subst (λ (y : Data). Adds (FormPart root Written form' env y) base old new) (sym f) a)

  pub form_ready : (heard : List (List ℕ × Asked)) (form form' : Form) (env : Env) (p : List ℕ) (d d' : Data) → form ≡ form' → d ≡ d' → FormReady root heard form env p d → FormReady root heard form' env p d'
  form_ready heard form form' env p d d' e f r = subst (λ (x : Form). FormReady root heard x env p d') e (subst (λ (y : Data). FormReady root heard form env p y) f r)

  pub number_adds : (leaf : NumLeaf) (env : Env) (d : Data) (base : ℕ) (old new : List Bool) → NumberOf leaf.kind d (number_of d) → Appends (Code Written leaf (number_of d)) old new → Adds (FormPart root Written (num leaf) env d) base old new
  number_adds leaf env d base old new n a = appended base old new (λ at bs c. (number_of d, n, c)) a

  pub text_adds : (leaf : TextLeaf) (env : Env) (cs : List ℕ) (base : ℕ) (old new : List Bool) → SlotSays leaf.sized.rule (given_size leaf.sized.rule (length cs)) env → Appends (TextCode leaf (given_size leaf.sized.rule (length cs)) cs) old new
      → Adds (FormPart root Written (text leaf) env (characters cs)) base old new
  text_adds leaf env cs base old new s a = appended base old new (λ at bs c. c env at s) a

  -- a path has room for a step to a node
  pub room : (heard : List (List ℕ × Asked)) (g : Grammar) (env : Env) (p : List ℕ) (k : ℕ) (d : Data) → Ready root heard g env (p ++ k ∷ []) d → length p < MOST_STEPS
  room heard (node align form) env p k d r = (let m = r.1 in let l = length-append p (k ∷ []) in omega (arith, m, l))

  inserted_by : (own : Option ℕ) (align : ℕ) (leaf : NumLeaf) (env : Env) (x : ℤ) (base : ℕ) (old new : List Bool) → KindReady own leaf.kind → SaysNumber own env x → Adds (Padding Written align then (λ at bs. Code Written leaf x bs)) base old new → Adds (InsertedPart root own (node align (num leaf)) env) base old new
  inserted_by (Some s) align leaf env x base old new k says a = turned base old new (λ at bs t. (x, says, t)) a
  inserted_by None align leaf env x base old new k says a =
      turned base old new (λ at bs t. record { front = t.front; back = t.back; whole = t.whole; first = t.first; second = (x, subst (λ z. NumberOf leaf.kind null z) (sym says) k, t.second) }) a

  pub inserted_adds : (own : Option ℕ) (g : Grammar) (align : ℕ) (leaf : NumLeaf) (env : Env) (x : ℤ) (base : ℕ) (old mid new : List Bool) → g ≡ node align (num leaf) → InsertedReady own g env → SaysNumber own env x → Adds (Padding Written align) base old mid → Appends (Code Written leaf x) mid new
      → Adds (InsertedPart root own g env) base old new
  inserted_adds own g align leaf env x base old mid new e r says pad code =
      let ready = subst (λ (y : Grammar). InsertedReady own y env) e r in
      subst (λ (y : Grammar). Adds (InsertedPart root own y env) base old new) (sym e) (inserted_by own align leaf env x base old new ready.2 says (joined base old mid new pad (appended base mid new (λ at bs c. c) code)))

  -- SEQUENCEs.

  weaker : {A : Type 0} (P Q : A → Type 0) → ((x : A) → P x → Q x) → (xs : List A) → AllByRecursion P xs → AllByRecursion Q xs
  weaker P Q f [] h = tt
  weaker P Q f (x ∷ xs) h = (f x h.0, weaker P Q f xs h.1)

  pub seq_adds : (heard : List (List ℕ × Asked)) (fields : Fields) (home : List ℕ) (env numbers : Env) (p : List ℕ) (ps : Places) (xs : List ℤ) (base : ℕ) (old mid new : List Bool) → HomeReady root heard p fields home ps xs → numbers ≡ with_home home xs env → mid ≡ old ++ presence_bits fields ps
      → Adds (FieldsPart root Written fields numbers ps) base mid new → Adds (FormPart root Written (seq fields home) env (record_of ps)) base old new
  seq_adds heard fields home env numbers p ps xs base old mid new h is e a = turned base old new
      (λ at bs t. record {
        numbers = xs;
        fine = record {
          count = h.count;
          permitted = weaker (λ e. LeastAnswer (domain_of root e.0) (form_asks_on root e.0 (seq fields home) (record_of ps)) e.1) (λ e. In (domain_of root e.0) e.1) (λ e l. (l.answers).permitted) (zip home xs) h.least;
          least = λ m. h.least;
        };
        spelled = t;
      })
      (in_front base old mid new (presence_bits fields ps) e (λ at. refl) (subst (λ (n : Env). Adds (FieldsPart root Written fields n ps) base mid new) is a))

  count_fields : (fs : List Field) → field_count (fields_view fs) ≡ length fs
  count_fields [] = refl
  count_fields (f ∷ fs) = by (field_of f) ∙ ap suc (count_fields fs)
    where
      by : (x : OneField) → field_count (with_field x (fields_view fs)) ≡ suc (field_count (fields_view fs))
      by (a_component name g presence default own) = refl
      by (an_inserted name g slot) = refl

  pub few_fields : (heard : List (List ℕ × Asked)) (fs : List Field) (home : List ℕ) (p : List ℕ) (ps : Places) (xs : List ℤ) → HomeReady root heard p (fields_view fs) home ps xs → length fs ≤ MOST_NODES
  few_fields heard fs home p ps xs h = (let few = (first_two (h.sound).sound).few_fields in omega (arith, few, count_fields fs))
    where
      first_two : {A B : Type 0} → A × B → A
      first_two x = x.0

  -- Fields.

  -- a place in front of others
  abbrev put : Option Data → Places → Places
  put None ps = empty ps
  put (Some d) ps = filled d ps

  places_drop : (ps : List (Option Value)) (k : ℕ) (p : Option Value) → k < length ps → p ≡ get_or ps k p → places_view (drop k ps) ≡ put (option_map data_of p) (places_view (drop (k + 1) ps))
  places_drop ps k p h e = ap places_view (drop_more ps k p h) ∙ (ap (λ (x : Option Value). places_view (x ∷ drop (k + 1) ps)) (sym e) ∙ by p)
    where
      by : (o : Option Value) → places_view (o ∷ drop (k + 1) ps) ≡ put (option_map data_of o) (places_view (drop (k + 1) ps))
      by None = refl
      by (Some v) = refl

  leads_empty : {fact : Type 0} {P : Part} (base : ℕ) (old new : List Bool) → fact → Adds (Exactly []) base old new → Leads P (Where fact P) base old new
  leads_empty {fact} {P} base old new f a = record {
    front = a.front;
    added = a.added;
    goes = λ at e bs t. (let is = a.spelled at e in record { given = f; spelled = subst (λ (b : List Bool). P at (b ++ bs)) (sym is) (subst (λ n. P n bs) (nothing at a.front is) t) });
  }
    where
      nothing : (at : ℕ) (front : List Bool) → front ≡ [] → at + length front ≡ at
      nothing at front is = omega (arith, ap length is)

  module _ (heard : List (List ℕ × Asked)) (env : Env) (p : List ℕ) (k : ℕ) where
    place_ready : (name : List ℕ) (g : Grammar) (presence : Presence) (default : Option (List ℕ)) (own : Option ℕ) (rest : Fields) (o : Option Data) (behind : Places) → FieldsReady root heard (component name g presence default own rest) env p k (put o behind) → PlaceReady (λ d. Ready root heard g env (p ++ k ∷ []) d) o
    place_ready name g presence default own rest None behind r = tt
    place_ready name g presence default own rest (Some d) behind r = r.1

    place_later : (name : List ℕ) (g : Grammar) (presence : Presence) (default : Option (List ℕ)) (own : Option ℕ) (rest : Fields) (o : Option Data) (behind : Places) → FieldsReady root heard (component name g presence default own rest) env p k (put o behind) → FieldsReady root heard rest env p (suc k) behind
    place_later name g presence default own rest None behind r = r.1
    place_later name g presence default own rest (Some d) behind r = r.2

    place_leads : (name : List ℕ) (g : Grammar) (presence : Presence) (default : Option (List ℕ)) (own : Option ℕ) (rest : Fields) (o : Option Data) (behind : Places) (base : ℕ) (old new : List Bool) → FieldsReady root heard (component name g presence default own rest) env p k (put o behind)
        → Adds (PlacePart (λ d. Spell root Written g env d) o) base old new → Leads (FieldsPart root Written rest env behind) (FieldsPart root Written (component name g presence default own rest) env (put o behind)) base old new
    place_leads name g presence default own rest None behind base old new r a = leads_empty base old new r.0 a
    place_leads name g presence default own rest (Some d) behind base old new r a = leads_then base old new (under base old new r.0 a)

    component_is : (f : Field) (name : List ℕ) (n : Node) (presence : Presence) (default : Option (List ℕ)) (own : Option ℕ) (rest : Fields) → f ≡ Component name n presence default own → with_field (field_of f) rest ≡ component name (grammar_of n) presence default own rest
    component_is f name n presence default own rest e = ap (λ (x : OneField). with_field x rest) (ap field_of e ∙ view_component name n presence default own)

    inserted_is : (f : Field) (name : List ℕ) (n : Node) (own : Option ℕ) (rest : Fields) → f ≡ Inserted name n own → with_field (field_of f) rest ≡ inserted name (grammar_of n) own rest
    inserted_is f name n own rest e = ap (λ (x : OneField). with_field x rest) (ap field_of e ∙ view_inserted name n own)

    pub component_ready : (f : Field) (name : List ℕ) (n : Node) (presence : Presence) (default : Option (List ℕ)) (own : Option ℕ) (rest : Fields) (ps : List (Option Value)) (at : ℕ) (o : Option Value) → f ≡ Component name n presence default own → at < length ps → o ≡ get_or ps at o
        → FieldsReady root heard (with_field (field_of f) rest) env p k (places_view (drop at ps)) → PlaceReady (λ d. Ready root heard (grammar_of n) env (p ++ k ∷ []) d) (option_map data_of o)
    component_ready f name n presence default own rest ps at o e h is r =
        place_ready name (grammar_of n) presence default own rest (option_map data_of o) (places_view (drop (at + 1) ps))
        (subst (λ (x : Fields). FieldsReady root heard x env p k (put (option_map data_of o) (places_view (drop (at + 1) ps)))) (component_is f name n presence default own rest e)
        (subst (λ (y : Places). FieldsReady root heard (with_field (field_of f) rest) env p k y) (places_drop ps at o h is) r))

    pub component_onward : (f : Field) (name : List ℕ) (n : Node) (presence : Presence) (default : Option (List ℕ)) (own : Option ℕ) (rest : Fields) (ps : List (Option Value)) (at : ℕ) (o : Option Value) (base : ℕ) (old new : List Bool) → f ≡ Component name n presence default own → at < length ps → o ≡ get_or ps at o
        → FieldsReady root heard (with_field (field_of f) rest) env p k (places_view (drop at ps)) → Adds (PlacePart (λ d. Spell root Written (grammar_of n) env d) (option_map data_of o)) base old new → Onward root heard (with_field (field_of f) rest) rest env p k ps at (at + 1) base old new
    component_onward f name n presence default own rest ps at o base old new e h is r a =
        let x = component_is f name n presence default own rest e in
        let y = places_drop ps at o h is in
        let behind = places_view (drop (at + 1) ps) in
        let q : FieldsReady root heard (component name (grammar_of n) presence default own rest) env p k (put (option_map data_of o) (places_view (drop (at + 1) ps))) = subst (λ (z : Fields). FieldsReady root heard z env p k (put (option_map data_of o) (places_view (drop (at + 1) ps)))) x
        (subst (λ (z : Places). FieldsReady root heard (with_field (field_of f) rest) env p k z) y r) in
        record {
          within = omega (arith, h);
          later = place_later name (grammar_of n) presence default own rest (option_map data_of o) behind q;
          leads = subst (λ (z : Places). Leads (FieldsPart root Written rest env (places_view (drop (at + 1) ps))) (FieldsPart root Written (with_field (field_of f) rest) env z) base old new) (sym y)
              (subst (λ (z : Fields). Leads (FieldsPart root Written rest env (places_view (drop (at + 1) ps))) (FieldsPart root Written z env (put (option_map data_of o) (places_view (drop (at + 1) ps)))) base old new) (sym x)
              (place_leads name (grammar_of n) presence default own rest (option_map data_of o) behind base old new q a));
        }

    -- no place is left for a component
    pub no_place : (f : Field) (name : List ℕ) (n : Node) (presence : Presence) (default : Option (List ℕ)) (own : Option ℕ) (rest : Fields) (ps : List (Option Value)) (at : ℕ) → f ≡ Component name n presence default own → length ps ≤ at → FieldsReady root heard (with_field (field_of f) rest) env p k (places_view (drop at ps)) → ⊥
    no_place f name n presence default own rest ps at e h r =
        subst (λ (x : Fields). FieldsReady root heard x env p k no_places) (component_is f name n presence default own rest e)
        (subst (λ (y : Places). FieldsReady root heard (with_field (field_of f) rest) env p k y) (ap places_view (drop_of_length-le ps h)) r)

    inserted_leads : (name : List ℕ) (g : Grammar) (own : Option ℕ) (rest : Fields) (ps : Places) (base : ℕ) (old new : List Bool) → Adds (InsertedPart root own g env) base old new → Leads (FieldsPart root Written rest env ps) (FieldsPart root Written (inserted name g own rest) env ps) base old new
    inserted_leads name g None rest ps base old new a = leads_then base old new a
    inserted_leads name g (Some s) rest ps base old new a = leads_then base old new a

    pub inserted_ready : (f : Field) (name : List ℕ) (n : Node) (own : Option ℕ) (rest : Fields) (ps : Places) → f ≡ Inserted name n own → FieldsReady root heard (with_field (field_of f) rest) env p k ps → InsertedReady own (grammar_of n) env
    inserted_ready f name n own rest ps e r = (subst (λ (x : Fields). FieldsReady root heard x env p k ps) (inserted_is f name n own rest e) r).0

    pub inserted_onward : (f : Field) (name : List ℕ) (n : Node) (own : Option ℕ) (rest : Fields) (ps : List (Option Value)) (at base : ℕ) (old new : List Bool) → f ≡ Inserted name n own → at ≤ length ps → FieldsReady root heard (with_field (field_of f) rest) env p k (places_view (drop at ps))
        → Adds (InsertedPart root own (grammar_of n) env) base old new → Onward root heard (with_field (field_of f) rest) rest env p k ps at at base old new
    inserted_onward f name n own rest ps at base old new e h r a =
        let x = inserted_is f name n own rest e in
        record {
          within = h;
          later = (subst (λ (z : Fields). FieldsReady root heard z env p k (places_view (drop at ps))) x r).1;
          leads = subst (λ (z : Fields). Leads (FieldsPart root Written rest env (places_view (drop at ps))) (FieldsPart root Written z env (places_view (drop at ps))) base old new) (sym x) (inserted_leads name (grammar_of n) own rest (places_view (drop at ps)) base old new a);
        }

  -- the fields from one on
  pub fields_from : (fs : List Field) (i : ℕ) (f : Field) → i < length fs → f ≡ get_or fs i f → fields_view (drop i fs) ≡ with_field (field_of f) (fields_view (drop (i + 1) fs))
  fields_from fs i f h e = ap fields_view (drop_more fs i f h) ∙ ap (λ (x : Field). with_field (field_of x) (fields_view (drop (i + 1) fs))) (sym e)

  -- no field is left
  pub fields_end : (heard : List (List ℕ × Asked)) (fs : List Field) (i : ℕ) (env : Env) (p : List ℕ) (k : ℕ) (ps : Places) → length fs ≤ i → FieldsReady root heard (fields_view (drop i fs)) env p k ps → (at : ℕ) → FieldsPart root Written (fields_view (drop i fs)) env ps at []
  fields_end heard fs i env p k ps h r at =
      let x : fields_view (drop i fs) ≡ no_fields = ap fields_view (drop_of_length-le fs h) in
      rw x (by ps (rw x at r))
    where
      by : (qs : Places) → FieldsReady root heard no_fields env p k qs → FieldsPart root Written no_fields env qs at []
      by no_places q = refl
      by (empty qs) q = absurd q
      by (filled d qs) q = absurd q

  -- Elements.

  pub count_elements : (vs : List Value) → element_count (elements_view vs) ≡ length vs
  count_elements [] = refl
  count_elements (v ∷ vs) = ap suc (count_elements vs)

  pub run_step : (each : ℕ → Data → Type 0) (vs : List Value) (i k : ℕ) (v : Value) → i < length vs → v ≡ get_or vs i v → RunReady each k (elements_view (drop i vs)) → each k (data_of v) × RunReady each (suc k) (elements_view (drop (i + 1) vs))
  run_step each vs i k v h e r = (let s = rw (drop_more vs i v h, ← e) at r in (s.0, s.1))

  pub run_leads : (each : Data → Part) (vs : List Value) (i : ℕ) (v : Value) (base : ℕ) (old new : List Bool) → i < length vs → v ≡ get_or vs i v → Adds (each (data_of v)) base old new → Leads (RunPart each (elements_view (drop (i + 1) vs))) (RunPart each (elements_view (drop i vs))) base old new
  run_leads each vs i v base old new h e a = rw (drop_more vs i v h, ← e) (leads_then base old new a)

  pub run_end : (each : Data → Part) (vs : List Value) (i : ℕ) → length vs ≤ i → (at : ℕ) → RunPart each (elements_view (drop i vs)) at []
  run_end each vs i h at = rw (drop_of_length-le vs h) refl

  pub list_added : (sizing : Sizing) (env : Env) (each : Data → Part) (vs : List Value) (base : ℕ) (old a b new : List Bool) → CountReady (ending sizing.rule) sizing env (element_count (elements_view vs)) → a ≡ old ++ size_bits sizing.rule (length vs) → Adds (RunPart each (elements_view vs)) base a b → new ≡ b ++ end_bits sizing.rule
      → Adds (ListPart (ending sizing.rule) sizing env each (elements_view vs)) base old new
  list_added sizing env each vs base old a b new c e run f = list_adds sizing env each (elements_view vs) base old a b new c (e ∙ ap (λ n. old ++ size_bits sizing.rule n) (sym (count_elements vs))) run f

  -- Alternatives.

  pub case_ready : (heard : List (List ℕ × Asked)) (as' : List Alternative) (rule : ChoiceRule) (env : Env) (p : List ℕ) (i j : ℕ) (a : Alternative) (d : Data) → j < length as' → a ≡ get_or as' j a → CaseReady root heard (alternatives_view as') rule env p i j d → Ready root heard (grammar_of a.node) env (p ++ i ∷ []) d
  case_ready heard as' rule env p i j a d h e c = subst (λ (x : Alternative). Ready root heard (grammar_of x.node) env (p ++ i ∷ []) d) (sym e) (there as' j h c)
    where
      there : (xs : List Alternative) (m : ℕ) → m < length xs → CaseReady root heard (alternatives_view xs) rule env p i m d → Ready root heard (grammar_of (get_or xs m a).node) env (p ++ i ∷ []) d
      there [] m h c = absurd (omega arith)
      there (x ∷ xs) zero h c = subst (λ g. Ready root heard g env (p ++ i ∷ []) d) (alternative_of-grammar x) c.1
      there (x ∷ xs) (suc m) h c = there xs m (omega (arith, h)) c

  pub case_adds : (heard : List (List ℕ × Asked)) (as' : List Alternative) (rule : ChoiceRule) (env : Env) (p : List ℕ) (i j : ℕ) (a : Alternative) (d : Data) (base : ℕ) (old new : List Bool) → j < length as' → a ≡ get_or as' j a → CaseReady root heard (alternatives_view as') rule env p i j d → Adds (Spell root Written (grammar_of a.node) env d) base old new
      → Adds (AlternativePart root Written (alternatives_view as') rule env j d) base old new
  case_adds heard as' rule env p i j a d base old new h e c s = there as' j h c (subst (λ (x : Alternative). Adds (Spell root Written (grammar_of x.node) env d) base old new) e s)
    where
      there : (xs : List Alternative) (m : ℕ) → m < length xs → CaseReady root heard (alternatives_view xs) rule env p i m d → Adds (Spell root Written (grammar_of (get_or xs m a).node) env d) base old new → Adds (AlternativePart root Written (alternatives_view xs) rule env m d) base old new
      there [] m h c s = absurd (omega arith)
      there (x ∷ xs) zero h c s = under base old new c.0 (subst (λ g. Adds (Spell root Written g env d) base old new) (sym (alternative_of-grammar x)) s)
      there (x ∷ xs) (suc m) h c s = there xs m (omega (arith, h)) c s

  pub no_case : (heard : List (List ℕ × Asked)) (as' : List Alternative) (rule : ChoiceRule) (env : Env) (p : List ℕ) (i j : ℕ) (d : Data) → length as' ≤ j → CaseReady root heard (alternatives_view as') rule env p i j d → ⊥
  no_case heard [] rule env p i j d h c = c
  no_case heard (x ∷ xs) rule env p i zero d h c = absurd (omega arith)
  no_case heard (x ∷ xs) rule env p i (suc j) d h c = no_case heard xs rule env p i j d (omega (arith, h)) c

  pub choice_adds : (cases : Alternatives) (rule : ChoiceRule) (env : Env) (i : ℕ) (d : Data) (base : ℕ) (old mid new : List Bool) → IndexReady rule i → mid ≡ old ++ index_bits rule i → Adds (AlternativePart root Written cases rule env i d) base mid new → Adds (FormPart root Written (choice cases rule) env (alt i d)) base old new
  choice_adds cases rule env i d base old mid new r e a = in_front base old mid new (index_bits rule i) e (indexed root rule i r) a

  -- Contents.

  pub contained_adds : (sizing : Sizing) (g : Grammar) (env : Env) (d : Data) (base start : ℕ) (old mid in' new : List Bool) → SizeReady sizing env (octets_for (bit_length g 0 d)) → ((bs : List Bool) → Spell root Written g env d 0 bs → length bs ≡ bit_length g 0 d) → mid ≡ old ++ size_bits sizing.rule (octets_for (bit_length g 0 d)) → start ≡ length mid
      → Adds (Spell root Written g env d) start mid in' → Adds (Fill Written) start in' new → Adds (FormPart root Written (contained sizing g) env d) base old new
  contained_adds sizing g env d base start old mid in' new s told e is a b = turned base old new (λ at bs t. record { some = octets_for (bit_length g 0 d); spelled = t })
      (in_front base old mid new (size_bits sizing.rule (octets_for (bit_length g 0 d))) e (sized sizing env (octets_for (bit_length g 0 d)) s)
      (window_adds root g env d base mid in' new told (subst (λ n. Adds (Spell root Written g env d) n mid in') is a) (subst (λ n. Adds (Fill Written) n in' new) is b)))

-- Bodies, with what the program sees of them.

module _ (root : Grammar) (heard : List (List ℕ × Asked)) (form : Form) (env : Env) (p : List ℕ) (d : Data) where
  pub num_body : (leaf : NumLeaf) (base : ℕ) (old new : List Bool) → form ≡ num leaf → FormReady root heard form env p d → Appends (Code Written leaf (number_of d)) old new → Adds (FormPart root Written form env d) base old new
  num_body leaf base old new e r a =
      form_adds root form (num leaf) env d d base old new e refl (number_adds root leaf env d base old new (form_ready root heard form (num leaf) env p d d e refl r).1 a)

  pub octets_body : (sizing : Sizing) (os items : List ℕ) (base : ℕ) (old new : List Bool) → form ≡ octets sizing → d ≡ octet_string os → items ≡ os → FormReady root heard form env p d → new ≡ old ++ (size_bits sizing.rule (length items) ++ bits_of items)
      → Adds (FormPart root Written form env d) base old new
  octets_body sizing os items base old new e f is r grown =
      let ready = form_ready root heard form (octets sizing) env p d (octet_string os) e f r in
      form_adds root form (octets sizing) env d (octet_string os) base old new e f (octets_add sizing env os base old new ready.0 ready.1 (grown ∙ ap (λ (xs : List ℕ). old ++ (size_bits sizing.rule (length xs) ++ bits_of xs)) is))

  pub bits_body : (sizing : Sizing) (xs items : List Bool) (base : ℕ) (old new : List Bool) → form ≡ bits sizing → d ≡ bit_string xs → items ≡ xs → FormReady root heard form env p d → new ≡ old ++ (size_bits sizing.rule (length items) ++ items) → Adds (FormPart root Written form env d) base old new
  bits_body sizing xs items base old new e f is r grown =
      let ready = form_ready root heard form (bits sizing) env p d (bit_string xs) e f r in
      form_adds root form (bits sizing) env d (bit_string xs) base old new e f (bits_add sizing env xs base old new ready (grown ∙ ap (λ (ys : List Bool). old ++ (size_bits sizing.rule (length ys) ++ ys)) is))

  pub text_body_ready : (leaf : TextLeaf) (cs items : List ℕ) → form ≡ text leaf → d ≡ characters cs → items ≡ cs → FormReady root heard form env p d → IsTrue (text_fine leaf) × (text_breach leaf items ≡ [])
  text_body_ready leaf cs items e f is r =
      let ready = form_ready root heard form (text leaf) env p d (characters cs) e f r in
      (ready.0, subst (λ (xs : List ℕ). text_breach leaf xs ≡ []) (sym is) ready.1)

  pub text_body : (leaf : TextLeaf) (cs items : List ℕ) (base : ℕ) (old new : List Bool) → form ≡ text leaf → d ≡ characters cs → items ≡ cs → FormReady root heard form env p d → Appends (TextCode leaf (given_size leaf.sized.rule (length items)) items) old new → Adds (FormPart root Written form env d) base old new
  text_body leaf cs items base old new e f is r a =
      let ready = form_ready root heard form (text leaf) env p d (characters cs) e f r in
      form_adds root form (text leaf) env d (characters cs) base old new e f (text_adds root leaf env cs base old new ready.2 (subst (λ (xs : List ℕ). Appends (TextCode leaf (given_size leaf.sized.rule (length xs)) xs) old new) is a))

  pub seq_body_ready : (fields fields' : List Field) (home home' : List ℕ) (ps ps' : List (Option Value)) → form ≡ seq (fields_view fields) home → d ≡ record_of (places_view ps) → fields' ≡ fields → home' ≡ home → ps' ≡ ps → FormReady root heard form env p d → FormReady root heard (seq (fields_view fields') home') env p (record_of (places_view ps'))
  seq_body_ready fields fields' home home' ps ps' e f g h i r = rw (g, h, i) (form_ready root heard form (seq (fields_view fields) home) env p d (record_of (places_view ps)) e f r)

  pub seq_body : (fields fields' : List Field) (home home' : List ℕ) (ps ps' : List (Option Value)) (base : ℕ) (old new : List Bool) → form ≡ seq (fields_view fields) home → d ≡ record_of (places_view ps) → fields' ≡ fields → home' ≡ home → ps' ≡ ps → Adds (FormPart root Written (seq (fields_view fields') home') env (record_of (places_view ps'))) base old new
      → Adds (FormPart root Written form env d) base old new
  seq_body fields fields' home home' ps ps' base old new e f g h i a = form_adds root form (seq (fields_view fields) home) env d (record_of (places_view ps)) base old new e f (rw (g, h, i) at a)

  pub list_body_ready : (sizing : Sizing) (n n' : Node) (vs vs' : List Value) → form ≡ list sizing (grammar_of n) → d ≡ list_of (elements_view vs) → n' ≡ n → vs' ≡ vs → FormReady root heard form env p d → FormReady root heard (list sizing (grammar_of n')) env p (list_of (elements_view vs'))
  list_body_ready sizing n n' vs vs' e f g h r = rw (g, h) (form_ready root heard form (list sizing (grammar_of n)) env p d (list_of (elements_view vs)) e f r)

  pub list_body : (sizing : Sizing) (n n' : Node) (vs vs' : List Value) (base : ℕ) (old new : List Bool) → form ≡ list sizing (grammar_of n) → d ≡ list_of (elements_view vs) → n' ≡ n → vs' ≡ vs → Adds (FormPart root Written (list sizing (grammar_of n')) env (list_of (elements_view vs'))) base old new
      → Adds (FormPart root Written form env d) base old new
  list_body sizing n n' vs vs' base old new e f g h a = form_adds root form (list sizing (grammar_of n)) env d (list_of (elements_view vs)) base old new e f (rw (g, h) at a)

  pub choice_body_ready : (as' as'' : List Alternative) (rule : ChoiceRule) (i : ℕ) (v v' : Value) → form ≡ choice (alternatives_view as') rule → d ≡ alt i (data_of v) → as'' ≡ as' → v' ≡ v → FormReady root heard form env p d → FormReady root heard (choice (alternatives_view as'') rule) env p (alt i (data_of v'))
  choice_body_ready as' as'' rule i v v' e f g h r = rw (g, h) (form_ready root heard form (choice (alternatives_view as') rule) env p d (alt i (data_of v)) e f r)

  pub choice_body : (as' as'' : List Alternative) (rule : ChoiceRule) (i : ℕ) (v v' : Value) (base : ℕ) (old new : List Bool) → form ≡ choice (alternatives_view as') rule → d ≡ alt i (data_of v) → as'' ≡ as' → v' ≡ v → Adds (FormPart root Written (choice (alternatives_view as'') rule) env (alt i (data_of v'))) base old new
      → Adds (FormPart root Written form env d) base old new
  choice_body as' as'' rule i v v' base old new e f g h a = form_adds root form (choice (alternatives_view as') rule) env d (alt i (data_of v)) base old new e f (rw (g, h) at a)

  pub contained_body_ready : (sizing : Sizing) (n n' : Node) → form ≡ contained sizing (grammar_of n) → n' ≡ n → FormReady root heard form env p d → FormReady root heard (contained sizing (grammar_of n')) env p d
  contained_body_ready sizing n n' e g r = rw g (form_ready root heard form (contained sizing (grammar_of n)) env p d d e refl r)

  pub contained_body : (sizing : Sizing) (n n' : Node) (base : ℕ) (old new : List Bool) → form ≡ contained sizing (grammar_of n) → n' ≡ n → Adds (FormPart root Written (contained sizing (grammar_of n')) env d) base old new → Adds (FormPart root Written form env d) base old new
  contained_body sizing n n' base old new e g a = form_adds root form (contained sizing (grammar_of n)) env d d base old new e refl (rw g at a)
