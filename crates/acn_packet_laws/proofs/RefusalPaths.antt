-- The paths of breaches and of refusals lead to nodes.
use Rattle.std.proofs.Common.{◌≡◌, ℕ, zero, suc, ◌+◌, pos, Bool, true, false, List, [], ◌∷◌, ◌++◌, length, map, Option, Some, None, refl, sym, ap, ◌∙◌, arith, subst, nat_eq}
use Rattle.std.specs.Prelude.{IsSome, not, position, option_map, unwrap_or, if◌then◌else◌}
use Rattle.std.specs.List.{AllByRecursion}
use Rattle.acn_num.specs.Bits.{octets as octets_for}
use Rattle.acn_num.specs.Ranges.{has}
use Rattle.acn_grammar.specs.Asks.{Moment, asks, counts, FieldPaths, field_of, at_slot, or_else, steps_to, field_steps, field_path, with_fields, test_asks, presence_asks, size_asks, own_asks, rule_asks, run_moments, moments, form_moments, fields_moments, alternative_moments}
use Rattle.acn_grammar.specs.Grammar.{Grammar, Form, Fields, Alternatives, Data, Places, Elements, node, num, octets, bits, text, seq, list, choice, contained, no_fields, component, inserted, no_alternatives, alternative, octet_string, bit_string, characters, record_of, list_of, alt, empty, filled, no_places, no_elements, element, element_count}
use Rattle.acn_grammar.specs.Length.{bit_length}
use Rattle.acn_grammar.specs.Meets.{Why, Unfit, size_out_of_range, bad_character, terminator_inside, unless, where_found, size_breach, end_breach, text_breach, at_path, run_breaches, breaches, form_breaches, field_breaches, alternative_breaches, first_of}
use Rattle.acn_grammar.specs.Paths.{node_on, part_node, field_at, if_some}
use Rattle.acn_grammar.specs.Refused.{Says, RefusedAfter}
use Rattle.acn_grammar.specs.declared.node.ChoiceRule.{ChoiceRule}
use Rattle.acn_grammar.specs.declared.node.ChoiceRule.TheVariants.{Index, Tests, Item}
use Rattle.acn_grammar.specs.declared.node.Presence.{Presence}
use Rattle.acn_grammar.specs.declared.node.Presence.TheVariants.{Always, Bit, When}
use Rattle.acn_grammar.specs.declared.node.SizeRule.{SizeRule}
use Rattle.acn_grammar.specs.declared.node.SizeRule.TheVariants.{Prefix, Slot, Ended}
use Rattle.acn_grammar.specs.declared.node.TextLeaf.{TextLeaf}
use Rattle.acn_grammar.specs.declared.node.Test.{Test}
use Rattle.acn_grammar.specs.declared.node.Test.TheVariants.{Flag, Equals}
use Rattle.acn_packet_laws.specs.Laws.{LeadsToANode, BreachesAreAtNodes, ReasonLeads, RefusalsAreAtNodes}
use Rattle.acn_packet_laws.proofs.OnPaths.{On, is_some, further, FieldsOn, all_fields, first_component, behind_component, behind_inserted, CaseOn, one_further}
use Rattle.acn_packet_laws.proofs.Used.{each_both}

-- What leads to the field of a slot.

-- steps from field k on, which begin with the number of a field that is left
record StepsIn (fs : Fields) (k : ℕ) (steps : List ℕ) : Type 0 where
  pub first : ℕ
  pub rest : List ℕ
  pub over : ℕ
  pub inside : Grammar
  pub is : steps ≡ first ∷ rest
  pub number : first ≡ k + over
  pub found : field_at fs over ≡ Some inside
  pub leads : IsSome (node_on inside rest)

some_list : (a b : List ℕ) → Some a ≡ Some b → a ≡ b
some_list a b e = cc

at_slot_either : {F : Type 0} (own : Option ℕ) (s : ℕ) (here : List ℕ) (y : Option (List ℕ)) (steps : List ℕ) → at_slot own s here y ≡ Some steps → (here ≡ steps → F) → (y ≡ Some steps → F) → F
at_slot_either None s here y steps e f g = g e
at_slot_either {F} (Some t) s here y steps e f g = by (nat_eq t s) e
  where
    by : (b : Bool) → (if b then Some here else y) ≡ Some steps → F
    by true h = f (some_list here steps h)
    by false h = g h

or_else_either : {F : Type 0} (x y : Option (List ℕ)) (steps : List ℕ) → or_else x y ≡ Some steps → (x ≡ Some steps → F) → (y ≡ Some steps → F) → F
or_else_either None y steps e f g = g e
or_else_either (Some x) y steps e f g = f e

mapped : {F : Type 0} (k : ℕ) (o : Option (List ℕ)) (steps : List ℕ) → option_map (λ q. k ∷ q) o ≡ Some steps → ((q : List ℕ) → o ≡ Some q → steps ≡ k ∷ q → F) → F
mapped k None steps e f = cc
mapped k (Some q) steps e f = f q refl (sym (some_list (k ∷ q) steps e))

seq_leads : (align : ℕ) (fields : Fields) (home : List ℕ) (steps : List ℕ) → StepsIn fields 0 steps → IsSome (node_on (node align (seq fields home)) steps)
seq_leads align fields home steps t =
    let same : t.first ≡ t.over = omega (arith, t.number) in
    let o : field_at fields t.first ≡ Some t.inside = ap (field_at fields) same ∙ t.found in
    subst (λ (p : List ℕ). IsSome (node_on (node align (seq fields home)) p)) (sym t.is) (subst (λ (x : Option Grammar). IsSome (if_some x (λ inside. node_on inside t.rest))) (sym o) t.leads)

mutual
  steps_lead : (g : Grammar) (s : ℕ) (steps : List ℕ) → steps_to g s ≡ Some steps → IsSome (node_on g steps)
  steps_lead (node align (seq fields home)) s steps e = seq_leads align fields home steps (fields_lead fields 0 s steps e)
  steps_lead (node align (num leaf)) s steps e = cc
  steps_lead (node align (octets sizing)) s steps e = cc
  steps_lead (node align (bits sizing)) s steps e = cc
  steps_lead (node align (text leaf)) s steps e = cc
  steps_lead (node align (list sizing g)) s steps e = cc
  steps_lead (node align (choice cases rule)) s steps e = cc
  steps_lead (node align (contained sizing g)) s steps e = cc

  fields_lead : (fs : Fields) (k s : ℕ) (steps : List ℕ) → field_steps fs k s ≡ Some steps → StepsIn fs k steps
  fields_lead no_fields k s steps e = cc
  fields_lead (component name g presence default own fs) k s steps e =
      at_slot_either {F = StepsIn (component name g presence default own fs) k steps} own s (k ∷ []) (or_else (option_map (λ q. k ∷ q) (steps_to g s)) (field_steps fs (suc k) s)) steps e
      (λ is. record { first = k; rest = []; over = zero; inside = g; is = sym is; number = omega arith; found = refl; leads = refl })
      (λ other. or_else_either {F = StepsIn (component name g presence default own fs) k steps} (option_map (λ q. k ∷ q) (steps_to g s)) (field_steps fs (suc k) s) steps other
      (λ into. mapped {F = StepsIn (component name g presence default own fs) k steps} k (steps_to g s) steps into
      (λ q is same. record { first = k; rest = q; over = zero; inside = g; is = same; number = omega arith; found = refl; leads = steps_lead g s q is }))
      (λ behind. let t = fields_lead fs (suc k) s steps behind in record { first = t.first; rest = t.rest; over = suc t.over; inside = t.inside; is = t.is; number = omega (arith, t.number); found = t.found; leads = t.leads }))
  fields_lead (inserted name g slot fs) k s steps e =
      at_slot_either {F = StepsIn (inserted name g slot fs) k steps} slot s (k ∷ []) (field_steps fs (suc k) s) steps e
      (λ is. record { first = k; rest = []; over = zero; inside = g; is = sym is; number = omega arith; found = refl; leads = refl })
      (λ behind. let t = fields_lead fs (suc k) s steps behind in record { first = t.first; rest = t.rest; over = suc t.over; inside = t.inside; is = t.is; number = omega (arith, t.number); found = t.found; leads = t.leads })

module _ (root : Grammar) where
  abbrev Leads : List ℕ → Type 0
  Leads path = LeadsToANode root path

  -- Breaches.

  abbrev UnfitLeads : Unfit → Type 0
  UnfitLeads u = Leads u.path × ReasonLeads root u.why

  -- a reason that names no other field
  abbrev AllPlain : List Why → Type 0
  AllPlain whys = AllByRecursion (ReasonLeads root) whys

  unless_plain : (b : Bool) (why : Why) → ReasonLeads root why → AllPlain (unless b why)
  unless_plain true why h = tt
  unless_plain false why h = (h, tt)

  found_plain : (o : Option ℕ) (why : ℕ → Why) → ((i : ℕ) → ReasonLeads root (why i)) → AllPlain (where_found o why)
  found_plain None why h = tt
  found_plain (Some i) why h = (h i, tt)

  end_plain : (end : Option (List Bool)) (cs : List ℕ) → AllPlain (end_breach end cs)
  end_plain None cs = tt
  end_plain (Some end) cs = found_plain _ terminator_inside (λ i. tt)

  text_plain : (leaf : TextLeaf) (cs : List ℕ) → AllPlain (text_breach leaf cs)
  text_plain leaf cs =
      let size = size_breach leaf.sized (length cs) in
      let character = where_found (position (λ c. not (has leaf.alphabet (pos c))) cs) bad_character in
      each_both (ReasonLeads root) (size ++ character) (end_breach leaf.ended cs)
      (each_both (ReasonLeads root) size character (unless_plain (has leaf.sized.sizes (pos (length cs))) (size_out_of_range (length cs)) tt) (found_plain (position (λ c. not (has leaf.alphabet (pos c))) cs) bad_character (λ i. tt)))
      (end_plain leaf.ended cs)

  all_lead : (path : List ℕ) → Leads path → (whys : List Why) → AllPlain whys → AllByRecursion UnfitLeads (at_path path whys)
  all_lead path l [] p = tt
  all_lead path l (why ∷ whys) p = ((l, p.0), all_lead path l whys p.1)

  abbrev AllLead : List Unfit → Type 0
  AllLead us = AllByRecursion UnfitLeads us

  run_lead : (each : ℕ → Data → List Unfit) → ((k : ℕ) (d : Data) → AllLead (each k d)) → (k : ℕ) (es : Elements) → AllLead (run_breaches each k es)
  run_lead each h k no_elements = tt
  run_lead each h k (element d es) = each_both UnfitLeads (each k d) (run_breaches each (suc k) es) (h k d) (run_lead each h (suc k) es)

  mutual
    breaches_lead : (g : Grammar) (path : List ℕ) → On part_node root path g → (d : Data) → AllLead (breaches path g d)
    breaches_lead (node align form) path on d = form_lead form align path on d

    form_lead : (form : Form) (align : ℕ) (path : List ℕ) → On part_node root path (node align form) → (d : Data) → AllLead (form_breaches path form d)
    form_lead (num leaf) align path on d = all_lead path (is_some part_node root path (node align (num leaf)) on) _ (unless_plain _ _ tt)
    form_lead (octets sizing) align path on (octet_string bs) = all_lead path (is_some part_node root path (node align (octets sizing)) on) (size_breach sizing (length bs)) (unless_plain _ _ tt)
    form_lead (bits sizing) align path on (bit_string bs) = all_lead path (is_some part_node root path (node align (bits sizing)) on) (size_breach sizing (length bs)) (unless_plain _ _ tt)
    form_lead (text leaf) align path on (characters cs) = all_lead path (is_some part_node root path (node align (text leaf)) on) (text_breach leaf cs) (text_plain leaf cs)
    form_lead (seq fields home) align path on (record_of ps) = fields_all_lead fields path 0 (all_fields part_node root path align fields home (λ m. refl) on) ps
    form_lead (list sizing g) align path on (list_of es) =
        each_both UnfitLeads (at_path path (size_breach sizing (element_count es))) (run_breaches (λ k d. breaches (path ++ k ∷ []) g d) 0 es)
        (all_lead path (is_some part_node root path (node align (list sizing g)) on) (size_breach sizing (element_count es)) (unless_plain _ _ tt))
        (run_lead (λ k d. breaches (path ++ k ∷ []) g d) (λ k d. breaches_lead g (path ++ k ∷ []) (one_further part_node path k root (node align (list sizing g)) g on refl) d) 0 es)
    form_lead (choice cases rule) align path on (alt i d) = case_lead cases path i i (λ h is. one_further part_node path i root (node align (choice cases rule)) h on is) d
    form_lead (contained sizing g) align path on d = breaches_lead g (path ++ 0 ∷ []) (one_further part_node path 0 root (node align (contained sizing g)) g on refl) d
    form_lead _ align path on d = tt

    fields_all_lead : (fs : Fields) (path : List ℕ) (k : ℕ) → FieldsOn part_node root path fs k → (ps : Places) → AllLead (field_breaches path k fs ps)
    fields_all_lead no_fields path k on ps = tt
    fields_all_lead (component name g presence default own fs) path k on (filled d ps) =
        each_both UnfitLeads (breaches (path ++ k ∷ []) g d) (field_breaches path (suc k) fs ps)
        (breaches_lead g (path ++ k ∷ []) (first_component part_node root path name g presence default own fs k on) d)
        (fields_all_lead fs path (suc k) (behind_component part_node root path name g presence default own fs k on) ps)
    fields_all_lead (component name g presence default own fs) path k on (empty ps) = fields_all_lead fs path (suc k) (behind_component part_node root path name g presence default own fs k on) ps
    fields_all_lead (component name g presence default own fs) path k on no_places = tt
    fields_all_lead (inserted name g slot fs) path k on ps = fields_all_lead fs path (suc k) (behind_inserted part_node root path name g slot fs k on) ps

    case_lead : (cases : Alternatives) (path : List ℕ) (i j : ℕ) → CaseOn part_node root path cases i j → (d : Data) → AllLead (alternative_breaches path i cases j d)
    case_lead no_alternatives path i j on d = tt
    case_lead (alternative name g tests more) path i zero on d = breaches_lead g (path ++ i ∷ []) (on g refl) d
    case_lead (alternative name g tests more) path i (suc j) on d = case_lead more path i j on d

  -- Asks.

  abbrev MomentLeads : Moment → Type 0
  MomentLeads (asks path field s a) = Leads path × Leads field
  MomentLeads (counts path n sizing) = Leads path

  abbrev AllMoments : List Moment → Type 0
  AllMoments ms = AllByRecursion MomentLeads ms

  -- the fields of the slots round a place
  abbrev AreFields : FieldPaths → Type 0
  AreFields paths = (s : ℕ) → Leads (field_of paths s)

  home_field : (path : List ℕ) (align : ℕ) (fields : Fields) (home : List ℕ) → On part_node root path (node align (seq fields home)) → (s : ℕ) → Leads (field_path path fields s)
  home_field path align fields home on s =
      subst (λ (o : Option Grammar). IsSome o) (sym (further part_node path (unwrap_or (field_steps fields 0 s) []) root (node align (seq fields home)) on)) (by (field_steps fields 0 s) refl)
    where
      by : (o : Option (List ℕ)) → field_steps fields 0 s ≡ o → IsSome (node_on (node align (seq fields home)) (unwrap_or o []))
      by None e = refl
      by (Some steps) e = seq_leads align fields home steps (fields_lead fields 0 s steps e)

  with_home_fields : (path : List ℕ) (fields : Fields) (home : List ℕ) (paths : FieldPaths) → ((s : ℕ) → Leads (field_path path fields s)) → AreFields paths → AreFields (with_fields path fields home paths)
  with_home_fields path fields [] paths h are s = are s
  with_home_fields path fields (t ∷ home) paths h are s = by (nat_eq t s) (with_home_fields path fields home paths h are s)
    where
      by : (b : Bool) → Leads (field_of (with_fields path fields home paths) s) → Leads (if b then field_path path fields t else field_of (with_fields path fields home paths) s)
      by true rest = h t
      by false rest = rest

  test_leads : (paths : FieldPaths) → AreFields paths → (path : List ℕ) → Leads path → (there : Bool) (t : Test) → MomentLeads (test_asks paths path there t)
  test_leads paths are path l true (Flag s) = (l, are s)
  test_leads paths are path l false (Flag s) = (l, are s)
  test_leads paths are path l true (Equals s k) = (l, are s)
  test_leads paths are path l false (Equals s k) = (l, are s)

  tests_lead : (paths : FieldPaths) → AreFields paths → (path : List ℕ) → Leads path → (there : Bool) (ts : List Test) → AllMoments (map (test_asks paths path there) ts)
  tests_lead paths are path l there [] = tt
  tests_lead paths are path l there (t ∷ ts) = (test_leads paths are path l there t, tests_lead paths are path l there ts)

  presence_leads : (paths : FieldPaths) → AreFields paths → (path : List ℕ) → Leads path → (there : Bool) (presence : Presence) → AllMoments (presence_asks paths path there presence)
  presence_leads paths are path l there Always = tt
  presence_leads paths are path l there Bit = tt
  presence_leads paths are path l there (When ts) = tests_lead paths are path l there ts

  size_leads : (paths : FieldPaths) → AreFields paths → (path : List ℕ) → Leads path → (n : ℕ) (rule : SizeRule) → AllMoments (size_asks paths path n rule)
  size_leads paths are path l n (Slot s) = ((l, are s), tt)
  size_leads paths are path l n (Prefix low width) = tt
  size_leads paths are path l n (Ended p) = tt

  own_leads : (paths : FieldPaths) → AreFields paths → (path : List ℕ) → Leads path → (own : Option ℕ) (d : Data) → AllMoments (own_asks paths path own d)
  own_leads paths are path l None d = tt
  own_leads paths are path l (Some s) d = ((l, are s), tt)

  rule_leads : (paths : FieldPaths) → AreFields paths → (path : List ℕ) → Leads path → (i : ℕ) → Leads (path ++ i ∷ []) → (rule : ChoiceRule) (name : List ℕ) (tests : List Test) → AllMoments (rule_asks root paths path i rule name tests)
  rule_leads paths are path l i m (Item s) name tests = ((l, are s), tt)
  rule_leads paths are path l i m Tests name tests = tests_lead paths are (path ++ i ∷ []) m true tests
  rule_leads paths are path l i m (Index width) name tests = tests_lead paths are (path ++ i ∷ []) m true tests

  run_moments_lead : (each : ℕ → Data → List Moment) → ((k : ℕ) (d : Data) → AllMoments (each k d)) → (k : ℕ) (es : Elements) → AllMoments (run_moments each k es)
  run_moments_lead each h k no_elements = tt
  run_moments_lead each h k (element d es) = each_both MomentLeads (each k d) (run_moments each (suc k) es) (h k d) (run_moments_lead each h (suc k) es)

  mutual
    moments_lead : (g : Grammar) (paths : FieldPaths) → AreFields paths → (path : List ℕ) → On part_node root path g → (d : Data) → AllMoments (moments root g paths path d)
    moments_lead (node align form) paths are path on d = form_moments_lead form align paths are path on d

    form_moments_lead : (form : Form) (align : ℕ) (paths : FieldPaths) → AreFields paths → (path : List ℕ) → On part_node root path (node align form) → (d : Data) → AllMoments (form_moments root form paths path d)
    form_moments_lead (octets sizing) align paths are path on (octet_string bs) = size_leads paths are path (is_some part_node root path (node align (octets sizing)) on) (length bs) sizing.rule
    form_moments_lead (bits sizing) align paths are path on (bit_string bs) = size_leads paths are path (is_some part_node root path (node align (bits sizing)) on) (length bs) sizing.rule
    form_moments_lead (text leaf) align paths are path on (characters cs) = size_leads paths are path (is_some part_node root path (node align (text leaf)) on) (length cs) leaf.sized.rule
    form_moments_lead (seq fields home) align paths are path on (record_of ps) =
        fields_moments_lead fields (with_fields path fields home paths) (with_home_fields path fields home paths (home_field path align fields home on) are) path 0 (all_fields part_node root path align fields home (λ m. refl) on) ps
    form_moments_lead (list sizing g) align paths are path on (list_of es) =
        each_both MomentLeads (size_asks paths path (element_count es) sizing.rule) (run_moments (λ k d. moments root g paths (path ++ k ∷ []) d) 0 es)
        (size_leads paths are path (is_some part_node root path (node align (list sizing g)) on) (element_count es) sizing.rule)
        (run_moments_lead (λ k d. moments root g paths (path ++ k ∷ []) d) (λ k d. moments_lead g paths are (path ++ k ∷ []) (one_further part_node path k root (node align (list sizing g)) g on refl) d) 0 es)
    form_moments_lead (choice cases rule) align paths are path on (alt i d) =
        case_moments_lead cases rule paths are path (is_some part_node root path (node align (choice cases rule)) on) i i (λ h is. one_further part_node path i root (node align (choice cases rule)) h on is) d
    form_moments_lead (contained sizing g) align paths are path on d =
        let here = is_some part_node root path (node align (contained sizing g)) on in
        each_both MomentLeads (moments root g paths (path ++ 0 ∷ []) d) (counts path (octets_for (bit_length g 0 d)) sizing ∷ size_asks paths path (octets_for (bit_length g 0 d)) sizing.rule)
        (moments_lead g paths are (path ++ 0 ∷ []) (one_further part_node path 0 root (node align (contained sizing g)) g on refl) d)
        (here, size_leads paths are path here (octets_for (bit_length g 0 d)) sizing.rule)
    form_moments_lead _ align paths are path on d = tt

    fields_moments_lead : (fs : Fields) (paths : FieldPaths) → AreFields paths → (path : List ℕ) (k : ℕ) → FieldsOn part_node root path fs k → (ps : Places) → AllMoments (fields_moments root fs paths path k ps)
    fields_moments_lead no_fields paths are path k on ps = tt
    fields_moments_lead (component name g presence default own fs) paths are path k on (filled d ps) =
        let here = path ++ k ∷ [] in
        let one = first_component part_node root path name g presence default own fs k on in
        let l = is_some part_node root (path ++ k ∷ []) g one in
        each_both MomentLeads (own_asks paths here own d ++ presence_asks paths here true presence ++ moments root g paths here d) (fields_moments root fs paths path (suc k) ps)
        (each_both MomentLeads (own_asks paths here own d ++ presence_asks paths here true presence) (moments root g paths here d)
        (each_both MomentLeads (own_asks paths here own d) (presence_asks paths here true presence) (own_leads paths are (path ++ k ∷ []) l own d) (presence_leads paths are (path ++ k ∷ []) l true presence))
        (moments_lead g paths are (path ++ k ∷ []) one d))
        (fields_moments_lead fs paths are path (suc k) (behind_component part_node root path name g presence default own fs k on) ps)
    fields_moments_lead (component name g presence default own fs) paths are path k on (empty ps) =
        each_both MomentLeads (presence_asks paths (path ++ k ∷ []) false presence) (fields_moments root fs paths path (suc k) ps)
        (presence_leads paths are (path ++ k ∷ []) (is_some part_node root (path ++ k ∷ []) g (first_component part_node root path name g presence default own fs k on)) false presence)
        (fields_moments_lead fs paths are path (suc k) (behind_component part_node root path name g presence default own fs k on) ps)
    fields_moments_lead (component name g presence default own fs) paths are path k on no_places = tt
    fields_moments_lead (inserted name g slot fs) paths are path k on ps = fields_moments_lead fs paths are path (suc k) (behind_inserted part_node root path name g slot fs k on) ps

    case_moments_lead : (cases : Alternatives) (rule : ChoiceRule) (paths : FieldPaths) → AreFields paths → (path : List ℕ) → Leads path → (i j : ℕ) → CaseOn part_node root path cases i j → (d : Data) → AllMoments (alternative_moments root cases rule paths path i j d)
    case_moments_lead (alternative name g tests more) rule paths are path l i zero on d =
        each_both MomentLeads (rule_asks root paths path i rule name tests) (moments root g paths (path ++ i ∷ []) d)
        (rule_leads paths are path l i (is_some part_node root (path ++ i ∷ []) g (on g refl)) rule name tests) (moments_lead g paths are (path ++ i ∷ []) (on g refl) d)
    case_moments_lead (alternative name g tests more) rule paths are path l i (suc j) on d = case_moments_lead more rule paths are path l i j on d
    case_moments_lead no_alternatives rule paths are path l i j on d = tt

  -- Refusals.

  middle : (before : List Moment) (m : Moment) (after : List Moment) → AllMoments (before ++ m ∷ after) → MomentLeads m
  middle [] m after h = h.0
  middle (x ∷ before) m after h = middle before m after h.1

  says_leads : (before : List Moment) (m : Moment) (u : Unfit) → MomentLeads m → Says before m u → UnfitLeads u
  says_leads before (asks path field s a) u l t = subst UnfitLeads (sym t.2) l
  says_leads before (counts path n sizing) u l t = subst UnfitLeads (sym t) (l, tt)

  refused_leads : (us : List Unfit) (d : Data) (u : Unfit) → AllLead us → AllMoments (moments root root [] [] d) → RefusedAfter root (first_of us) d u → UnfitLeads u
  refused_leads [] d u a ms t = says_leads t.before t.here u (middle t.before t.here t.after (subst AllMoments t.whole ms)) t.says
  refused_leads (v ∷ us) d u a ms t = subst UnfitLeads (sym t) a.0

  paths_of : (us : List Unfit) → AllLead us → AllByRecursion (λ u. Leads u.path) us
  paths_of [] a = tt
  paths_of (u ∷ us) a = (a.0.0, paths_of us a.1)

pub breaches_are_at_nodes : BreachesAreAtNodes
breaches_are_at_nodes root d = paths_of root (breaches [] root d) (breaches_lead root root [] refl d)

pub refusals_are_at_nodes : RefusalsAreAtNodes
refusals_are_at_nodes root d u t = refused_leads root (breaches [] root d) d u (breaches_lead root root [] refl d) (moments_lead root root [] (λ s. refl) [] refl d) t
