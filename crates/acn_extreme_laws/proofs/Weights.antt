-- In a single grammar no slot is used twice, nor through a list, so what a SEQUENCE weighs is at most one.
use Rattle.std.proofs.Common.{◌≡◌, ℕ, zero, suc, ◌+◌, ◌<◌, ◌≤◌, Bool, true, false, ◌||◌, List, [], ◌∷◌, ◌++◌, map, Option, Some, None, refl, ap, ◌∙◌, arith, inl, inr, ◌⊎◌, subst}
use Rattle.std.proofs.lemmas.Bool.{or_right}
use Rattle.std.specs.Prelude.{slice_get}
use Rattle.std.specs.List.{AllByRecursion}
use Rattle.acn_grammar.specs.Check.{NodeAt}
use Rattle.acn_grammar.specs.Grammar.{Grammar, Form, Fields, Alternatives, node, num, octets, bits, text, seq, list, choice, contained, no_fields, component, inserted, no_alternatives, alternative}
use Rattle.acn_grammar.specs.Tree.{holds}
use Rattle.acn_grammar.specs.Walk.{Stand, Role, root_node, an_element, a_content, an_inserted, component_role, alternative_role, nodes, form_nodes, field_nodes, alternative_nodes, nodes_of, inside, slot_of, form_uses, rule_uses, presence_tests, conditions_of}
use Rattle.acn_grammar.specs.declared.node.ChoiceRule.{ChoiceRule}
use Rattle.acn_grammar.specs.declared.node.ChoiceRule.TheVariants.{Index, Tests, Item}
use Rattle.acn_grammar.specs.declared.node.Presence.{Presence}
use Rattle.acn_grammar.specs.declared.node.Presence.TheVariants.{Always, Bit, When}
use Rattle.acn_grammar.specs.declared.node.SizeRule.{SizeRule}
use Rattle.acn_grammar.specs.declared.node.SizeRule.TheVariants.{Prefix, Slot, Ended}
use Rattle.acn_grammar.proofs.SlotLists.{holds-append}
use Rattle.acn_extreme_laws.proofs.Barring.{Placed, node_placed, list_bars}
use Rattle.acn_extreme_laws.specs.Laws.{SingleIsOneUse}
use Rattle.acn_extreme_laws.specs.OneUse.{rule_weight, presence_weight, own_weight, chooser_weight, weight, form_weight, fields_weight, cases_weight}
use Rattle.acn_extreme_laws.specs.Single.{once_if, count_of_slot, tested, is_tested, role_uses, choice_use, uses_at, uses_among, barred_at, is_list, own_slot}
use Rattle.acn_extreme_laws.specs.declared.why.Why.TheVariants.{TwoUses, ThroughAList, OfAComponent}

-- Lists of nodes.

pub all_parts : {A : Type 0} (P : A → Type 0) (xs ys : List A) → AllByRecursion P (xs ++ ys) → AllByRecursion P xs × AllByRecursion P ys
all_parts P [] ys h = (tt, h)
all_parts P (x ∷ xs) ys h = (let r = all_parts P xs ys h.1 in ((h.0, r.0), r.1))

all_joined : {A : Type 0} (P : A → Type 0) (xs ys : List A) → AllByRecursion P xs → AllByRecursion P ys → AllByRecursion P (xs ++ ys)
all_joined P [] ys h k = k
all_joined P (x ∷ xs) ys h k = (h.0, all_joined P xs ys h.1 k)

pub all_from : {A : Type 0} (P : A → Type 0) (xs : List A) → ((k : ℕ) (x : A) → slice_get xs k ≡ Some x → P x) → AllByRecursion P xs
all_from P [] f = tt
all_from P (x ∷ xs) f = (f 0 x refl, all_from P xs (λ k y e. f (suc k) y e))

pub all_at : {A : Type 0} (P : A → Type 0) (xs : List A) (k : ℕ) (x : A) → AllByRecursion P xs → slice_get xs k ≡ Some x → P x
all_at P [] k x h e = cc
all_at P (y ∷ xs) zero x h e = (let is : y ≡ x = cc in subst P is h.0)
all_at P (y ∷ xs) (suc k) x h e = all_at P xs k x h.1 e

among-append : (s : ℕ) (xs ys : List Stand) → uses_among s (xs ++ ys) ≡ uses_among s xs + uses_among s ys
among-append s [] ys = omega arith
among-append s (x ∷ xs) ys = (let r = among-append s xs ys in omega arith)

-- what holds of all nodes of a grammar as a list holds of those inside each of them
module _ (R : List Stand → Type 0) (tail : (x : Stand) (xs : List Stand) → R (x ∷ xs) → R xs) (parts : (xs ys : List Stand) → R (xs ++ ys) → R xs × R ys) where
  abbrev pub Inward : List Stand → Type 0
  Inward xs = AllByRecursion (λ at. R (inside at)) xs

  mutual
    pub inward : (role : Role) (path around : List ℕ) (g : Grammar) → R (nodes role path around g) → Inward (nodes role path around g)
    inward role path around (node a f) h = (let t = tail (record { path = path; around = around; role = role; align = a; form = f }) (form_nodes path around f) h in (t, inward_form path around f t))

    inward_form : (path around : List ℕ) (f : Form) → R (form_nodes path around f) → Inward (form_nodes path around f)
    inward_form path around (num l) h = tt
    inward_form path around (octets z) h = tt
    inward_form path around (bits z) h = tt
    inward_form path around (text l) h = tt
    inward_form path around (seq fs home) h = inward_fields path (home ++ around) 0 fs h
    inward_form path around (list z g) h = inward an_element (path ++ 0 ∷ []) around g h
    inward_form path around (choice cases rule) h = inward_cases rule path around 0 cases h
    inward_form path around (contained z g) h = inward a_content (path ++ 0 ∷ []) around g h

    inward_fields : (path around : List ℕ) (k : ℕ) (fs : Fields) → R (field_nodes path around k fs) → Inward (field_nodes path around k fs)
    inward_fields path around k no_fields h = tt
    inward_fields path around k (component n g p def own fs) h =
        let t = parts (nodes (component_role n p def own) (path ++ k ∷ []) around g) (field_nodes path around (suc k) fs) h in
        all_joined (λ at. R (inside at)) (nodes (component_role n p def own) (path ++ k ∷ []) around g) (field_nodes path around (suc k) fs) (inward (component_role n p def own) (path ++ k ∷ []) around g t.0) (inward_fields path around (suc k) fs t.1)
    inward_fields path around k (inserted n g own fs) h =
        let t = parts (nodes (an_inserted n own) (path ++ k ∷ []) around g) (field_nodes path around (suc k) fs) h in
        all_joined (λ at. R (inside at)) (nodes (an_inserted n own) (path ++ k ∷ []) around g) (field_nodes path around (suc k) fs) (inward (an_inserted n own) (path ++ k ∷ []) around g t.0) (inward_fields path around (suc k) fs t.1)

    inward_cases : (rule : ChoiceRule) (path around : List ℕ) (k : ℕ) (cases : Alternatives) → R (alternative_nodes rule path around k cases) → Inward (alternative_nodes rule path around k cases)
    inward_cases rule path around k no_alternatives h = tt
    inward_cases rule path around k (alternative n g ts more) h =
        let t = parts (nodes (alternative_role n ts rule) (path ++ k ∷ []) around g) (alternative_nodes rule path around (suc k) more) h in
        all_joined (λ at. R (inside at)) (nodes (alternative_role n ts rule) (path ++ k ∷ []) around g) (alternative_nodes rule path around (suc k) more) (inward (alternative_role n ts rule) (path ++ k ∷ []) around g t.0) (inward_cases rule path around (suc k) more t.1)

-- Weights.

module _ (s : ℕ) where
  -- nothing inside a list uses the slot that is open there
  abbrev Direct : Stand → Type 0
  Direct at = is_list at.form ≡ true → holds at.around s ≡ true → uses_among s (inside at) ≡ 0

  abbrev Fine : Stand → Type 0
  Fine at = Direct at × (own_slot at.role ≡ None)

  rule_counts : (rule : SizeRule) → rule_weight s rule ≤ count_of_slot s (map slot_of (rule_uses rule))
  rule_counts (Slot t) = omega arith
  rule_counts (Prefix low width) = omega arith
  rule_counts (Ended p) = omega arith

  presence_counts : (p : Presence) → presence_weight s p ≤ count_of_slot s (tested (presence_tests p))
  presence_counts (When ts) = omega arith
  presence_counts Always = omega arith
  presence_counts Bit = omega arith

  own_counts : (own : Option ℕ) → own ≡ None → own_weight s own ≡ 0
  own_counts None e = refl
  own_counts (Some t) e = cc

  chooser_counts : (cases : Alternatives) (rule : ChoiceRule) → chooser_weight s cases rule ≤ once_if (is_tested s (conditions_of cases)) + count_of_slot s (map slot_of (form_uses (choice cases rule)))
  chooser_counts cases (Item t) = omega arith
  chooser_counts cases Tests = omega arith
  chooser_counts cases (Index width) = omega arith

  open_inside : (home around : List ℕ) → holds around s ≡ true → holds (home ++ around) s ≡ true
  open_inside home around h = holds-append home around s ∙ or_right (holds home s) (holds around s) h

  mutual
    node_weighs : (role : Role) (path around : List ℕ) (g : Grammar) → holds around s ≡ true → AllByRecursion Fine (nodes role path around g) → role_uses s role + weight s g ≤ uses_among s (nodes role path around g)
    node_weighs role path around (node a f) o h = (let t = form_weighs path around role a f o h.0 h.1 in omega arith)

    form_weighs : (path around : List ℕ) (role : Role) (a : ℕ) (f : Form) → holds around s ≡ true → Fine (record { path = path; around = around; role = role; align = a; form = f }) → AllByRecursion Fine (form_nodes path around f)
        → form_weight s f ≤ choice_use s f + count_of_slot s (map slot_of (form_uses f)) + uses_among s (form_nodes path around f)
    form_weighs path around role a (num l) o h k = omega arith
    form_weighs path around role a (octets z) o h k = (let t = rule_counts z.rule in omega arith)
    form_weighs path around role a (bits z) o h k = (let t = rule_counts z.rule in omega arith)
    form_weighs path around role a (text l) o h k = (let t = rule_counts l.sized.rule in omega arith)
    form_weighs path around role a (seq fs home) o h k = (let t = fields_weigh path (home ++ around) 0 fs (open_inside home around o) k in omega arith)
    form_weighs path around role a (list z g) o h k =
        let t = rule_counts z.rule in
        let none : uses_among s (nodes an_element (path ++ 0 ∷ []) around g) ≡ 0 = h.0 refl o in
        let inner = node_weighs an_element (path ++ 0 ∷ []) around g o k in
        omega arith
    form_weighs path around role a (choice cases rule) o h k =
        let t = chooser_counts cases rule in
        let u = cases_weigh rule path around 0 cases o k in
        omega arith
    form_weighs path around role a (contained z g) o h k =
        let t = rule_counts z.rule in
        let inner = node_weighs a_content (path ++ 0 ∷ []) around g o k in
        omega arith

    fields_weigh : (path around : List ℕ) (k : ℕ) (fs : Fields) → holds around s ≡ true → AllByRecursion Fine (field_nodes path around k fs) → fields_weight s fs ≤ uses_among s (field_nodes path around k fs)
    fields_weigh path around k no_fields o h = omega arith
    fields_weigh path around k (component n g p def own fs) o h =
        let t = all_parts Fine (nodes (component_role n p def own) (path ++ k ∷ []) around g) (field_nodes path around (suc k) fs) h in
        let here = node_weighs (component_role n p def own) (path ++ k ∷ []) around g o t.0 in
        let rest = fields_weigh path around (suc k) fs o t.1 in
        let whole = among-append s (nodes (component_role n p def own) (path ++ k ∷ []) around g) (field_nodes path around (suc k) fs) in
        let presence = presence_counts p in
        let none = own_counts own (first_own n p def own (path ++ k ∷ []) around g t.0) in
        omega arith
    fields_weigh path around k (inserted n g own fs) o h =
        let t = all_parts Fine (nodes (an_inserted n own) (path ++ k ∷ []) around g) (field_nodes path around (suc k) fs) h in
        let rest = fields_weigh path around (suc k) fs o t.1 in
        let whole = among-append s (nodes (an_inserted n own) (path ++ k ∷ []) around g) (field_nodes path around (suc k) fs) in
        omega arith

    first_own : (n : List ℕ) (p : Presence) (def : Option (List ℕ)) (own : Option ℕ) (path around : List ℕ) (g : Grammar) → AllByRecursion Fine (nodes (component_role n p def own) path around g) → own ≡ None
    first_own n p def own path around (node a f) h = (h.0).1

    cases_weigh : (rule : ChoiceRule) (path around : List ℕ) (k : ℕ) (cases : Alternatives) → holds around s ≡ true → AllByRecursion Fine (alternative_nodes rule path around k cases) → cases_weight s cases ≤ uses_among s (alternative_nodes rule path around k cases)
    cases_weigh rule path around k no_alternatives o h = omega arith
    cases_weigh rule path around k (alternative n g ts more) o h =
        let t = all_parts Fine (nodes (alternative_role n ts rule) (path ++ k ∷ []) around g) (alternative_nodes rule path around (suc k) more) h in
        let here = node_weighs (alternative_role n ts rule) (path ++ k ∷ []) around g o t.0 in
        let rest = cases_weigh rule path around (suc k) more o t.1 in
        let whole = among-append s (nodes (alternative_role n ts rule) (path ++ k ∷ []) around g) (alternative_nodes rule path around (suc k) more) in
        omega arith

-- From single to fine.

-- no use, or one of them
record FirstUse (s : ℕ) (xs : List Stand) : Type 0 where
  before : List Stand
  at : Stand
  behind : List Stand
  whole : xs ≡ before ++ at ∷ behind
  used : 0 < uses_at s at

none_or_first : (s : ℕ) (xs : List Stand) → (uses_among s xs ≡ 0) ⊎ FirstUse s xs
none_or_first s [] = inl refl
none_or_first s (x ∷ xs) = by (uses_at s x) refl (none_or_first s xs)
  where
    by : (n : ℕ) → uses_at s x ≡ n → (uses_among s xs ≡ 0) ⊎ FirstUse s xs → (uses_among s (x ∷ xs) ≡ 0) ⊎ FirstUse s (x ∷ xs)
    by (suc n) e r = inr (record { before = []; at = x; behind = xs; whole = refl; used = omega arith })
    by zero e (inl r) = inl (omega arith)
    by zero e (inr r) = inr (record { before = x ∷ r.before; at = r.at; behind = r.behind; whole = ap (λ z. x ∷ z) r.whole; used = r.used })

none_own : (o : Option ℕ) → ((s : ℕ) → o ≡ Some s → ⊥) → o ≡ None
none_own None f = refl
none_own (Some s) f = absurd (f s refl)

pub single_is_one_use : SingleIsOneUse
single_is_one_use root m s align path around home role fields single stands h has =
    let H : Stand = record { path = path; around = around; role = role; align = align; form = seq fields home } in
    let numbered = all_from (λ at. (k : ℕ) × NodeAt root k at) (nodes_of root) (λ k at e. (k, e)) in
    let inner = inward (AllByRecursion (λ at. (k : ℕ) × NodeAt root k at)) (λ x xs t. t.1) (all_parts (λ at. (k : ℕ) × NodeAt root k at)) root_node [] [] root numbered in
    let fine = all_from (Fine s) (nodes_of root) (λ k at e. (direct at k e (all_at (λ at. AllByRecursion (λ at. (k : ℕ) × NodeAt root k at) (inside at)) (nodes_of root) k at inner e), none_own (own_slot at.role) (λ t q. single OfAComponent k at e (t, q)))) in
    let inside_fine = all_at (λ at. AllByRecursion (Fine s) (inside at)) (nodes_of root) m H (inward (AllByRecursion (Fine s)) (λ x xs t. t.1) (all_parts (Fine s)) root_node [] [] root fine) stands in
    let once : uses_among s (nodes_of root) ≤ 1 = at_most (uses_among s (nodes_of root)) (λ l. single TwoUses has.0 has.1 has.2 (s, has.3, l)) in
    let few = all_at (λ at. uses_among s (inside at) ≤ 1) (nodes_of root) m H (inward (λ xs. uses_among s xs ≤ 1) (λ x xs t. omega arith) (λ xs ys t. split xs ys t) root_node [] [] root once) stands in
    let w = fields_weigh s path (home ++ around) 0 fields (holds-append home around s ∙ or_true (holds home s) (holds around s) h) inside_fine in
    omega arith
  where
    at_most : (n : ℕ) → (1 < n → ⊥) → n ≤ 1
    at_most zero f = omega arith
    at_most (suc zero) f = omega arith
    at_most (suc (suc n)) f = absurd (f (omega arith))

    or_true : (a b : Bool) → a ≡ true → (a || b) ≡ true
    or_true true b e = refl
    or_true false b e = cc

    split : (xs ys : List Stand) → uses_among s (xs ++ ys) ≤ 1 → (uses_among s xs ≤ 1) × (uses_among s ys ≤ 1)
    split xs ys t = (let e = among-append s xs ys in (omega arith, omega arith))

    placed : AllByRecursion (Placed root) (nodes_of root)
    placed = node_placed root root_node [] [] [] root (λ r. refl)

    direct : (at : Stand) (k : ℕ) → NodeAt root k at → AllByRecursion (λ at. (k : ℕ) × NodeAt root k at) (inside at) → Direct s at
    direct at k e numbered is open_there = by (none_or_first s (inside at))
      where
        by : (uses_among s (inside at) ≡ 0) ⊎ FirstUse s (inside at) → uses_among s (inside at) ≡ 0
        by (inl n) = n
        by (inr f) =
            let there = (all_parts (λ at. (k : ℕ) × NodeAt root k at) f.before (f.at ∷ f.behind) (subst (AllByRecursion (λ at. (k : ℕ) × NodeAt root k at)) f.whole numbered)).1.0 in
            let bars = list_bars root at s (all_at (Placed root) (nodes_of root) k at placed e) is open_there in
            let barred = (all_parts (λ x. holds (barred_at root x.path) s ≡ true) f.before (f.at ∷ f.behind) (subst (AllByRecursion (λ x. holds (barred_at root x.path) s ≡ true)) f.whole bars)).1.0 in
            absurd (single ThroughAList there.0 f.at there.1 (s, barred, f.used))
