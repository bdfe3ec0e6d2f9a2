-- The pass over the nodes finds the least reason why a grammar isn't single, at the first node that shows it.
use Rattle.std.proofs.Common.{◌≡◌, ℕ, zero, suc, ◌+◌, ◌-◌, ◌≤◌, ◌<◌, ℤ, pos, negsuc, ◌+ℤ◌, Bool, true, false, not, ◌&&◌, ◌||◌, List, [], ◌∷◌, ◌++◌, length, map, Option, Some, None, refl, sym, ap, ◌∙◌, arith, append-nil, inl, inr, ◌⊎◌, subst, nat_eq, nat_lt}
use Rattle.std.proofs.lemmas.Bool.{and_parts, and_from, or_left, or_right, eqb-true}
use Rattle.std.proofs.lemmas.Bool.Decides.{nat_tests}
use Rattle.std.proofs.lemmas.Int.{ints}
use Rattle.std.proofs.lemmas.List.{map-append}
use Rattle.std.specs.Prelude.{◌≤ℤ◌, ◌<ℤ◌, int_le, int_lt, if◌then◌else◌, slice_get, unwrap_or, option_map}
use Rattle.std.specs.List.{list_any}
use Rattle.std.specs.Ordering.{int_eq}
use Rattle.acn_num.specs.Bits.{octets as octets_for, number}
use Rattle.acn_num.specs.Ranges.{In, Ranges, has, are_ranges, are_ranges_above, all_within}
use Rattle.acn_grammar.specs.Check.{NodeAt}
use Rattle.acn_grammar.specs.Code.{in_octets}
use Rattle.acn_grammar.specs.Grammar.{Grammar, Form, Fields, Alternatives, node, num, octets, bits, text, seq, list, choice, contained, no_fields, component, inserted, no_alternatives, alternative}
use Rattle.acn_grammar.specs.Images.{ends}
use Rattle.acn_grammar.specs.Interval.{span}
use Rattle.acn_grammar.specs.Leaves.{set_fine, is_range, no_items, items_fine, integer_set_fine, sizes_fine, rule_fine, text_fine}
use Rattle.acn_grammar.specs.Slots.{domain_of, slot_leaf}
use Rattle.acn_grammar.specs.Tree.{IsTree, holds, form_fine, all_true, stand_rules}
use Rattle.acn_grammar.specs.Walk.{Stand, Role, root_node, a_component, an_inserted, an_alternative, an_element, a_content, component_role, alternative_role, nodes, form_nodes, field_nodes, alternative_nodes, nodes_of, slot_here, presence_tests, slot_of, form_uses}
use Rattle.acn_grammar.specs.declared.node.ChoiceRule.{ChoiceRule}
use Rattle.acn_grammar.specs.declared.node.NumKind.{NumKind}
use Rattle.acn_grammar.specs.declared.node.NumKind.TheVariants.{Integer, Boolean, Enumerated, Null}
use Rattle.acn_grammar.specs.declared.node.NumLeaf.{NumLeaf}
use Rattle.acn_grammar.specs.declared.node.Sizing.{Sizing}
use Rattle.acn_grammar.specs.declared.node.SizeRule.{SizeRule}
use Rattle.acn_grammar.specs.declared.node.SizeRule.TheVariants.{Prefix, Slot, Ended}
use Rattle.acn_grammar.specs.declared.node.TextLeaf.{TextLeaf}
use Rattle.acn_num.specs.declared.limits.TheConstants.{MOST_SIZE}
use Rattle.acn_grammar.proofs.FineLeaves.{rules_of}
use Rattle.acn_grammar.proofs.HasImage.{ordered_ranges}
use Rattle.acn_grammar.proofs.TextRules.{text_rules}
use Rattle.acn_grammar.proofs.TreeRules.{stand_fine}
use Rattle.acn_grammar.proofs.WholeTests.{either, le_fact, lt_fact, gt_fact, eq_fact, le_test, lt_test}
use Rattle.acn_grammar.proofs.Within.{between}
use Rattle.acn_extreme_laws.specs.Best.{other_than, other_by}
use Rattle.acn_extreme_laws.specs.Facts.{Tag, Facts, plain, says, of_component, facts, form_facts, field_facts, case_facts, facts_of, uses_of, all_uses, used_twice, covers, slot_covers, counts_covered, begins_with, other_there, form_bars, is_there, shows, first_path, or_first, first_by, first_among}
use Rattle.acn_extreme_laws.specs.Laws.{FirstUnsingleIsFound}
use Rattle.acn_extreme_laws.specs.Single.{count_of_slot, tested, role_uses, choice_use, uses_at, uses_among, CountsPermitted, SlotPermits, OtherThanEnd, HasOther, own_slot, barred_at, rank, Shows, Single, FirstUnsingle}
use Rattle.acn_extreme_laws.specs.declared.why.Why.{Why}
use Rattle.acn_extreme_laws.specs.declared.why.Why.TheVariants.{TwoUses, ThroughAList, CountNotPermitted, TerminatorAlone, OfAComponent}
use Rattle.acn_extreme_laws.proofs.Barring.{From, FromFields, FromCases, deeper, first_field, later_field, from_zero}
use Rattle.acn_extreme_laws.proofs.BestWritten.{all_of, tree_rules}
use Rattle.acn_extreme_laws.proofs.Ready.{other_found, least_character, true_or_false, never_both, slot_leaf_fine}

-- The facts are those of the nodes.

abbrev tag_of : Role → Tag
tag_of (a_component one) = of_component (presence_tests one.presence) one.slot
tag_of (an_inserted name slot) = says slot
tag_of root_node = plain
tag_of (an_alternative one) = plain
tag_of an_element = plain
tag_of a_content = plain

module _ (root : Grammar) where
  abbrev seen : Stand → Facts
  seen at = record { path = at.path; tag = tag_of at.role; form = at.form; barred = barred_at root at.path }

  joined : (xs ys : List Facts) (as' bs : List Stand) → xs ≡ map seen as' → ys ≡ map seen bs → xs ++ ys ≡ map seen (as' ++ bs)
  joined xs ys as' bs e f = ap (λ z. z ++ ys) e ∙ ap (λ z. map seen as' ++ z) f ∙ sym (map-append seen as' bs)

  mutual
    node_seen : (role : Role) (p around barred : List ℕ) (g : Grammar) → From root p g around barred → facts (tag_of role) p around barred g ≡ map seen (nodes role p around g)
    node_seen role p around barred (node a form) f =
        let b : barred ≡ barred_at root p = sym (f []) ∙ ap (barred_at root) (append-nil p) in
        ap (λ (z : List ℕ). record { path = p; tag = tag_of role; form = form; barred = z } ∷ form_facts p around barred form) b
        ∙ ap (λ (l : List Facts). record { path = p; tag = tag_of role; form = form; barred = barred_at root p } ∷ l) (form_seen p around barred form a f)

    form_seen : (p around barred : List ℕ) (form : Form) (a : ℕ) → From root p (node a form) around barred → form_facts p around barred form ≡ map seen (form_nodes p around form)
    form_seen p around barred (num l) a f = refl
    form_seen p around barred (octets z) a f = refl
    form_seen p around barred (bits z) a f = refl
    form_seen p around barred (text l) a f = refl
    form_seen p around barred (seq fs home) a f = fields_seen p (home ++ around) barred 0 fs (λ j r. ap (λ i. barred_at root (p ++ i ∷ r)) (from_zero j) ∙ f (j ∷ r))
    form_seen p around barred (list z g) a f = node_seen an_element (p ++ 0 ∷ []) around around g (λ r. deeper root p 0 r ∙ f (0 ∷ r))
    form_seen p around barred (choice cases rule) a f = cases_seen rule p around barred 0 cases (λ j r. ap (λ i. barred_at root (p ++ i ∷ r)) (from_zero j) ∙ f (j ∷ r))
    form_seen p around barred (contained z g) a f = node_seen a_content (p ++ 0 ∷ []) around barred g (λ r. deeper root p 0 r ∙ f (0 ∷ r))

    fields_seen : (p around barred : List ℕ) (i : ℕ) (fs : Fields) → FromFields root p i fs around barred → field_facts p around barred i fs ≡ map seen (field_nodes p around i fs)
    fields_seen p around barred i no_fields f = refl
    fields_seen p around barred i (component n g pr def own fs) f =
        joined (facts (of_component (presence_tests pr) own) (p ++ i ∷ []) around barred g) (field_facts p around barred (suc i) fs) (nodes (component_role n pr def own) (p ++ i ∷ []) around g) (field_nodes p around (suc i) fs)
        (node_seen (component_role n pr def own) (p ++ i ∷ []) around barred g (λ r. first_field root p i r ∙ f 0 r)) (fields_seen p around barred (suc i) fs (λ j r. later_field root p i j r ∙ f (suc j) r))
    fields_seen p around barred i (inserted n g slot fs) f =
        joined (facts (says slot) (p ++ i ∷ []) around barred g) (field_facts p around barred (suc i) fs) (nodes (an_inserted n slot) (p ++ i ∷ []) around g) (field_nodes p around (suc i) fs)
        (node_seen (an_inserted n slot) (p ++ i ∷ []) around barred g (λ r. first_field root p i r ∙ f 0 r)) (fields_seen p around barred (suc i) fs (λ j r. later_field root p i j r ∙ f (suc j) r))

    cases_seen : (rule : ChoiceRule) (p around barred : List ℕ) (i : ℕ) (cases : Alternatives) → FromCases root p i cases around barred → case_facts p around barred i cases ≡ map seen (alternative_nodes rule p around i cases)
    cases_seen rule p around barred i no_alternatives f = refl
    cases_seen rule p around barred i (alternative n g ts more) f =
        joined (facts plain (p ++ i ∷ []) around barred g) (case_facts p around barred (suc i) more) (nodes (alternative_role n ts rule) (p ++ i ∷ []) around g) (alternative_nodes rule p around (suc i) more)
        (node_seen (alternative_role n ts rule) (p ++ i ∷ []) around barred g (λ r. first_field root p i r ∙ f 0 r)) (cases_seen rule p around barred (suc i) more (λ j r. later_field root p i j r ∙ f (suc j) r))

  facts_are : facts_of root ≡ map seen (nodes_of root)
  facts_are = node_seen root_node [] [] [] root (λ r. refl)

  -- Uses.

  role_same : (s : ℕ) (role : Role) → count_of_slot s (tested (tag_of role).tests) ≡ role_uses s role
  role_same s (a_component one) = refl
  role_same s (an_inserted name slot) = refl
  role_same s root_node = refl
  role_same s (an_alternative one) = refl
  role_same s an_element = refl
  role_same s a_content = refl

  uses_same : (s : ℕ) (at : Stand) → uses_of s (seen at) ≡ uses_at s at
  uses_same s at = ap (λ n. n + choice_use s at.form + count_of_slot s (map slot_of (form_uses at.form))) (role_same s at.role)

  all_same : (s : ℕ) (l : List Stand) → all_uses s (map seen l) ≡ uses_among s l
  all_same s [] = refl
  all_same s (at ∷ l) = (let one = uses_same s at in let rest = all_same s l in omega arith)

  slot_same : (role : Role) → (tag_of role).slot ≡ slot_here role
  slot_same (a_component one) = refl
  slot_same (an_inserted name slot) = refl
  slot_same root_node = refl
  slot_same (an_alternative one) = refl
  slot_same an_element = refl
  slot_same a_content = refl

  own_same : (role : Role) → (tag_of role).own ≡ own_slot role
  own_same (a_component one) = refl
  own_same (an_inserted name slot) = refl
  own_same root_node = refl
  own_same (an_alternative one) = refl
  own_same an_element = refl
  own_same a_content = refl

-- Ranges that cover.

covers_each : (rs : Ranges) (low high : ℕ) → covers rs low high ≡ true → (n : ℕ) → low ≤ n → n ≤ high → has rs (pos n) ≡ true
covers_each [] low high h n a b = cc
covers_each (r ∷ rs) low high h n a b = either {F = has (r ∷ rs) (pos n) ≡ true} (int_le r.0 (pos low) && int_le (pos high) r.1) (covers rs low high) h
    (λ q. let w = and_parts (int_le r.0 (pos low)) (int_le (pos high) r.1) q in
    let c = le_fact r.0 (pos low) w.0 in
    let d = le_fact (pos high) r.1 w.1 in
    or_left (int_le r.0 (pos n) && int_le (pos n) r.1) (has rs (pos n)) (and_from (int_le r.0 (pos n)) (int_le (pos n) r.1) (le_test r.0 (pos n) (omega (arith, ints))) (le_test (pos n) r.1 (omega (arith, ints)))))
    (λ q. or_right (int_le r.0 (pos n) && int_le (pos n) r.1) (has rs (pos n)) (covers_each rs low high q n a b))

above_members : (b : ℤ) (rs : Ranges) (x : ℤ) → are_ranges_above b rs ≡ true → has rs x ≡ true → b <ℤ x
above_members b [] x h k = cc
above_members b (r ∷ rs) x h k =
    let f = and_parts (int_lt b r.0) (int_le r.0 r.1 && are_ranges_above (r.1 +ℤ pos 1) rs) h in
    let g = and_parts (int_le r.0 r.1) (are_ranges_above (r.1 +ℤ pos 1) rs) f.1 in
    let low = lt_fact b r.0 f.0 in
    let order = le_fact r.0 r.1 g.0 in
    either {F = b <ℤ x} (int_le r.0 x && int_le x r.1) (has rs x) k
    (λ q. let w = between r.0 r.1 x q in let c = w.0 in omega (arith, ints))
    (λ q. let m = above_members (r.1 +ℤ pos 1) rs x g.1 q in omega (arith, ints))

next_natural : (x : ℤ) (low : ℕ) → pos low ≤ℤ x → (m : ℕ) × (pos m ≡ x +ℤ pos 1)
next_natural (pos k) low h = (suc k, omega (arith, ints))
next_natural (negsuc k) low h = absurd (omega (arith, ints))

less_or_not : (m n : ℕ) → (m < n) ⊎ (n ≤ m)
less_or_not m n = by (nat_lt m n) refl
  where
    by : (b : Bool) → nat_lt m n ≡ b → (m < n) ⊎ (n ≤ m)
    by true e = inl (grind (arith, nat_tests, e))
    by false e = inr (grind (arith, nat_tests, e))

covered_above : (b : ℤ) (rs : Ranges) (low high : ℕ) → are_ranges_above b rs ≡ true → low ≤ high → ((n : ℕ) → low ≤ n → n ≤ high → has rs (pos n) ≡ true) → covers rs low high ≡ true
covered_above b [] low high h l f = (let n = f low (omega arith) l in cc)
covered_above b (r ∷ rs) low high h l f = either {F = covers (r ∷ rs) low high ≡ true} (int_le r.0 (pos low) && int_le (pos low) r.1) (has rs (pos low)) (f low (omega arith) l)
    (λ q. let w = between r.0 r.1 (pos low) q in here w.0 w.1)
    (λ q. or_right (int_le r.0 (pos low) && int_le (pos high) r.1) (covers rs low high) (covered_above (r.1 +ℤ pos 1) rs low high g.1 l (λ n a c. rest n (f n a c) (let m = above_members (r.1 +ℤ pos 1) rs (pos low) g.1 q in omega (arith, ints)))))
  where
    k : (int_lt b r.0 ≡ true) × ((int_le r.0 r.1 && are_ranges_above (r.1 +ℤ pos 1) rs) ≡ true)
    k = and_parts (int_lt b r.0) (int_le r.0 r.1 && are_ranges_above (r.1 +ℤ pos 1) rs) h

    g : (int_le r.0 r.1 ≡ true) × (are_ranges_above (r.1 +ℤ pos 1) rs ≡ true)
    g = and_parts (int_le r.0 r.1) (are_ranges_above (r.1 +ℤ pos 1) rs) k.1

    rest : (n : ℕ) → has (r ∷ rs) (pos n) ≡ true → r.1 <ℤ pos n → has rs (pos n) ≡ true
    rest n q less = either {F = has rs (pos n) ≡ true} (int_le r.0 (pos n) && int_le (pos n) r.1) (has rs (pos n)) q (λ t. let w = between r.0 r.1 (pos n) t in let c = w.1 in absurd (omega (arith, ints))) (λ t. t)

    here : r.0 ≤ℤ pos low → pos low ≤ℤ r.1 → covers (r ∷ rs) low high ≡ true
    here c d = true_or_false {F = covers (r ∷ rs) low high ≡ true} (int_le (pos high) r.1)
        (λ e. or_left (int_le r.0 (pos low) && int_le (pos high) r.1) (covers rs low high) (and_from (int_le r.0 (pos low)) (int_le (pos high) r.1) (le_test r.0 (pos low) c) e))
        (λ e. let m = next_natural r.1 low d in
        let above = beyond e in
        let is = m.1 in
        let inside = rest m.0 (f m.0 (omega (arith, ints)) (omega (arith, ints))) (omega (arith, ints)) in
        let far = above_members (r.1 +ℤ pos 1) rs (pos m.0) g.1 inside in
        absurd (omega (arith, ints)))
      where
        beyond : int_le (pos high) r.1 ≡ false → r.1 <ℤ pos high
        beyond e = gt_fact (pos high) r.1 e

covered : (rs : Ranges) (low high : ℕ) → are_ranges rs ≡ true → low ≤ high → ((n : ℕ) → low ≤ n → n ≤ high → has rs (pos n) ≡ true) → covers rs low high ≡ true
covered [] low high h l f = (let n = f low (omega arith) l in cc)
covered (r ∷ rs) low high h l f = covered_above (r.0 +ℤ negsuc 0) (r ∷ rs) low high (and_from (int_lt (r.0 +ℤ negsuc 0) r.0) (int_le r.0 r.1 && are_ranges_above (r.1 +ℤ pos 1) rs) (lt_test (r.0 +ℤ negsuc 0) r.0 (omega (arith, ints))) h) l f

one_range : (low high : ℤ) (rs : Ranges) → low ≤ℤ high → is_range low high rs ≡ true → are_ranges rs ≡ true
one_range low high [] l h = cc
one_range low high (r ∷ []) l h =
    let f = and_parts (int_eq r.0 low) (int_eq r.1 high) h in
    and_from (int_le r.0 r.1) true (le_test r.0 r.1 (rw (eq_fact r.0 low f.0, eq_fact r.1 high f.1) l)) refl
one_range low high (r ∷ q ∷ rs) l h = cc

domain_ranges : (root : Grammar) → IsTree root → (s : ℕ) → are_ranges (domain_of root s) ≡ true
domain_ranges root tree s = by (slot_leaf root s) refl
  where
    kinds : (leaf : NumLeaf) (z : NumKind) → set_fine z leaf.coding leaf.items leaf.table leaf.set ≡ true → are_ranges leaf.set ≡ true
    kinds leaf Integer f = (and_parts (are_ranges leaf.set) (integer_set_fine leaf.coding (ends leaf.set) && no_items leaf.items) f).0
    kinds leaf Boolean f = one_range (pos 0) (pos 1) leaf.set (omega (arith, ints)) (and_parts (is_range (pos 0) (pos 1) leaf.set) (no_items leaf.items) f).0
    kinds leaf Null f = one_range (pos 0) (pos 0) leaf.set (omega (arith, ints)) (and_parts (is_range (pos 0) (pos 0) leaf.set) (no_items leaf.items) f).0
    kinds leaf Enumerated f =
        let a = and_parts (nat_lt 0 (length leaf.items.items)) (is_range (pos 0) (pos (length leaf.items.items - 1)) leaf.set && items_fine leaf.coding leaf.items) f in
        one_range (pos 0) (pos (length leaf.items.items - 1)) leaf.set (omega (arith, ints)) (and_parts (is_range (pos 0) (pos (length leaf.items.items - 1)) leaf.set) (items_fine leaf.coding leaf.items) a.1).0

    by : (o : Option NumLeaf) → slot_leaf root s ≡ o → are_ranges (unwrap_or (option_map (λ leaf. leaf.set) o) []) ≡ true
    by None e = refl
    by (Some leaf) e = kinds leaf leaf.kind (rules_of leaf (slot_leaf_fine root tree s leaf e)).set

-- Each test.

module _ (root : Grammar) (tree : IsTree root) where
  slot_covered : (rule : SizeRule) (low high : ℕ) → low ≤ high → ((n : ℕ) → low ≤ n → n ≤ high → SlotPermits root rule n) → slot_covers root rule low high ≡ true
  slot_covered (Slot s) low high l f = covered (domain_of root s) low high (domain_ranges root tree s) l f
  slot_covered (Prefix low' width) low high l f = refl
  slot_covered (Ended p) low high l f = refl

  slot_each : (rule : SizeRule) (low high : ℕ) → slot_covers root rule low high ≡ true → (n : ℕ) → low ≤ n → n ≤ high → SlotPermits root rule n
  slot_each (Slot s) low high h n a b = covers_each (domain_of root s) low high h n a b
  slot_each (Prefix low' width) low high h n a b = tt
  slot_each (Ended p) low high h n a b = tt

  counts_true : (sizing : Sizing) (g : Grammar) → counts_covered root sizing (octets_for (span g).least) (octets_for (span g).greatest) ≡ true → CountsPermitted root (contained sizing g)
  counts_true sizing g h n a b = either {F = In sizing.sizes (pos n) × SlotPermits root sizing.rule n} (nat_lt high low) (covers sizing.sizes low high && slot_covers root sizing.rule low high) h
      (λ q. absurd (wrong q))
      (λ q. let w = and_parts (covers sizing.sizes low high) (slot_covers root sizing.rule low high) q in (covers_each sizing.sizes low high w.0 n a b, slot_each sizing.rule low high w.1 n a b))
    where
      low : ℕ
      low = octets_for (span g).least

      high : ℕ
      high = octets_for (span g).greatest

      wrong : nat_lt high low ≡ true → ⊥
      wrong q = (let l : high < low = grind (arith, nat_tests, q) in omega (arith, l, a, b))

  counts_false : (sizing : Sizing) (g : Grammar) → sizes_fine sizing.sizes ≡ true → CountsPermitted root (contained sizing g) → counts_covered root sizing (octets_for (span g).least) (octets_for (span g).greatest) ≡ true
  counts_false sizing g fine c = by (less_or_not (octets_for (span g).greatest) (octets_for (span g).least))
    where
      low : ℕ
      low = octets_for (span g).least

      high : ℕ
      high = octets_for (span g).greatest

      ranges : are_ranges sizing.sizes ≡ true
      ranges = (and_parts (are_ranges sizing.sizes) (all_within (pos 0) (pos MOST_SIZE) sizing.sizes) (and_parts (nat_lt 0 (length sizing.sizes)) (are_ranges sizing.sizes && all_within (pos 0) (pos MOST_SIZE) sizing.sizes) fine).1).0

      by : (high < low) ⊎ (low ≤ high) → (nat_lt high low || (covers sizing.sizes low high && slot_covers root sizing.rule low high)) ≡ true
      by (inl l) = or_left (nat_lt high low) (covers sizing.sizes low high && slot_covers root sizing.rule low high) (grind (arith, nat_tests, l))
      by (inr l) = or_right (nat_lt high low) (covers sizing.sizes low high && slot_covers root sizing.rule low high)
          (and_from (covers sizing.sizes low high) (slot_covers root sizing.rule low high) (covered sizing.sizes low high ranges l (λ n a b. (c n a b).0)) (slot_covered sizing.rule low high l (λ n a b. (c n a b).1)))

other_true : (o : Option (List Bool)) (leaf : TextLeaf) → other_there o leaf.alphabet ≡ true → OtherThanEnd o leaf
other_true None leaf h = tt
other_true (Some end) leaf h =
    let c = other_by end leaf.alphabet in
    let f = and_parts (has leaf.alphabet (pos c)) (not (begins_with (slice_get (in_octets end) 0) c)) h in
    (c, f.0, λ octet e same. differs (nat_eq c (number octet)) (same_true c (number octet) same) (sym (ap (λ o. not (begins_with o c)) e) ∙ f.1))
  where
    same_true : (x y : ℕ) → x ≡ y → nat_eq x y ≡ true
    same_true x y e = grind (arith, nat_tests, e)

    differs : (b : Bool) → b ≡ true → not b ≡ true → ⊥
    differs true p q = cc
    differs false p q = cc

other_false : (o : Option (List Bool)) (leaf : TextLeaf) → text_fine leaf ≡ true → OtherThanEnd o leaf → other_there o leaf.alphabet ≡ true
other_false None leaf fine t = refl
other_false (Some end) leaf fine t = by (slice_get (in_octets end) 0) refl
  where
    pos_is : (x y : ℕ) → pos x ≡ pos y → x ≡ y
    pos_is x y e = cc

    not_same : (x y : ℕ) → (pos x ≡ pos y → ⊥) → not (nat_eq x y) ≡ true
    not_same x y f = true_or_false {F = not (nat_eq x y) ≡ true} (nat_eq x y) (λ e. absurd (f (ap (λ n. pos n) (eqb-true x y e)))) (λ e. ap not e)

    by : (o : Option (List Bool)) → slice_get (in_octets end) 0 ≡ o → other_there (Some end) leaf.alphabet ≡ true
    by None e = rw e (and_from (has leaf.alphabet _) (not false) (least_character leaf fine) refl)
    by (Some octet) e =
        let found = other_found (pos (number octet)) leaf.alphabet (pos 127) (pos t.0) (ordered_ranges leaf.alphabet (text_rules leaf fine).ranges) (text_rules leaf fine).small t.1 (λ q. t.2 octet e (pos_is t.0 (number octet) q)) in
        rw e (and_from (has leaf.alphabet (pos (other_than (pos (number octet)) leaf.alphabet))) (not (nat_eq (other_than (pos (number octet)) leaf.alphabet) (number octet))) found.0 (not_same (other_than (pos (number octet)) leaf.alphabet) (number octet) found.1))

any_from : (p : ℕ → Bool) (xs : List ℕ) → list_any p xs ≡ true → (s : ℕ) × (holds xs s ≡ true) × (p s ≡ true)
any_from p [] h = cc
any_from p (x ∷ xs) h = either {F = (s : ℕ) × (holds (x ∷ xs) s ≡ true) × (p s ≡ true)} (p x) (list_any p xs) h
    (λ q. (x, or_left (nat_eq x x) (holds xs x) (self x), q))
    (λ q. let r = any_from p xs q in (r.0, or_right (nat_eq x r.0) (holds xs r.0) r.1, r.2))
  where
    self : (n : ℕ) → nat_eq n n ≡ true
    self n = grind (arith, nat_tests)

any_to : (p : ℕ → Bool) (xs : List ℕ) (s : ℕ) → holds xs s ≡ true → p s ≡ true → list_any p xs ≡ true
any_to p [] s h k = cc
any_to p (x ∷ xs) s h k = either {F = list_any p (x ∷ xs) ≡ true} (nat_eq x s) (holds xs s) h
    (λ q. or_left (p x) (list_any p xs) (ap p (eqb-true x s q) ∙ k))
    (λ q. or_right (p x) (list_any p xs) (any_to p xs s q k))

is_less : (m n : ℕ) → nat_lt m n ≡ true → m < n
is_less m n e = grind (arith, nat_tests, e)

less_is : (m n : ℕ) → m < n → nat_lt m n ≡ true
less_is m n e = grind (arith, nat_tests, e)

not_true : (b : Bool) → not b ≡ true → b ≡ true → ⊥
not_true true p q = cc
not_true false p q = cc

not_false : (b : Bool) → not b ≡ false → b ≡ true
not_false true p = refl
not_false false p = cc

module _ (root : Grammar) (tree : IsTree root) where
  abbrev all : List Facts
  all = map (seen root) (nodes_of root)

  fine_at : (k : ℕ) (at : Stand) → NodeAt root k at → form_fine at.form ≡ true
  fine_at k at e = (stand_fine (nodes_of root) at (all_of (λ x. all_true (stand_rules (nodes_of root) x)) (nodes_of root) k at (tree_rules root tree) e)).form

  content_true : (form : Form) → form_bars root CountNotPermitted form ≡ true → form_fine form ≡ true → CountsPermitted root form → ⊥
  content_true (contained z g) h fine c = not_true (counts_covered root z (octets_for (span g).least) (octets_for (span g).greatest)) h (counts_false root tree z g (and_parts (sizes_fine z.sizes) (rule_fine z.sizes z.rule) fine).0 c)
  content_true (num l) h fine c = cc
  content_true (octets z) h fine c = cc
  content_true (bits z) h fine c = cc
  content_true (text l) h fine c = cc
  content_true (seq fs home) h fine c = cc
  content_true (list z g) h fine c = cc
  content_true (choice cases rule) h fine c = cc

  content_false : (form : Form) → form_bars root CountNotPermitted form ≡ false → CountsPermitted root form
  content_false (contained z g) h = counts_true root tree z g (not_false (counts_covered root z (octets_for (span g).least) (octets_for (span g).greatest)) h)
  content_false (num l) h = tt
  content_false (octets z) h = tt
  content_false (bits z) h = tt
  content_false (text l) h = tt
  content_false (seq fs home) h = tt
  content_false (list z g) h = tt
  content_false (choice cases rule) h = tt

  text_true : (form : Form) → form_bars root TerminatorAlone form ≡ true → form_fine form ≡ true → HasOther form → ⊥
  text_true (text l) h fine t = not_true (other_there l.ended l.alphabet) h (other_false l.ended l fine t)
  text_true (num l) h fine c = cc
  text_true (octets z) h fine c = cc
  text_true (bits z) h fine c = cc
  text_true (contained z g) h fine c = cc
  text_true (seq fs home) h fine c = cc
  text_true (list z g) h fine c = cc
  text_true (choice cases rule) h fine c = cc

  text_false : (form : Form) → form_bars root TerminatorAlone form ≡ false → HasOther form
  text_false (text l) h = other_true l.ended l (not_false (other_there l.ended l.alphabet) h)
  text_false (num l) h = tt
  text_false (octets z) h = tt
  text_false (bits z) h = tt
  text_false (contained z g) h = tt
  text_false (seq fs home) h = tt
  text_false (list z g) h = tt
  text_false (choice cases rule) h = tt

  twice_true : (o : Option ℕ) → used_twice all o ≡ true → (s : ℕ) × (o ≡ Some s) × (1 < uses_among s (nodes_of root))
  twice_true None h = cc
  twice_true (Some s) h = (s, refl, subst (λ n. 1 < n) (all_same root s (nodes_of root)) (is_less 1 (all_uses s all) h))

  twice_false : (o : Option ℕ) → used_twice all o ≡ false → (s : ℕ) → o ≡ Some s → 1 < uses_among s (nodes_of root) → ⊥
  twice_false None h s e l = absurd (none s e)
    where
      none : (s : ℕ) → None ≡ Some s → ⊥
      none s q = cc
  twice_false (Some t) h s e l = never_both (nat_lt 1 (all_uses t all)) (less_is 1 (all_uses t all) (subst (λ n. 1 < n) (sym (all_same root t (nodes_of root))) (subst (λ z. 1 < uses_among z (nodes_of root)) (is s t e) l))) h
    where
      is : (s t : ℕ) → Some t ≡ Some s → s ≡ t
      is s t q = cc

  own_true : (o : Option ℕ) → is_there o ≡ true → (s : ℕ) × (o ≡ Some s)
  own_true None h = cc
  own_true (Some s) h = (s, refl)

  own_false : (o : Option ℕ) → is_there o ≡ false → (s : ℕ) → o ≡ Some s → ⊥
  own_false None h s e = none s e
    where
      none : (s : ℕ) → None ≡ Some s → ⊥
      none s q = cc
  own_false (Some t) h s e = never_both true refl h

  shows_true : (why : Why) (k : ℕ) (at : Stand) → NodeAt root k at → shows root all why (seen root at) ≡ true → Shows root why at
  shows_true TwoUses k at e h = (let r = twice_true (tag_of at.role).slot h in (r.0, sym (slot_same root at.role) ∙ r.1, r.2))
  shows_true ThroughAList k at e h = (let r = any_from (λ s. nat_lt 0 (uses_of s (seen root at))) (barred_at root at.path) h in (r.0, r.1, subst (λ n. 0 < n) (uses_same root r.0 at) (is_less 0 (uses_of r.0 (seen root at)) r.2)))
  shows_true CountNotPermitted k at e h = content_true at.form h (fine_at k at e)
  shows_true TerminatorAlone k at e h = text_true at.form h (fine_at k at e)
  shows_true OfAComponent k at e h = (let r = own_true (tag_of at.role).own h in (r.0, sym (own_same root at.role) ∙ r.1))

  shows_false : (why : Why) (k : ℕ) (at : Stand) → NodeAt root k at → shows root all why (seen root at) ≡ false → Shows root why at → ⊥
  shows_false TwoUses k at e h w = twice_false (tag_of at.role).slot h w.0 (slot_same root at.role ∙ w.1) w.2
  shows_false ThroughAList k at e h w = never_both (list_any (λ s. nat_lt 0 (uses_of s (seen root at))) (barred_at root at.path)) (any_to (λ s. nat_lt 0 (uses_of s (seen root at))) (barred_at root at.path) w.0 w.1 (less_is 0 (uses_of w.0 (seen root at)) (subst (λ n. 0 < n) (sym (uses_same root w.0 at)) w.2))) h
  shows_false CountNotPermitted k at e h w = w (content_false at.form h)
  shows_false TerminatorAlone k at e h w = w (text_false at.form h)
  shows_false OfAComponent k at e h w = own_false (tag_of at.role).own h w.0 (own_same root at.role ∙ w.1)

  -- The first of a reason.

  record FirstOf (test : Facts → Bool) (l : List Stand) (path : List ℕ) : Type 0 where
    number : ℕ
    at : Stand
    stands : slice_get l number ≡ Some at
    passes : test (seen root at) ≡ true
    path_is : path ≡ at.path
    before : (k : ℕ) (x : Stand) → k < number → slice_get l k ≡ Some x → test (seen root x) ≡ false

  some_path : (p q : List ℕ) → Some p ≡ Some q → q ≡ p
  some_path p q e = cc

  some_stand : (x y : Stand) → Some x ≡ Some y → x ≡ y
  some_stand x y e = cc

  none_path : {F : Type 0} (q : List ℕ) → None ≡ Some q → F
  none_path {F} q e = absurd (none e)
    where
      none : None ≡ Some q → ⊥
      none e = cc

  path_none : {F : Type 0} (q : List ℕ) → Some q ≡ None → F
  path_none {F} q e = absurd (none e)
    where
      none : Some q ≡ None → ⊥
      none e = cc

  found : (test : Facts → Bool) (l : List Stand) (path : List ℕ) → first_path test (map (seen root) l) ≡ Some path → FirstOf test l path
  found test [] path e = none_path path e
  found test (x ∷ l) path e = by (test (seen root x)) refl e (λ q. found test l path q)
    where
      by : (b : Bool) → test (seen root x) ≡ b → (if b then Some x.path else first_path test (map (seen root) l)) ≡ Some path → (first_path test (map (seen root) l) ≡ Some path → FirstOf test l path) → FirstOf test (x ∷ l) path
      by true p q again = record { number = 0; at = x; stands = refl; passes = p; path_is = some_path x.path path q; before = λ k y less e. absurd (omega (arith, less)) }
      by false p q again =
          let r = again q in
          record { number = suc r.number; at = r.at; stands = r.stands; passes = r.passes; path_is = r.path_is; before = λ k y less e. before r k y less e }
        where
          before : FirstOf test l path → (k : ℕ) (y : Stand) → k < suc ((again q).number) → slice_get (x ∷ l) k ≡ Some y → test (seen root y) ≡ false
          before r zero y less e = subst (λ (z : Stand). test (seen root z) ≡ false) (some_stand x y e) p
          before r (suc k) y less e = (again q).before k y (omega (arith, less)) e

  none_of : (test : Facts → Bool) (l : List Stand) → first_path test (map (seen root) l) ≡ None → (k : ℕ) (x : Stand) → slice_get l k ≡ Some x → test (seen root x) ≡ false
  none_of test [] e k x h = cc
  none_of test (y ∷ l) e k x h = by (test (seen root y)) refl e k h (λ q j z. none_of test l q j x z)
    where
      by : (b : Bool) → test (seen root y) ≡ b → (if b then Some y.path else first_path test (map (seen root) l)) ≡ None → (k : ℕ) → slice_get (y ∷ l) k ≡ Some x → (first_path test (map (seen root) l) ≡ None → (j : ℕ) → slice_get l j ≡ Some x → test (seen root x) ≡ false) → test (seen root x) ≡ false
      by true p q k h again = path_none y.path q
      by false p q zero h again = subst (λ (z : Stand). test (seen root z) ≡ false) (some_stand y x h) p
      by false p q (suc k) h again = again q k h

  abbrev NoneOf : Why → Type 0
  NoneOf why = first_by root all why ≡ None

  absent : (why : Why) → NoneOf why → (k : ℕ) (at : Stand) → NodeAt root k at → Shows root why at → ⊥
  absent why n k at e w = shows_false why k at e (none_of (shows root all why) (nodes_of root) n k at e) w

  first_is : (why : Why) (path : List ℕ) → ((other : Why) → rank other < rank why → NoneOf other) → first_by root all why ≡ Some path → FirstUnsingle root path why
  first_is why path lesser e =
      let f = found (shows root all why) (nodes_of root) path e in
      record {
        number = f.number;
        here = f.at;
        stands = f.stands;
        shows = shows_true why f.number f.at f.stands f.passes;
        least = λ other k at less stands w. absent other (lesser other less) k at stands w;
        first = λ k at less stands w. shows_false why k at stands (f.before k at less stands) w;
        path_is = f.path_is;
      }

  lesser_0 : (other : Why) → rank other < 1 → NoneOf other
  lesser_0 TwoUses l = absurd (omega (arith, l))
  lesser_0 ThroughAList l = absurd (omega (arith, l))
  lesser_0 CountNotPermitted l = absurd (omega (arith, l))
  lesser_0 TerminatorAlone l = absurd (omega (arith, l))
  lesser_0 OfAComponent l = absurd (omega (arith, l))

  lesser_1 : NoneOf TwoUses → (other : Why) → rank other < 2 → NoneOf other
  lesser_1 n0 TwoUses l = n0
  lesser_1 n0 ThroughAList l = absurd (omega (arith, l))
  lesser_1 n0 CountNotPermitted l = absurd (omega (arith, l))
  lesser_1 n0 TerminatorAlone l = absurd (omega (arith, l))
  lesser_1 n0 OfAComponent l = absurd (omega (arith, l))

  lesser_2 : NoneOf TwoUses → NoneOf ThroughAList → (other : Why) → rank other < 3 → NoneOf other
  lesser_2 n0 n1 TwoUses l = n0
  lesser_2 n0 n1 ThroughAList l = n1
  lesser_2 n0 n1 CountNotPermitted l = absurd (omega (arith, l))
  lesser_2 n0 n1 TerminatorAlone l = absurd (omega (arith, l))
  lesser_2 n0 n1 OfAComponent l = absurd (omega (arith, l))

  lesser_3 : NoneOf TwoUses → NoneOf ThroughAList → NoneOf CountNotPermitted → (other : Why) → rank other < 4 → NoneOf other
  lesser_3 n0 n1 n2 TwoUses l = n0
  lesser_3 n0 n1 n2 ThroughAList l = n1
  lesser_3 n0 n1 n2 CountNotPermitted l = n2
  lesser_3 n0 n1 n2 TerminatorAlone l = absurd (omega (arith, l))
  lesser_3 n0 n1 n2 OfAComponent l = absurd (omega (arith, l))

  lesser_4 : NoneOf TwoUses → NoneOf ThroughAList → NoneOf CountNotPermitted → NoneOf TerminatorAlone → (other : Why) → rank other < 5 → NoneOf other
  lesser_4 n0 n1 n2 n3 TwoUses l = n0
  lesser_4 n0 n1 n2 n3 ThroughAList l = n1
  lesser_4 n0 n1 n2 n3 CountNotPermitted l = n2
  lesser_4 n0 n1 n2 n3 TerminatorAlone l = n3
  lesser_4 n0 n1 n2 n3 OfAComponent l = absurd (omega (arith, l))

  abbrev Both : Option (Why × List ℕ) → Type 0
  Both o = (o ≡ None → Single root) × ((why : Why) (path : List ℕ) → o ≡ Some (why, path) → FirstUnsingle root path why)

  abbrev pair : Why → List ℕ → Why × List ℕ
  pair why path = (why, path)

  some_pair : (why other : Why) (p q : List ℕ) → Some (pair why p) ≡ Some (pair other q) → FirstUnsingle root p why → FirstUnsingle root q other
  some_pair why other p q e f = subst (λ (z : Why × List ℕ). FirstUnsingle root z.1 z.0) (is (pair why p) (pair other q) e) f
    where
      is : (x y : Why × List ℕ) → Some x ≡ Some y → x ≡ y
      is x y e = cc

  here : (why : Why) (path : List ℕ) (rest : Option (Why × List ℕ)) → FirstUnsingle root path why → Both (or_first why (Some path) rest)
  here why path rest f = (λ e. absurd (differ e), λ other q e. some_pair why other path q e f)
    where
      differ : Some (pair why path) ≡ None → ⊥
      differ e = cc

  no_more : (n0 : NoneOf TwoUses) (n1 : NoneOf ThroughAList) (n2 : NoneOf CountNotPermitted) (n3 : NoneOf TerminatorAlone) (n4 : NoneOf OfAComponent) → Both None
  no_more n0 n1 n2 n3 n4 = (λ e. single, λ why path e. absurd (differ why path e))
    where
      differ : (why : Why) (path : List ℕ) → None ≡ Some (pair why path) → ⊥
      differ why path e = cc

      single : Single root
      single TwoUses k at e w = absent TwoUses n0 k at e w
      single ThroughAList k at e w = absent ThroughAList n1 k at e w
      single CountNotPermitted k at e w = absent CountNotPermitted n2 k at e w
      single TerminatorAlone k at e w = absent TerminatorAlone n3 k at e w
      single OfAComponent k at e w = absent OfAComponent n4 k at e w

  chain_4 : NoneOf TwoUses → NoneOf ThroughAList → NoneOf CountNotPermitted → NoneOf TerminatorAlone → Both (or_first OfAComponent (first_by root all OfAComponent) None)
  chain_4 n0 n1 n2 n3 = by (first_by root all OfAComponent) refl
    where
      by : (o : Option (List ℕ)) → first_by root all OfAComponent ≡ o → Both (or_first OfAComponent o None)
      by (Some p) e = here OfAComponent p None (first_is OfAComponent p (lesser_4 n0 n1 n2 n3) e)
      by None e = no_more n0 n1 n2 n3 e

  chain_3 : NoneOf TwoUses → NoneOf ThroughAList → NoneOf CountNotPermitted → Both (or_first TerminatorAlone (first_by root all TerminatorAlone) (or_first OfAComponent (first_by root all OfAComponent) None))
  chain_3 n0 n1 n2 = by (first_by root all TerminatorAlone) refl
    where
      by : (o : Option (List ℕ)) → first_by root all TerminatorAlone ≡ o → Both (or_first TerminatorAlone o (or_first OfAComponent (first_by root all OfAComponent) None))
      by (Some p) e = here TerminatorAlone p (or_first OfAComponent (first_by root all OfAComponent) None) (first_is TerminatorAlone p (lesser_3 n0 n1 n2) e)
      by None e = chain_4 n0 n1 n2 e

  chain_2 : NoneOf TwoUses → NoneOf ThroughAList → Both (or_first CountNotPermitted (first_by root all CountNotPermitted) (or_first TerminatorAlone (first_by root all TerminatorAlone) (or_first OfAComponent (first_by root all OfAComponent) None)))
  chain_2 n0 n1 = by (first_by root all CountNotPermitted) refl
    where
      by : (o : Option (List ℕ)) → first_by root all CountNotPermitted ≡ o → Both (or_first CountNotPermitted o (or_first TerminatorAlone (first_by root all TerminatorAlone) (or_first OfAComponent (first_by root all OfAComponent) None)))
      by (Some p) e = here CountNotPermitted p (or_first TerminatorAlone (first_by root all TerminatorAlone) (or_first OfAComponent (first_by root all OfAComponent) None)) (first_is CountNotPermitted p (lesser_2 n0 n1) e)
      by None e = chain_3 n0 n1 e

  chain_1 : NoneOf TwoUses → Both (or_first ThroughAList (first_by root all ThroughAList) (or_first CountNotPermitted (first_by root all CountNotPermitted) (or_first TerminatorAlone (first_by root all TerminatorAlone) (or_first OfAComponent (first_by root all OfAComponent) None))))
  chain_1 n0 = by (first_by root all ThroughAList) refl
    where
      by : (o : Option (List ℕ)) → first_by root all ThroughAList ≡ o → Both (or_first ThroughAList o (or_first CountNotPermitted (first_by root all CountNotPermitted) (or_first TerminatorAlone (first_by root all TerminatorAlone) (or_first OfAComponent (first_by root all OfAComponent) None))))
      by (Some p) e = here ThroughAList p (or_first CountNotPermitted (first_by root all CountNotPermitted) (or_first TerminatorAlone (first_by root all TerminatorAlone) (or_first OfAComponent (first_by root all OfAComponent) None))) (first_is ThroughAList p (lesser_1 n0) e)
      by None e = chain_2 n0 e

  chain_0 : Both (or_first TwoUses (first_by root all TwoUses) (or_first ThroughAList (first_by root all ThroughAList) (or_first CountNotPermitted (first_by root all CountNotPermitted) (or_first TerminatorAlone (first_by root all TerminatorAlone) (or_first OfAComponent (first_by root all OfAComponent) None)))))
  chain_0 = by (first_by root all TwoUses) refl
    where
      by : (o : Option (List ℕ)) → first_by root all TwoUses ≡ o → Both (or_first TwoUses o (or_first ThroughAList (first_by root all ThroughAList) (or_first CountNotPermitted (first_by root all CountNotPermitted) (or_first TerminatorAlone (first_by root all TerminatorAlone) (or_first OfAComponent (first_by root all OfAComponent) None)))))
      by (Some p) e = here TwoUses p (or_first ThroughAList (first_by root all ThroughAList) (or_first CountNotPermitted (first_by root all CountNotPermitted) (or_first TerminatorAlone (first_by root all TerminatorAlone) (or_first OfAComponent (first_by root all OfAComponent) None)))) (first_is TwoUses p (lesser_0) e)
      by None e = chain_1 e

pub first_unsingle_is_found : FirstUnsingleIsFound
first_unsingle_is_found root accepted =
    let both = subst (Both root accepted.formed) (sym (ap (first_among root) (facts_are root))) (chain_0 root accepted.formed) in
    record { single = both.0; found = both.1 }
