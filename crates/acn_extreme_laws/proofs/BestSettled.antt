-- What a best value asks of each slot can be met, part by part, and its counts of octets are permitted.
use Rattle.std.proofs.Common.{◌≡◌, ℕ, zero, suc, ◌-◌, ◌<◌, ℤ, pos, Bool, true, false, not, ◌&&◌, List, [], ◌∷◌, ◌++◌, length, map, Option, Some, None, refl, sym, ap, ◌∙◌, arith, inl, inr, ◌⊎◌, subst, IsTrue, nat_eq, nat_lt}
use Rattle.std.proofs.lemmas.Bool.{and_parts, and_from, or_left, or_right, not-true, eqb-true}
use Rattle.std.proofs.lemmas.Bool.Decides.{nat_tests}
use Rattle.std.proofs.lemmas.Int.{ints}
use Rattle.std.specs.Prelude.{◌≤ℤ◌, int_le, if◌then◌else◌, unwrap_or, option_map, replicate}
use Rattle.std.specs.List.{AllByRecursion, flat_map, list_any}
use Rattle.std.specs.Ordering.{int_eq}
use Rattle.acn_num.specs.Bits.{octets as octets_for, is_least_width}
use Rattle.acn_num.specs.Ranges.{In, Ranges, has}
use Rattle.acn_grammar.specs.Asks.{Ask, Equal, Avoid, Moment, counts, FieldPaths, with_fields, presence_asks, test_asks, size_asks, own_asks, rule_asks, run_moments, moments, form_moments, fields_moments, alternative_moments, same_name, index_of}
use Rattle.acn_grammar.specs.AsksOn.{MeetsAsk, on, test_ask_on, presence_asks_on, size_asks_on, own_asks_on, rule_asks_on}
use Rattle.acn_grammar.specs.Grammar.{Grammar, Form, Fields, Alternatives, Data, Places, Elements, node, num, octets, bits, text, seq, list, choice, contained, no_fields, component, inserted, no_alternatives, alternative, octet_string, bit_string, characters, record_of, list_of, alt, no_places, empty, filled, no_elements, element, element_count}
use Rattle.acn_grammar.specs.Leaves.{set_fine, is_range, no_items, items_fine, integer_set_fine, all_differ}
use Rattle.acn_grammar.specs.Length.{bit_length, ending}
use Rattle.acn_grammar.specs.Images.{ends}
use Rattle.acn_grammar.specs.PartAt.{Occurrence, part_at, form_part, field_part, alternative_part, element_part}
use Rattle.acn_grammar.specs.Scoped.{Known, with_slot, with_own, after, choose_known, tests_at}
use Rattle.acn_grammar.specs.Slots.{domain_of, items_of, slot_leaf}
use Rattle.acn_grammar.specs.Sound.{Sound, FormSound, FieldsSound, AlternativesSound, PresenceSound}
use Rattle.acn_grammar.specs.Tree.{IsTree, choice_fine, choice_rule_fine, has_tests}
use Rattle.acn_grammar.specs.Walk.{conditions_of}
use Rattle.acn_grammar.specs.declared.node.ChoiceRule.{ChoiceRule}
use Rattle.acn_grammar.specs.declared.node.ChoiceRule.TheVariants.{Index, Tests, Item}
use Rattle.acn_grammar.specs.declared.node.NumKind.{NumKind}
use Rattle.acn_grammar.specs.declared.node.NumKind.TheVariants.{Integer, Boolean, Enumerated, Null}
use Rattle.acn_grammar.specs.declared.node.NumLeaf.{NumLeaf}
use Rattle.acn_grammar.specs.declared.node.Presence.{Presence}
use Rattle.acn_grammar.specs.declared.node.Presence.TheVariants.{Always, Bit, When}
use Rattle.acn_grammar.specs.declared.node.SizeRule.{SizeRule}
use Rattle.acn_grammar.specs.declared.node.SizeRule.TheVariants.{Prefix, Slot, Ended}
use Rattle.acn_grammar.specs.declared.node.Test.{Test}
use Rattle.acn_grammar.specs.declared.node.Test.TheVariants.{Flag, Equals}
use Rattle.acn_grammar.proofs.FineLeaves.{rules_of}
use Rattle.acn_grammar.proofs.HasImage.{Ordered, set_ordered}
use Rattle.acn_grammar.proofs.WholeTests.{either, eq_fact, eq_self}
use Rattle.acn_extreme_laws.specs.Laws.{CountPermitted}
use Rattle.acn_extreme_laws.specs.OneUse.{CanMeet, Settled, FormSettled, FieldsSettled, CaseSettled}
use Rattle.acn_extreme_laws.specs.Reach.{has_other, tested_slot, tested_number, item_can, can_be_there, can_be_away, can_be_chosen}
use Rattle.acn_extreme_laws.specs.Single.{SlotPermits}
use Rattle.acn_extreme_laws.specs.declared.side.Side.{Side}
use Rattle.acn_extreme_laws.proofs.BestMeets.{best_meets, list_run}
use Rattle.acn_extreme_laws.proofs.Chosen.{RunBest, IsBest, FormBest, FieldsBest, CaseBest}
use Rattle.acn_extreme_laws.proofs.Codes.{in_range}
use Rattle.acn_extreme_laws.proofs.Homed.{no_tests}
use Rattle.acn_extreme_laws.proofs.Parts.{tests_can_be_met}
use Rattle.acn_extreme_laws.proofs.Ready.{FlagFits, PresenceReady, Ready, FormReady, FieldsReady, CasesReady, slot_leaf_fine}
use Rattle.acn_extreme_laws.proofs.Tuples.{first_two, first_four, first_five, second_three, third_four, fourth_five, last_two, last_three, last_four, last_five, second_four}

long : {A : Type 0} (n : ℕ) (x : A) → length (replicate n x) ≡ n
long zero x = refl
long (suc n) x = ap suc (long n x)

-- Another number of a set.

end_there : (r : ℤ × ℤ) (rs : Ranges) → r.0 ≤ℤ r.1 → (has (r ∷ rs) r.0 ≡ true) × (has (r ∷ rs) r.1 ≡ true)
end_there r rs o =
    (or_left (int_le r.0 r.0 && int_le r.0 r.1) (has rs r.0) (in_range r.0 r.1 r.0 (self r.0) o), or_left (int_le r.0 r.1 && int_le r.1 r.1) (has rs r.1) (in_range r.0 r.1 r.1 o (self r.1)))
  where
    self : (x : ℤ) → x ≤ℤ x
    self x = omega (arith, ints)

apart : (x y : ℤ) → int_eq x y ≡ false → x ≡ y → ⊥
apart x y e q = absurd (clash (int_eq x x) (eq_self x) (ap (int_eq x) q ∙ e))
  where
    clash : (b : Bool) → b ≡ true → b ≡ false → ⊥
    clash true p q' = cc
    clash false p q' = cc

other_member : (rs : Ranges) (k : ℤ) → Ordered rs → has_other rs k ≡ true → (x : ℤ) × (has rs x ≡ true) × (x ≡ k → ⊥)
other_member [] k o h = cc
other_member (r ∷ rs) k o h = either {F = (x : ℤ) × (has (r ∷ rs) x ≡ true) × (x ≡ k → ⊥)} (not (int_eq r.0 k && int_eq r.1 k)) (has_other rs k) h
    (λ q. by (int_eq r.0 k) refl (int_eq r.1 k) refl q)
    (λ q. let m = other_member rs k o.1 q in (m.0, or_right (int_le r.0 m.0 && int_le m.0 r.1) (has rs m.0) m.1, m.2))
  where
    by : (a : Bool) → int_eq r.0 k ≡ a → (b : Bool) → int_eq r.1 k ≡ b → not (a && b) ≡ true → (x : ℤ) × (has (r ∷ rs) x ≡ true) × (x ≡ k → ⊥)
    by false p b q n = (r.0, (end_there r rs o.0).0, apart r.0 k p)
    by true p false q n = (r.1, (end_there r rs o.0).1, apart r.1 k q)
    by true p true q n = cc

domain_ordered : (root : Grammar) → IsTree root → (s : ℕ) → Ordered (domain_of root s)
domain_ordered root tree s = by (slot_leaf root s) refl
  where
    by : (o : Option NumLeaf) → slot_leaf root s ≡ o → Ordered (unwrap_or (option_map (λ leaf. leaf.set) o) [])
    by None e = tt
    by (Some leaf) e = set_ordered leaf.kind leaf.coding leaf.items leaf.table leaf.set (rules_of leaf (slot_leaf_fine root tree s leaf e)).set

-- The first item of a name.

name_sym : (a b : List ℕ) → same_name a b ≡ true → same_name b a ≡ true
name_sym [] [] h = refl
name_sym [] (y ∷ b) h = cc
name_sym (x ∷ a) [] h = cc
name_sym (x ∷ a) (y ∷ b) h =
    let f = and_parts (nat_eq x y) (same_name a b) h in
    and_from (nat_eq y x) (same_name b a) (turned x y f.0) (name_sym a b f.1)
  where
    turned : (x y : ℕ) → nat_eq x y ≡ true → nat_eq y x ≡ true
    turned x y e = (let is = eqb-true x y e in grind (arith, nat_tests, is))

item_there : (set : Ranges) (k : ℕ) (items : List (List ℕ × ℤ)) (name : List ℕ) → item_can set k items name ≡ true → index_of (same_name name) items < length items
item_there set k [] name h = cc
item_there set k (named ∷ items) name h = by (same_name name named.0) refl (λ q. item_there set (suc k) items name q)
  where
    clash : (b : Bool) → b ≡ true → b ≡ false → ⊥
    clash true p q = cc
    clash false p q = cc

    by : (b : Bool) → same_name name named.0 ≡ b → (item_can set (suc k) items name ≡ true → index_of (same_name name) items < length items) → (if b then 0 else suc (index_of (same_name name) items)) < suc (length items)
    by true e again = omega arith
    by false e again = either {F = suc (index_of (same_name name) items) < suc (length items)} (same_name named.0 name && has set (pos k)) (item_can set (suc k) items name) h
        (λ q. absurd (clash (same_name name named.0) (name_sym named.0 name (and_parts (same_name named.0 name) (has set (pos k)) q).0) e))
        (λ q. let r = again q in omega arith)

range_holds : (low high : ℤ) (rs : Ranges) (x : ℤ) → is_range low high rs ≡ true → low ≤ℤ x → x ≤ℤ high → has rs x ≡ true
range_holds low high [] x h a b = cc
range_holds low high (r ∷ []) x h a b =
    let f = and_parts (int_eq r.0 low) (int_eq r.1 high) h in
    or_left (int_le r.0 x && int_le x r.1) false (in_range r.0 r.1 x (rw (eq_fact r.0 low f.0) a) (rw (eq_fact r.1 high f.1) b))
range_holds low high (r ∷ q ∷ rs) x h a b = cc

no_items_there : (items : List (List ℕ × ℤ)) → nat_eq (length items) 0 ≡ true → items ≡ []
no_items_there [] h = refl
no_items_there (x ∷ items) h = (let e = eqb-true (length (x ∷ items)) 0 h in absurd (omega arith))

-- the place of an item that can be chosen is permitted
item_permitted : (root : Grammar) → IsTree root → (s : ℕ) (name : List ℕ) → item_can (domain_of root s) 0 (items_of root s) name ≡ true → In (domain_of root s) (pos (index_of (same_name name) (items_of root s)))
item_permitted root tree s name h = by (slot_leaf root s) refl h
  where
    by : (o : Option NumLeaf) → slot_leaf root s ≡ o → item_can (unwrap_or (option_map (λ leaf. leaf.set) o) []) 0 (unwrap_or (option_map (λ leaf. leaf.items.items) o) []) name ≡ true
        → In (unwrap_or (option_map (λ leaf. leaf.set) o) []) (pos (index_of (same_name name) (unwrap_or (option_map (λ leaf. leaf.items.items) o) [])))
    by None e k = cc
    by (Some leaf) e k = kind leaf.kind (rules_of leaf (slot_leaf_fine root tree s leaf e)).set
      where
        nothing : no_items leaf.items ≡ true → In leaf.set (pos (index_of (same_name name) leaf.items.items))
        nothing n = absurd (none (ap (λ z. item_can leaf.set 0 z name) (no_items_there leaf.items.items (and_parts (nat_eq (length leaf.items.items) 0) (not leaf.items.values) n).0)))
          where
            none : item_can leaf.set 0 leaf.items.items name ≡ false → ⊥
            none q = clash (item_can leaf.set 0 leaf.items.items name) k q
              where
                clash : (b : Bool) → b ≡ true → b ≡ false → ⊥
                clash true p q' = cc
                clash false p q' = cc

        few : index_of (same_name name) leaf.items.items < length leaf.items.items
        few = item_there leaf.set 0 leaf.items.items name k

        kind : (z : NumKind) → set_fine z leaf.coding leaf.items leaf.table leaf.set ≡ true → In leaf.set (pos (index_of (same_name name) leaf.items.items))
        kind Integer f = nothing (and_parts (integer_set_fine leaf.coding (ends leaf.set)) (no_items leaf.items) (and_parts _ (integer_set_fine leaf.coding (ends leaf.set) && no_items leaf.items) f).1).1
        kind Boolean f = nothing (and_parts (is_range (pos 0) (pos 1) leaf.set) (no_items leaf.items) f).1
        kind Null f = nothing (and_parts (is_range (pos 0) (pos 0) leaf.set) (no_items leaf.items) f).1
        kind Enumerated f =
            let a = and_parts (nat_lt 0 (length leaf.items.items)) (is_range (pos 0) (pos (length leaf.items.items - 1)) leaf.set && items_fine leaf.coding leaf.items) f in
            range_holds (pos 0) (pos (length leaf.items.items - 1)) leaf.set (pos (index_of (same_name name) leaf.items.items)) (and_parts (is_range (pos 0) (pos (length leaf.items.items - 1)) leaf.set) (items_fine leaf.coding leaf.items) a.1).0
            (omega (arith, ints)) (let l = few in omega (arith, ints))

-- What is asked of a slot that has a number.

module _ (root : Grammar) (tree : IsTree root) (s : ℕ) (x : ℤ) (some : In (domain_of root s) x) where
  nothing_asked : CanMeet root s []
  nothing_asked = (x, record { permitted = some; meets = tt })

  -- an ask of one slot can be met where it can be met there
  on_met : (t : ℕ) (a : Ask) → ((y : ℤ) × In (domain_of root t) y × MeetsAsk y a) → CanMeet root s (on s t a)
  on_met t a m = by (nat_eq t s) refl
    where
      by : (b : Bool) → nat_eq t s ≡ b → CanMeet root s (if b then a ∷ [] else [])
      by true e = (m.0, record { permitted = subst (λ z. In (domain_of root z) m.0) (eqb-true t s e) m.1; meets = (m.2, tt) })
      by false e = nothing_asked

  size_met : (n : ℕ) (rule : SizeRule) → ((t : ℕ) → rule ≡ Slot t → In (domain_of root t) (pos n)) → CanMeet root s (size_asks_on s n rule)
  size_met n (Slot t) h = on_met t (Equal (pos n)) (pos n, h t refl, refl)
  size_met n (Prefix low width) h = nothing_asked
  size_met n (Ended p) h = nothing_asked

  slot_told : (n : ℕ) (rule : SizeRule) → SlotPermits root rule n → (t : ℕ) → rule ≡ Slot t → In (domain_of root t) (pos n)
  slot_told n (Slot u) h t e = subst (λ z. In (domain_of root z) (pos n)) (is u t e) h
    where
      is : (u t : ℕ) → Slot u ≡ Slot t → u ≡ t
      is u t q = cc
  slot_told n (Prefix low width) h t e = absurd (differ t e)
    where
      differ : (t : ℕ) → Prefix low width ≡ Slot t → ⊥
      differ t q = cc
  slot_told n (Ended p) h t e = absurd (differ t e)
    where
      differ : (t : ℕ) → Ended p ≡ Slot t → ⊥
      differ t q = cc

  own_met : (own : Option ℕ) (d : Data) → own ≡ None → CanMeet root s (own_asks_on s own d)
  own_met None d e = nothing_asked
  own_met (Some t) d e = cc

  there_met : (p : Presence) → can_be_there root p ≡ true → CanMeet root s (presence_asks_on s true p)
  there_met Always h = nothing_asked
  there_met Bit h = nothing_asked
  there_met (When ts) h = tests_can_be_met root ts s x h some

  fails_met : (t : Test) → FlagFits root t → has_other (domain_of root (tested_slot t)) (tested_number t) ≡ true → CanMeet root s (test_ask_on s false t)
  fails_met (Flag u) f h =
      let m = other_member (domain_of root u) (pos 1) (domain_ordered root tree u) h in
      on_met u (Equal (pos 0)) (m.0, m.1, zero_is m.0 (f m.0 m.1) m.2)
    where
      zero_is : (y : ℤ) → (y ≡ pos 0) ⊎ (y ≡ pos 1) → (y ≡ pos 1 → ⊥) → y ≡ pos 0
      zero_is y (inl e) n = e
      zero_is y (inr e) n = absurd (n e)
  fails_met (Equals u k) f h =
      let m = other_member (domain_of root u) k (domain_ordered root tree u) h in
      on_met u (Avoid k) (m.0, m.1, m.2)

  append-none : (xs : List Ask) → xs ≡ xs ++ []
  append-none [] = refl
  append-none (y ∷ xs) = ap (λ z. y ∷ z) (append-none xs)

  away_met : (ks : Known) (p : Presence) → PresenceSound ks p → PresenceReady root p → can_be_away root p ≡ true → CanMeet root s (presence_asks_on s false p)
  away_met ks Always sound f h = cc
  away_met ks Bit sound f h = nothing_asked
  away_met ks (When []) sound f h = cc
  away_met ks (When (t ∷ [])) sound f h = subst (CanMeet root s) (append-none (test_ask_on s false t)) (fails_met t f.0 (either {F = has_other (domain_of root (tested_slot t)) (tested_number t) ≡ true} (has_other (domain_of root (tested_slot t)) (tested_number t)) false h (λ q. q) (λ q. cc)))
  away_met ks (When (t ∷ u ∷ ts)) sound f h = (let one = sound.0 in absurd (omega arith))

  rule_met : (rule : ChoiceRule) (name : List ℕ) (ts : List Test) → ((width : ℕ) → rule ≡ Index width → ts ≡ []) → can_be_chosen root rule name ts ≡ true → CanMeet root s (rule_asks_on root s rule name ts)
  rule_met (Item t) name ts n h = on_met t (Equal (pos (index_of (same_name name) (items_of root t)))) (pos (index_of (same_name name) (items_of root t)), item_permitted root tree t name h, refl)
  rule_met Tests name ts n h = tests_can_be_met root ts s x h some
  rule_met (Index width) name ts n h = subst (λ (z : List Test). CanMeet root s (flat_map (test_ask_on s true) z)) (sym (n width refl)) nothing_asked

  cases_untested : (cases : Alternatives) (rule : ChoiceRule) → IsTrue (choice_fine (conditions_of cases) rule) → (i width : ℕ) → rule ≡ Index width → tests_at cases i ≡ []
  cases_untested cases (Index w) fine i width e =
      let a = and_parts (nat_lt 0 (length (conditions_of cases))) (all_differ same_name (map (λ c. c.0) (conditions_of cases)) && choice_rule_fine (conditions_of cases) (Index w)) fine in
      let b = and_parts (all_differ same_name (map (λ c. c.0) (conditions_of cases))) (choice_rule_fine (conditions_of cases) (Index w)) a.1 in
      let c = and_parts (is_least_width (length (conditions_of cases) - 1) w) (not (list_any has_tests (conditions_of cases))) b.1 in
      no_tests cases i (not-true (list_any has_tests (conditions_of cases)) c.1)
  cases_untested cases Tests fine i width e = cc
  cases_untested cases (Item t) fine i width e = cc

  module _ (side : Side) where
    mutual
      pub node_settled : (g : Grammar) (k : ℕ) (around : List ℕ) (ks : Known) → Sound root k around ks g → Ready root g → (at : ℕ) (d : Data) (e : ℕ) → IsBest root side g at d e → Settled root s g d
      node_settled (node a form) k around ks sound h at d e r = form_settled form k around ks (last_three sound) h _ d e r

      form_settled : (form : Form) (k : ℕ) (around : List ℕ) (ks : Known) → FormSound root k around ks form → FormReady root form → (at : ℕ) (d : Data) (e : ℕ) → FormBest root side form at d e → FormSettled root s form d
      form_settled (num l) k around ks sound h at d e r = tt
      form_settled (octets z) k around ks sound h at (octet_string os) e r = subst (λ n. CanMeet root s (size_asks_on s n z.rule)) (sym (ap length r.2 ∙ long r.0 0)) (size_met r.0 z.rule (r.1).told)
      form_settled (bits z) k around ks sound h at (bit_string bs) e r = subst (λ n. CanMeet root s (size_asks_on s n z.rule)) (sym (ap length r.2 ∙ long r.0 false)) (size_met r.0 z.rule (r.1).told)
      form_settled (text l) k around ks sound h at (characters cs) e r = subst (λ n. CanMeet root s (size_asks_on s n l.sized.rule)) (sym (ap length r.2 ∙ long r.0 _)) (size_met r.0 l.sized.rule (r.1).told)
      form_settled (seq fs home) k around ks sound h at (record_of ps) e r = fields_settled fs (suc k) (home ++ around) ks (last_two sound) h _ ps e r
      form_settled (list z g) k around ks sound h at (list_of es) e r = size_met (element_count es) z.rule (r.0).told
      form_settled (choice cases rule) k around ks sound h at (alt i d) e r = case_settled cases rule (suc k) around ks (cases_untested cases rule (first_four sound)) (last_four sound) h i _ d e r
      form_settled (contained z g) k around ks sound h at d e r =
          let meets = best_meets root side g (suc k) around ks (last_four sound) h.1 0 d r.0 r.1 in
          (node_settled g (suc k) around ks (last_four sound) h.1 0 d r.0 r.1, size_met (octets_for (bit_length g 0 d)) z.rule (slot_told (octets_for (bit_length g 0 d)) z.rule (h.0 d meets).1))
      form_settled (octets z) k around ks sound h at _ e r = absurd r
      form_settled (bits z) k around ks sound h at _ e r = absurd r
      form_settled (text l) k around ks sound h at _ e r = absurd r
      form_settled (seq fs home) k around ks sound h at _ e r = absurd r
      form_settled (list z g) k around ks sound h at _ e r = absurd r
      form_settled (choice cases rule) k around ks sound h at _ e r = absurd r

      fields_settled : (fs : Fields) (k : ℕ) (around : List ℕ) (ks : Known) → FieldsSound root k around ks fs → FieldsReady root fs → (at : ℕ) (ps : Places) (e : ℕ) → FieldsBest root side fs at ps e → FieldsSettled root s fs ps
      fields_settled no_fields k around ks sound h at ps e r = tt
      fields_settled (component n g p def own fs) k around ks sound h at no_places e r = absurd r
      fields_settled (component n g p def own fs) k around ks sound h at (filled d ps) e r = (
        own_met own d (first_four h),
        there_met p r.0,
        node_settled g k around ks (fourth_five sound) (third_four h) at d r.1 r.2,
        fields_settled fs k around (choose_known p ks (with_own own (after ks g))) (last_five sound) (last_four h) r.1 ps e r.3,
      )
      fields_settled (component n g p def own fs) k around ks sound h at (empty ps) e r =
          (away_met ks p (first_five sound) (second_four h) r.0, fields_settled fs k around (choose_known p ks (with_own own (after ks g))) (last_five sound) (last_four h) at ps e r.1)
      fields_settled (inserted n g (Some t) fs) k around ks sound h at ps e r = fields_settled fs k around (with_slot t ks) (last_four sound) (last_two h) r.1 ps e r.3
      fields_settled (inserted n g None fs) k around ks sound h at ps e r = fields_settled fs k around ks (last_three sound) (last_two h) r.1 ps e r.3

      case_settled : (cases : Alternatives) (rule : ChoiceRule) (k : ℕ) (around : List ℕ) (ks : Known) → ((i width : ℕ) → rule ≡ Index width → tests_at cases i ≡ []) → AlternativesSound root k around ks cases → CasesReady root cases → (i at : ℕ) (d : Data) (e : ℕ) → CaseBest root side rule cases i at d e → CaseSettled root s cases rule i d
      case_settled no_alternatives rule k around ks none sound h i at d e r = tt
      case_settled (alternative n g ts more) rule k around ks none sound h zero at d e r = (rule_met rule n ts (none 0) r.0, node_settled g k around ks (second_three sound) (first_two h) at d e r.1)
      case_settled (alternative n g ts more) rule k around ks none sound h (suc i) at d e r = case_settled more rule k around ks (λ j. none (suc j)) (last_three sound) (last_two h) i at d e r

-- Counts of octets.

all_joined : {A : Type 0} (P : A → Type 0) (xs ys : List A) → AllByRecursion P xs → AllByRecursion P ys → AllByRecursion P (xs ++ ys)
all_joined P [] ys h k = k
all_joined P (x ∷ xs) ys h k = (h.0, all_joined P xs ys h.1 k)

abbrev AllCounted : List Moment → Type 0
AllCounted ms = AllByRecursion CountPermitted ms

tests_counted : (paths : FieldPaths) (p : List ℕ) (there : Bool) (ts : List Test) → AllCounted (map (test_asks paths p there) ts)
tests_counted paths p there [] = tt
tests_counted paths p true (Flag s ∷ ts) = (tt, tests_counted paths p true ts)
tests_counted paths p false (Flag s ∷ ts) = (tt, tests_counted paths p false ts)
tests_counted paths p true (Equals s k ∷ ts) = (tt, tests_counted paths p true ts)
tests_counted paths p false (Equals s k ∷ ts) = (tt, tests_counted paths p false ts)

presence_counted : (paths : FieldPaths) (p : List ℕ) (there : Bool) (presence : Presence) → AllCounted (presence_asks paths p there presence)
presence_counted paths p there Always = tt
presence_counted paths p there Bit = tt
presence_counted paths p there (When ts) = tests_counted paths p there ts

size_counted : (paths : FieldPaths) (p : List ℕ) (n : ℕ) (rule : SizeRule) → AllCounted (size_asks paths p n rule)
size_counted paths p n (Slot s) = (tt, tt)
size_counted paths p n (Prefix low width) = tt
size_counted paths p n (Ended q) = tt

own_counted : (paths : FieldPaths) (p : List ℕ) (own : Option ℕ) (d : Data) → AllCounted (own_asks paths p own d)
own_counted paths p None d = tt
own_counted paths p (Some s) d = (tt, tt)

rule_counted : (root : Grammar) (paths : FieldPaths) (p : List ℕ) (i : ℕ) (rule : ChoiceRule) (name : List ℕ) (ts : List Test) → AllCounted (rule_asks root paths p i rule name ts)
rule_counted root paths p i (Item s) name ts = (tt, tt)
rule_counted root paths p i Tests name ts = tests_counted paths (p ++ i ∷ []) true ts
rule_counted root paths p i (Index width) name ts = tests_counted paths (p ++ i ∷ []) true ts

run_counted : (each : ℕ → Data → ℕ → Type 0) (m : ℕ → Data → List Moment) → ((j at : ℕ) (d : Data) (e : ℕ) → each at d e → AllCounted (m j d)) → (j : ℕ) (es : Elements) (at e : ℕ) → RunBest each at es e → AllCounted (run_moments m j es)
run_counted each m h j no_elements at e r = tt
run_counted each m h j (element d es) at e r = all_joined CountPermitted (m j d) (run_moments m (suc j) es) (h j at d r.0 r.1) (run_counted each m h (suc j) es r.0 e r.2)

module _ (root : Grammar) (side : Side) where
  mutual
    pub node_counted : (g : Grammar) (k : ℕ) (around : List ℕ) (ks : Known) → Sound root k around ks g → Ready root g → (at : ℕ) (d : Data) (e : ℕ) → IsBest root side g at d e → (paths : FieldPaths) (p : List ℕ) → AllCounted (moments root g paths p d)
    node_counted (node a form) k around ks sound h at d e r paths p = form_counted form k around ks (last_three sound) h _ d e r paths p

    form_counted : (form : Form) (k : ℕ) (around : List ℕ) (ks : Known) → FormSound root k around ks form → FormReady root form → (at : ℕ) (d : Data) (e : ℕ) → FormBest root side form at d e → (paths : FieldPaths) (p : List ℕ) → AllCounted (form_moments root form paths p d)
    form_counted (num l) k around ks sound h at d e r paths p = tt
    form_counted (octets z) k around ks sound h at (octet_string os) e r paths p = size_counted paths p (length os) z.rule
    form_counted (bits z) k around ks sound h at (bit_string bs) e r paths p = size_counted paths p (length bs) z.rule
    form_counted (text l) k around ks sound h at (characters cs) e r paths p = size_counted paths p (length cs) l.sized.rule
    form_counted (seq fs home) k around ks sound h at (record_of ps) e r paths p = fields_counted fs (suc k) (home ++ around) ks (last_two sound) h _ ps e r (with_fields p fs home paths) p 0
    form_counted (list z g) k around ks sound h at (list_of es) e r paths p =
        let t = list_run (ending z.rule) z.rule (IsBest root side g) at es e r.1 in
        all_joined CountPermitted (size_asks paths p (element_count es) z.rule) (run_moments (λ j d. moments root g paths (p ++ j ∷ []) d) 0 es) (size_counted paths p (element_count es) z.rule)
        (run_counted (IsBest root side g) (λ j d. moments root g paths (p ++ j ∷ []) d) (λ j m d q s. node_counted g (suc k) around ks (last_five sound) h m d q s paths (p ++ j ∷ [])) 0 es t.0 t.1 t.2)
    form_counted (choice cases rule) k around ks sound h at (alt i d) e r paths p = case_counted cases rule (suc k) around ks (last_four sound) h i _ d e r paths p i
    form_counted (contained z g) k around ks sound h at d e r paths p =
        let n = octets_for (bit_length g 0 d) in
        let meets = best_meets root side g (suc k) around ks (last_four sound) h.1 0 d r.0 r.1 in
        all_joined CountPermitted (moments root g paths (p ++ 0 ∷ []) d) (counts p n z ∷ size_asks paths p n z.rule) (node_counted g (suc k) around ks (last_four sound) h.1 0 d r.0 r.1 paths (p ++ 0 ∷ []))
        ((h.0 d meets).0, size_counted paths p n z.rule)
    form_counted (octets z) k around ks sound h at _ e r paths p = absurd r
    form_counted (bits z) k around ks sound h at _ e r paths p = absurd r
    form_counted (text l) k around ks sound h at _ e r paths p = absurd r
    form_counted (seq fs home) k around ks sound h at _ e r paths p = absurd r
    form_counted (list z g) k around ks sound h at _ e r paths p = absurd r
    form_counted (choice cases rule) k around ks sound h at _ e r paths p = absurd r

    fields_counted : (fs : Fields) (k : ℕ) (around : List ℕ) (ks : Known) → FieldsSound root k around ks fs → FieldsReady root fs → (at : ℕ) (ps : Places) (e : ℕ) → FieldsBest root side fs at ps e → (paths : FieldPaths) (p : List ℕ) (i : ℕ) → AllCounted (fields_moments root fs paths p i ps)
    fields_counted no_fields k around ks sound h at ps e r paths p i = tt
    fields_counted (component n g presence def own fs) k around ks sound h at no_places e r paths p i = absurd r
    fields_counted (component n g presence def own fs) k around ks sound h at (filled d ps) e r paths p i =
        let here = p ++ i ∷ [] in
        all_joined CountPermitted (own_asks paths here own d ++ presence_asks paths here true presence ++ moments root g paths here d) (fields_moments root fs paths p (suc i) ps)
        (all_joined CountPermitted (own_asks paths here own d ++ presence_asks paths here true presence) (moments root g paths here d)
        (all_joined CountPermitted (own_asks paths here own d) (presence_asks paths here true presence) (own_counted paths here own d) (presence_counted paths here true presence))
        (node_counted g k around ks (fourth_five sound) (third_four h) at d r.1 r.2 paths here))
        (fields_counted fs k around (choose_known presence ks (with_own own (after ks g))) (last_five sound) (last_four h) r.1 ps e r.3 paths p (suc i))
    fields_counted (component n g presence def own fs) k around ks sound h at (empty ps) e r paths p i =
        all_joined CountPermitted (presence_asks paths (p ++ i ∷ []) false presence) (fields_moments root fs paths p (suc i) ps) (presence_counted paths (p ++ i ∷ []) false presence)
        (fields_counted fs k around (choose_known presence ks (with_own own (after ks g))) (last_five sound) (last_four h) at ps e r.1 paths p (suc i))
    fields_counted (inserted n g (Some t) fs) k around ks sound h at ps e r paths p i = fields_counted fs k around (with_slot t ks) (last_four sound) (last_two h) r.1 ps e r.3 paths p (suc i)
    fields_counted (inserted n g None fs) k around ks sound h at ps e r paths p i = fields_counted fs k around ks (last_three sound) (last_two h) r.1 ps e r.3 paths p (suc i)

    case_counted : (cases : Alternatives) (rule : ChoiceRule) (k : ℕ) (around : List ℕ) (ks : Known) → AlternativesSound root k around ks cases → CasesReady root cases → (j at : ℕ) (d : Data) (e : ℕ) → CaseBest root side rule cases j at d e → (paths : FieldPaths) (p : List ℕ) (i : ℕ) → AllCounted (alternative_moments root cases rule paths p i j d)
    case_counted no_alternatives rule k around ks sound h j at d e r paths p i = tt
    case_counted (alternative n g ts more) rule k around ks sound h zero at d e r paths p i =
        all_joined CountPermitted (rule_asks root paths p i rule n ts) (moments root g paths (p ++ i ∷ []) d) (rule_counted root paths p i rule n ts) (node_counted g k around ks (second_three sound) (first_two h) at d e r.1 paths (p ++ i ∷ []))
    case_counted (alternative n g ts more) rule k around ks sound h (suc j) at d e r paths p i = case_counted more rule k around ks (last_three sound) (last_two h) j at d e r paths p i

-- Parts of best values are best values.

module _ (root : Grammar) (side : Side) where
  abbrev BestPart : Occurrence → Type 0
  BestPart o = (at : ℕ) × (e : ℕ) × IsBest root side o.0 at o.1 e

  some_part : (o o' : Occurrence) → Some o ≡ Some o' → BestPart o → BestPart o'
  some_part o o' e h = subst BestPart (is o o' e) h
    where
      is : (o o' : Occurrence) → Some o ≡ Some o' → o ≡ o'
      is o o' q = cc

  no_part : (o : Occurrence) → None ≡ Some o → BestPart o
  no_part o e = absurd (differ e)
    where
      differ : None ≡ Some o → ⊥
      differ q = cc

  if_part : (b : Bool) (x y : Option Occurrence) (o : Occurrence) → (if b then x else y) ≡ Some o → (x ≡ Some o → BestPart o) → (y ≡ Some o → BestPart o) → BestPart o
  if_part true x y o e f g = f e
  if_part false x y o e f g = g e

  run_part : (g : Grammar) (find : Data → Option Occurrence) (o : Occurrence) → ((at : ℕ) (d : Data) (e : ℕ) → IsBest root side g at d e → find d ≡ Some o → BestPart o) → (k : ℕ) (es : Elements) (at e m : ℕ) → RunBest (IsBest root side g) at es e → element_part find k es m ≡ Some o → BestPart o
  run_part g find o h k no_elements at e m r q = no_part o q
  run_part g find o h k (element d es) at e m r q = if_part (nat_eq m k) (find d) (element_part find (suc k) es m) o q (λ p. h at d r.0 r.1 p) (λ p. run_part g find o h (suc k) es r.0 e m r.2 p)

  mutual
    pub node_part : (g : Grammar) (at : ℕ) (d : Data) (e : ℕ) → IsBest root side g at d e → (path : List ℕ) (o : Occurrence) → part_at g d path ≡ Some o → BestPart o
    node_part (node a form) at d e r [] o q = some_part (node a form, d) o q (at, e, r)
    node_part (node a form) at d e r (m ∷ path) o q = form_parts form _ d e r m path o q

    form_parts : (form : Form) (at : ℕ) (d : Data) (e : ℕ) → FormBest root side form at d e → (m : ℕ) (path : List ℕ) (o : Occurrence) → form_part form d m path ≡ Some o → BestPart o
    form_parts (seq fs home) at (record_of ps) e r m path o q = fields_part fs _ ps e r 0 m path o q
    form_parts (list z g) at (list_of es) e r m path o q =
        let t = list_run (ending z.rule) z.rule (IsBest root side g) at es e r.1 in
        run_part g (λ d. part_at g d path) o (λ n d e' s p. node_part g n d e' s path o p) 0 es t.0 t.1 m t.2 q
    form_parts (choice cases rule) at (alt i d) e r m path o q = if_part (nat_eq m i) (alternative_part cases i d path) None o q (λ p. case_part cases rule i _ d e r path o p) (λ p. no_part o p)
    form_parts (contained z g) at d e r m path o q = if_part (nat_eq m 0) (part_at g d path) None o q (λ p. node_part g 0 d r.0 r.1 path o p) (λ p. no_part o p)
    form_parts (num l) at d e r m path o q = no_part o q
    form_parts (octets z) at d e r m path o q = no_part o q
    form_parts (bits z) at d e r m path o q = no_part o q
    form_parts (text l) at d e r m path o q = no_part o q
    form_parts (seq fs home) at _ e r m path o q = absurd r
    form_parts (list z g) at _ e r m path o q = absurd r
    form_parts (choice cases rule) at _ e r m path o q = absurd r

    fields_part : (fs : Fields) (at : ℕ) (ps : Places) (e : ℕ) → FieldsBest root side fs at ps e → (k m : ℕ) (path : List ℕ) (o : Occurrence) → field_part fs k ps m path ≡ Some o → BestPart o
    fields_part no_fields at ps e r k m path o q = no_part o q
    fields_part (component n g p def own fs) at no_places e r k m path o q = absurd r
    fields_part (component n g p def own fs) at (filled d ps) e r k m path o q =
        if_part (nat_eq m k) (part_at g d path) (field_part fs (suc k) ps m path) o q (λ t. node_part g at d r.1 r.2 path o t) (λ t. fields_part fs r.1 ps e r.3 (suc k) m path o t)
    fields_part (component n g p def own fs) at (empty ps) e r k m path o q =
        if_part (nat_eq m k) None (field_part fs (suc k) ps m path) o q (λ t. no_part o t) (λ t. fields_part fs at ps e r.1 (suc k) m path o t)
    fields_part (inserted n g slot fs) at ps e r k m path o q =
        if_part (nat_eq m k) None (field_part fs (suc k) ps m path) o q (λ t. no_part o t) (λ t. fields_part fs r.1 ps e r.3 (suc k) m path o t)

    case_part : (cases : Alternatives) (rule : ChoiceRule) (i at : ℕ) (d : Data) (e : ℕ) → CaseBest root side rule cases i at d e → (path : List ℕ) (o : Occurrence) → alternative_part cases i d path ≡ Some o → BestPart o
    case_part no_alternatives rule i at d e r path o q = absurd r
    case_part (alternative n g ts more) rule zero at d e r path o q = node_part g at d e r.1 path o q
    case_part (alternative n g ts more) rule (suc i) at d e r path o q = case_part more rule i at d e r path o q
