-- What a single grammar says of each of its nodes, by recursion.
use Rattle.std.proofs.Common.{◌≡◌, ◌≢◌, ℕ, zero, suc, ◌+◌, ◌≤◌, ◌<◌, ℤ, pos, negsuc, Bool, true, false, ◌&&◌, List, [], ◌∷◌, ◌++◌, length, map, Option, Some, None, refl, sym, ap, ◌∙◌, arith, inl, inr, ◌⊎◌, subst, IsTrue, nat_eq, nat_lt}
use Rattle.std.proofs.lemmas.Bool.{and_parts, or_left, or_right}
use Rattle.std.proofs.lemmas.Int.{ints}
use Rattle.std.proofs.Math.Nat.{div-add-mod, mod-lt}
use Rattle.std.specs.Prelude.{◌≤ℤ◌, ◌+ℤ◌, int_le, int_lt, if◌then◌else◌, slice_get, unwrap_or, option_map}
use Rattle.std.specs.List.{AllByRecursion}
use Rattle.std.specs.Ordering.{int_eq}
use Rattle.acn_num.specs.Bits.{octets as octets_for, number}
use Rattle.acn_num.specs.Ranges.{In, Ranges, has, are_ranges, all_within}
use Rattle.acn_grammar.specs.Check.{NodeAt, AsksFor}
use Rattle.acn_grammar.specs.Code.{in_octets}
use Rattle.acn_grammar.specs.Grammar.{Grammar, Form, Fields, Alternatives, Data, node, num, octets, bits, text, seq, list, choice, contained, no_fields, component, inserted, no_alternatives, alternative}
use Rattle.acn_grammar.specs.Interval.{span}
use Rattle.acn_grammar.specs.Leaves.{num_fine, set_fine, is_range, no_items, sizes_fine, rule_fine, text_fine}
use Rattle.acn_grammar.specs.Length.{bit_length, least}
use Rattle.acn_grammar.specs.Meets.{Meets}
use Rattle.acn_grammar.specs.Scoped.{Known, with_slot, with_own, after, choose_known}
use Rattle.acn_grammar.specs.Slots.{domain_of, slot_leaf, form_leaf, fields_leaf, alternatives_leaf, number_leaf, first_of_two, is_slot as if_slot}
use Rattle.acn_grammar.specs.Sound.{Sound, FormSound, FieldsSound, AlternativesSound}
use Rattle.acn_grammar.specs.Tree.{IsTree}
use Rattle.acn_grammar.specs.Walk.{Stand, Role, component_role, an_inserted, alternative_role, an_element, a_content, nodes, form_nodes, field_nodes, alternative_nodes, Use, condition, slot_of, form_uses}
use Rattle.acn_grammar.specs.declared.limits.TheConstants.{MOST_PACKET_BITS}
use Rattle.acn_grammar.specs.declared.node.ChoiceRule.{ChoiceRule}
use Rattle.acn_grammar.specs.declared.node.NumKind.{NumKind}
use Rattle.acn_grammar.specs.declared.node.NumKind.TheVariants.{Integer, Boolean, Enumerated, Null}
use Rattle.acn_grammar.specs.declared.node.NumLeaf.{NumLeaf}
use Rattle.acn_grammar.specs.declared.node.Presence.{Presence}
use Rattle.acn_grammar.specs.declared.node.Presence.TheVariants.{Always, Bit, When}
use Rattle.acn_grammar.specs.declared.node.Sizing.{Sizing}
use Rattle.acn_grammar.specs.declared.node.SizeRule.{SizeRule}
use Rattle.acn_grammar.specs.declared.node.SizeRule.TheVariants.{Prefix, Slot, Ended}
use Rattle.acn_grammar.specs.declared.node.Test.{Test}
use Rattle.acn_grammar.specs.declared.node.Test.TheVariants.{Flag, Equals}
use Rattle.acn_grammar.specs.declared.node.TextLeaf.{TextLeaf}
use Rattle.acn_num.specs.declared.limits.TheConstants.{MOST_SIZE}
use Rattle.acn_grammar.proofs.FineLeaves.{rules_of}
use Rattle.acn_grammar.proofs.HasImage.{ordered_ranges, Ordered, range_within}
use Rattle.acn_grammar.proofs.SpanLaw.{Fine, FormFine, FieldsFine, AlternativesFine}
use Rattle.acn_grammar.proofs.TextRules.{text_rules}
use Rattle.acn_grammar.proofs.TreeRules.{tree_fine}
use Rattle.acn_grammar.proofs.WholeTests.{either, le_fact, eq_fact, eq_self, lt_fact, ge_fact}
use Rattle.acn_grammar.proofs.Within.{between}
use Rattle.acn_packet_laws.specs.Laws.{IsAccepted, UsesFitTheirSlots, ValuesLieWithinBounds}
use Rattle.acn_extreme_laws.specs.Best.{other_than, other_than_octet, other_by}
use Rattle.acn_extreme_laws.specs.Reach.{natural}
use Rattle.acn_extreme_laws.specs.Single.{CountsPermitted, SlotPermits, OtherThanEnd, Single}
use Rattle.acn_extreme_laws.specs.declared.why.Why.TheVariants.{CountNotPermitted, TerminatorAlone, OfAComponent}
use Rattle.acn_extreme_laws.proofs.Codes.{in_range}
use Rattle.acn_extreme_laws.proofs.Sizes.{natural_back, lies_within}
use Rattle.acn_extreme_laws.proofs.SpanOrder.{span_order}
use Rattle.acn_extreme_laws.proofs.Tuples.{first_two, first_four, second_three, third_four, fourth_five, last_two, last_three, last_four, last_five}

-- The leaf of a slot keeps its rules.

fine_number : (g : Grammar) → Fine g → (leaf : NumLeaf) → number_leaf g ≡ Some leaf → IsTrue (num_fine leaf)
fine_number (node a (num l)) f leaf e = (let same : l ≡ leaf = cc in subst (λ (z : NumLeaf). IsTrue (num_fine z)) same f.1)
fine_number (node a (octets z)) f leaf e = cc
fine_number (node a (bits z)) f leaf e = cc
fine_number (node a (text l)) f leaf e = cc
fine_number (node a (seq fs home)) f leaf e = cc
fine_number (node a (list z g)) f leaf e = cc
fine_number (node a (choice cases rule)) f leaf e = cc
fine_number (node a (contained z g)) f leaf e = cc

of_two : {F : Type 0} (a b : Option NumLeaf) (leaf : NumLeaf) → first_of_two a b ≡ Some leaf → (a ≡ Some leaf → F) → (b ≡ Some leaf → F) → F
of_two None b leaf e f g = g e
of_two (Some x) b leaf e f g = f e

of_slot : {F : Type 0} (own : Option ℕ) (s : ℕ) (a b : Option NumLeaf) (leaf : NumLeaf) → if_slot own s a b ≡ Some leaf → (a ≡ Some leaf → F) → (b ≡ Some leaf → F) → F
of_slot None s a b leaf e f g = g e
of_slot {F} (Some t) s a b leaf e f g = by (nat_eq t s) e
  where
    by : (c : Bool) → (if c then a else b) ≡ Some leaf → F
    by true q = f q
    by false q = g q

mutual
  fine_leaf : (g : Grammar) → Fine g → (s : ℕ) (leaf : NumLeaf) → slot_leaf g s ≡ Some leaf → IsTrue (num_fine leaf)
  fine_leaf (node a form) f s leaf e = form_fine_leaf form (last_two f) s leaf e

  form_fine_leaf : (form : Form) → FormFine form → (s : ℕ) (leaf : NumLeaf) → form_leaf form s ≡ Some leaf → IsTrue (num_fine leaf)
  form_fine_leaf (num l) f s leaf e = cc
  form_fine_leaf (octets z) f s leaf e = cc
  form_fine_leaf (bits z) f s leaf e = cc
  form_fine_leaf (text l) f s leaf e = cc
  form_fine_leaf (seq fs home) f s leaf e = fields_fine_leaf fs f s leaf e
  form_fine_leaf (list z g) f s leaf e = fine_leaf g (last_two f) s leaf e
  form_fine_leaf (choice cases rule) f s leaf e = cases_fine_leaf cases f s leaf e
  form_fine_leaf (contained z g) f s leaf e = fine_leaf g (last_two f) s leaf e

  fields_fine_leaf : (fs : Fields) → FieldsFine fs → (s : ℕ) (leaf : NumLeaf) → fields_leaf fs s ≡ Some leaf → IsTrue (num_fine leaf)
  fields_fine_leaf no_fields f s leaf e = cc
  fields_fine_leaf (component n g p def own fs) f s leaf e =
      of_slot {F = IsTrue (num_fine leaf)} own s (number_leaf g) (first_of_two (slot_leaf g s) (fields_leaf fs s)) leaf e (fine_number g f.0 leaf)
      (λ q. of_two {F = IsTrue (num_fine leaf)} (slot_leaf g s) (fields_leaf fs s) leaf q (fine_leaf g f.0 s leaf) (fields_fine_leaf fs f.1 s leaf))
  fields_fine_leaf (inserted n g slot fs) f s leaf e =
      of_slot {F = IsTrue (num_fine leaf)} slot s (number_leaf g) (first_of_two (slot_leaf g s) (fields_leaf fs s)) leaf e (fine_number g f.0 leaf)
      (λ q. of_two {F = IsTrue (num_fine leaf)} (slot_leaf g s) (fields_leaf fs s) leaf q (fine_leaf g f.0 s leaf) (fields_fine_leaf fs f.1 s leaf))

  cases_fine_leaf : (cases : Alternatives) → AlternativesFine cases → (s : ℕ) (leaf : NumLeaf) → alternatives_leaf cases s ≡ Some leaf → IsTrue (num_fine leaf)
  cases_fine_leaf no_alternatives f s leaf e = cc
  cases_fine_leaf (alternative n g ts more) f s leaf e = of_two {F = IsTrue (num_fine leaf)} (slot_leaf g s) (alternatives_leaf more s) leaf e (fine_leaf g f.0 s leaf) (cases_fine_leaf more f.1 s leaf)

pub slot_leaf_fine : (root : Grammar) → IsTree root → (s : ℕ) (leaf : NumLeaf) → slot_leaf root s ≡ Some leaf → IsTrue (num_fine leaf)
slot_leaf_fine root tree s leaf e = fine_leaf root (tree_fine root tree) s leaf e

-- What is ready.

abbrev pub Bits : Grammar → ℕ → Type 0
Bits root s = (x : ℤ) → In (domain_of root s) x → (x ≡ pos 0) ⊎ (x ≡ pos 1)

abbrev pub FlagFits : Grammar → Test → Type 0
FlagFits root (Flag s) = Bits root s
FlagFits root (Equals s k) = Unit {0}

abbrev pub PresenceReady : Grammar → Presence → Type 0
PresenceReady root (When ts) = AllByRecursion (FlagFits root) ts
PresenceReady root Always = Unit {0}
PresenceReady root Bit = Unit {0}

-- the terminator doesn't begin with the character
abbrev pub Differs : List Bool → ℕ → Type 0
Differs end c = (octet : List Bool) → slice_get (in_octets end) 0 ≡ Some octet → c ≢ number octet

abbrev pub TextReady : Option (List Bool) → TextLeaf → Type 0
TextReady None leaf = Unit {0}
TextReady (Some end) leaf = In leaf.alphabet (pos (other_by end leaf.alphabet)) × Differs end (other_by end leaf.alphabet)

-- the count of octets of a content is permitted, and one that the slot says
abbrev pub ContentReady : Grammar → Sizing → Grammar → Type 0
ContentReady root sizing g = (d : Data) → Meets g d → (has sizing.sizes (pos (octets_for (bit_length g 0 d))) ≡ true) × SlotPermits root sizing.rule (octets_for (bit_length g 0 d))

module _ (root : Grammar) where
  abbrev mutual
    pub Ready : Grammar → Type 0
    Ready (node align form) = FormReady form

    pub FormReady : Form → Type 0
    FormReady (num leaf) = Unit {0}
    FormReady (octets sizing) = Unit {0}
    FormReady (bits sizing) = Unit {0}
    FormReady (text leaf) = TextReady leaf.ended leaf
    FormReady (seq fields home) = FieldsReady fields
    FormReady (list sizing g) = Ready g
    FormReady (choice cases rule) = CasesReady cases
    FormReady (contained sizing g) = ContentReady root sizing g × Ready g

    pub FieldsReady : Fields → Type 0
    FieldsReady no_fields = Unit {0}
    FieldsReady (component name g presence default own fs) = (own ≡ None) × PresenceReady root presence × Ready g × FieldsReady fs
    FieldsReady (inserted name g slot fs) = Ready g × FieldsReady fs

    pub CasesReady : Alternatives → Type 0
    CasesReady no_alternatives = Unit {0}
    CasesReady (alternative name g tests more) = Ready g × CasesReady more

-- Characters.

-- where another number is there, one is found
pub other_found : (k : ℤ) (rs : Ranges) (high : ℤ) (c : ℤ) → Ordered rs → all_within (pos 0) high rs ≡ true → has rs c ≡ true → (c ≡ k → ⊥) → (has rs (pos (other_than k rs)) ≡ true) × (pos (other_than k rs) ≡ k → ⊥)
other_found k [] high c o w h n = cc
other_found k (r ∷ rs) high c o w h n = by (int_eq r.0 k) refl (int_lt r.0 r.1) refl (λ q. other_found k rs high c o.1 (and_parts (int_le r.1 high) (all_within (pos 0) high rs) f.1).1 q n)
  where
    f : (int_le (pos 0) r.0 ≡ true) × ((int_le r.1 high && all_within (pos 0) high rs) ≡ true)
    f = and_parts (int_le (pos 0) r.0) (int_le r.1 high && all_within (pos 0) high rs) w

    zero' : pos 0 ≤ℤ r.0
    zero' = le_fact (pos 0) r.0 f.0

    next : (x : ℤ) → pos 0 ≤ℤ x → pos (natural (x +ℤ pos 1)) ≡ x +ℤ pos 1
    next (pos n) h = refl
    next (negsuc n) h = absurd (omega (arith, ints))

    apart : (x y : ℤ) → int_eq x y ≡ false → x ≡ y → ⊥
    apart x y e q = absurd (clash (int_eq x x) (eq_self x) (ap (int_eq x) q ∙ e))
      where
        clash : (b : Bool) → b ≡ true → b ≡ false → ⊥
        clash true p q' = cc
        clash false p q' = cc

    by : (s : Bool) → int_eq r.0 k ≡ s → (t : Bool) → int_lt r.0 r.1 ≡ t → (has rs c ≡ true → (has rs (pos (other_than k rs)) ≡ true) × (pos (other_than k rs) ≡ k → ⊥))
        → (has (r ∷ rs) (pos (if s then (if t then natural (r.0 +ℤ pos 1) else other_than k rs) else natural r.0)) ≡ true) × (pos (if s then (if t then natural (r.0 +ℤ pos 1) else other_than k rs) else natural r.0) ≡ k → ⊥)
    by false e t l rest =
        (subst (λ z. has (r ∷ rs) z ≡ true) (sym (natural_back r.0 zero')) (or_left (int_le r.0 r.0 && int_le r.0 r.1) (has rs r.0) (in_range r.0 r.1 r.0 (self r.0) o.0)), λ q. apart r.0 k e (sym (natural_back r.0 zero') ∙ q))
      where
        self : (x : ℤ) → x ≤ℤ x
        self x = omega (arith, ints)
    by true e true l rest =
        let is = eq_fact r.0 k e in
        let less = lt_fact r.0 r.1 l in (
          subst (λ z. has (r ∷ rs) z ≡ true) (sym (next r.0 zero')) (or_left (int_le r.0 (r.0 +ℤ pos 1) && int_le (r.0 +ℤ pos 1) r.1) (has rs (r.0 +ℤ pos 1)) (in_range r.0 r.1 (r.0 +ℤ pos 1) (omega (arith, ints)) (omega (arith, ints)))),
          λ q. let two = sym (next r.0 zero') ∙ q in absurd (omega (arith, ints)),
        )
    by true e false l rest =
        let is = eq_fact r.0 k e in
        let no_less = ge_fact r.0 r.1 l in
        either {F = (has (r ∷ rs) (pos (other_than k rs)) ≡ true) × (pos (other_than k rs) ≡ k → ⊥)} (int_le r.0 c && int_le c r.1) (has rs c) h
        (λ q. let w' = between r.0 r.1 c q in let a = w'.0 in let b = w'.1 in absurd (n (omega (arith, ints))))
        (λ q. let z = rest q in (or_right (int_le r.0 (pos (other_than k rs)) && int_le (pos (other_than k rs)) r.1) (has rs (pos (other_than k rs))) z.0, z.1))

pub true_or_false : {F : Type 0} (b : Bool) → (b ≡ true → F) → (b ≡ false → F) → F
true_or_false true f g = f refl
true_or_false false f g = g refl

pub never_both : (b : Bool) → b ≡ true → b ≡ false → ⊥
never_both true h k = cc
never_both false h k = cc

-- what isn't false of a test is true
not_not : (b : Bool) → ((b ≡ true → ⊥) → ⊥) → b ≡ true
not_not true h = refl
not_not false h = absurd (h (λ q. never_both false q refl))

least_there : (rs : Ranges) → 0 < length rs → Ordered rs → has rs (least rs) ≡ true
least_there [] l o = absurd (omega arith)
least_there (r ∷ rs) l o = or_left (int_le r.0 r.0 && int_le r.0 r.1) (has rs r.0) (in_range r.0 r.1 r.0 (self r.0) o.0)
  where
    self : (x : ℤ) → x ≤ℤ x
    self x = omega (arith, ints)

pub least_character : (leaf : TextLeaf) → text_fine leaf ≡ true → In leaf.alphabet (pos (natural (least leaf.alphabet)))
least_character leaf fine =
    let r = text_rules leaf fine in
    let there = least_there leaf.alphabet r.some (ordered_ranges leaf.alphabet r.ranges) in
    subst (λ z. has leaf.alphabet z ≡ true) (sym (natural_back (least leaf.alphabet) (lies_within (pos 0) (pos 127) leaf.alphabet (least leaf.alphabet) r.small there).0)) there

text_ready : (o : Option (List Bool)) (leaf : TextLeaf) → text_fine leaf ≡ true → ((OtherThanEnd o leaf → ⊥) → ⊥) → TextReady o leaf
text_ready None leaf fine h = tt
text_ready (Some end) leaf fine h = by (slice_get (in_octets end) 0) refl
  where
    rs : Ranges
    rs = leaf.alphabet

    some_is : (x y : List Bool) → Some x ≡ Some y → x ≡ y
    some_is x y e = cc

    pos_is : (x y : ℕ) → pos x ≡ pos y → x ≡ y
    pos_is x y e = cc

    by : (o : Option (List Bool)) → slice_get (in_octets end) 0 ≡ o → In leaf.alphabet (pos (other_than_octet (slice_get (in_octets end) 0) leaf.alphabet)) × Differs end (other_than_octet (slice_get (in_octets end) 0) leaf.alphabet)
    by None e = rw e (least_character leaf fine, λ octet q. absurd (none octet q))
      where
        none : (octet : List Bool) → None ≡ Some octet → ⊥
        none octet q = cc
    by (Some octet) e = rw e (in_it, λ other q same. differ (same ∙ ap number (sym (some_is octet other q))))
      where
        c : ℕ
        c = other_than (pos (number octet)) leaf.alphabet

        found : OtherThanEnd (Some end) leaf → (has leaf.alphabet (pos c) ≡ true) × (pos c ≡ pos (number octet) → ⊥)
        found t = other_found (pos (number octet)) leaf.alphabet (pos 127) (pos t.0) (ordered_ranges leaf.alphabet (text_rules leaf fine).ranges) (text_rules leaf fine).small t.1 (λ q. t.2 octet e (pos_is t.0 (number octet) q))

        in_it : has leaf.alphabet (pos c) ≡ true
        in_it = not_not (has leaf.alphabet (pos c)) (λ n. h (λ t. n (found t).0))

        differ : c ≡ number octet → ⊥
        differ same = h (λ t. (found t).1 (ap (λ n. pos n) same))

octets_grow : (a b : ℕ) → a ≤ b → octets_for a ≤ octets_for b
octets_grow a b h =
    let one = div-add-mod (a + 7) 8 in
    let two = div-add-mod (b + 7) 8 in
    let low = mod-lt (a + 7) {m = 8} (omega arith) in
    let high = mod-lt (b + 7) {m = 8} (omega arith) in
    omega arith

slot_permits : (root : Grammar) (rule : SizeRule) (n : ℕ) → ((SlotPermits root rule n → ⊥) → ⊥) → SlotPermits root rule n
slot_permits root (Slot s) n h = not_not (has (domain_of root s) (pos n)) h
slot_permits root (Prefix low width) n h = tt
slot_permits root (Ended p) n h = tt

-- the numbers of a flag's slot
bits_of_flag : (leaf : NumLeaf) → IsTrue (num_fine leaf) → (s : ℕ) → AsksFor (condition (Flag s)) leaf.kind → (x : ℤ) → In leaf.set x → (x ≡ pos 0) ⊎ (x ≡ pos 1)
bits_of_flag leaf fine s asks x h = by leaf.kind asks (rules_of leaf fine).set
  where
    bit : (x : ℤ) → pos 0 ≤ℤ x → x ≤ℤ pos 1 → (x ≡ pos 0) ⊎ (x ≡ pos 1)
    bit (pos zero) p q = inl refl
    bit (pos (suc zero)) p q = inr refl
    bit (pos (suc (suc n))) p q = absurd (omega (arith, ints))
    bit (negsuc n) p q = absurd (omega (arith, ints))

    by : (kind : NumKind) → AsksFor (condition (Flag s)) kind → set_fine kind leaf.coding leaf.items leaf.table leaf.set ≡ true → (x ≡ pos 0) ⊎ (x ≡ pos 1)
    by Boolean a f = (let w = range_within (pos 0) (pos 1) leaf.set x (and_parts (is_range (pos 0) (pos 1) leaf.set) (no_items leaf.items) f).0 h in bit x w.0 w.1)
    by Integer a f = absurd a
    by Enumerated a f = absurd a
    by Null a f = absurd a

all_parts : {A : Type 0} (P : A → Type 0) (xs ys : List A) → AllByRecursion P (xs ++ ys) → AllByRecursion P xs × AllByRecursion P ys
all_parts P [] ys h = (tt, h)
all_parts P (x ∷ xs) ys h = (let r = all_parts P xs ys h.1 in ((h.0, r.0), r.1))

tests_from : (P : Use → Type 0) (ts : List Test) (rest : List Use) → ((u : ℕ) (use' : Use) → slice_get (map condition ts ++ rest) u ≡ Some use' → P use') → AllByRecursion (λ t. P (condition t)) ts
tests_from P [] rest f = tt
tests_from P (t ∷ ts) rest f = (f 0 (condition t) refl, tests_from P ts rest (λ u use' e. f (suc u) use' e))

module _ (root : Grammar) (accepted : IsAccepted root) (single : Single root) (fit : UsesFitTheirSlots) (values : ValuesLieWithinBounds) where
  abbrev pub Numbered : Stand → Type 0
  Numbered at = (k : ℕ) × NodeAt root k at

  abbrev UseFits : Use → Type 0
  UseFits use' = (leaf : NumLeaf) → slot_leaf root (slot_of use') ≡ Some leaf → AsksFor use' leaf.kind

  flag_fits : (t : Test) → UseFits (condition t) → FlagFits root t
  flag_fits (Equals s k) f = tt
  flag_fits (Flag s) f = λ x h. by x (slot_leaf root s) refl h
    where
      by : (x : ℤ) (o : Option NumLeaf) → slot_leaf root s ≡ o → In (unwrap_or (option_map (λ leaf. leaf.set) o) []) x → (x ≡ pos 0) ⊎ (x ≡ pos 1)
      by x None e h = cc
      by x (Some leaf) e h = bits_of_flag leaf (slot_leaf_fine root accepted.formed s leaf e) s (f leaf e) x h

  flags_fit : (ts : List Test) → AllByRecursion (λ t. UseFits (condition t)) ts → AllByRecursion (FlagFits root) ts
  flags_fit [] h = tt
  flags_fit (t ∷ ts) h = (flag_fits t h.0, flags_fit ts h.1)

  presence_ready : (n : List ℕ) (p : Presence) (def : Option (List ℕ)) (own : Option ℕ) (path around : List ℕ) (g : Grammar) → AllByRecursion Numbered (nodes (component_role n p def own) path around g) → PresenceReady root p
  presence_ready n Always def own path around g h = tt
  presence_ready n Bit def own path around g h = tt
  presence_ready n (When ts) def own path around (node a f) h =
      let here : Stand = record { path = path; around = around; role = component_role n (When ts) def own; align = a; form = f } in
      flags_fit ts (tests_from UseFits ts (form_uses f) (λ u use' e leaf l. fit root (h.0).0 here u use' leaf accepted (h.0).1 e l))

  none_own : (n : List ℕ) (p : Presence) (def : Option (List ℕ)) (own : Option ℕ) (path around : List ℕ) (g : Grammar) → AllByRecursion Numbered (nodes (component_role n p def own) path around g) → own ≡ None
  none_own n p def None path around g h = refl
  none_own n p def (Some s) path around (node a f) h = absurd (single OfAComponent (h.0).0 _ (h.0).1 (s, refl))

  content_ready : (sizing : Sizing) (g : Grammar) (k : ℕ) (around : List ℕ) (ks : Known) → Sound root k around ks g → sizes_fine sizing.sizes ≡ true → ((CountsPermitted root (contained sizing g) → ⊥) → ⊥) → (at : Stand) → Numbered at → node at.align at.form ≡ g → ContentReady root sizing g
  content_ready sizing g k around ks sound fine h at stands is d meets = (permitted n low' high', slot_permits root sizing.rule n (λ no. h (λ c. no (c n low' high').1)))
    where
      n : ℕ
      n = octets_for (bit_length g 0 d)

      permitted : (m : ℕ) → octets_for (span g).least ≤ m → m ≤ octets_for (span g).greatest → has sizing.sizes (pos m) ≡ true
      permitted m a b = not_not (has sizing.sizes (pos m)) (λ no. h (λ c. no (c m a b).0))

      small : (span g).greatest ≤ MOST_PACKET_BITS
      small =
          let p = permitted (octets_for (span g).greatest) (octets_grow (span g).least (span g).greatest (span_order root g k around ks sound)) (same (octets_for (span g).greatest)) in
          let whole = (and_parts (are_ranges sizing.sizes) (all_within (pos 0) (pos MOST_SIZE) sizing.sizes) (and_parts (nat_lt 0 (length sizing.sizes)) (are_ranges sizing.sizes && all_within (pos 0) (pos MOST_SIZE) sizing.sizes) fine).1).1 in
          let most = below (octets_for (span g).greatest) (lies_within (pos 0) (pos MOST_SIZE) sizing.sizes (pos (octets_for (span g).greatest)) whole p).1 in
          let e = div-add-mod ((span g).greatest + 7) 8 in
          let m = mod-lt ((span g).greatest + 7) {m = 8} (omega arith) in
          omega arith
        where
          same : (m : ℕ) → m ≤ m
          same m = omega arith

          below : (m : ℕ) → pos m ≤ℤ pos MOST_SIZE → m ≤ MOST_SIZE
          below m l = omega (arith, ints)

      between' : ((span g).least ≤ bit_length g 0 d) × (bit_length g 0 d ≤ (span g).greatest)
      between' = subst (λ (z : Grammar). ((span z).greatest ≤ MOST_PACKET_BITS) → Meets z d → ((span z).least ≤ bit_length z 0 d) × (bit_length z 0 d ≤ (span z).greatest)) is (λ s m. values root stands.0 at d 0 accepted stands.1 s m) small meets

      low' : octets_for (span g).least ≤ n
      low' = octets_grow (span g).least (bit_length g 0 d) between'.0

      high' : n ≤ octets_for (span g).greatest
      high' = octets_grow (bit_length g 0 d) (span g).greatest between'.1

  first_content : (role : Role) (path around : List ℕ) (g : Grammar) → AllByRecursion Numbered (nodes role path around g) → (at : Stand) × Numbered at × (node at.align at.form ≡ g)
  first_content role path around (node a f) h = (record { path = path; around = around; role = role; align = a; form = f }, h.0, refl)

  mutual
    pub node_ready : (g : Grammar) (k : ℕ) (home : List ℕ) (ks : Known) → Sound root k home ks g → (role : Role) (path around : List ℕ) → AllByRecursion Numbered (nodes role path around g) → Ready root g
    node_ready (node a form) k home ks sound role path around h = form_ready form a k home ks (last_three sound) role path around h.0 h.1

    form_ready : (form : Form) (a k : ℕ) (home : List ℕ) (ks : Known) → FormSound root k home ks form → (role : Role) (path around : List ℕ) → Numbered (record { path = path; around = around; role = role; align = a; form = form }) → AllByRecursion Numbered (form_nodes path around form) → FormReady root form
    form_ready (num l) a k home ks sound role path around here h = tt
    form_ready (octets z) a k home ks sound role path around here h = tt
    form_ready (bits z) a k home ks sound role path around here h = tt
    form_ready (text l) a k home ks sound role path around here h = text_ready l.ended l (first_two sound) (λ no. single TerminatorAlone here.0 _ here.1 no)
    form_ready (seq fs slots) a k home ks sound role path around here h = fields_ready fs (suc k) (slots ++ home) ks (last_two sound) path (slots ++ around) 0 h
    form_ready (list z g) a k home ks sound role path around here h = node_ready g (suc k) home ks (last_five sound) an_element (path ++ 0 ∷ []) around h
    form_ready (choice cases rule) a k home ks sound role path around here h = cases_ready cases (suc k) home ks (last_four sound) rule path around 0 h
    form_ready (contained z g) a k home ks sound role path around here h =
        let c = first_content a_content (path ++ 0 ∷ []) around g h in (
          content_ready z g (suc k) home ks (last_four sound) (and_parts (sizes_fine z.sizes) (rule_fine z.sizes z.rule) (first_four sound)).0 (λ no. single CountNotPermitted here.0 _ here.1 no) c.0 c.1 c.2,
          node_ready g (suc k) home ks (last_four sound) a_content (path ++ 0 ∷ []) around h,
        )

    fields_ready : (fs : Fields) (k : ℕ) (home : List ℕ) (ks : Known) → FieldsSound root k home ks fs → (path around : List ℕ) (i : ℕ) → AllByRecursion Numbered (field_nodes path around i fs) → FieldsReady root fs
    fields_ready no_fields k home ks sound path around i h = tt
    fields_ready (component n g p def own fs) k home ks sound path around i h =
        let t = all_parts Numbered (nodes (component_role n p def own) (path ++ i ∷ []) around g) (field_nodes path around (suc i) fs) h in (
          none_own n p def own (path ++ i ∷ []) around g t.0,
          presence_ready n p def own (path ++ i ∷ []) around g t.0,
          node_ready g k home ks (fourth_five sound) (component_role n p def own) (path ++ i ∷ []) around t.0,
          fields_ready fs k home (choose_known p ks (with_own own (after ks g))) (last_five sound) path around (suc i) t.1,
        )
    fields_ready (inserted n g (Some s) fs) k home ks sound path around i h =
        let t = all_parts Numbered (nodes (an_inserted n (Some s)) (path ++ i ∷ []) around g) (field_nodes path around (suc i) fs) h in
        (node_ready g k home ks (third_four sound) (an_inserted n (Some s)) (path ++ i ∷ []) around t.0, fields_ready fs k home (with_slot s ks) (last_four sound) path around (suc i) t.1)
    fields_ready (inserted n g None fs) k home ks sound path around i h =
        let t = all_parts Numbered (nodes (an_inserted n None) (path ++ i ∷ []) around g) (field_nodes path around (suc i) fs) h in
        (node_ready g k home ks (second_three sound) (an_inserted n None) (path ++ i ∷ []) around t.0, fields_ready fs k home ks (last_three sound) path around (suc i) t.1)

    cases_ready : (cases : Alternatives) (k : ℕ) (home : List ℕ) (ks : Known) → AlternativesSound root k home ks cases → (rule : ChoiceRule) (path around : List ℕ) (i : ℕ) → AllByRecursion Numbered (alternative_nodes rule path around i cases) → CasesReady root cases
    cases_ready no_alternatives k home ks sound rule path around i h = tt
    cases_ready (alternative n g ts more) k home ks sound rule path around i h =
        let t = all_parts Numbered (nodes (alternative_role n ts rule) (path ++ i ∷ []) around g) (alternative_nodes rule path around (suc i) more) h in
        (node_ready g k home ks (second_three sound) (alternative_role n ts rule) (path ++ i ∷ []) around t.0, cases_ready more k home ks (last_three sound) rule path around (suc i) t.1)
