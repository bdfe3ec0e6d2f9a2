-- What a tree without a fault says of each use of a slot: the slot is at home round the use, a flag's slot has the numbers 0 and 1, and a component has one condition.
use Rattle.std.proofs.lemmas.Bool.{or_parts, and_parts, not-true}
use Rattle.std.proofs.Common.{◌≡◌, ℕ, zero, suc, ℤ, pos, negsuc, Bool, true, false, List, [], ◌∷◌, ◌++◌, length, map, Option, Some, None, refl, arith, inl, inr, ◌⊎◌, ◌&&◌, ◌-◌, not, nat_eq, nat_lt, subst}
use Rattle.std.specs.Prelude.{slice_get, if◌then◌else◌, ◌≤ℤ◌, unwrap_or, option_map}
use Rattle.std.specs.List.{AllByRecursion, list_all, list_any}
use Rattle.std.proofs.lemmas.Int.{ints}
use Rattle.std.proofs.lemmas.Bool.Decides.{nat_tests}
use Rattle.acn_num.specs.Bits.{is_least_width}
use Rattle.acn_num.specs.Ranges.{In, are_ranges, all_within}
use Rattle.acn_grammar.specs.Asks.{same_name}
use Rattle.acn_grammar.specs.Check.{AsksFor}
use Rattle.acn_grammar.specs.Grammar.{Grammar, Form, Fields, Alternatives, node, num, octets, bits, text, seq, list, choice, contained, no_fields, component, inserted, no_alternatives, alternative}
use Rattle.acn_grammar.specs.Leaves.{num_fine, is_range, no_items, all_differ, no_size, sizes_fine, text_fine, end_fine, is_terminator}
use Rattle.acn_grammar.specs.Scoped.{Known, after, choose_known, with_own, with_slot}
use Rattle.acn_grammar.specs.Slots.{slot_leaf, form_leaf, fields_leaf, alternatives_leaf, number_leaf, first_of_two, domain_of, is_slot as if_slot}
use Rattle.acn_grammar.specs.Sound.{Sound, FormSound, FieldsSound, AlternativesSound, PresenceSound, OwnSound, SaysSlot}
use Rattle.acn_grammar.specs.Tree.{IsTree, holds, all_true, stand_rules, has_tests, choice_fine, choice_rule_fine}
use Rattle.acn_grammar.specs.Walk.{Stand, Role, component_role, an_inserted, alternative_role, an_element, a_content, root_node, nodes, nodes_of, form_nodes, field_nodes, alternative_nodes, Use, condition, item_of, size_of, slot_of, uses, form_uses, own_tests, rule_uses, choice_uses, presence_tests, conditions_of}
use Rattle.acn_grammar.specs.declared.node.ChoiceRule.{ChoiceRule}
use Rattle.acn_grammar.specs.declared.node.ChoiceRule.TheVariants.{Index, Tests, Item}
use Rattle.acn_grammar.specs.declared.node.NumKind.{NumKind}
use Rattle.acn_grammar.specs.declared.node.NumKind.TheVariants.{Integer, Boolean, Enumerated, Null}
use Rattle.acn_grammar.specs.declared.node.NumLeaf.{NumLeaf}
use Rattle.acn_grammar.specs.declared.node.Presence.{Presence}
use Rattle.acn_grammar.specs.declared.node.Presence.TheVariants.{Always, Bit, When}
use Rattle.acn_grammar.specs.declared.node.SizeRule.{SizeRule}
use Rattle.acn_grammar.specs.declared.node.SizeRule.TheVariants.{Prefix, Slot, Ended}
use Rattle.acn_grammar.specs.declared.node.Test.{Test}
use Rattle.acn_grammar.specs.declared.node.Test.TheVariants.{Flag, Equals}
use Rattle.acn_grammar.specs.declared.node.TextLeaf.{TextLeaf}
use Rattle.acn_grammar.proofs.FineLeaves.{rules_of}
use Rattle.acn_grammar.proofs.SpanLaw.{Fine, FormFine, FieldsFine, AlternativesFine}
use Rattle.acn_grammar.proofs.TreeRules.{tree_fine, stand_fine}
use Rattle.acn_packet_laws.specs.Laws.{IsAccepted}
use Rattle.acn_packet_laws.proofs.Placed.{tree_rules}
use Rattle.acn_packet_laws.proofs.SoundLaws.{accepted_sound_nodes}
use Rattle.acn_packet_laws.proofs.UseKinds.{uses_fit}
use Rattle.acn_packet_laws.proofs.Tuples.{first_five, first_four, first_two, fourth_five, last_five, last_four, last_three, last_two, second_five, second_three}
use Rattle.acn_grammar.proofs.HasImage.{range_within}

-- Lists.

pub each_of : {A : Type 0} (P : A → Type 0) (xs : List A) → ((k : ℕ) (x : A) → slice_get xs k ≡ Some x → P x) → AllByRecursion P xs
each_of P [] h = tt
each_of P (x ∷ xs) h = (h zero x refl, each_of P xs (λ k y e. h (suc k) y e))

pub each_left : {A : Type 0} (P : A → Type 0) (a b : List A) → AllByRecursion P (a ++ b) → AllByRecursion P a
each_left P [] b h = tt
each_left P (x ∷ a) b h = (h.0, each_left P a b h.1)

pub each_right : {A : Type 0} (P : A → Type 0) (a b : List A) → AllByRecursion P (a ++ b) → AllByRecursion P b
each_right P [] b h = h
each_right P (x ∷ a) b h = each_right P a b h.1

pub each_both : {A : Type 0} (P : A → Type 0) (a b : List A) → AllByRecursion P a → AllByRecursion P b → AllByRecursion P (a ++ b)
each_both P [] b h k = k
each_both P (x ∷ a) b h k = (h.0, each_both P a b h.1 k)

-- The leaf of a slot keeps its rules.

fine_number : (g : Grammar) → Fine g → (leaf : NumLeaf) → number_leaf g ≡ Some leaf → num_fine leaf ≡ true
fine_number (node align (num leaf)) f other e = let same : leaf ≡ other = cc in rw (← same) f.1
fine_number (node align (octets sizing)) f other e = cc
fine_number (node align (bits sizing)) f other e = cc
fine_number (node align (text leaf)) f other e = cc
fine_number (node align (seq _ home)) f other e = cc
fine_number (node align (list sizing g)) f other e = cc
fine_number (node align (choice cases rule)) f other e = cc
fine_number (node align (contained sizing g)) f other e = cc

from_two : {F : Type 0} (a b : Option NumLeaf) (leaf : NumLeaf) → first_of_two a b ≡ Some leaf → (a ≡ Some leaf → F) → (b ≡ Some leaf → F) → F
from_two None b leaf e f g = g e
from_two (Some x) b leaf e f g = f e

from_slot : {F : Type 0} (own : Option ℕ) (s : ℕ) (a b : Option NumLeaf) (leaf : NumLeaf) → if_slot own s a b ≡ Some leaf → (a ≡ Some leaf → F) → (b ≡ Some leaf → F) → F
from_slot None s a b leaf e f g = g e
from_slot {F} (Some t) s a b leaf e f g = by (nat_eq t s) e
  where
    by : (c : Bool) → (if c then a else b) ≡ Some leaf → F
    by true e = f e
    by false e = g e

mutual
  fine_leaf : (g : Grammar) → Fine g → (s : ℕ) (leaf : NumLeaf) → slot_leaf g s ≡ Some leaf → num_fine leaf ≡ true
  fine_leaf (node align form) f s other e = fine_form_leaf form (last_two f) s other e

  fine_form_leaf : (form : Form) → FormFine form → (s : ℕ) (leaf : NumLeaf) → form_leaf form s ≡ Some leaf → num_fine leaf ≡ true
  fine_form_leaf (num leaf) f s other e = cc
  fine_form_leaf (octets sizing) f s other e = cc
  fine_form_leaf (bits sizing) f s other e = cc
  fine_form_leaf (text leaf) f s other e = cc
  fine_form_leaf (seq fields home) f s other e = fine_fields_leaf fields f s other e
  fine_form_leaf (list sizing g) f s other e = fine_leaf g (last_two f) s other e
  fine_form_leaf (choice cases rule) f s other e = fine_cases_leaf cases f s other e
  fine_form_leaf (contained sizing g) f s other e = fine_leaf g (last_two f) s other e

  fine_fields_leaf : (fs : Fields) → FieldsFine fs → (s : ℕ) (leaf : NumLeaf) → fields_leaf fs s ≡ Some leaf → num_fine leaf ≡ true
  fine_fields_leaf no_fields f s other e = cc
  fine_fields_leaf (component name g presence default own fs) f s other e =
      from_slot {F = num_fine other ≡ true} own s (number_leaf g) (first_of_two (slot_leaf g s) (fields_leaf fs s)) other e (fine_number g f.0 other)
      (λ q. from_two {F = num_fine other ≡ true} (slot_leaf g s) (fields_leaf fs s) other q (fine_leaf g f.0 s other) (fine_fields_leaf fs f.1 s other))
  fine_fields_leaf (inserted name g slot fs) f s other e =
      from_slot {F = num_fine other ≡ true} slot s (number_leaf g) (first_of_two (slot_leaf g s) (fields_leaf fs s)) other e (fine_number g f.0 other)
      (λ q. from_two {F = num_fine other ≡ true} (slot_leaf g s) (fields_leaf fs s) other q (fine_leaf g f.0 s other) (fine_fields_leaf fs f.1 s other))

  fine_cases_leaf : (cases : Alternatives) → AlternativesFine cases → (s : ℕ) (leaf : NumLeaf) → alternatives_leaf cases s ≡ Some leaf → num_fine leaf ≡ true
  fine_cases_leaf no_alternatives f s other e = cc
  fine_cases_leaf (alternative name g tests more) f s other e =
      from_two {F = num_fine other ≡ true} (slot_leaf g s) (alternatives_leaf more s) other e (fine_leaf g f.0 s other) (fine_cases_leaf more f.1 s other)

pub slot_leaf_fine : (root : Grammar) → IsTree root → (s : ℕ) (leaf : NumLeaf) → slot_leaf root s ≡ Some leaf → num_fine leaf ≡ true
slot_leaf_fine root tree s leaf e = fine_leaf root (tree_fine root tree) s leaf e

-- Uses.

abbrev IsBit : ℤ → Type 0
IsBit x = (x ≡ pos 0) ⊎ (x ≡ pos 1)

bit_of : (x : ℤ) → pos 0 ≤ℤ x → x ≤ℤ pos 1 → IsBit x
bit_of (pos zero) h k = inl refl
bit_of (pos (suc zero)) h k = inr refl
bit_of (pos (suc (suc n))) h k = absurd (omega (arith, ints))
bit_of (negsuc n) h k = absurd (omega (arith, ints))

module _ (root : Grammar) where
  -- the numbers of a flag's slot are 0 and 1
  abbrev pub Bits : ℕ → Type 0
  Bits t = (x : ℤ) → In (domain_of root t) x → (x ≡ pos 0) ⊎ (x ≡ pos 1)

  abbrev pub TestFits : List ℕ → Test → Type 0
  TestFits around (Flag t) = (holds around t ≡ true) × Bits t
  TestFits around (Equals t k) = holds around t ≡ true

  abbrev pub TestsFit : List ℕ → List Test → Type 0
  TestsFit around ts = AllByRecursion (TestFits around) ts

  abbrev pub PresenceFits : List ℕ → Presence → Type 0
  PresenceFits around Always = Unit {0}
  PresenceFits around Bit = Unit {0}
  PresenceFits around (When ts) = (length ts ≡ 1) × TestsFit around ts

  abbrev pub RuleFits : List ℕ → SizeRule → Type 0
  RuleFits around (Slot t) = holds around t ≡ true
  RuleFits around (Prefix low width) = Unit {0}
  RuleFits around (Ended p) = Unit {0}

  abbrev pub OwnFits : List ℕ → Option ℕ → Type 0
  OwnFits around None = Unit {0}
  OwnFits around (Some t) = holds around t ≡ true

  abbrev pub ChoiceFits : List ℕ → ChoiceRule → Type 0
  ChoiceFits around (Item t) = holds around t ≡ true
  ChoiceFits around (Index width) = Unit {0}
  ChoiceFits around Tests = Unit {0}

  -- an alternative that an index chooses has no conditions
  abbrev pub CaseFits : List ℕ → ChoiceRule → List Test → Type 0
  CaseFits around (Index width) ts = ts ≡ []
  CaseFits around Tests ts = TestsFit around ts
  CaseFits around (Item t) ts = Unit {0}

  -- a text with a terminator has no size in a field
  abbrev pub EndFits : Option (List Bool) → SizeRule → Type 0
  EndFits None rule = Unit {0}
  EndFits (Some p) (Slot t) = ⊥
  EndFits (Some p) (Prefix low width) = Unit {0}
  EndFits (Some p) (Ended q) = Unit {0}

  abbrev mutual
    -- each use in a node round which these slots are at home
    pub NodeUsed : List ℕ → Grammar → Type 0
    NodeUsed around (node align form) = FormUsed around form

    pub FormUsed : List ℕ → Form → Type 0
    FormUsed around (num leaf) = Unit {0}
    FormUsed around (octets sizing) = RuleFits around sizing.rule
    FormUsed around (bits sizing) = RuleFits around sizing.rule
    FormUsed around (text leaf) = RuleFits around leaf.sized.rule × EndFits leaf.ended leaf.sized.rule
    FormUsed around (seq fields home) = FieldsUsed (home ++ around) fields
    FormUsed around (list sizing g) = RuleFits around sizing.rule × NodeUsed around g
    FormUsed around (choice cases rule) = ChoiceFits around rule × CasesUsed around rule cases
    FormUsed around (contained sizing g) = RuleFits around sizing.rule × NodeUsed around g

    pub FieldsUsed : List ℕ → Fields → Type 0
    FieldsUsed around no_fields = Unit {0}
    FieldsUsed around (component name g presence default own fs) = OwnFits around own × PresenceFits around presence × NodeUsed around g × FieldsUsed around fs
    FieldsUsed around (inserted name g slot fs) = FieldsUsed around fs

    pub CasesUsed : List ℕ → ChoiceRule → Alternatives → Type 0
    CasesUsed around rule no_alternatives = Unit {0}
    CasesUsed around rule (alternative name g tests more) = CaseFits around rule tests × NodeUsed around g × CasesUsed around rule more

  abbrev UseFits : List ℕ → Use → Type 0
  UseFits around (condition t) = TestFits around t
  UseFits around (item_of t) = holds around t ≡ true
  UseFits around (size_of t) = holds around t ≡ true

  abbrev StandFits : Stand → Type 0
  StandFits at = AllByRecursion (UseFits at.around) (uses at)

  tests_fit : (around : List ℕ) (ts : List Test) (us : List Use) → AllByRecursion (UseFits around) (map condition ts ++ us) → TestsFit around ts
  tests_fit around [] us h = tt
  tests_fit around (t ∷ ts) us h = (h.0, tests_fit around ts us h.1)

  form_fit : (around : List ℕ) (ts : List Test) (us : List Use) → AllByRecursion (UseFits around) (map condition ts ++ us) → AllByRecursion (UseFits around) us
  form_fit around [] us h = h
  form_fit around (t ∷ ts) us h = form_fit around ts us h.1

  rule_fits : (around : List ℕ) (rule : SizeRule) → AllByRecursion (UseFits around) (rule_uses rule) → RuleFits around rule
  rule_fits around (Slot t) h = h.0
  rule_fits around (Prefix low width) h = tt
  rule_fits around (Ended p) h = tt

  choice_fits : (around : List ℕ) (rule : ChoiceRule) → AllByRecursion (UseFits around) (choice_uses rule) → ChoiceFits around rule
  choice_fits around (Item t) h = h.0
  choice_fits around (Index width) h = tt
  choice_fits around Tests h = tt

  says_home : (around : List ℕ) (ks : Known) (s : ℕ) (g : Grammar) → SaysSlot root around ks s g → holds around s ≡ true
  says_home around ks s (node align (num leaf)) h = h.0
  says_home around ks s (node align _) h = absurd h

  own_fits : (around : List ℕ) (ks : Known) (own : Option ℕ) (presence : Presence) (g : Grammar) → OwnSound root around ks own presence g → OwnFits around own
  own_fits around ks None presence g h = tt
  own_fits around ks (Some t) presence g h = says_home around ks t g h.1

  presence_fits : (around : List ℕ) (ks : Known) (presence : Presence) → PresenceSound ks presence → TestsFit around (presence_tests presence) → PresenceFits around presence
  presence_fits around ks Always h t = tt
  presence_fits around ks Bit h t = tt
  presence_fits around ks (When ts) h t = (h.0, t)

  end_fits : (end : Option (List Bool)) (leaf : TextLeaf) → end_fine end leaf ≡ true → EndFits end leaf.sized.rule
  end_fits None leaf h = tt
  end_fits (Some p) leaf h = by leaf.sized.rule (and_parts (no_size leaf.sized.rule) (nat_eq leaf.width 8 && (not leaf.indexed && is_terminator p)) h).0
    where
      by : (rule : SizeRule) → no_size rule ≡ true → EndFits (Some p) rule
      by (Slot t) e = cc
      by (Prefix low width) e = tt
      by (Ended q) e = tt

  text_ends : (leaf : TextLeaf) → text_fine leaf ≡ true → EndFits leaf.ended leaf.sized.rule
  text_ends leaf f =
      let a = and_parts (sizes_fine leaf.sized.sizes) (nat_lt 0 (length leaf.alphabet) && (are_ranges leaf.alphabet && (all_within (pos 0) (pos 127) leaf.alphabet && end_fine leaf.ended leaf))) f in
      let b = and_parts (nat_lt 0 (length leaf.alphabet)) (are_ranges leaf.alphabet && (all_within (pos 0) (pos 127) leaf.alphabet && end_fine leaf.ended leaf)) a.1 in
      let c = and_parts (are_ranges leaf.alphabet) (all_within (pos 0) (pos 127) leaf.alphabet && end_fine leaf.ended leaf) b.1 in
      end_fits leaf.ended leaf (and_parts (all_within (pos 0) (pos 127) leaf.alphabet) (end_fine leaf.ended leaf) c.1).1

  -- where an index chooses no alternative has a condition
  abbrev Bare : ChoiceRule → List (List ℕ × List Test) → Type 0
  Bare (Index width) cases = list_any has_tests cases ≡ false
  Bare Tests cases = Unit {0}
  Bare (Item t) cases = Unit {0}

  bare : (rule : ChoiceRule) (cases : List (List ℕ × List Test)) → choice_fine cases rule ≡ true → Bare rule cases
  bare rule cases h =
      let a = and_parts (nat_lt 0 (length cases)) (all_differ same_name (map (λ c. c.0) cases) && choice_rule_fine cases rule) h in
      by rule (and_parts (all_differ same_name (map (λ c. c.0) cases)) (choice_rule_fine cases rule) a.1).1
    where
      by : (rule : ChoiceRule) → choice_rule_fine cases rule ≡ true → Bare rule cases
      by (Index width) e = not-true (list_any has_tests cases) (and_parts (is_least_width (length cases - 1) width) (not (list_any has_tests cases)) e).1
      by Tests e = tt
      by (Item t) e = tt

  no_tests : (ts : List Test) → nat_lt 0 (length ts) ≡ false → ts ≡ []
  no_tests [] h = refl
  no_tests (t ∷ ts) h = (let e : nat_lt 0 (suc (length ts)) ≡ true = grind (arith, nat_tests) in cc)

  case_fits : (around : List ℕ) (rule : ChoiceRule) (name : List ℕ) (ts : List Test) (more : List (List ℕ × List Test)) → Bare rule ((name, ts) ∷ more) → TestsFit around ts → CaseFits around rule ts
  case_fits around (Index width) name ts more h f = no_tests ts (or_parts (nat_lt 0 (length ts)) (list_any has_tests more) h).0
  case_fits around Tests name ts more h f = f
  case_fits around (Item t) name ts more h f = tt

  bare_more : (rule : ChoiceRule) (name : List ℕ) (ts : List Test) (more : List (List ℕ × List Test)) → Bare rule ((name, ts) ∷ more) → Bare rule more
  bare_more (Index width) name ts more h = (or_parts (nat_lt 0 (length ts)) (list_any has_tests more) h).1
  bare_more Tests name ts more h = tt
  bare_more (Item t) name ts more h = tt

  mutual
    used_node : (g : Grammar) (role : Role) (path around : List ℕ) (k : ℕ) (ks : Known) → Sound root k around ks g → AllByRecursion StandFits (nodes role path around g) → TestsFit around (own_tests role) × NodeUsed around g
    used_node (node align form) role path around k ks h f =
        (tests_fit around (own_tests role) (form_uses form) f.0, used_form form path around k ks (last_three h) (form_fit around (own_tests role) (form_uses form) f.0) f.1)

    used_form : (form : Form) (path around : List ℕ) (k : ℕ) (ks : Known) → FormSound root k around ks form → AllByRecursion (UseFits around) (form_uses form) → AllByRecursion StandFits (form_nodes path around form) → FormUsed around form
    used_form (num leaf) path around k ks h u f = tt
    used_form (octets sizing) path around k ks h u f = rule_fits around sizing.rule u
    used_form (bits sizing) path around k ks h u f = rule_fits around sizing.rule u
    used_form (text leaf) path around k ks h u f = (rule_fits around leaf.sized.rule u, text_ends leaf (first_two h))
    used_form (seq fields home) path around k ks h u f = used_fields fields path (home ++ around) 0 (suc k) ks (last_two h) f
    used_form (list sizing g) path around k ks h u f = (rule_fits around sizing.rule u, (used_node g an_element (path ++ 0 ∷ []) around (suc k) ks (last_five h) f).1)
    used_form (contained sizing g) path around k ks h u f = (rule_fits around sizing.rule u, (used_node g a_content (path ++ 0 ∷ []) around (suc k) ks (last_four h) f).1)
    used_form (choice cases rule) path around k ks h u f = (choice_fits around rule u, used_cases cases rule (bare rule (conditions_of cases) (first_four h)) path around 0 (suc k) ks (last_four h) f)

    used_fields : (fs : Fields) (path around : List ℕ) (i k : ℕ) (ks : Known) → FieldsSound root k around ks fs → AllByRecursion StandFits (field_nodes path around i fs) → FieldsUsed around fs
    used_fields no_fields path around i k ks h f = tt
    used_fields (component name g presence default own fs) path around i k ks h f =
        let a = nodes (component_role name presence default own) (path ++ i ∷ []) around g in
        let b = field_nodes path around (suc i) fs in
        let n = used_node g (component_role name presence default own) (path ++ i ∷ []) around k ks (fourth_five h) (each_left StandFits a b f) in (
          own_fits around ks own presence g (second_five h),
          presence_fits around ks presence (first_five h) n.0,
          n.1,
          used_fields fs path around (suc i) k (choose_known presence ks (with_own own (after ks g))) (last_five h) (each_right StandFits a b f),
        )
    used_fields (inserted name g (Some s) fs) path around i k ks h f =
        used_fields fs path around (suc i) k (with_slot s ks) (last_four h) (each_right StandFits (nodes (an_inserted name (Some s)) (path ++ i ∷ []) around g) (field_nodes path around (suc i) fs) f)
    used_fields (inserted name g None fs) path around i k ks h f =
        used_fields fs path around (suc i) k ks (last_three h) (each_right StandFits (nodes (an_inserted name None) (path ++ i ∷ []) around g) (field_nodes path around (suc i) fs) f)

    used_cases : (cases : Alternatives) (rule : ChoiceRule) → Bare rule (conditions_of cases) → (path around : List ℕ) (i k : ℕ) (ks : Known) → AlternativesSound root k around ks cases → AllByRecursion StandFits (alternative_nodes rule path around i cases) → CasesUsed around rule cases
    used_cases no_alternatives rule n path around i k ks h f = tt
    used_cases (alternative name g tests more) rule n path around i k ks h f =
        let a = nodes (alternative_role name tests rule) (path ++ i ∷ []) around g in
        let b = alternative_nodes rule path around (suc i) more in
        let u = used_node g (alternative_role name tests rule) (path ++ i ∷ []) around k ks (second_three h) (each_left StandFits a b f) in
        (case_fits around rule name tests (conditions_of more) n u.0, u.1, used_cases more rule (bare_more rule name tests (conditions_of more) n) path around (suc i) k ks (last_three h) (each_right StandFits a b f))

-- From the rules of a tree and from what its check says.

boolean_bits : (leaf : NumLeaf) → num_fine leaf ≡ true → leaf.kind ≡ Boolean → (x : ℤ) → In leaf.set x → IsBit x
boolean_bits leaf fine kind x h =
    let set = rw kind at (rules_of leaf fine).set in
    let r = range_within (pos 0) (pos 1) leaf.set x (and_parts (is_range (pos 0) (pos 1) leaf.set) (no_items leaf.items) set).0 h in
    bit_of x r.0 r.1

only_boolean : (t : ℕ) (kind : NumKind) → AsksFor (condition (Flag t)) kind → kind ≡ Boolean
only_boolean t Boolean h = refl
only_boolean t Integer h = absurd h
only_boolean t Enumerated h = absurd h
only_boolean t Null h = absurd h

-- a number of a slot's domain is one of its leaf
pub leaf_of : {F : Type 0} (root : Grammar) (t : ℕ) (x : ℤ) → In (domain_of root t) x → ((leaf : NumLeaf) → slot_leaf root t ≡ Some leaf → In leaf.set x → F) → F
leaf_of {F} root t x h f = by (slot_leaf root t) refl
  where
    by : (o : Option NumLeaf) → slot_leaf root t ≡ o → F
    by None e = let none : In [] x = subst (λ (o : Option NumLeaf). In (unwrap_or (option_map (λ leaf. leaf.set) o) []) x) e h in cc
    by (Some leaf) e = f leaf e (subst (λ (o : Option NumLeaf). In (unwrap_or (option_map (λ leaf. leaf.set) o) []) x) e h)

all_open : (around : List ℕ) (us : List Use) → list_all (holds around) (map slot_of us) ≡ true → AllByRecursion (λ u. holds around (slot_of u) ≡ true) us
all_open around [] h = tt
all_open around (u ∷ us) h = let b = and_parts (holds around (slot_of u)) (list_all (holds around) (map slot_of us)) h in (b.0, all_open around us b.1)

with_all : {A : Type 0} (P Q : A → Type 0) (xs : List A) → AllByRecursion P xs → ((k : ℕ) (x : A) → slice_get xs k ≡ Some x → P x → Q x) → AllByRecursion Q xs
with_all P Q [] h f = tt
with_all P Q (x ∷ xs) h f = (f zero x refl h.0, with_all P Q xs h.1 (λ k y e p. f (suc k) y e p))

at_place : (p : Stand → Bool) (xs : List Stand) → list_all p xs ≡ true → (k : ℕ) (x : Stand) → slice_get xs k ≡ Some x → p x ≡ true
at_place p [] h k x e = cc
at_place p (y ∷ xs) h zero x e = let b = and_parts (p y) (list_all p xs) h in let same : y ≡ x = cc in rw (← same) b.0
at_place p (y ∷ xs) h (suc k) x e = at_place p xs (and_parts (p y) (list_all p xs) h).1 k x e

pub accepted_used : (root : Grammar) → IsAccepted root → NodeUsed root [] root
accepted_used root a = (used_node root root root_node [] [] 0 (λ s. false) (accepted_sound_nodes root a) (each_of (StandFits root) (nodes_of root) stand_fits)).1
  where
    use_fits : (k : ℕ) (at : Stand) → slice_get (nodes_of root) k ≡ Some at → (u : ℕ) (use' : Use) → slice_get (uses at) u ≡ Some use' → holds at.around (slot_of use') ≡ true → UseFits root at.around use'
    use_fits k at is u (item_of t) e h = h
    use_fits k at is u (size_of t) e h = h
    use_fits k at is u (condition (Equals t n)) e h = h
    use_fits k at is u (condition (Flag t)) e h =
        (h, λ x p. leaf_of {F = IsBit x} root t x p (λ leaf q r. boolean_bits leaf (slot_leaf_fine root a.formed t leaf q) (only_boolean t leaf.kind (uses_fit root k at u (condition (Flag t)) leaf a is e q)) x r))

    stand_fits : (k : ℕ) (at : Stand) → slice_get (nodes_of root) k ≡ Some at → StandFits root at
    stand_fits k at is =
        let fine = stand_fine (nodes_of root) at (at_place (λ x. all_true (stand_rules (nodes_of root) x)) (nodes_of root) (tree_rules root a.formed) k at is) in
        with_all (λ u. holds at.around (slot_of u) ≡ true) (UseFits root at.around) (uses at) (all_open at.around (uses at) fine.uses) (λ u use' e h. use_fits k at is u use' e h)
