-- A number that a spelled value was spelled with meets all that the value asks of its slot.
use Rattle.std.proofs.Common.{◌≡◌, ℕ, zero, suc, ◌+◌, ℤ, pos, Bool, true, false, List, [], ◌∷◌, ◌++◌, length, Option, Some, None, refl, sym, ap, ◌∙◌, arith, inl, inr, ◌⊎◌, ◌||◌, nat_eq, subst}
use Rattle.std.specs.Prelude.{if◌then◌else◌}
use Rattle.std.specs.List.{AllByRecursion, flat_map, zip}
use Rattle.acn_num.specs.Bits.{octets as octets_for}
use Rattle.acn_num.specs.Ranges.{In}
use Rattle.acn_grammar.specs.Asks.{Ask, Equal, Avoid, index_of, same_name}
use Rattle.acn_grammar.specs.AsksOn.{on, test_ask_on, presence_asks_on, size_asks_on, own_asks_on, rule_asks_on, run_asks_on, asks_on, form_asks_on, fields_asks_on, alternative_asks_on, MeetsAsk}
use Rattle.acn_grammar.specs.Code.{Mode}
use Rattle.acn_grammar.specs.Env.{Env, at_slot, AllHold, Holds, MayBeThere, MayBeAway}
use Rattle.acn_grammar.specs.Grammar.{Grammar, Form, Fields, Alternatives, Data, Places, Elements, node, num, octets, bits, text, seq, list, choice, contained, no_fields, component, inserted, no_alternatives, alternative, octet_string, bit_string, characters, record_of, list_of, alt, no_places, empty, filled, no_elements, element, element_count}
use Rattle.acn_grammar.specs.Length.{bit_length, number_of, ending}
use Rattle.acn_grammar.specs.Slots.{items_of, domain_of}
use Rattle.acn_grammar.specs.Spell.{Part, Spell, FormPart, FieldsPart, AlternativePart, RulePart, SizePart, RunPart, ListPart, EndedPart, Carries, Chosen, with_home}
use Rattle.acn_grammar.specs.Tree.{IsTree, holds}
use Rattle.acn_grammar.specs.declared.node.ChoiceRule.{ChoiceRule}
use Rattle.acn_grammar.specs.declared.node.ChoiceRule.TheVariants.{Index, Tests, Item}
use Rattle.acn_grammar.specs.declared.node.Presence.{Presence}
use Rattle.acn_grammar.specs.declared.node.Presence.TheVariants.{Always, Bit, When}
use Rattle.acn_grammar.specs.declared.node.Sizing.{Sizing}
use Rattle.acn_grammar.specs.declared.node.SizeRule.{SizeRule}
use Rattle.acn_grammar.specs.declared.node.SizeRule.TheVariants.{Prefix, Slot, Ended}
use Rattle.acn_grammar.specs.declared.node.Test.{Test}
use Rattle.acn_grammar.specs.declared.node.Test.TheVariants.{Flag, Equals}
use Rattle.acn_grammar.specs.declared.node.TextLeaf.{TextLeaf}
use Rattle.acn_grammar.proofs.SpellLength.{Steady, SteadyForm, SteadyFields, SteadyAlternatives}
use Rattle.acn_packet_laws.proofs.Homes.{truth}
use Rattle.acn_packet_laws.proofs.AskHomes.{FormNot, NodeNot, FieldsNot, CasesNot, if_yes, if_no, some_is}
use Rattle.acn_packet_laws.proofs.Contents.{content_octets}
use Rattle.acn_packet_laws.proofs.Items.{item_place}
use Rattle.acn_packet_laws.proofs.Used.{each_both, TestFits, PresenceFits, CaseFits, EndFits, NodeUsed, FormUsed, FieldsUsed, CasesUsed}
use Rattle.std.proofs.lemmas.Bool.{eqb-true}
use Rattle.acn_packet_laws.proofs.Tuples.{first_three, last_four, last_three, last_two, second_four, second_three, third_four}

pub not_at_home : (home : List ℕ) (xs : List ℤ) (env : Env) (s : ℕ) → holds home s ≡ false → at_slot (with_home home xs env) s ≡ at_slot env s
not_at_home [] xs env s h = refl
not_at_home (t ∷ home) [] env s h = refl
not_at_home (t ∷ home) (x ∷ xs) env s h = by (nat_eq t s) (holds home s) h (not_at_home home xs env s)
  where
    by : (b c : Bool) → (b || c) ≡ false → (c ≡ false → at_slot (with_home home xs env) s ≡ at_slot env s) → (if b then Some x else at_slot (with_home home xs env) s) ≡ at_slot env s
    by true c e f = cc
    by false c e f = f e

-- the number of a slot at home
pub at_home : (P : ℕ → ℤ → Type 0) (home : List ℕ) (xs : List ℤ) (env : Env) (s : ℕ) → length xs ≡ length home → AllByRecursion (λ e. P e.0 e.1) (zip home xs) → holds home s ≡ true → (x : ℤ) × (at_slot (with_home home xs env) s ≡ Some x) × P s x
at_home P [] xs env s l h m = cc
at_home P (t ∷ home) [] env s l h m = absurd (omega arith)
at_home P (t ∷ home) (x ∷ xs) env s l h m =
    truth {F = (y : ℤ) × (at_slot (with_home (t ∷ home) (x ∷ xs) env) s ≡ Some y) × P s y} (nat_eq t s)
    (λ e. (x, if_yes (nat_eq t s) (Some x) (at_slot (with_home home xs env) s) e, subst (λ n. P n x) (eqb-true t s e) h.0))
    (λ e.
    let r = at_home P home xs env s (omega arith) h.1 (sym (ap (λ b. b || holds home s) e) ∙ m) in
    (r.0, if_no (nat_eq t s) (Some x) (at_slot (with_home home xs env) s) e ∙ r.1, r.2))

module _ (root : Grammar) (tree : IsTree root) (mode : Mode) (s : ℕ) (x : ℤ) (permitted : In (domain_of root s) x) where
  abbrev Met : List Ask → Type 0
  Met wanted = AllByRecursion (MeetsAsk x) wanted

  -- an ask of a slot that has a number
  one : (t : ℕ) (a : Ask) → (t ≡ s → MeetsAsk x a) → Met (on s t a)
  one t a h = by (nat_eq t s) (λ e. h (eqb-true t s e))
    where
      by : (b : Bool) → (b ≡ true → MeetsAsk x a) → Met (if b then a ∷ [] else [])
      by true f = (f refl, tt)
      by false f = tt

  same : (env : Env) → at_slot env s ≡ Some x → (t : ℕ) (n : ℤ) → at_slot env t ≡ Some n → t ≡ s → x ≡ n
  same env is t n e q = some_is x n (sym is ∙ (ap (at_slot env) (sym q) ∙ e))

  equal : (env : Env) → at_slot env s ≡ Some x → (t : ℕ) (n : ℤ) → at_slot env t ≡ Some n → Met (on s t (Equal n))
  equal env is t n e = one t (Equal n) (same env is t n e)

  test_there : (env : Env) → at_slot env s ≡ Some x → (t : Test) → Holds env t → Met (test_ask_on s true t)
  test_there env is (Flag t) h = equal env is t (pos 1) h
  test_there env is (Equals t k) h = equal env is t k h

  tests_there : (env : Env) → at_slot env s ≡ Some x → (ts : List Test) → AllHold env ts → Met (flat_map (test_ask_on s true) ts)
  tests_there env is [] h = tt
  tests_there env is (t ∷ ts) h = each_both (MeetsAsk x) (test_ask_on s true t) (flat_map (test_ask_on s true) ts) (test_there env is t h.0) (tests_there env is ts h.1)

  presence_there : (env : Env) → at_slot env s ≡ Some x → (presence : Presence) → MayBeThere env presence → Met (presence_asks_on s true presence)
  presence_there env is Always h = tt
  presence_there env is Bit h = tt
  presence_there env is (When ts) h = tests_there env is ts h

  test_away : (around : List ℕ) (env : Env) → at_slot env s ≡ Some x → (t : Test) → TestFits root around t → (Holds env t → ⊥) → Met (test_ask_on s false t)
  test_away around env is (Flag t) f h = one t (Equal (pos 0)) (λ q. zero_is q (f.1 x (subst (λ n. In (domain_of root n) x) (sym q) permitted)))
    where
      zero_is : t ≡ s → (x ≡ pos 0) ⊎ (x ≡ pos 1) → x ≡ pos 0
      zero_is q (inl e) = e
      zero_is q (inr e) = absurd (h (ap (at_slot env) q ∙ (is ∙ ap Some e)))
  test_away around env is (Equals t k) f h = one t (Avoid k) (λ q e. h (ap (at_slot env) q ∙ (is ∙ ap Some e)))

  presence_away : (around : List ℕ) (env : Env) → at_slot env s ≡ Some x → (presence : Presence) → PresenceFits root around presence → MayBeAway env presence → Met (presence_asks_on s false presence)
  presence_away around env is Always f h = tt
  presence_away around env is Bit f h = tt
  presence_away around env is (When []) f h = tt
  presence_away around env is (When (t ∷ [])) f h = each_both (MeetsAsk x) (test_ask_on s false t) [] (test_away around env is t (f.1).0 (λ q. h (q, tt))) tt
  presence_away around env is (When (t ∷ u ∷ ts)) f h = let n = f.0 in absurd (omega arith)

  own : (env : Env) → at_slot env s ≡ Some x → (o : Option ℕ) (d : Data) → Carries env o d → Met (own_asks_on s o d)
  own env is None d h = tt
  own env is (Some t) d h = equal env is t (number_of d) h

  rule_met : (env : Env) → at_slot env s ≡ Some x → (rule : SizeRule) (n at : ℕ) (bs : List Bool) → RulePart rule env n at bs → Met (size_asks_on s n rule)
  rule_met env is (Slot t) n at bs h = equal env is t (pos n) h.0
  rule_met env is (Prefix low width) n at bs h = tt
  rule_met env is (Ended p) n at bs h = tt

  size_met : (env : Env) → at_slot env s ≡ Some x → (sizing : Sizing) (n at : ℕ) (bs : List Bool) → SizePart sizing env n at bs → Met (size_asks_on s n sizing.rule)
  size_met env is sizing n at bs h = rule_met env is sizing.rule n at bs h.spelled

  -- a text or a list whose end is a terminator has no size in a slot
  no_slot : (rule : SizeRule) (n : ℕ) (p : List Bool) → ending rule ≡ Some p → Met (size_asks_on s n rule)
  no_slot (Slot t) n p e = cc
  no_slot (Prefix low width) n p e = tt
  no_slot (Ended q) n p e = tt

  run_met : (each : Data → Part) (wants : Data → List Ask) → ((d : Data) (at : ℕ) (bs : List Bool) → each d at bs → Met (wants d)) → (es : Elements) (at : ℕ) (bs : List Bool) → RunPart each es at bs → Met (run_asks_on wants es)
  run_met each wants h no_elements at bs t = tt
  run_met each wants h (element d es) at bs t = each_both (MeetsAsk x) (wants d) (run_asks_on wants es) (h d at t.front t.first) (run_met each wants h es (at + length t.front) t.back t.second)

  list_met : (end : Option (List Bool)) (sizing : Sizing) → ending sizing.rule ≡ end → (env : Env) → at_slot env s ≡ Some x → (each : Data → Part) (wants : Data → List Ask) → ((d : Data) (at : ℕ) (bs : List Bool) → each d at bs → Met (wants d))
      → (es : Elements) (at : ℕ) (bs : List Bool) → ListPart end sizing env each es at bs → Met (size_asks_on s (element_count es) sizing.rule ++ run_asks_on wants es)
  list_met None sizing q env is each wants h es at bs t =
      each_both (MeetsAsk x) (size_asks_on s (element_count es) sizing.rule) (run_asks_on wants es) (size_met env is sizing (element_count es) at t.front t.first) (run_met each wants h es (at + length t.front) t.back t.second)
  list_met (Some p) sizing q env is each wants h es at bs t =
      each_both (MeetsAsk x) (size_asks_on s (element_count es) sizing.rule) (run_asks_on wants es) (no_slot sizing.rule (element_count es) p q) (run_met each wants h es at t.spelled.front t.spelled.first)

  ended_met : (rule : SizeRule) (p : List Bool) → EndFits root (Some p) rule → (n : ℕ) → Met (size_asks_on s n rule)
  ended_met (Slot t) p f n = absurd f
  ended_met (Prefix low width) p f n = tt
  ended_met (Ended q) p f n = tt

  text_met : (end : Option (List Bool)) (leaf : TextLeaf) → EndFits root end leaf.sized.rule → (env : Env) → at_slot env s ≡ Some x → (cs : List ℕ) (at : ℕ) (bs : List Bool) → EndedPart end leaf env cs at bs → Met (size_asks_on s (length cs) leaf.sized.rule)
  text_met None leaf f env is cs at bs t = size_met env is leaf.sized (length cs) at t.front t.first
  text_met (Some end) leaf f env is cs at bs t = ended_met leaf.sized.rule end f (length cs)

  rule_asked : (around : List ℕ) (env : Env) → at_slot env s ≡ Some x → (rule : ChoiceRule) (name : List ℕ) (tests : List Test) → CaseFits root around rule tests → Chosen root rule env name tests → Met (rule_asks_on root s rule name tests)
  rule_asked around env is (Item t) name tests f h =
      one t (Equal (pos (index_of (same_name name) (items_of root t)))) (λ q. same env is t (pos h.0) h.2 q ∙ ap pos (sym (item_place root tree t name h.0 h.1 h.3)))
  rule_asked around env is Tests name tests f h = tests_there env is tests h
  rule_asked around env is (Index width) name tests f h = subst (λ ts. Met (flat_map (test_ask_on s true) ts)) (sym f) tt

  mutual
    pub node_met : (g : Grammar) → NodeNot s g → Steady g → (around : List ℕ) → NodeUsed root around g → (env : Env) → at_slot env s ≡ Some x → (d : Data) (at : ℕ) (bs : List Bool) → Spell root mode g env d at bs → Met (asks_on root s g d)
    node_met (node align form) none w around u env is d at bs t = form_met form none w around u env is d (at + length t.front) t.back t.second

    form_met : (form : Form) → FormNot s form → SteadyForm form → (around : List ℕ) → FormUsed root around form → (env : Env) → at_slot env s ≡ Some x → (d : Data) (at : ℕ) (bs : List Bool) → FormPart root mode form env d at bs → Met (form_asks_on root s form d)
    form_met (num leaf) none w around u env is d at bs t = tt
    form_met (octets sizing) none w around u env is (octet_string os) at bs t = size_met env is sizing (length os) at t.front t.first
    form_met (bits sizing) none w around u env is (bit_string cs) at bs t = size_met env is sizing (length cs) at t.front t.first
    form_met (text leaf) none w around u env is (characters cs) at bs t = text_met leaf.ended leaf (last_two u) env is cs at bs t
    form_met (seq fields home) none w around u env is (record_of ps) at bs t =
        fields_met fields none.1 w (home ++ around) u (with_home home t.numbers env) (not_at_home home t.numbers env s none.0 ∙ is) ps (at + length t.spelled.front) t.spelled.back t.spelled.second
    form_met (list sizing g) none w around u env is (list_of es) at bs t =
        list_met (ending sizing.rule) sizing refl env is (Spell root mode g env) (asks_on root s g) (λ d at' bs' h. node_met g none w around (last_two u) env is d at' bs' h) es at bs t
    form_met (choice cases rule) none w around u env is (alt i d) at bs t = case_met cases none w rule around (last_two u) env is i d (at + length t.front) t.back t.second
    form_met (contained sizing g) none w around u env is d at bs t =
        let v = t.spelled in
        let n = content_octets root mode g w env d t.some (at + length v.front) v.back v.second in
        each_both (MeetsAsk x) (asks_on root s g d) (size_asks_on s (octets_for (bit_length g 0 d)) sizing.rule)
        (node_met g none w around (last_two u) env is d 0 v.second.inside.front v.second.inside.first)
        (subst (λ m. Met (size_asks_on s m sizing.rule)) n (size_met env is sizing t.some at v.front v.first))
    form_met _ none w around u env is d at bs t = absurd t.0

    pub fields_met : (fs : Fields) → FieldsNot s fs → SteadyFields fs → (around : List ℕ) → FieldsUsed root around fs → (env : Env) → at_slot env s ≡ Some x → (ps : Places) (at : ℕ) (bs : List Bool) → FieldsPart root mode fs env ps at bs → Met (fields_asks_on root s fs ps)
    fields_met no_fields none w around u env is no_places at bs t = tt
    fields_met (component name g presence default o fs) none w around u env is (filled d ps) at bs t =
        each_both (MeetsAsk x) (own_asks_on s o d ++ presence_asks_on s true presence ++ asks_on root s g d) (fields_asks_on root s fs ps)
        (each_both (MeetsAsk x) (own_asks_on s o d ++ presence_asks_on s true presence) (asks_on root s g d)
        (each_both (MeetsAsk x) (own_asks_on s o d) (presence_asks_on s true presence) (own env is o d (t.first.given).1) (presence_there env is presence (t.first.given).0))
        (node_met g none.0 w.0 around (third_four u) env is d at t.front t.first.spelled))
        (fields_met fs none.1 w.1 around (last_four u) env is ps (at + length t.front) t.back t.second)
    fields_met (component name g presence default o fs) none w around u env is (empty ps) at bs t =
        each_both (MeetsAsk x) (presence_asks_on s false presence) (fields_asks_on root s fs ps) (presence_away around env is presence (second_four u) t.given) (fields_met fs none.1 w.1 around (last_four u) env is ps at bs t.spelled)
    fields_met (inserted name g (Some r) fs) none w around u env is ps at bs t = fields_met fs none w.1 around u env is ps (at + length t.front) t.back t.second
    fields_met (inserted name g None fs) none w around u env is ps at bs t = fields_met fs none w.1 around u env is ps (at + length t.front) t.back t.second
    fields_met _ none w around u env is ps at bs t = absurd t.0

    case_met : (cases : Alternatives) → CasesNot s cases → SteadyAlternatives cases → (rule : ChoiceRule) (around : List ℕ) → CasesUsed root around rule cases → (env : Env) → at_slot env s ≡ Some x → (i : ℕ) (d : Data) (at : ℕ) (bs : List Bool) → AlternativePart root mode cases rule env i d at bs → Met (alternative_asks_on root s cases rule i d)
    case_met (alternative name g tests more) none w rule around u env is zero d at bs t =
        each_both (MeetsAsk x) (rule_asks_on root s rule name tests) (asks_on root s g d) (rule_asked around env is rule name tests (first_three u) t.given) (node_met g none.0 w.0 around (second_three u) env is d at bs t.spelled)
    case_met (alternative name g tests more) none w rule around u env is (suc i) d at bs t = case_met more none.1 w.1 rule around (last_three u) env is i d at bs t
    case_met no_alternatives none w rule around u env is i d at bs t = absurd t.0
