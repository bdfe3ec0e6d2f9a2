-- A spelling depends on the numbers of known slots and of those whose fields stand in it, so other numbers may move.
use Rattle.std.proofs.Common.{◌≡◌, ℕ, zero, suc, ◌+◌, ℤ, Bool, true, false, not, ◌&&◌, ◌||◌, List, [], ◌∷◌, length, Option, Some, None, refl, sym, ◌∙◌, arith, inl, inr, ◌⊎◌, nat_eq}
use Rattle.std.proofs.lemmas.Bool.{or_left, or_right, and_parts}
use Rattle.std.proofs.lemmas.Bool.Decides.{nat_tests}
use Rattle.acn_num.specs.Ranges.{In}
use Rattle.acn_grammar.specs.Code.{Any}
use Rattle.acn_grammar.specs.Env.{Env, at_slot, MayBeThere, MayBeAway}
use Rattle.acn_grammar.specs.Grammar.{Grammar, Form, Fields, Alternatives, Data, Places, Elements, node, num, octets, bits, text, seq, list, choice, contained, no_fields, component, inserted, no_alternatives, alternative, octet_string, bit_string, characters, record_of, list_of, alt, null, no_places, empty, filled, no_elements, element, element_count}
use Rattle.acn_grammar.specs.Length.{ending}
use Rattle.acn_grammar.specs.Scoped.{Known, with_slot, with_own, Agree, RuleIn, PresenceIn, TestsIn, choose_known, after, form_after, fields_after, tests_at, Scoped, FormScoped, FieldsScoped, AlternativesScoped}
use Rattle.acn_grammar.specs.Slots.{domain_of}
use Rattle.acn_grammar.specs.Sound.{IsNull}
use Rattle.acn_grammar.specs.Spell.{Part, SizePart, RulePart, Carries, ListPart, RunPart, EndedPart, Spell, FormPart, FieldsPart, SlotField, AlternativePart, Chosen, with_home}
use Rattle.acn_grammar.specs.Tree.{holds}
use Rattle.acn_grammar.specs.declared.node.ChoiceRule.{ChoiceRule}
use Rattle.acn_grammar.specs.declared.node.ChoiceRule.TheVariants.{Index, Tests, Item}
use Rattle.acn_grammar.specs.declared.node.Presence.{Presence}
use Rattle.acn_grammar.specs.declared.node.Presence.TheVariants.{Always, Bit, When}
use Rattle.acn_grammar.specs.declared.node.Sizing.{Sizing}
use Rattle.acn_grammar.specs.declared.node.SizeRule.{SizeRule}
use Rattle.acn_grammar.specs.declared.node.SizeRule.TheVariants.{Prefix, Slot, Ended}
use Rattle.acn_grammar.specs.declared.node.Test.{Test}
use Rattle.acn_grammar.specs.declared.node.TextLeaf.{TextLeaf}
use Rattle.acn_packet_laws.proofs.PrefixNodes.{agree_inside, agree_back, all_hold_too}

-- Slots whose fields stand in a node and whose homes are round it.

abbrev pub is_own : Option ℕ → ℕ → Bool
is_own None s = false
is_own (Some t) s = nat_eq t s

abbrev mutual
  pub opens : Grammar → ℕ → Bool
  opens (node align form) s = form_opens form s

  pub form_opens : Form → ℕ → Bool
  form_opens (seq fields home) s = fields_opens fields s && not (holds home s)
  form_opens _ s = false

  pub fields_opens : Fields → ℕ → Bool
  fields_opens no_fields s = false
  fields_opens (component name g presence default own fs) s = is_own own s || (opens g s || fields_opens fs s)
  fields_opens (inserted name g slot fs) s = is_own slot s || fields_opens fs s

abbrev pub Shut : Grammar → Type 0
Shut g = (s : ℕ) → opens g s ≡ false

-- Tests.

pub or_either : (a b : Bool) → (a || b) ≡ true → (a ≡ true) ⊎ (b ≡ true)
or_either true b h = inl refl
or_either false b h = inr h

pub both_true : (a b : Bool) → a ≡ true → b ≡ false → (a && not b) ≡ true
both_true true false h k = refl
both_true true true h k = cc
both_true false b h k = cc

pub self_eq : (s : ℕ) → nat_eq s s ≡ true
self_eq s = grind (arith, nat_tests)

-- Numbers of homes.

home_moves : (home : List ℕ) (xs : List ℤ) (env env' : Env) (s : ℕ) → length xs ≡ length home → (holds home s ≡ false → at_slot env s ≡ at_slot env' s) → at_slot (with_home home xs env) s ≡ at_slot (with_home home xs env') s
home_moves [] xs env env' s l h = h refl
home_moves (k ∷ home) [] env env' s l h = absurd (omega arith)
home_moves (k ∷ home) (x ∷ xs) env env' s l h = by (nat_eq k s) refl (λ f. home_moves home xs env env' s (omega arith) (λ g. h (both (nat_eq k s) (holds home s) f g)))
  where
    both : (a b : Bool) → a ≡ false → b ≡ false → (a || b) ≡ false
    both true b h g = cc
    both false b h g = g

    by : (t : Bool) → nat_eq k s ≡ t → (t ≡ false → at_slot (with_home home xs env) s ≡ at_slot (with_home home xs env') s) → at_slot (with_home (k ∷ home) (x ∷ xs) env) s ≡ at_slot (with_home (k ∷ home) (x ∷ xs) env') s
    by true e rest = rw e refl
    by false e rest = rw e (rest refl)

-- what the choice of an alternative uses is known
abbrev pub RuleKnown : Known → ChoiceRule → List Test → Type 0
RuleKnown ks (Index width) ts = Unit {0}
RuleKnown ks Tests ts = TestsIn ks ts
RuleKnown ks (Item s) ts = ks s ≡ true

-- Where the slots stand: the slots of a node's own homes and those round it are keys, each has one field, and the field's numbers are the slot's.

module _ (root : Grammar) where
  abbrev pub SlotLaid : Known → ℕ → Grammar → Type 0
  SlotLaid keys s (node align (num leaf)) = (keys s ≡ true) × ((x : ℤ) → In leaf.set x → In (domain_of root s) x)
  SlotLaid keys s _ = ⊥

  abbrev pub OwnLaid : Known → Option ℕ → Grammar → Type 0
  OwnLaid keys None g = Unit {0}
  OwnLaid keys (Some s) g = SlotLaid keys s g

  -- slots of a field and those behind it are others
  abbrev pub Others : (ℕ → Bool) → (ℕ → Bool) → Type 0
  Others p q = (s : ℕ) → p s ≡ true → q s ≡ false

  abbrev mutual
    pub Laid : Known → Grammar → Type 0
    Laid keys (node align form) = FormLaid keys form

    pub FormLaid : Known → Form → Type 0
    FormLaid keys (seq fields home) = FieldsLaid (λ s. holds home s || keys s) fields × ((s : ℕ) → holds home s ≡ true → (x : ℤ) × In (domain_of root s) x) × Others (holds home) keys
    FormLaid keys (list sizing g) = Laid keys g × Shut g
    FormLaid keys (choice cases rule) = CasesLaid keys cases
    FormLaid keys (contained sizing g) = Laid keys g × Shut g
    FormLaid keys _ = Unit {0}

    pub FieldsLaid : Known → Fields → Type 0
    FieldsLaid keys no_fields = Unit {0}
    FieldsLaid keys (component name g presence default own fs) =
        Laid keys g × OwnLaid keys own g × Others (is_own own) (fields_opens fs) × Others (opens g) (fields_opens fs) × FieldsLaid keys fs
    FieldsLaid keys (inserted name g (Some s) fs) = SlotLaid keys s g × Others (nat_eq s) (fields_opens fs) × FieldsLaid keys fs
    FieldsLaid keys (inserted name g None fs) = Laid keys g × Shut g × IsNull g × FieldsLaid keys fs

    pub CasesLaid : Known → Alternatives → Type 0
    CasesLaid keys no_alternatives = Unit {0}
    CasesLaid keys (alternative name g tests more) = Laid keys g × Shut g × CasesLaid keys more

  pub chosen_within : (presence : Presence) (own : Option ℕ) (g : Grammar) (ks : Known) (s : ℕ) → (after ks g s ≡ true → (ks s ≡ true) ⊎ (opens g s ≡ true)) → choose_known presence ks (with_own own (after ks g)) s ≡ true → (ks s ≡ true) ⊎ ((is_own own s || opens g s) ≡ true)
  chosen_within Bit own g ks s f h = inl h
  chosen_within (When ts) own g ks s f h = inl h
  chosen_within Always None g ks s f h = f h
  chosen_within Always (Some t) g ks s f h = by (or_either (nat_eq t s) (after ks g s) h)
    where
      by : (nat_eq t s ≡ true) ⊎ (after ks g s ≡ true) → (ks s ≡ true) ⊎ ((nat_eq t s || opens g s) ≡ true)
      by (inl k) = inr (or_left (nat_eq t s) (opens g s) k)
      by (inr k) = more (f k)
        where
          more : (ks s ≡ true) ⊎ (opens g s ≡ true) → (ks s ≡ true) ⊎ ((nat_eq t s || opens g s) ≡ true)
          more (inl m) = inl m
          more (inr m) = inr (or_right (nat_eq t s) (opens g s) m)

  -- what is known behind a node was known before, or its field stands in it
  mutual
    pub after_within : (g : Grammar) (ks : Known) (s : ℕ) → after ks g s ≡ true → (ks s ≡ true) ⊎ (opens g s ≡ true)
    after_within (node align form) ks s h = form_within form ks s h

    form_within : (form : Form) (ks : Known) (s : ℕ) → form_after ks form s ≡ true → (ks s ≡ true) ⊎ (form_opens form s ≡ true)
    form_within (seq fields home) ks s h =
        let b = and_parts (fields_after ks fields s) (not (holds home s)) h in
        by (fields_within fields ks s b.0) b.1
      where
        by : (ks s ≡ true) ⊎ (fields_opens fields s ≡ true) → not (holds home s) ≡ true → (ks s ≡ true) ⊎ ((fields_opens fields s && not (holds home s)) ≡ true)
        by (inl k) n = inl k
        by (inr k) n = inr (rw (k, n))
    form_within (num leaf) ks s h = inl h
    form_within (octets sizing) ks s h = inl h
    form_within (bits sizing) ks s h = inl h
    form_within (text leaf) ks s h = inl h
    form_within (list sizing g) ks s h = inl h
    form_within (choice cases rule) ks s h = inl h
    form_within (contained sizing g) ks s h = inl h

    fields_within : (fs : Fields) (ks : Known) (s : ℕ) → fields_after ks fs s ≡ true → (ks s ≡ true) ⊎ (fields_opens fs s ≡ true)
    fields_within no_fields ks s h = inl h
    fields_within (component name g presence default own fs) ks s h =
        by (fields_within fs (choose_known presence ks (with_own own (after ks g))) s h) (λ k. chosen_within presence own g ks s (after_within g ks s) k)
      where
        by : (choose_known presence ks (with_own own (after ks g)) s ≡ true) ⊎ (fields_opens fs s ≡ true) → (choose_known presence ks (with_own own (after ks g)) s ≡ true → (ks s ≡ true) ⊎ ((is_own own s || opens g s) ≡ true)) → (ks s ≡ true) ⊎ ((is_own own s || (opens g s || fields_opens fs s)) ≡ true)
        by (inr k) f = inr (or_right (is_own own s) (opens g s || fields_opens fs s) (or_right (opens g s) (fields_opens fs s) k))
        by (inl k) f = more (f k)
          where
            more : (ks s ≡ true) ⊎ ((is_own own s || opens g s) ≡ true) → (ks s ≡ true) ⊎ ((is_own own s || (opens g s || fields_opens fs s)) ≡ true)
            more (inl m) = inl m
            more (inr m) = inr (join (is_own own s) (opens g s) (fields_opens fs s) m)
              where
                join : (a b c : Bool) → (a || b) ≡ true → (a || (b || c)) ≡ true
                join true b c h = refl
                join false true c h = refl
                join false false c h = cc
    fields_within (inserted name g (Some t) fs) ks s h = by (fields_within fs (with_slot t ks) s h)
      where
        by : (with_slot t ks s ≡ true) ⊎ (fields_opens fs s ≡ true) → (ks s ≡ true) ⊎ ((nat_eq t s || fields_opens fs s) ≡ true)
        by (inr k) = inr (or_right (nat_eq t s) (fields_opens fs s) k)
        by (inl k) = more (or_either (nat_eq t s) (ks s) k)
          where
            more : (nat_eq t s ≡ true) ⊎ (ks s ≡ true) → (ks s ≡ true) ⊎ ((nat_eq t s || fields_opens fs s) ≡ true)
            more (inl m) = inr (or_left (nat_eq t s) (fields_opens fs s) m)
            more (inr m) = inl m
    fields_within (inserted name g None fs) ks s h = fields_within fs ks s h

  -- Parts that move.

  pub rule_moves : (rule : SizeRule) (ks : Known) → RuleIn ks rule → (env env' : Env) → Agree ks env env' → (n at : ℕ) (bs : List Bool) → RulePart rule env n at bs → RulePart rule env' n at bs
  rule_moves (Prefix low width) ks known env env' a n at bs t = t
  rule_moves (Slot s) ks known env env' a n at bs t = (sym (a s known) ∙ t.0, t.1)
  rule_moves (Ended p) ks known env env' a n at bs t = t

  pub size_moves : (sizing : Sizing) (ks : Known) → RuleIn ks sizing.rule → (env env' : Env) → Agree ks env env' → (n at : ℕ) (bs : List Bool) → SizePart sizing env n at bs → SizePart sizing env' n at bs
  size_moves sizing ks known env env' a n at bs t = record { given = t.given; spelled = rule_moves sizing.rule ks known env env' a n at bs t.spelled }

  text_moves : (end : Option (List Bool)) (leaf : TextLeaf) (ks : Known) → RuleIn ks leaf.sized.rule → (env env' : Env) → Agree ks env env' → (cs : List ℕ) (at : ℕ) (bs : List Bool) → EndedPart end leaf env cs at bs → EndedPart end leaf env' cs at bs
  text_moves None leaf ks known env env' a cs at bs t = record { front = t.front; back = t.back; whole = t.whole; first = size_moves leaf.sized ks known env env' a (length cs) at t.front t.first; second = t.second }
  text_moves (Some end) leaf ks known env env' a cs at bs t = t

  pub run_moves : (each other : Data → Part) → ((d : Data) (at : ℕ) (bs : List Bool) → each d at bs → other d at bs) → (es : Elements) (at : ℕ) (bs : List Bool) → RunPart each es at bs → RunPart other es at bs
  run_moves each other h no_elements at bs t = t
  run_moves each other h (element d es) at bs t =
      record { front = t.front; back = t.back; whole = t.whole; first = h d at t.front t.first; second = run_moves each other h es (at + length t.front) t.back t.second }

  list_moves : (end : Option (List Bool)) (sizing : Sizing) (ks : Known) → RuleIn ks sizing.rule → (env env' : Env) → Agree ks env env' → (each other : Data → Part) → ((d : Data) (at : ℕ) (bs : List Bool) → each d at bs → other d at bs) → (es : Elements) (at : ℕ) (bs : List Bool)
      → ListPart end sizing env each es at bs → ListPart end sizing env' other es at bs
  list_moves None sizing ks known env env' a each other h es at bs t =
      record { front = t.front; back = t.back; whole = t.whole; first = size_moves sizing ks known env env' a (element_count es) at t.front t.first; second = run_moves each other h es (at + length t.front) t.back t.second }
  list_moves (Some p) sizing ks known env env' a each other h es at bs t =
      let u = t.spelled in
      record { given = t.given; spelled = record { front = u.front; back = u.back; whole = u.whole; first = run_moves each other h es at u.front u.first; second = u.second } }

  pub there_moves : (presence : Presence) (ks : Known) → PresenceIn ks presence → (env env' : Env) → Agree ks env env' → MayBeThere env presence → MayBeThere env' presence
  there_moves Always ks known env env' a h = tt
  there_moves Bit ks known env env' a h = tt
  there_moves (When ts) ks known env env' a h = all_hold_too ks env' env (agree_back ks env env' a) ts known h

  pub away_moves : (presence : Presence) (ks : Known) → PresenceIn ks presence → (env env' : Env) → Agree ks env env' → MayBeAway env presence → MayBeAway env' presence
  away_moves Always ks known env env' a h = absurd h
  away_moves Bit ks known env env' a h = tt
  away_moves (When ts) ks known env env' a h = λ k. h (all_hold_too ks env env' a ts known k)

  pub own_moves : (own : Option ℕ) (env env' : Env) (d : Data) → Agree (is_own own) env env' → Carries env own d → Carries env' own d
  own_moves None env env' d a h = tt
  own_moves (Some s) env env' d a h = sym (a s (self_eq s)) ∙ h

  slot_moves : (g : Grammar) (env env' : Env) (s : ℕ) → at_slot env s ≡ at_slot env' s → (at : ℕ) (bs : List Bool) → SlotField root Any g env s at bs → SlotField root Any g env' s at bs
  slot_moves (node align (num leaf)) env env' s e at bs t = (t.0, sym e ∙ t.1, t.2)
  slot_moves (node align _) env env' s e at bs t = absurd t.0

  pub chosen_moves : (rule : ChoiceRule) (ks : Known) (env env' : Env) → Agree ks env env' → (name : List ℕ) (ts : List Test) → RuleKnown ks rule ts → Chosen root rule env name ts → Chosen root rule env' name ts
  chosen_moves (Index width) ks env env' a name ts known h = tt
  chosen_moves Tests ks env env' a name ts known h = all_hold_too ks env' env (agree_back ks env env' a) ts known h
  chosen_moves (Item s) ks env env' a name ts known h = (h.0, h.1, sym (a s known) ∙ h.2, h.3)

  -- what each alternative's choice uses is known
  abbrev pub CasesKnown : Known → ChoiceRule → Alternatives → Type 0
  CasesKnown ks rule no_alternatives = Unit {0}
  CasesKnown ks rule (alternative name g tests more) = RuleKnown ks rule tests × CasesKnown ks rule more

  tests_known : (ks : Known) (cases : Alternatives) → ((i : ℕ) → TestsIn ks (tests_at cases i)) → CasesKnown ks Tests cases
  tests_known ks no_alternatives h = tt
  tests_known ks (alternative name g ts more) h = (h 0, tests_known ks more (λ i. h (suc i)))

  item_known : (ks : Known) (s : ℕ) (cases : Alternatives) → ks s ≡ true → CasesKnown ks (Item s) cases
  item_known ks s no_alternatives h = tt
  item_known ks s (alternative name g ts more) h = (h, item_known ks s more h)

  index_known : (ks : Known) (width : ℕ) (cases : Alternatives) → CasesKnown ks (Index width) cases
  index_known ks width no_alternatives = tt
  index_known ks width (alternative name g ts more) = (tt, index_known ks width more)

  pub cases_known : (ks : Known) (cases : Alternatives) (rule : ChoiceRule) → FormScoped root ks (choice cases rule) → CasesKnown ks rule cases × AlternativesScoped root ks cases
  cases_known ks cases (Index width) fine = (index_known ks width cases, fine)
  cases_known ks cases Tests fine = (tests_known ks cases fine.1, fine.0)
  cases_known ks cases (Item s) fine = (item_known ks s cases fine.1, fine.0)

  shut_agree : (g : Grammar) (env env' : Env) → Shut g → Agree (opens g) env env'
  shut_agree g env env' shut s h = (let n = shut s in cc)

  -- what is known behind a component agrees
  pub component_agree : (presence : Presence) (own : Option ℕ) (g : Grammar) (fs : Fields) (ks : Known) (env env' : Env) → Agree ks env env' → Agree (λ s. is_own own s || (opens g s || fields_opens fs s)) env env' → Agree (choose_known presence ks (with_own own (after ks g))) env env'
  component_agree presence own g fs ks env env' a b s h = by (chosen_within presence own g ks s (after_within g ks s) h)
    where
      join : (x y z : Bool) → (x || y) ≡ true → (x || (y || z)) ≡ true
      join true y z h = refl
      join false true z h = refl
      join false false z h = cc

      by : (ks s ≡ true) ⊎ ((is_own own s || opens g s) ≡ true) → at_slot env s ≡ at_slot env' s
      by (inl k) = a s k
      by (inr k) = b s (join (is_own own s) (opens g s) (fields_opens fs s) k)

  mutual
    pub spell_moves : (g : Grammar) (keys ks : Known) → Laid keys g → Scoped root ks g → (env env' : Env) → Agree ks env env' → Agree (opens g) env env' → (d : Data) (at : ℕ) (bs : List Bool) → Spell root Any g env d at bs → Spell root Any g env' d at bs
    spell_moves (node align form) keys ks laid fine env env' a b d at bs t =
        record { front = t.front; back = t.back; whole = t.whole; first = t.first; second = form_moves form keys ks laid fine env env' a b d (at + length t.front) t.back t.second }

    form_moves : (form : Form) (keys ks : Known) → FormLaid keys form → FormScoped root ks form → (env env' : Env) → Agree ks env env' → Agree (form_opens form) env env' → (d : Data) (at : ℕ) (bs : List Bool) → FormPart root Any form env d at bs → FormPart root Any form env' d at bs
    form_moves (num leaf) keys ks laid fine env env' a b d at bs t = t
    form_moves (octets sizing) keys ks laid fine env env' a b (octet_string os) at bs t =
        record { front = t.front; back = t.back; whole = t.whole; first = size_moves sizing ks fine env env' a (length os) at t.front t.first; second = t.second }
    form_moves (bits sizing) keys ks laid fine env env' a b (bit_string cs) at bs t =
        record { front = t.front; back = t.back; whole = t.whole; first = size_moves sizing ks fine env env' a (length cs) at t.front t.first; second = t.second }
    form_moves (text leaf) keys ks laid fine env env' a b (characters cs) at bs t = text_moves leaf.ended leaf ks fine.0 env env' a cs at bs t
    form_moves (seq fields home) keys ks laid fine env env' a b (record_of ps) at bs t =
        let u = t.spelled in
        record {
          numbers = t.numbers;
          fine = t.fine;
          spelled = record {
            front = u.front;
            back = u.back;
            whole = u.whole;
            first = u.first;
            second = fields_move fields (λ s. holds home s || keys s) ks laid.0 fine.1 (with_home home t.numbers env) (with_home home t.numbers env') (agree_inside ks home t.numbers t.numbers env env' fine.0 a)
                (λ s h. home_moves home t.numbers env env' s (t.fine).count (λ n. b s (both_true (fields_opens fields s) (holds home s) h n))) ps (at + length u.front) u.back u.second;
          };
        }
    form_moves (list sizing g) keys ks laid fine env env' a b (list_of es) at bs t =
        list_moves (ending sizing.rule) sizing ks fine.0 env env' a (Spell root Any g env) (Spell root Any g env') (λ d at' cs h. spell_moves g keys ks laid.0 fine.1 env env' a (shut_agree g env env' laid.1) d at' cs h) es at bs t
    form_moves (choice cases rule) keys ks laid fine env env' a b (alt i d) at bs t =
        let k = cases_known ks cases rule fine in
        record { front = t.front; back = t.back; whole = t.whole; first = t.first; second = case_moves cases keys ks laid rule k.0 k.1 env env' a i d (at + length t.front) t.back t.second }
    form_moves (contained sizing g) keys ks laid fine env env' a b d at bs t =
        let u = t.spelled in
        let w = u.second in
        let v = w.inside in
        record {
          some = t.some;
          spelled = record {
            front = u.front;
            back = u.back;
            whole = u.whole;
            first = size_moves sizing ks fine.0 env env' a t.some at u.front u.first;
            second = record { size = w.size; inside = record { front = v.front; back = v.back; whole = v.whole; first = spell_moves g keys ks laid.0 fine.1 env env' a (shut_agree g env env' laid.1) d 0 v.front v.first; second = v.second } };
          };
        }
    form_moves _ keys ks laid fine env env' a b d at bs t = absurd t.0

    pub fields_move : (fs : Fields) (keys ks : Known) → FieldsLaid keys fs → FieldsScoped root ks fs → (env env' : Env) → Agree ks env env' → Agree (fields_opens fs) env env' → (ps : Places) (at : ℕ) (bs : List Bool) → FieldsPart root Any fs env ps at bs → FieldsPart root Any fs env' ps at bs
    fields_move no_fields keys ks laid fine env env' a b no_places at bs t = t
    fields_move (component name g presence default own fs) keys ks laid fine env env' a b (filled d ps) at bs t =
        let u = t.first in
        record {
          front = t.front;
          back = t.back;
          whole = t.whole;
          first = record {
            given = (there_moves presence ks fine.0 env env' a u.given.0, own_moves own env env' d (λ s h. b s (or_left (is_own own s) (opens g s || fields_opens fs s) h)) u.given.1);
            spelled = spell_moves g keys ks laid.0 fine.1 env env' a (λ s h. b s (or_right (is_own own s) (opens g s || fields_opens fs s) (or_left (opens g s) (fields_opens fs s) h))) d at t.front u.spelled;
          };
          second = fields_move fs keys (choose_known presence ks (with_own own (after ks g))) laid.4 fine.2 env env' (component_agree presence own g fs ks env env' a b)
              (λ s h. b s (or_right (is_own own s) (opens g s || fields_opens fs s) (or_right (opens g s) (fields_opens fs s) h))) ps (at + length t.front) t.back t.second;
        }
    fields_move (component name g presence default own fs) keys ks laid fine env env' a b (empty ps) at bs t =
        record {
          given = away_moves presence ks fine.0 env env' a t.given;
          spelled = fields_move fs keys (choose_known presence ks (with_own own (after ks g))) laid.4 fine.2 env env' (component_agree presence own g fs ks env env' a b)
              (λ s h. b s (or_right (is_own own s) (opens g s || fields_opens fs s) (or_right (opens g s) (fields_opens fs s) h))) ps at bs t.spelled;
        }
    fields_move (inserted name g (Some s) fs) keys ks laid fine env env' a b ps at bs t =
        record {
          front = t.front;
          back = t.back;
          whole = t.whole;
          first = slot_moves g env env' s (b s (or_left (nat_eq s s) (fields_opens fs s) (self_eq s))) at t.front t.first;
          second = fields_move fs keys (with_slot s ks) laid.2 fine.1 env env' (λ u h. either_agree (or_either (nat_eq s u) (ks u) h) u) (λ u h. b u (or_right (nat_eq s u) (fields_opens fs u) h)) ps (at + length t.front) t.back t.second;
        }
      where
        either_agree : {u : ℕ} → (nat_eq s u ≡ true) ⊎ (ks u ≡ true) → (v : ℕ) → at_slot env u ≡ at_slot env' u
        either_agree {u} (inl h) v = b u (or_left (nat_eq s u) (fields_opens fs u) h)
        either_agree {u} (inr h) v = a u h
    fields_move (inserted name g None fs) keys ks laid fine env env' a b ps at bs t =
        record {
          front = t.front;
          back = t.back;
          whole = t.whole;
          first = spell_moves g keys ks laid.0 fine.0 env env' a (shut_agree g env env' laid.1) null at t.front t.first;
          second = fields_move fs keys ks laid.3 fine.1 env env' a b ps (at + length t.front) t.back t.second;
        }
    fields_move _ keys ks laid fine env env' a b ps at bs t = absurd t.0

    case_moves : (cases : Alternatives) (keys ks : Known) → CasesLaid keys cases → (rule : ChoiceRule) → CasesKnown ks rule cases → AlternativesScoped root ks cases → (env env' : Env) → Agree ks env env' → (i : ℕ) (d : Data) (at : ℕ) (bs : List Bool) → AlternativePart root Any cases rule env i d at bs → AlternativePart root Any cases rule env' i d at bs
    case_moves (alternative name g tests more) keys ks laid rule known fine env env' a zero d at bs t =
        record { given = chosen_moves rule ks env env' a name tests known.0 t.given; spelled = spell_moves g keys ks laid.0 fine.0 env env' a (shut_agree g env env' laid.1) d at bs t.spelled }
    case_moves (alternative name g tests more) keys ks laid rule known fine env env' a (suc i) d at bs t = case_moves more keys ks laid.2 rule known.1 fine.1 env env' a i d at bs t
    case_moves no_alternatives keys ks laid rule known fine env env' a i d at bs t = absurd t.0
