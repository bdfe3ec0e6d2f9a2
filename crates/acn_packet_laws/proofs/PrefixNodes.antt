-- No spelling of a node begins another, from laws of the leaves.
use Rattle.std.proofs.Common.{◌≡◌, ℕ, zero, suc, ◌+◌, ◌-◌, ◌<◌, ℤ, pos, Bool, true, false, List, [], ◌∷◌, ◌++◌, length, Option, Some, None, refl, sym, ap, ◌∙◌, arith, nat_eq, ◌||◌, ◌&&◌, not, IsTrue, ◌*◌}
use Rattle.std.proofs.lemmas.Bool.{not-true, or_parts, and_parts, eqb-true}
use Rattle.std.specs.Prelude.{slice_get}
use Rattle.std.specs.List.{list_any, zip, AllByRecursion}
use Rattle.acn_num.specs.Ranges.{In}
use Rattle.acn_grammar.specs.Asks.{same_name}
use Rattle.acn_grammar.specs.Leaves.{all_differ}
use Rattle.acn_grammar.specs.Fails.{count_of}
use Rattle.acn_grammar.specs.Slots.{items_of, domain_of}
use Rattle.acn_grammar.specs.Scoped.{Known, with_slot, Agree, TestIn, TestsIn, PresenceIn, RuleIn, Apart, FineField, choose_known, with_own, EndTold, after, form_after, fields_after, tests_at, names_of, Permitted, Scoped, FormScoped, FieldsScoped, AlternativesScoped}
use Rattle.acn_grammar.specs.Tree.{holds}
use Rattle.acn_grammar.proofs.FineLeaves.{lawful}
use Rattle.acn_grammar.proofs.Texts.{text_law, given_law}
use Rattle.acn_grammar.specs.Grammar.{Grammar, Form, Fields, Alternatives, Data, Places, Elements, node, num, octets, bits, text, seq, list, choice, contained, no_fields, component, inserted, no_alternatives, alternative, int, boolean, item, null, octet_string, bit_string, characters, record_of, list_of, alt, no_places, empty, filled, no_elements, element, element_count}
use Rattle.acn_grammar.specs.Code.{Any, NumberOf}
use Rattle.acn_grammar.specs.Env.{Env, at_slot, Holds, AllHold, MayBeThere, MayBeAway}
use Rattle.acn_grammar.specs.Length.{presence_bits, bit_before, number_of, ending}
use Rattle.acn_grammar.specs.Spell.{Part, Where, Exactly, Carries, ListPart, Spell, FormPart, FieldsPart, SlotField, with_home, RulePart, RunPart, Window, Fill, AlternativePart}
use Rattle.acn_grammar.specs.declared.node.NumKind.{NumKind}
use Rattle.acn_grammar.specs.declared.node.NumKind.TheVariants.{Integer, Boolean, Enumerated, Null}
use Rattle.acn_grammar.specs.declared.node.Presence.{Presence}
use Rattle.acn_grammar.specs.declared.node.Presence.TheVariants.{Always, Bit, When}
use Rattle.acn_grammar.specs.declared.node.Test.{Test}
use Rattle.acn_grammar.specs.declared.node.Test.TheVariants.{Flag, Equals}
use Rattle.acn_grammar.specs.declared.node.Sizing.{Sizing}
use Rattle.acn_grammar.specs.declared.node.SizeRule.{SizeRule}
use Rattle.acn_grammar.specs.declared.node.SizeRule.TheVariants.{Prefix, Slot, Ended}
use Rattle.acn_grammar.specs.declared.node.ChoiceRule.{ChoiceRule}
use Rattle.acn_grammar.specs.declared.node.ChoiceRule.TheVariants.{Index, Tests, Item}
use Rattle.acn_grammar.specs.Shaped.{are_octets}
use Rattle.acn_grammar.proofs.Octets.{bits_one}
use Rattle.acn_grammar.proofs.SpellLength.{bits-length}
use Rattle.acn_packet_laws.proofs.EndedLists.{ended_law}
use Rattle.acn_packet_laws.proofs.Leads.{not_begun}
use Rattle.acn_grammar.proofs.Prefix.{Law, then_law, padding_law, same_front, number_law}
use Rattle.acn_grammar.proofs.Characters.{same_name-refl}

law_map : {P Q : Part} {F G : Type 0} → (F → G) → Law P Q F → Law P Q G
law_map h law at a b r s p q e = let x = law at a b r s p q e in (x.0, h x.1)

-- names that differ tell their places
no_other_name : (n : List ℕ) (ns : List (List ℕ)) (j : ℕ) → list_any (same_name n) ns ≡ false → slice_get ns j ≡ Some n → ⊥
no_other_name n [] j h e = cc
no_other_name n (m ∷ ns) zero h e =
    let f = (or_parts (same_name n m) (list_any (same_name n) ns) h).0 in
    let is : m ≡ n = cc in
    let t : same_name n m ≡ true = rw is (same_name-refl n) in
    cc
no_other_name n (m ∷ ns) (suc j) h e = no_other_name n ns j (or_parts (same_name n m) (list_any (same_name n) ns) h).1 e

pub names_one : (ns : List (List ℕ)) (i j : ℕ) (n : List ℕ) → all_differ same_name ns ≡ true → slice_get ns i ≡ Some n → slice_get ns j ≡ Some n → i ≡ j
names_one [] i j n h p q = cc
names_one (m ∷ ns) zero zero n h p q = refl
names_one (m ∷ ns) zero (suc j) n h p q =
    let f = and_parts (not (list_any (same_name m) ns)) (all_differ same_name ns) h in
    absurd (no_other_name m ns j (not-true (list_any (same_name m) ns) f.0) (q ∙ sym p))
names_one (m ∷ ns) (suc i) zero n h p q =
    let f = and_parts (not (list_any (same_name m) ns)) (all_differ same_name ns) h in
    absurd (no_other_name m ns i (not-true (list_any (same_name m) ns) f.0) (p ∙ sym q))
names_one (m ∷ ns) (suc i) (suc j) n h p q =
    let f = and_parts (not (list_any (same_name m) ns)) (all_differ same_name ns) h in
    ap suc (names_one ns i j n f.1 p q)

holds_true : (b : Bool) → IsTrue b → b ≡ true
holds_true b h = h

same_int : (y : ℤ) (d : Data) (x : ℤ) → x ≡ y → NumberOf Integer d x → int y ≡ d
same_int y (int z) x p q = cc
same_int y _ x p q = absurd q

same_bool : (b : Bool) (d : Data) (x : ℤ) → NumberOf Boolean (boolean b) x → NumberOf Boolean d x → boolean b ≡ d
same_bool true (boolean true) x p q = refl
same_bool true (boolean false) x p q = cc
same_bool false (boolean true) x p q = cc
same_bool false (boolean false) x p q = refl
same_bool true _ x p q = absurd q
same_bool false _ x p q = absurd q

same_item : (i : ℕ) (d : Data) (x : ℤ) → x ≡ pos i → NumberOf Enumerated d x → item i ≡ d
same_item i (item j) x p q = cc
same_item i _ x p q = absurd q

same_null : (d : Data) (x : ℤ) → NumberOf Null d x → null ≡ d
same_null null x q = refl
same_null _ x q = absurd q

same_value : (k : NumKind) (d d' : Data) (x : ℤ) → NumberOf k d x → NumberOf k d' x → d ≡ d'
same_value Integer (int y) d x p q = same_int y d x p q
same_value Boolean (boolean b) d x p q = same_bool b d x p q
same_value Enumerated (item i) d x p q = same_item i d x p q
same_value Null null d x p q = same_null d x q
same_value _ _ d x p q = absurd p

-- Conditions on known slots hold in both envs or in neither.

pub holds_too : (ks : Known) (env env' : Env) → Agree ks env env' → (t : Test) → TestIn ks t → Holds env' t → Holds env t
holds_too ks env env' same (Flag s) known h = same s known ∙ h
holds_too ks env env' same (Equals s k) known h = same s known ∙ h

pub all_hold_too : (ks : Known) (env env' : Env) → Agree ks env env' → (ts : List Test) → TestsIn ks ts → AllHold env' ts → AllHold env ts
all_hold_too ks env env' same [] known h = tt
all_hold_too ks env env' same (t ∷ ts) known h = (holds_too ks env env' same t known.0 h.0, all_hold_too ks env env' same ts known.1 h.1)

pub agree_back : (ks : Known) (env env' : Env) → Agree ks env env' → Agree ks env' env
agree_back ks env env' same s h = sym (same s h)

-- A component is there in both or in neither, by its bit or its conditions.
there_and_away : (ks : Known) (env env' : Env) → Agree ks env env' → (presence : Presence) → PresenceIn ks presence → (fs gs : List Bool) → bit_before presence true fs ≡ bit_before presence false gs → MayBeThere env presence → MayBeAway env' presence → ⊥
there_and_away ks env env' same Always known fs gs e there away = away
there_and_away ks env env' same Bit known fs gs e there away = cc
there_and_away ks env env' same (When ts) known fs gs e there away = away (all_hold_too ks env' env (agree_back ks env env' same) ts known there)

bits_behind : (presence : Presence) (b : Bool) (fs gs : List Bool) → bit_before presence b fs ≡ bit_before presence b gs → fs ≡ gs
bits_behind Always b fs gs e = e
bits_behind Bit b fs gs e = cc
bits_behind (When ts) b fs gs e = e

or_rest : (a b : Bool) → a ≡ false → (a || b) ≡ true → b ≡ true
or_rest true b e h = cc
or_rest false b e h = h

pub agree_more : (ks : Known) (env env' : Env) (s : ℕ) (x : ℤ) → Agree ks env env' → at_slot env s ≡ Some x → at_slot env' s ≡ Some x → Agree (with_slot s ks) env env'
agree_more ks env env' s x same p q t h = go (nat_eq s t) refl
  where
    go : (b : Bool) → nat_eq s t ≡ b → at_slot env t ≡ at_slot env' t
    go true e = let is : s ≡ t = eqb-true s t e in rw (← is) (p ∙ sym q)
    go false e = same t (or_rest (nat_eq s t) (ks t) e h)

-- An env that a SEQUENCE extends keeps what was known.
extended : (home : List ℕ) (xs : List ℤ) (env : Env) (s : ℕ) → holds home s ≡ false → at_slot (with_home home xs env) s ≡ at_slot env s
extended [] xs env s h = refl
extended (k ∷ home) [] env s h = refl
extended (k ∷ home) (x ∷ xs) env s h =
    let n = or_parts (nat_eq k s) (holds home s) h in rw n.0 (extended home xs env s n.1)

pub agree_inside : (ks : Known) (home : List ℕ) (xs ys : List ℤ) (env env' : Env) → Apart ks home → Agree ks env env' → Agree ks (with_home home xs env) (with_home home ys env')
agree_inside ks home xs ys env env' apart same s h =
    extended home xs env s (apart s h) ∙ (same s h ∙ sym (extended home ys env' s (apart s h)))

record_is : (ps qs : Places) → ps ≡ qs → record_of ps ≡ record_of qs
record_is ps qs e = ap record_of e

abbrev pub flag_count : Fields → ℕ
flag_count no_fields = 0
flag_count (component name g presence default own fs) = length (bit_before presence true []) + flag_count fs
flag_count (inserted name g slot fs) = flag_count fs

one_bit : (presence : Presence) (b : Bool) (fs : List Bool) → length (bit_before presence b fs) ≡ length (bit_before presence true []) + length fs
one_bit Always b fs = omega arith
one_bit Bit b fs = omega arith
one_bit (When ts) b fs = omega arith

-- the bits at the front have one length, whatever the places
pub flags-count : (root : Grammar) (fs : Fields) (env : Env) (ps : Places) (at : ℕ) (bs : List Bool) → FieldsPart root Any fs env ps at bs → length (presence_bits fs ps) ≡ flag_count fs
flags-count root no_fields env no_places at bs t = refl
flags-count root (component name g presence default own fs) env (filled d ps) at bs t = one_bit presence true _ ∙ ap (λ n. length (bit_before presence true []) + n) (flags-count root fs env ps _ _ t.second)
flags-count root (component name g presence default own fs) env (empty ps) at bs t = one_bit presence false _ ∙ ap (λ n. length (bit_before presence true []) + n) (flags-count root fs env ps at bs t.spelled)
flags-count root (inserted name g (Some s) fs) env ps at bs t = flags-count root fs env ps _ _ t.second
flags-count root (inserted name g None fs) env ps at bs t = flags-count root fs env ps _ _ t.second
flags-count root _ env ps at bs t = absurd t.0

flags_law : (fs : Fields) (ps qs : Places) → length (presence_bits fs ps) ≡ length (presence_bits fs qs) → Law (Exactly (presence_bits fs ps)) (Exactly (presence_bits fs qs)) (presence_bits fs ps ≡ presence_bits fs qs)
flags_law fs ps qs l at a b r s p q e =
    let h = (same_front a b r s (ap length p ∙ (l ∙ sym (ap length q))) e).0 in
    (h, sym p ∙ (h ∙ q))

module _ (root : Grammar) where
  pub slot_law : (g : Grammar) → FineField g → (ks : Known) (env env' : Env) (s : ℕ) → Agree ks env env' → Law (SlotField root Any g env s) (SlotField root Any g env' s) (Agree (with_slot s ks) env env')
  slot_law (node align (num leaf)) fine ks env env' s same at a b r z p q e =
      let one = then_law (Unit {0}) (p.0 ≡ q.0) (padding_law Any align) (λ _ at' c d r' z' t u e'.
      let l = lawful leaf fine in
      let h = l.codes t.image u.image at' c d r' z' t.spelled u.spelled e' in
      (h.0, l.images p.0 q.0 u.image t.permitted u.permitted (t.maps ∙ ap Some h.1) u.maps)) at a b r z p.2 q.2 e in
      (one.0, agree_more ks env env' s p.0 same p.1 (q.1 ∙ ap Some (sym one.1.1)))
  slot_law (node align _) fine ks env env' s same at a b r z p q e = absurd fine

  pub rule_law : (rule : SizeRule) (ks : Known) → RuleIn ks rule → (env env' : Env) → Agree ks env env' → (m n : ℕ) → Law (RulePart rule env m) (RulePart rule env' n) (m ≡ n)
  rule_law (Prefix low width) ks known env env' same m n at a b r s p q e =
      let h = number_law width (m - low) (n - low) a b r s p.spelled q.spelled e in
      let k = h.1 in
      let over = p.given in
      let above = q.given in
      (h.0, omega arith)
  rule_law (Ended end) ks known env env' same m n at a b r s p q e = absurd p.0
  rule_law (Slot t) ks known env env' same m n at a b r s p q e =
      let one = same t known in
      let two = p.0 in
      let three = q.0 in
      (p.1 ∙ sym q.1, cc)

  pub run_law : (each other : Data → Part) → ((d d' : Data) → Law (each d) (other d') (d ≡ d')) → (es fs : Elements) → element_count es ≡ element_count fs → Law (RunPart each es) (RunPart other fs) (es ≡ fs)
  run_law each other h no_elements no_elements n at a b r s p q e = (p ∙ sym q, refl)
  run_law each other h no_elements (element d fs) n at a b r s p q e = cc
  run_law each other h (element d es) no_elements n at a b r s p q e = cc
  run_law each other h (element d es) (element d' fs) n at a b r s p q e =
      let one = then_law (d ≡ d') (es ≡ fs) (h d d') (λ _. run_law each other h es fs cc) at a b r s p q e in
      let first = one.1.0 in
      let rest = one.1.1 in
      (one.0, cc)

  -- a component that says a slot's number tells it
  own_agree : (own : Option ℕ) (ks : Known) (env env' : Env) (d d' : Data) → Carries env own d → Carries env' own d' → d ≡ d' → Agree ks env env' → Agree (with_own own ks) env env'
  own_agree None ks env env' d d' p q e same = same
  own_agree (Some s) ks env env' d d' p q e same = agree_more ks env env' s (number_of d) same p (q ∙ ap (λ x. Some (number_of x)) (sym e))

  pub own_law : {P Q : Part} {A B : Type 0} (own : Option ℕ) (ks : Known) (env env' : Env) (d d' : Data) → (A → Carries env own d) → (B → Carries env' own d')
      → Law P Q ((d ≡ d') × Agree ks env env') → Law (Where A P) (Where B Q) ((d ≡ d') × Agree (with_own own ks) env env')
  own_law own ks env env' d d' f g law at a b r s p q e =
      let h = law at a b r s p.spelled q.spelled e in
      (h.0, (h.1.0, own_agree own ks env env' d d' (f p.given) (g q.given) h.1.0 h.1.1))

  -- a list with a size in front, or with a pattern behind that no element begins with
  list_law : (end : Option (List Bool)) (sizing : Sizing) (g : Grammar) (ks : Known) → RuleIn ks sizing.rule → EndTold end sizing.sizes g → Scoped root ks g → (env env' : Env) → Agree ks env env' → ((d d' : Data) → Law (Spell root Any g env d) (Spell root Any g env' d') (d ≡ d'))
      → (es fs : Elements) → Law (ListPart end sizing env (Spell root Any g env) es) (ListPart end sizing env' (Spell root Any g env') fs) (es ≡ fs)
  list_law None sizing g ks known told fine env env' same law es fs at a b r s p q e =
      let one = then_law (element_count es ≡ element_count fs) (es ≡ fs) (given_law (λ _ _. rule_law sizing.rule ks known env env' same (element_count es) (element_count fs)))
      (run_law (Spell root Any g env) (Spell root Any g env') law es fs) at a b r s p q e in
      (one.0, one.1.1)
  list_law (Some end) sizing g ks known told fine env env' same law es fs at a b r s p q e =
      ended_law end (Spell root Any g env) (Spell root Any g env') law (λ d at' bs t z. not_begun root end g ks fine told.told env d at' bs t z) (λ d at' bs t z. not_begun root end g ks fine told.told env' d at' bs t z) es fs at a b r s p.spelled q.spelled e

  pub window_law : (P Q : Part) (F : Type 0) → Law P Q F → (n : ℕ) → Law (Window P (Fill Any) n) (Window Q (Fill Any) n) F
  window_law P Q F h n at a b r s p q e =
      let same = (same_front a b r s (p.size ∙ sym q.size) e).0 in
      let fronts : p.inside.front ++ p.inside.back ≡ q.inside.front ++ q.inside.back = sym p.inside.whole ∙ (same ∙ q.inside.whole) in
      (same, (h 0 p.inside.front q.inside.front _ _ p.inside.first q.inside.first fronts).1)

  pub after_there : (presence : Presence) (ks more : Known) (env env' : Env) → Agree ks env env' → Agree more env env' → Agree (choose_known presence ks more) env env'
  after_there Always ks more env env' same also = also
  after_there Bit ks more env env' same also = same
  after_there (When ts) ks more env env' same also = same

  pub after_away : (presence : Presence) (ks more : Known) (env env' : Env) → MayBeAway env presence → Agree ks env env' → Agree (choose_known presence ks more) env env'
  after_away Always ks more env env' away same = absurd away
  after_away Bit ks more env env' away same = same
  after_away (When ts) ks more env env' away same = same

  outside : (known : Known) (home : List ℕ) (xs ys : List ℤ) (env env' : Env) → Agree known (with_home home xs env) (with_home home ys env') → Agree (λ s. known s && not (holds home s)) env env'
  outside known home xs ys env env' same s h =
      let both = and_parts (known s) (not (holds home s)) h in
      let apart = not-true (holds home s) both.1 in
      sym (extended home xs env s apart) ∙ (same s both.0 ∙ extended home ys env' s apart)

  -- the conditions of the alternative that is spelled hold
  pub chosen_at : (cases : Alternatives) (env : Env) (i : ℕ) (d : Data) (at : ℕ) (bs : List Bool) → AlternativePart root Any cases Tests env i d at bs → (i < count_of cases) × AllHold env (tests_at cases i)
  chosen_at no_alternatives env i d at bs t = absurd t.0
  chosen_at (alternative name g ts more) env zero d at bs t = (omega arith, t.given)
  chosen_at (alternative name g ts more) env (suc i) d at bs t = let h = chosen_at more env i d at bs t in (omega (arith, h.0), h.1)

  -- the name of the alternative that is spelled is that of the slot's item
  pub item_at : (cases : Alternatives) (s : ℕ) (env : Env) (i : ℕ) (d : Data) (at : ℕ) (bs : List Bool) → AlternativePart root Any cases (Item s) env i d at bs
      → (name : List ℕ) × (k : ℕ) × (x : ℤ) × (slice_get (names_of cases) i ≡ Some name) × (at_slot env s ≡ Some (pos k)) × (slice_get (items_of root s) k ≡ Some (name, x))
  item_at no_alternatives s env i d at bs t = absurd t.0
  item_at (alternative name g ts more) s env zero d at bs t = (name, t.given.0, t.given.1, refl, t.given.2, t.given.3)
  item_at (alternative name g ts more) s env (suc i) d at bs t = item_at more s env i d at bs t

  pub some_one : {A : Type 0} (x y : A) → Some x ≡ Some y → x ≡ y
  some_one x y e = cc

  pub same_item_name : (items : List (List ℕ × ℤ)) (k m : ℕ) (n n' : List ℕ) (x x' : ℤ) (o o' : Option ℤ) → o ≡ o' → o ≡ Some (pos k) → o' ≡ Some (pos m) → slice_get items k ≡ Some (n, x) → slice_get items m ≡ Some (n', x') → n ≡ n'
  same_item_name items k m n n' x x' o o' e p q a b =
      let is : k ≡ m = cc in
      ap (λ e. e.0) (some_one (n, x) (n', x') (sym a ∙ (ap (slice_get items) is ∙ b)))

  pub permitted_home : (home : List ℕ) (xs : List ℤ) (env : Env) → AllByRecursion (λ e. In (domain_of root e.0) e.1) (zip home xs) → Permitted root env → Permitted root (with_home home xs env)
  permitted_home [] xs env p ok = ok
  permitted_home (s ∷ home) [] env p ok = ok
  permitted_home (s ∷ home) (x ∷ xs) env p ok = (p.0, permitted_home home xs env p.1 ok)

  mutual
    pub spell_law : (g : Grammar) (ks : Known) → Scoped root ks g → (env env' : Env) → Permitted root env → Agree ks env env' → (d d' : Data) → Law (Spell root Any g env d) (Spell root Any g env' d') ((d ≡ d') × Agree (after ks g) env env')
    spell_law (node align form) ks fine env env' ok same d d' =
        law_map (λ h. h.1) (then_law (Unit {0}) ((d ≡ d') × Agree (form_after ks form) env env') (padding_law Any align) (λ _. form_law form ks fine env env' ok same d d'))

    form_law : (form : Form) (ks : Known) → FormScoped root ks form → (env env' : Env) → Permitted root env → Agree ks env env' → (d d' : Data) → Law (FormPart root Any form env d) (FormPart root Any form env' d') ((d ≡ d') × Agree (form_after ks form) env env')
    form_law (num leaf) ks fine env env' ok same d d' at a b r s p q e =
        let l = lawful leaf fine in
        let h = l.codes p.2.image q.2.image at a b r s p.2.spelled q.2.spelled e in
        let is : p.0 ≡ q.0 = l.images p.0 q.0 q.2.image p.2.permitted q.2.permitted (p.2.maps ∙ ap Some h.1) q.2.maps in
        (h.0, (same_value leaf.kind d d' p.0 p.1 (rw is q.1), same))
    form_law (octets sizing) ks fine env env' ok same (octet_string cs) (octet_string ds) at a b r s p q e =
        let one = then_law (length cs ≡ length ds) (cs ≡ ds) (given_law (λ _ _. rule_law sizing.rule ks fine env env' same (length cs) (length ds)))
        (λ n. given_law (λ f g' at' c d r' s' t u e'.
        let l : length c ≡ length d = ap length t ∙ (bits-length cs ∙ (ap (λ k. 8 * k) n ∙ sym (ap length u ∙ bits-length ds))) in
        let h = (same_front c d r' s' l e').0 in
        (h, bits_one cs ds (holds_true (are_octets cs) f) (holds_true (are_octets ds) g') n (sym t ∙ (h ∙ u))))) at a b r s p q e in
        (one.0, (ap octet_string one.1.1, same))
    form_law (octets sizing) ks fine env env' ok same (octet_string cs) _ at a b r s p q e = absurd q.0
    form_law (octets sizing) ks fine env env' ok same _ d' at a b r s p q e = absurd p.0
    form_law (bits sizing) ks fine env env' ok same (bit_string cs) (bit_string ds) at a b r s p q e =
        let one = then_law (length cs ≡ length ds) (cs ≡ ds) (given_law (λ _ _. rule_law sizing.rule ks fine env env' same (length cs) (length ds)))
        (λ n at' c d r' s' t u e'. let h = (same_front c d r' s' (ap length t ∙ (n ∙ sym (ap length u))) e').0 in (h, sym t ∙ (h ∙ u))) at a b r s p q e in
        (one.0, (ap bit_string one.1.1, same))
    form_law (bits sizing) ks fine env env' ok same (bit_string cs) _ at a b r s p q e = absurd q.0
    form_law (bits sizing) ks fine env env' ok same _ d' at a b r s p q e = absurd p.0
    form_law (text leaf) ks fine env env' ok same (characters cs) (characters ds) at a b r s p q e =
        let one = text_law leaf fine.1 env env' cs ds (rule_law leaf.sized.rule ks fine.0 env env' same (length cs) (length ds)) at a b r s p q e in
        (one.0, (ap characters one.1, same))
    form_law (text leaf) ks fine env env' ok same (characters cs) _ at a b r s p q e = absurd q.0
    form_law (text leaf) ks fine env env' ok same _ d' at a b r s p q e = absurd p.0
    form_law (seq fields home) ks fine env env' ok same (record_of ps) (record_of qs) at a b r s p q e =
        let inside = agree_inside ks home p.numbers q.numbers env env' fine.0 same in
        let one = then_law (presence_bits fields ps ≡ presence_bits fields qs) ((ps ≡ qs) × Agree (fields_after ks fields) (with_home home p.numbers env) (with_home home q.numbers env'))
        (flags_law fields ps qs (flags-count root fields _ ps _ _ p.spelled.second ∙ sym (flags-count root fields _ qs _ _ q.spelled.second))) (fields_law fields ks fine.1 _ _ (permitted_home home p.numbers env p.fine.permitted ok) inside ps qs) at a b r s p.spelled q.spelled e in
        (one.0, (ap record_of one.1.1.0, outside (fields_after ks fields) home p.numbers q.numbers env env' one.1.1.1))
    form_law (seq _ home) ks fine env env' ok same (record_of ps) _ at a b r s p q e = absurd q.0
    form_law (seq _ home) ks fine env env' ok same _ d' at a b r s p q e = absurd p.0
    form_law (list sizing g) ks fine env env' ok same (list_of es) (list_of fs) at a b r s p q e =
        let one = list_law (ending sizing.rule) sizing g ks fine.0 fine.2 fine.1 env env' same (λ d d'. law_map (λ h. h.0) (spell_law g ks fine.1 env env' ok same d d')) es fs at a b r s p q e in
        (one.0, (ap list_of one.1, same))
    form_law (list sizing g) ks fine env env' ok same (list_of es) _ at a b r s p q e = absurd q.0
    form_law (list sizing g) ks fine env env' ok same _ d' at a b r s p q e = absurd p.0
    form_law (contained sizing g) ks fine env env' ok same d d' at a b r s p q e =
        let one = then_law (p.some ≡ q.some) (d ≡ d') (given_law (λ _ _. rule_law sizing.rule ks fine.0 env env' same p.some q.some))
        (λ n at' c e' r' s' t u w. window_law (Spell root Any g env d) (Spell root Any g env' d') (d ≡ d') (law_map (λ h. h.0) (spell_law g ks fine.1 env env' ok same d d')) p.some at' c e' r' s' t (rw n u) w) at a b r s p.spelled q.spelled e in
        (one.0, (one.1.1, same))
    form_law (choice cases (Index width)) ks fine env env' ok same (alt i d) (alt j d') at a b r s p q e =
        let one = then_law (i ≡ j) (d ≡ d') (λ at' c f r' s' t u w. number_law width i j c f r' s' t u w)
        (λ n at' c f r' s' t u w. alternative_law cases ks fine (Index width) env env' ok same i d d' at' c f r' s' t (rw n u) w) at a b r s p q e in
        let first = one.1.0 in
        let rest = one.1.1 in
        (one.0, (cc, same))
    form_law (choice cases Tests) ks fine env env' ok same (alt i d) (alt j d') at a b r s p q e =
        let one' = chosen_at cases env i d _ _ p.second in
        let other = chosen_at cases env' j d' _ _ q.second in
        let index : i ≡ j = fine.2 env ok i j one'.0 other.0 one'.1 (all_hold_too ks env env' same (tests_at cases j) (fine.1 j) other.1) in
        let one = then_law (i ≡ j) (d ≡ d') (λ at' c f r' s' t u w. (t ∙ sym u, index))
        (λ n at' c f r' s' t u w. alternative_law cases ks fine.0 Tests env env' ok same i d d' at' c f r' s' t (rw n u) w) at a b r s p q e in
        let rest = one.1.1 in
        (one.0, (cc, same))
    form_law (choice cases (Item t)) ks fine env env' ok same (alt i d) (alt j d') at a b r s p q e =
        let mine = item_at cases t env i d _ _ p.second in
        let other = item_at cases t env' j d' _ _ q.second in
        let name = same_item_name (items_of root t) mine.1 other.1 mine.0 other.0 mine.2 other.2 (at_slot env t) (at_slot env' t) (same t fine.1) mine.4 other.4 mine.5 other.5 in
        let index : i ≡ j = names_one (names_of cases) i j mine.0 fine.2 mine.3 (other.3 ∙ ap Some (sym name)) in
        let one = then_law (i ≡ j) (d ≡ d') (λ at' c f r' s' x u w. (x ∙ sym u, index))
        (λ n at' c f r' s' x u w. alternative_law cases ks fine.0 (Item t) env env' ok same i d d' at' c f r' s' x (rw n u) w) at a b r s p q e in
        let rest = one.1.1 in
        (one.0, (cc, same))
    form_law (choice cases (Item t)) ks fine env env' ok same (alt i d) _ at a b r s p q e = absurd q.0
    form_law (choice cases (Item t)) ks fine env env' ok same _ d' at a b r s p q e = absurd p.0
    form_law (choice cases Tests) ks fine env env' ok same (alt i d) _ at a b r s p q e = absurd q.0
    form_law (choice cases Tests) ks fine env env' ok same _ d' at a b r s p q e = absurd p.0
    form_law (choice cases (Index width)) ks fine env env' ok same (alt i d) _ at a b r s p q e = absurd q.0
    form_law (choice cases (Index width)) ks fine env env' ok same _ d' at a b r s p q e = absurd p.0

    alternative_law : (cases : Alternatives) (ks : Known) → AlternativesScoped root ks cases → (rule : ChoiceRule) (env env' : Env) → Permitted root env → Agree ks env env' → (i : ℕ) (d d' : Data) → Law (AlternativePart root Any cases rule env i d) (AlternativePart root Any cases rule env' i d') (d ≡ d')
    alternative_law no_alternatives ks fine rule env env' ok same i d d' at a b r s p q e = absurd p.0
    alternative_law (alternative name g tests more) ks fine rule env env' ok same zero d d' at a b r s p q e =
        let one = spell_law g ks fine.0 env env' ok same d d' at a b r s p.spelled q.spelled e in (one.0, one.1.0)
    alternative_law (alternative name g tests more) ks fine rule env env' ok same (suc i) d d' at a b r s p q e = alternative_law more ks fine.1 rule env env' ok same i d d' at a b r s p q e

    fields_law : (fs : Fields) (ks : Known) → FieldsScoped root ks fs → (env env' : Env) → Permitted root env → Agree ks env env' → (ps qs : Places) → presence_bits fs ps ≡ presence_bits fs qs → Law (FieldsPart root Any fs env ps) (FieldsPart root Any fs env' qs) ((ps ≡ qs) × Agree (fields_after ks fs) env env')
    fields_law no_fields ks fine env env' ok same no_places no_places flags at a b r s p q e = (p ∙ sym q, (refl, same))
    fields_law (component name g presence default own fs) ks fine env env' ok same (filled d ps) (filled d' qs) flags at a b r s p q e =
        let behind = with_own own (after ks g) in
        let more = choose_known presence ks behind in
        let one = then_law ((d ≡ d') × Agree behind env env') ((ps ≡ qs) × Agree (fields_after more fs) env env') (own_law own (after ks g) env env' d d' (λ x. x.1) (λ x. x.1) (spell_law g ks fine.1 env env' ok same d d'))
        (λ h. fields_law fs more fine.2 env env' ok (after_there presence ks behind env env' same h.1) ps qs (bits_behind presence true _ _ flags)) at a b r s p q e in
        let first = one.1.0.0 in
        let rest = one.1.1.0 in
        (one.0, (cc, one.1.1.1))
    fields_law (component name g presence default own fs) ks fine env env' ok same (empty ps) (empty qs) flags at a b r s p q e =
        let one = fields_law fs (choose_known presence ks (with_own own (after ks g))) fine.2 env env' ok (after_away presence ks (with_own own (after ks g)) env env' p.given same) ps qs (bits_behind presence false _ _ flags) at a b r s p.spelled q.spelled e in
        (one.0, (ap empty one.1.0, one.1.1))
    fields_law (component name g presence default own fs) ks fine env env' ok same (filled d ps) (empty qs) flags at a b r s p q e =
        absurd (there_and_away ks env env' same presence fine.0 _ _ flags p.first.given.0 q.given)
    fields_law (component name g presence default own fs) ks fine env env' ok same (empty ps) (filled d qs) flags at a b r s p q e =
        absurd (there_and_away ks env' env (agree_back ks env env' same) presence fine.0 _ _ (sym flags) q.first.given.0 p.given)
    fields_law (inserted name g (Some t) fs) ks fine env env' ok same ps qs flags at a b r s p q e =
        law_map (λ h. h.1) (then_law (Agree (with_slot t ks) env env') ((ps ≡ qs) × Agree (fields_after (with_slot t ks) fs) env env') (slot_law g fine.0 ks env env' t same) (λ more. fields_law fs (with_slot t ks) fine.1 env env' ok more ps qs flags)) at a b r s p q e
    fields_law (inserted name g None fs) ks fine env env' ok same ps qs flags at a b r s p q e =
        law_map (λ h. h.1) (then_law ((null ≡ null) × Agree (after ks g) env env') ((ps ≡ qs) × Agree (fields_after ks fs) env env') (spell_law g ks fine.0 env env' ok same null null) (λ _. fields_law fs ks fine.1 env env' ok same ps qs flags)) at a b r s p q e
    fields_law no_fields ks fine env env' ok same no_places _ flags at a b r s p q e = absurd q.0
    fields_law no_fields ks fine env env' ok same _ qs flags at a b r s p q e = absurd p.0
    fields_law (component name g presence default own fs) ks fine env env' ok same (filled d ps) no_places flags at a b r s p q e = absurd q.0
    fields_law (component name g presence default own fs) ks fine env env' ok same (empty ps) no_places flags at a b r s p q e = absurd q.0
    fields_law (component name g presence default own fs) ks fine env env' ok same no_places qs flags at a b r s p q e = absurd p.0
