-- What a written value spells is what its events leave, whose slots get the least numbers that meet what is asked of them.
use Rattle.std.proofs.Common.{◌≡◌, ℕ, zero, suc, ◌+◌, ◌-◌, ◌*◌, ℤ, pos, Bool, true, false, not, ◌&&◌, ◌||◌, List, [], ◌∷◌, ◌++◌, length, replicate, Option, Some, None, nat_eq, refl, sym, ap, ◌∙◌, subst, arith, append_assoc, append-nil, length-append, map}
use Rattle.std.specs.Prelude.{if◌then◌else◌}
use Rattle.std.specs.List.{AllByRecursion, list_any, zip}
use Rattle.std.proofs.lemmas.Bool.{and_parts, eqb-true, not-true, or_parts}
use Rattle.acn_num.specs.Bits.{bits as bits_of, low_bits, number, octets as octets_for, IsNumber}
use Rattle.acn_num.specs.Ranges.{has}
use Rattle.acn_num.proofs.BitLists.{low_bits-number}
use Rattle.acn_grammar.specs.Asks.{Ask, Equal, Avoid, field_path, index_of, same_name}
use Rattle.acn_grammar.specs.AsksOn.{on, size_asks_on, LeastAnswer, form_asks_on, fields_asks_on}
use Rattle.acn_grammar.specs.Code.{Code, Written}
use Rattle.acn_grammar.specs.Env.{Env, at_slot}
use Rattle.acn_grammar.specs.Grammar.{Grammar, Form, Fields, Alternatives, Data, Places, Elements, node, num, octets, bits, text, seq, list, choice, contained, no_fields, component, inserted, no_alternatives, alternative, null, octet_string, bit_string, characters, record_of, list_of, alt, no_places, empty, filled, no_elements, element, element_count}
use Rattle.acn_grammar.specs.Leaves.{all_differ}
use Rattle.acn_grammar.specs.Length.{bit_length, number_of, presence_bits, padding, ending}
use Rattle.acn_grammar.specs.Scoped.{Known, after, choose_known, with_own, with_slot}
use Rattle.acn_grammar.specs.Slots.{domain_of, items_of}
use Rattle.acn_grammar.specs.Sound.{Sound, FormSound, FieldsSound, AlternativesSound}
use Rattle.acn_grammar.specs.Spell.{Part, ◌then◌, Padding, Fill, RulePart, RunPart, ListPart, IndexPart, AlternativePart, Spell, FormPart, FieldsPart, with_home}
use Rattle.acn_grammar.specs.Tree.{holds}
use Rattle.acn_grammar.specs.declared.node.ChoiceRule.{ChoiceRule}
use Rattle.acn_grammar.specs.declared.node.ChoiceRule.TheVariants.{Index, Tests, Item}
use Rattle.acn_grammar.specs.declared.node.Presence.{Presence}
use Rattle.acn_grammar.specs.declared.node.Presence.TheVariants.{Always, Bit, When}
use Rattle.acn_grammar.specs.declared.node.SizeRule.{SizeRule}
use Rattle.acn_grammar.specs.declared.node.SizeRule.TheVariants.{Prefix, Slot, Ended}
use Rattle.acn_grammar.specs.declared.node.Sizing.{Sizing}
use Rattle.acn_grammar.specs.declared.node.Test.{Test}
use Rattle.acn_grammar.specs.declared.node.Test.TheVariants.{Flag, Equals}
use Rattle.acn_grammar.proofs.SpellLength.{NumberOf-number_of, Padding-length, then-length}
use Rattle.acn_events.specs.Event.{Event, aligns, copies, begins, puts, sizes, codes, texts, opens, notes, wants, fills, enters, closes}
use Rattle.acn_events.specs.Events.{test_event, presence_events, size_wants, end_events, set_in, own_events, inserted_events, index_events, run_events, rule_events, events, form_events, field_events, case_events}
use Rattle.acn_events.specs.Marks.{Mark, marked, ends, ask_on, Right, AllRight, CanBeClosed}
use Rattle.acn_events.proofs.Asking.{all_on, fields_ask}
use Rattle.acn_events.proofs.Heard.{home_near, more_near, rest_near}
use Rattle.acn_events.proofs.Small.{truth, if_yes, if_no, eq_here, none_behind}
use Rattle.acn_events.proofs.Writing.{Pending, Writing, Writes, Spelt, forth, has_home, spelt_then}
use Rattle.acn_text.specs.Steps.{size_bits}

-- Events behind others.

right_split : (root : Grammar) (a b : List Event) (p : Mark) → AllRight root (a ++ b) p → AllRight root a p × AllRight root b (ends a p)
right_split root [] b p r = (tt, r)
right_split root (e ∷ a) b p r = let s = right_split root a b (marked e p) r.1 in ((r.0, s.0), s.1)

-- nothing was asked of a slot that isn't begun
abbrev pub Unasked : Mark → Type 0
Unasked p = (s : ℕ) → p.known s ≡ false → p.asked s ≡ []

on_none : (s t : ℕ) (a : Ask) → nat_eq t s ≡ false → on s t a ≡ []
on_none s t a n = ap (λ b. if b then a ∷ [] else []) n

known_other : (ks : Known) (t s : ℕ) → ks t ≡ true → ks s ≡ false → nat_eq t s ≡ false
known_other ks t s a b = truth {F = nat_eq t s ≡ false} (nat_eq t s) (λ y. (let e = ap ks (eqb-true t s y) in cc)) (λ y. y)

unasked_on : (root : Grammar) (e : Event) (p : Mark) → Right root e p → Unasked p → Unasked (marked e p)
unasked_on root (opens t leaf) p r h s k = (let n = or_parts (nat_eq t s) (p.known s) k in append-nil (p.asked s) ∙ h s n.1)
unasked_on root (notes path t set x) p r h s k =
    let n = or_parts (nat_eq t s) (p.known s) k in
    ap (λ z. p.asked s ++ z) (on_none s t (Equal x) n.0) ∙ (append-nil (p.asked s) ∙ h s n.1)
unasked_on root (wants path t a) p r h s k =
    ap (λ z. p.asked s ++ z) (on_none s t a (known_other p.known t s r k)) ∙ (append-nil (p.asked s) ∙ h s k)
unasked_on root (fills t) p r h s k = truth {F = (if nat_eq t s then [] else p.asked s) ≡ []} (nat_eq t s) (λ y. if_yes (nat_eq t s) [] (p.asked s) y) (λ y. if_no (nat_eq t s) [] (p.asked s) y ∙ h s (still (p.known s) (nat_eq t s) y k))
  where
    still : (a b : Bool) → b ≡ false → (a && not b) ≡ false → a ≡ false
    still true b y k = cc
    still false b y k = refl
unasked_on root (closes path sizing n) p r h s k = by sizing.rule r.closes
  where
    by : (rule : SizeRule) → CanBeClosed rule p.known n (has sizing.sizes (pos n)) → (p.asked s ++ size_asks_on s n rule) ≡ []
    by (Prefix low width) c = append-nil (p.asked s) ∙ h s k
    by (Slot t) c = ap (λ z. p.asked s ++ z) (on_none s t (Equal (pos n)) (known_other p.known t s c k)) ∙ (append-nil (p.asked s) ∙ h s k)
    by (Ended q) c = absurd c
unasked_on root (aligns a) p r h s k = append-nil (p.asked s) ∙ h s k
unasked_on root (copies bs) p r h s k = append-nil (p.asked s) ∙ h s k
unasked_on root (begins homes bs) p r h s k = append-nil (p.asked s) ∙ h s k
unasked_on root (puts width n) p r h s k = append-nil (p.asked s) ∙ h s k
unasked_on root (sizes sizing n) p r h s k = append-nil (p.asked s) ∙ h s k
unasked_on root (codes leaf x) p r h s k = append-nil (p.asked s) ∙ h s k
unasked_on root (texts leaf cs) p r h s k = append-nil (p.asked s) ∙ h s k
unasked_on root (enters rule) p r h s k = append-nil (p.asked s) ∙ h s k

pub unasked_along : (root : Grammar) (es : List Event) (p : Mark) → AllRight root es p → Unasked p → Unasked (ends es p)
unasked_along root [] p r h = h
unasked_along root (e ∷ es) p r h = unasked_along root es (marked e p) r.1 (unasked_on root e p r.0 h)

-- Events that end no slot of those round them.

abbrev pub Ends : (s : ℕ) → Event → Type 0
Ends s (fills t) = nat_eq t s ≡ false
Ends s _ = Unit {0}

-- an event that ends another slot, or none
abbrev pub Unfilled : (s : ℕ) → List Event → Type 0
Unfilled s es = AllByRecursion (Ends s) es

both_unfilled : (s : ℕ) (a b : List Event) → Unfilled s a → Unfilled s b → Unfilled s (a ++ b)
both_unfilled s [] b f g = g
both_unfilled s (e ∷ a) b f g = (f.0, both_unfilled s a b f.1 g)

asked_one : (s : ℕ) (e : Event) (p : Mark) → Ends s e → (marked e p).asked s ≡ p.asked s ++ ask_on s e
asked_one s (fills t) p n = if_no (nat_eq t s) [] (p.asked s) n ∙ sym (append-nil (p.asked s))
asked_one s (opens t leaf) p n = refl
asked_one s (notes path t set x) p n = refl
asked_one s (wants path t a) p n = refl
asked_one s (closes path sizing k) p n = refl
asked_one s (aligns a) p n = refl
asked_one s (copies bs) p n = refl
asked_one s (begins homes bs) p n = refl
asked_one s (puts width k) p n = refl
asked_one s (sizes sizing k) p n = refl
asked_one s (codes leaf x) p n = refl
asked_one s (texts leaf cs) p n = refl
asked_one s (enters rule) p n = refl

pub asked_along : (root : Grammar) (s : ℕ) (es : List Event) (p : Mark) → Unfilled s es → (ends es p).asked s ≡ p.asked s ++ all_on root s es
asked_along root s [] p h = sym (append-nil (p.asked s))
asked_along root s (e ∷ es) p h =
    asked_along root s es (marked e p) h.1 ∙ (ap (λ z. z ++ all_on root s es) (asked_one s e p h.0) ∙ append_assoc (p.asked s) (ask_on s e) (all_on root s es))

tests_unfilled : (s : ℕ) (path : List ℕ) (there : Bool) (ts : List Test) → Unfilled s (map (test_event path there) ts)
tests_unfilled s path there [] = tt
tests_unfilled s path true (Flag t ∷ ts) = (tt, tests_unfilled s path true ts)
tests_unfilled s path false (Flag t ∷ ts) = (tt, tests_unfilled s path false ts)
tests_unfilled s path true (Equals t k ∷ ts) = (tt, tests_unfilled s path true ts)
tests_unfilled s path false (Equals t k ∷ ts) = (tt, tests_unfilled s path false ts)

presence_unfilled : (s : ℕ) (path : List ℕ) (there : Bool) (presence : Presence) → Unfilled s (presence_events path there presence)
presence_unfilled s path there Always = tt
presence_unfilled s path there Bit = tt
presence_unfilled s path there (When ts) = tests_unfilled s path there ts

size_unfilled : (s : ℕ) (path : List ℕ) (n : ℕ) (rule : SizeRule) → Unfilled s (size_wants path n rule)
size_unfilled s path n (Slot t) = (tt, tt)
size_unfilled s path n (Prefix low width) = tt
size_unfilled s path n (Ended p) = tt

end_unfilled : (s : ℕ) (rule : SizeRule) → Unfilled s (end_events rule)
end_unfilled s (Slot t) = tt
end_unfilled s (Prefix low width) = tt
end_unfilled s (Ended p) = (tt, tt)

index_unfilled : (s : ℕ) (rule : ChoiceRule) (i : ℕ) → Unfilled s (index_events rule i)
index_unfilled s (Index width) i = (tt, tt)
index_unfilled s Tests i = tt
index_unfilled s (Item t) i = tt

rule_unfilled : (root : Grammar) (s : ℕ) (path : List ℕ) (i : ℕ) (rule : ChoiceRule) (name : List ℕ) (ts : List Test) → Unfilled s (rule_events root path i rule name ts)
rule_unfilled root s path i (Index width) name ts = tests_unfilled s (path ++ i ∷ []) true ts
rule_unfilled root s path i Tests name ts = tests_unfilled s (path ++ i ∷ []) true ts
rule_unfilled root s path i (Item t) name ts = (tt, tt)

own_unfilled : (s : ℕ) (path : List ℕ) (own : Option ℕ) (g : Grammar) (d : Data) → Unfilled s (own_events path own g d)
own_unfilled s path None g d = tt
own_unfilled s path (Some t) g d = (tt, tt)

inserted_unfilled : (s : ℕ) (own : Option ℕ) (g : Grammar) → Unfilled s (inserted_events own g)
inserted_unfilled s (Some t) (node align (num leaf)) = (tt, (tt, tt))
inserted_unfilled s None (node align (num leaf)) = (tt, (tt, tt))
inserted_unfilled s (Some t) (node align _) = tt
inserted_unfilled s None (node align _) = tt

fills_unfilled : (s : ℕ) (home : List ℕ) → holds home s ≡ false → Unfilled s (map fills home)
fills_unfilled s [] h = tt
fills_unfilled s (t ∷ home) h = (let n = or_parts (nat_eq t s) (holds home s) h in (n.0, fills_unfilled s home n.1))

run_unfilled : (s : ℕ) (each : ℕ → Data → List Event) → ((k : ℕ) (d : Data) → Unfilled s (each k d)) → (k : ℕ) (es : Elements) → Unfilled s (run_events each k es)
run_unfilled s each h k no_elements = tt
run_unfilled s each h k (element d es) = both_unfilled s (each k d) (run_events each (suc k) es) (h k d) (run_unfilled s each h (suc k) es)

module _ (root : Grammar) (s : ℕ) where
  mutual
    pub node_unfilled : (g : Grammar) (k : ℕ) (around : List ℕ) (ks : Known) → Sound root k around ks g → holds around s ≡ true → (path : List ℕ) (d : Data) → Unfilled s (events root g path d)
    node_unfilled (node align form) k around ks h a path d = (tt, form_unfilled form k around ks h.2 a path d)

    form_unfilled : (form : Form) (k : ℕ) (around : List ℕ) (ks : Known) → FormSound root k around ks form → holds around s ≡ true → (path : List ℕ) (d : Data) → Unfilled s (form_events root form path d)
    form_unfilled (num leaf) k around ks h a path d = (tt, tt)
    form_unfilled (octets sizing) k around ks h a path (octet_string os) = (tt, both_unfilled s (size_wants path (length os) sizing.rule) (copies (bits_of os) ∷ []) (size_unfilled s path (length os) sizing.rule) (tt, tt))
    form_unfilled (bits sizing) k around ks h a path (bit_string bs) = (tt, both_unfilled s (size_wants path (length bs) sizing.rule) (copies bs ∷ []) (size_unfilled s path (length bs) sizing.rule) (tt, tt))
    form_unfilled (text leaf) k around ks h a path (characters cs) = both_unfilled s (size_wants path (length cs) leaf.sized.rule) (texts leaf cs ∷ []) (size_unfilled s path (length cs) leaf.sized.rule) (tt, tt)
    form_unfilled (seq fields home) k around ks h a path (record_of ps) =
        (tt, both_unfilled s (field_events root fields path 0 ps) (map fills home) (fields_unfilled fields (suc k) (home ++ around) ks h.1 (more_near home around s a) path 0 ps) (fills_unfilled s home (h.0.not_around s a)))
    form_unfilled (list sizing g) k around ks h a path (list_of es) =
        let each : ℕ → Data → List Event = λ j d. events root g (path ++ j ∷ []) d in
        let n = element_count es in (
          tt,
          both_unfilled s (size_wants path n sizing.rule) (run_events each 0 es ++ end_events sizing.rule) (size_unfilled s path n sizing.rule)
              (both_unfilled s (run_events each 0 es) (end_events sizing.rule) (run_unfilled s each (λ j d. node_unfilled g (suc k) around ks h.4 a (path ++ j ∷ []) d) 0 es) (end_unfilled s sizing.rule)),
        )
    form_unfilled (choice cases rule) k around ks h a path (alt i d) = both_unfilled s (index_events rule i) (case_events root cases rule path i i d) (index_unfilled s rule i) (case_unfilled cases rule (suc k) around ks h.3 a path i i d)
    form_unfilled (contained sizing g) k around ks h a path d =
        (tt, both_unfilled s (events root g (path ++ 0 ∷ []) d) (aligns 8 ∷ closes path sizing (octets_for (bit_length g 0 d)) ∷ []) (node_unfilled g (suc k) around ks h.3 a (path ++ 0 ∷ []) d) (tt, (tt, tt)))
    form_unfilled _ k around ks h a path d = tt

    pub fields_unfilled : (fs : Fields) (k : ℕ) (around : List ℕ) (ks : Known) → FieldsSound root k around ks fs → holds around s ≡ true → (path : List ℕ) (n : ℕ) (ps : Places) → Unfilled s (field_events root fs path n ps)
    fields_unfilled (component name g presence default own fs) k around ks h a path n (filled d ps) =
        let q = path ++ n ∷ [] in
        let y = field_events root fs path (suc n) ps in
        let x = events root g q d in
        both_unfilled s (own_events q own g d) (presence_events q true presence ++ (x ++ y)) (own_unfilled s q own g d)
        (both_unfilled s (presence_events q true presence) (x ++ y) (presence_unfilled s q true presence)
        (both_unfilled s x y (node_unfilled g k around ks h.3 a q d) (fields_unfilled fs k around (choose_known presence ks (with_own own (after ks g))) h.4 a path (suc n) ps)))
    fields_unfilled (component name g presence default own fs) k around ks h a path n (empty ps) =
        both_unfilled s (presence_events (path ++ n ∷ []) false presence) (field_events root fs path (suc n) ps) (presence_unfilled s (path ++ n ∷ []) false presence) (fields_unfilled fs k around (choose_known presence ks (with_own own (after ks g))) h.4 a path (suc n) ps)
    fields_unfilled (inserted name g (Some t) fs) k around ks h a path n ps = both_unfilled s (inserted_events (Some t) g) (field_events root fs path (suc n) ps) (inserted_unfilled s (Some t) g) (fields_unfilled fs k around (with_slot t ks) h.3 a path (suc n) ps)
    fields_unfilled (inserted name g None fs) k around ks h a path n ps = both_unfilled s (inserted_events None g) (field_events root fs path (suc n) ps) (inserted_unfilled s None g) (fields_unfilled fs k around ks h.2 a path (suc n) ps)
    fields_unfilled no_fields k around ks h a path n ps = tt
    fields_unfilled (component name g presence default own fs) k around ks h a path n no_places = tt

    case_unfilled : (cases : Alternatives) (rule : ChoiceRule) (k : ℕ) (around : List ℕ) (ks : Known) → AlternativesSound root k around ks cases → holds around s ≡ true → (path : List ℕ) (i j : ℕ) (d : Data) → Unfilled s (case_events root cases rule path i j d)
    case_unfilled no_alternatives rule k around ks h a path i j d = tt
    case_unfilled (alternative name g tests more) rule k around ks h a path i zero d = both_unfilled s (rule_events root path i rule name tests) (events root g (path ++ i ∷ []) d) (rule_unfilled root s path i rule name tests) (node_unfilled g k around ks h.1 a (path ++ i ∷ []) d)
    case_unfilled (alternative name g tests more) rule k around ks h a path i (suc j) d = case_unfilled more rule k around ks h.2 a path i j d

-- Numbers of slots at home.

abbrev pub or_number : Option ℤ → Option ℤ → Option ℤ
or_number (Some x) other = Some x
or_number None other = other

over_one : (b : Bool) (x : ℤ) (o other : Option ℤ) (more : Option ℤ) → more ≡ or_number o other → (if b then Some x else more) ≡ or_number (if b then Some x else o) other
over_one true x o other more e = refl
over_one false x o other more e = e

over_env : (xs env : Env) (s : ℕ) → at_slot (xs ++ env) s ≡ or_number (at_slot xs s) (at_slot env s)
over_env [] env s = refl
over_env (e ∷ xs) env s = over_one (nat_eq e.0 s) e.1 (at_slot xs s) (at_slot env s) (at_slot (xs ++ env) s) (over_env xs env s)

home_number : (home : List ℕ) (xs : List ℤ) (L : ℕ → ℤ → Type 0) → length xs ≡ length home → AllByRecursion (λ (e : ℕ × ℤ). L e.0 e.1) (zip home xs) → (s : ℕ) → holds home s ≡ true → (x : ℤ) × (at_slot (zip home xs) s ≡ Some x) × L s x
home_number [] xs L e a s h = cc
home_number (t ∷ home) [] L e a s h = absurd (omega (arith, e))
home_number (t ∷ home) (x ∷ xs) L e a s h = truth {F = (y : ℤ) × (at_slot (zip (t ∷ home) (x ∷ xs)) s ≡ Some y) × L s y} (nat_eq t s)
    (λ y. (x, if_yes (nat_eq t s) (Some x) (at_slot (zip home xs) s) y, subst (λ (z : ℕ). L z x) (eqb-true t s y) a.0))
    (λ y. (let r = home_number home xs L (omega (arith, e)) a.1 s (rest (nat_eq t s) (holds home s) y h) in (r.0, if_no (nat_eq t s) (Some x) (at_slot (zip home xs) s) y ∙ r.1, r.2)))
  where
    rest : (a b : Bool) → a ≡ false → (a || b) ≡ true → b ≡ true
    rest true b x y = cc
    rest false b x y = y

away_number : (home : List ℕ) (xs : List ℤ) (s : ℕ) → holds home s ≡ false → at_slot (zip home xs) s ≡ None
away_number [] xs s h = refl
away_number (t ∷ home) [] s h = refl
away_number (t ∷ home) (x ∷ xs) s h = (let n = or_parts (nat_eq t s) (holds home s) h in if_no (nat_eq t s) (Some x) (at_slot (zip home xs) s) n.0 ∙ away_number home xs s n.1)

home_holds : (path : List ℕ) (fields : Fields) (home : List ℕ) (s : ℕ) → has_home (map (λ t. (t, field_path path fields t)) home) s ≡ holds home s
home_holds path _ [] s = refl
home_holds path fields (t ∷ home) s = ap (λ z. nat_eq t s || z) (home_holds path fields home s)

home_unknown : (path : List ℕ) (fields : Fields) (home : List ℕ) (ks : Known) → AllByRecursion (λ (h : ℕ × List ℕ). ks h.0 ≡ false) (map (λ t. (t, field_path path fields t)) home) → (s : ℕ) → holds home s ≡ true → ks s ≡ false
home_unknown path _ [] ks a s h = cc
home_unknown path fields (t ∷ home) ks a s h = truth {F = ks s ≡ false} (nat_eq t s) (λ y. ap ks (sym (eqb-true t s y)) ∙ a.0) (λ y. home_unknown path fields home ks a.1 s (rest (nat_eq t s) (holds home s) y h))
  where
    rest : (a b : Bool) → a ≡ false → (a || b) ≡ true → b ≡ true
    rest true b x y = cc
    rest false b x y = y

-- Bits of sizes and of an index.

number_bits : (width n : ℕ) (bs : List Bool) → IsNumber width n bs → bs ≡ low_bits width n
number_bits width n bs p = sym (low_bits-number bs) ∙ (ap (λ z. low_bits z (number bs)) p.width ∙ ap (low_bits width) p.value)

rule_bits : (rule : SizeRule) (env : Env) (n at : ℕ) (bs : List Bool) → RulePart rule env n at bs → bs ≡ size_bits rule n
rule_bits (Prefix low width) env n at bs p = number_bits width (n - low) bs p.spelled
rule_bits (Slot s) env n at bs p = p.1
rule_bits (Ended q) env n at bs p = absurd p.0

abbrev end_bits : SizeRule → List Bool
end_bits (Ended p) = p
end_bits (Slot s) = []
end_bits (Prefix low width) = []

-- the size, the elements and the end of a list
record ListBits (rule : SizeRule) (each : Data → Part) (es : Elements) (at : ℕ) (bs : List Bool) : Type 0 where
  front : List Bool
  run : List Bool
  whole : bs ≡ front ++ (run ++ end_bits rule)
  size : front ≡ size_bits rule (element_count es)
  spelled : RunPart each es (at + length front) run

list_bits : (sizing : Sizing) (env : Env) (each : Data → Part) (es : Elements) (at : ℕ) (bs : List Bool) (rule : SizeRule) → sizing.rule ≡ rule → ListPart (ending rule) sizing env each es at bs → ListBits rule each es at bs
list_bits sizing env each es at bs (Ended p) is t =
    let u = t.spelled in
    record { front = []; run = u.front; whole = u.whole ∙ ap (λ z. u.front ++ z) u.second; size = refl; spelled = subst (λ n. RunPart each es n u.front) (sym (none_behind at)) u.first }
list_bits sizing env each es at bs (Slot s) is t =
    record { front = t.front; run = t.back; whole = t.whole ∙ ap (λ z. t.front ++ z) (sym (append-nil t.back)); size = rule_bits (Slot s) env (element_count es) at t.front (subst (λ (z : SizeRule). RulePart z env (element_count es) at t.front) is t.first.spelled); spelled = t.second }
list_bits sizing env each es at bs (Prefix low width) is t =
    record { front = t.front; run = t.back; whole = t.whole ∙ ap (λ z. t.front ++ z) (sym (append-nil t.back)); size = rule_bits (Prefix low width) env (element_count es) at t.front (subst (λ (z : SizeRule). RulePart z env (element_count es) at t.front) is t.first.spelled); spelled = t.second }

as_padding : (at : ℕ) (bs : List Bool) → Fill Written at bs → Padding Written 8 at bs
as_padding at bs p = record { aligned = p.aligned; fewest = p.few; zeros = p.zeros }

pad_bits : (align at : ℕ) (bs : List Bool) → Padding Written align at bs → bs ≡ replicate (padding align at) false
pad_bits align at bs p = p.zeros refl ∙ ap (λ n. replicate n false) (Padding-length Written align at bs p)

module _ (root : Grammar) where
  -- the events leave these bits, and the numbers of the slots round them as they were
  pub record Spells (around : List ℕ) (es : List Event) (p : Mark) (q : Writing) (bs : List Bool) : Type 0 where
    pub behind : Writing
    pub spelt : Spelt root es p q behind bs
    pub at : behind.at ≡ q.at + length bs
    pub outer : behind.outer ≡ q.outer
    pub numbers : (s : ℕ) → holds around s ≡ true → behind.numbers s ≡ q.numbers s

  -- under these numbers
  abbrev Under : List ℕ → Writing → Env → Type 0
  Under around q env = (s : ℕ) → holds around s ≡ true → q.numbers s ≡ at_slot env s

  module _ (around : List ℕ) where
    spells_none : (p : Mark) (q : Writing) → Spells around [] p q []
    spells_none p q = record { behind = q; spelt = (refl, refl); at = sym (none_behind q.at); outer = refl; numbers = λ s h. refl }

    spells_then : (a b : List Event) (p : Mark) (q : Writing) (x y : List Bool) → Spells around a p q x
        → ((mid : Writing) → mid.at ≡ q.at + length x → ((s : ℕ) → holds around s ≡ true → mid.numbers s ≡ q.numbers s) → Spells around b (ends a p) mid y) → Spells around (a ++ b) p q (x ++ y)
    spells_then a b p q x y f g =
        let r = g f.behind f.at f.numbers in
        let l = length-append x y in
        let one = f.at in
        let two = r.at in
        record {
          behind = r.behind;
          spelt = spelt_then root a b p q f.behind r.behind x y f.spelt r.spelt;
          at = omega (arith, l, one, two);
          outer = r.outer ∙ f.outer;
          numbers = λ s h. r.numbers s h ∙ f.numbers s h;
        }

    spells_is : (es : List Event) (p : Mark) (q : Writing) (bs bs' : List Bool) → bs ≡ bs' → Spells around es p q bs → Spells around es p q bs'
    spells_is es p q bs bs' e s = subst (λ (z : List Bool). Spells around es p q z) e s

    -- one event that leaves bits
    spells_one : (e : Event) (p : Mark) (q : Writing) (bs : List Bool) → Writes root e p q (forth (length bs) q) bs → Spells around (e ∷ []) p q bs
    spells_one e p q bs w = record {
      behind = forth (length bs) q;
      spelt = record { front = bs; back = []; mid = forth (length bs) q; whole = sym (append-nil bs); first = w; rest = (refl, refl) };
      at = refl;
      outer = refl;
      numbers = λ s h. refl;
    }

    -- and one that leaves none
    spells_quiet : (e : Event) (p : Mark) (q : Writing) → Writes root e p q q [] → Spells around (e ∷ []) p q []
    spells_quiet e p q w = record {
      behind = q;
      spelt = record { front = []; back = []; mid = q; whole = refl; first = w; rest = (refl, refl) };
      at = sym (none_behind q.at);
      outer = refl;
      numbers = λ s h. refl;
    }

    test_spells : (path : List ℕ) (there : Bool) (t : Test) (p : Mark) (q : Writing) → Spells around (test_event path there t ∷ []) p q []
    test_spells path true (Flag s) p q = spells_quiet (wants path s (Equal (pos 1))) p q (refl, refl)
    test_spells path false (Flag s) p q = spells_quiet (wants path s (Equal (pos 0))) p q (refl, refl)
    test_spells path true (Equals s k) p q = spells_quiet (wants path s (Equal k)) p q (refl, refl)
    test_spells path false (Equals s k) p q = spells_quiet (wants path s (Avoid k)) p q (refl, refl)

    tests_spell : (path : List ℕ) (there : Bool) (ts : List Test) (p : Mark) (q : Writing) → Spells around (map (test_event path there) ts) p q []
    tests_spell path there [] p q = spells_none p q
    tests_spell path there (t ∷ ts) p q = spells_then (test_event path there t ∷ []) (map (test_event path there) ts) p q [] [] (test_spells path there t p q) (λ mid a n. tests_spell path there ts (ends (test_event path there t ∷ []) p) mid)

    presence_spells : (path : List ℕ) (there : Bool) (presence : Presence) (p : Mark) (q : Writing) → Spells around (presence_events path there presence) p q []
    presence_spells path there Always p q = spells_none p q
    presence_spells path there Bit p q = spells_none p q
    presence_spells path there (When ts) p q = tests_spell path there ts p q

    size_spells : (path : List ℕ) (n : ℕ) (rule : SizeRule) (p : Mark) (q : Writing) → Spells around (size_wants path n rule) p q []
    size_spells path n (Slot s) p q = spells_quiet (wants path s (Equal (pos n))) p q (refl, refl)
    size_spells path n (Prefix low width) p q = spells_none p q
    size_spells path n (Ended e) p q = spells_none p q

    rule_spells : (path : List ℕ) (i : ℕ) (rule : ChoiceRule) (name : List ℕ) (ts : List Test) (p : Mark) (q : Writing) → Spells around (rule_events root path i rule name ts) p q []
    rule_spells path i (Index width) name ts p q = tests_spell (path ++ i ∷ []) true ts p q
    rule_spells path i Tests name ts p q = tests_spell (path ++ i ∷ []) true ts p q
    rule_spells path i (Item s) name ts p q = spells_quiet (wants path s (Equal (pos (index_of (same_name name) (items_of root s))))) p q (refl, refl)

    own_spells : (path : List ℕ) (own : Option ℕ) (g : Grammar) (d : Data) (p : Mark) (q : Writing) → Spells around (own_events path own g d) p q []
    own_spells path None g d p q = spells_none p q
    own_spells path (Some s) g d p q = spells_quiet (notes path s (set_in g) (number_of d)) p q (refl, refl)

    end_spells : (rule : SizeRule) (p : Mark) (q : Writing) → Spells around (end_events rule) p q (end_bits rule)
    end_spells (Ended e) p q = spells_one (copies e) p q e (refl, refl)
    end_spells (Slot s) p q = spells_none p q
    end_spells (Prefix low width) p q = spells_none p q

    index_spells : (rule : ChoiceRule) (i at : ℕ) (bs : List Bool) (p : Mark) (q : Writing) → IndexPart root rule i at bs → Spells around (index_events rule i) p q bs
    index_spells (Index width) i at bs p q t = spells_one (puts width i) p q bs (number_bits width i bs t, refl)
    index_spells Tests i at bs p q t = spells_is [] p q [] bs (sym t) (spells_none p q)
    index_spells (Item s) i at bs p q t = spells_is [] p q [] bs (sym t) (spells_none p q)

    -- a size, and bits behind it
    string_spells : (path : List ℕ) (sizing : Sizing) (n : ℕ) (front back xs : List Bool) (p : Mark) (q : Writing) → front ≡ size_bits sizing.rule n → back ≡ xs → Spells around (sizes sizing n ∷ (size_wants path n sizing.rule ++ copies xs ∷ [])) p q (front ++ back)
    string_spells path sizing n front back xs p q e f =
        spells_then (sizes sizing n ∷ []) (size_wants path n sizing.rule ++ copies xs ∷ []) p q front back (spells_one (sizes sizing n) p q front (e, refl))
        (λ mid a m.
        let p1 = marked (sizes sizing n) p in
        spells_then (size_wants path n sizing.rule) (copies xs ∷ []) p1 mid [] back (size_spells path n sizing.rule p1 mid) (λ mid' a' m'. spells_one (copies xs) (ends (size_wants path n sizing.rule) p1) mid' back (f, refl)))

    -- elements one behind another
    run_spell : (env : Env) (each : ℕ → Data → List Event) (part : Data → Part)
        → ((k : ℕ) (d : Data) (p : Mark) → AllRight root (each k d) p → Unasked p → (q : Writing) → Under around q env → (at : ℕ) → q.at ≡ at → (bs : List Bool) → part d at bs → Spells around (each k d) p q bs)
        → (k : ℕ) (es : Elements) (p : Mark) → AllRight root (run_events each k es) p → Unasked p → (q : Writing) → Under around q env → (at : ℕ) → q.at ≡ at → (bs : List Bool) → RunPart part es at bs → Spells around (run_events each k es) p q bs
    run_spell env each part h k no_elements p r u q n at e bs t = spells_is [] p q [] bs (sym t) (spells_none p q)
    run_spell env each part h k (element d es) p r u q n at e bs t =
        let s = right_split root (each k d) (run_events each (suc k) es) p r in
        spells_is (each k d ++ run_events each (suc k) es) p q (t.front ++ t.back) bs (sym t.whole)
        (spells_then (each k d) (run_events each (suc k) es) p q t.front t.back (h k d p s.0 u q n at e t.front t.first)
        (λ mid a m. run_spell env each part h (suc k) es (ends (each k d) p) s.1 (unasked_along root (each k d) p s.0 u) mid (λ v w. m v w ∙ n v w) (at + length t.front) (a ∙ ap (λ z. z + length t.front) e) t.back t.second))

  fills_spell : (home : List ℕ) (p : Mark) (w : Writing) → all_differ nat_eq home ≡ true → ((s : ℕ) → holds home s ≡ true → (x : ℤ) × (w.numbers s ≡ Some x) × LeastAnswer (domain_of root s) (p.asked s) x) → Spelt root (map fills home) p w w []
  fills_spell [] p w d h = (refl, refl)
  fills_spell (t ∷ home) p w d h =
      let f = and_parts (not (list_any (nat_eq t) home)) (all_differ nat_eq home) d in
      record {
        front = [];
        back = [];
        mid = w;
        whole = refl;
        first = (refl, refl, h t (mine t (holds home t)));
        rest = fills_spell home (marked (fills t) p) w f.1 (λ s a. (let r = h s (second (nat_eq t s) (holds home s) a) in (r.0, r.1, subst (λ (z : List Ask). LeastAnswer (domain_of root s) z r.0) (sym (if_no (nat_eq t s) [] (p.asked s) (apart home s (not-true (list_any (nat_eq t) home) f.0) a))) r.2)));
      }
    where
      mine : (t : ℕ) (b : Bool) → (nat_eq t t || b) ≡ true
      mine t b = let e = eq_here t in cc

      second : (a b : Bool) → b ≡ true → (a || b) ≡ true
      second true b e = refl
      second false b e = e

      apart : (home : List ℕ) (s : ℕ) → list_any (nat_eq t) home ≡ false → holds home s ≡ true → nat_eq t s ≡ false
      apart [] s a e = cc
      apart (u ∷ home) s a e =
          let n = or_parts (nat_eq t u) (list_any (nat_eq t) home) a in
          truth {F = nat_eq t s ≡ false} (nat_eq u s)
          (λ y. subst (λ (z : ℕ). nat_eq t z ≡ false) (eqb-true u s y) n.0)
          (λ y. apart home s n.1 (rest (nat_eq u s) (holds home s) y e))
        where
          rest : (a b : Bool) → a ≡ false → (a || b) ≡ true → b ≡ true
          rest true b x y = cc
          rest false b x y = y

  -- contents in their window
  contents_spell : (around : List ℕ) (path : List ℕ) (sizing : Sizing) (x : List Event) (n j : ℕ) (p : Mark) (q : Writing) (front used fill : List Bool) → front ≡ size_bits sizing.rule n → length used + length fill ≡ 8 * n → Fill Written (0 + length used) fill
      → Spells around x (marked (enters sizing.rule) p) (record { numbers = q.numbers; at = 0; outer = record { start = q.at + length front; octets = n; rule = sizing.rule } ∷ q.outer }) used
      → Spells around (enters sizing.rule ∷ (x ++ aligns 8 ∷ closes path sizing j ∷ [])) p q (front ++ (used ++ fill))
  contents_spell around path sizing x n j p q front used fill e long pad f =
      let o : Pending = record { start = q.at + length front; octets = n; rule = sizing.rule } in
      let r1 : Writing = record { numbers = q.numbers; at = 0; outer = o ∷ q.outer } in
      let p1 = marked (enters sizing.rule) p in
      let mid = f.behind in
      let mid2 = forth (length fill) mid in
      let r : Writing = record { numbers = mid.numbers; at = q.at + length front + mid2.at; outer = q.outer } in
      let at : mid.at ≡ 0 + length used = f.at in
      let l1 = length-append front (used ++ fill) in
      let l2 = length-append used fill in
      record {
        behind = r;
        spelt = record {
          front = front;
          back = used ++ fill;
          mid = r1;
          whole = refl;
          first = (n, e, refl);
          rest = spelt_then root x (aligns 8 ∷ closes path sizing j ∷ []) p1 r1 mid r used fill f.spelt (record {
            front = fill;
            back = [];
            mid = mid2;
            whole = sym (append-nil fill);
            first = (pad_bits 8 (0 + length used) fill (as_padding (0 + length used) fill pad) ∙ ap (λ z. replicate (padding 8 z) false) (sym at), refl);
            rest = record { front = []; back = []; mid = r; whole = refl; first = (refl, record { pending = o; rest = q.outer; outer = f.outer; of_rule = refl; whole = omega (arith, at, long); next = refl }); rest = (refl, refl) };
          });
        };
        at = omega (arith, at, l1, l2);
        outer = refl;
        numbers = f.numbers;
      }

  sequence_spells : (around : List ℕ) (fields : Fields) (home : List ℕ) (path : List ℕ) (ps : Places) (xs : List ℤ) (p : Mark) (q : Writing) (env : Env) (front back : List Bool) → AllRight root (form_events root (seq fields home) path (record_of ps)) p → Unasked p → Under around q env
      → all_differ nat_eq home ≡ true → ((s : ℕ) → holds around s ≡ true → holds home s ≡ false) → length xs ≡ length home → AllByRecursion (λ (e : ℕ × ℤ). LeastAnswer (domain_of root e.0) (form_asks_on root e.0 (seq fields home) (record_of ps)) e.1) (zip home xs) → ((s : ℕ) → holds (home ++ around) s ≡ true → Unfilled s (field_events root fields path 0 ps))
      → front ≡ presence_bits fields ps
      → ((p1 : Mark) → AllRight root (field_events root fields path 0 ps) p1 → Unasked p1 → (r : Writing) → Under (home ++ around) r (with_home home xs env) → r.at ≡ q.at + length front → Spells (home ++ around) (field_events root fields path 0 ps) p1 r back)
      → Spells around (form_events root (seq fields home) path (record_of ps)) p q (front ++ back)
  sequence_spells around fields home path ps xs p q env front back right unasked under differ apart count least unfilled e inside =
      let homes = map (λ t. (t, field_path path fields t)) home in
      let x = field_events root fields path 0 ps in
      let p1 = marked (begins homes (presence_bits fields ps)) p in
      let r : Writing = record { numbers = λ s. or_number (at_slot (zip home xs) s) (q.numbers s); at = q.at + length front; outer = q.outer } in
      let rs = right_split root x (map fills home) p1 right.1 in
      let quiet : Unasked p1 = unasked_on root (begins homes (presence_bits fields ps)) p right.0 unasked in
      let f = inside p1 rs.0 quiet r (λ s h. env_number s h) refl in
      let p2 = ends x p1 in
      let one = f.at in
      let l = length-append front back in
      record {
        behind = f.behind;
        spelt = record {
          front = front;
          back = back;
          mid = r;
          whole = refl;
          first = (e, refl, refl, λ s n. ap (λ o. or_number o (q.numbers s)) (away_number home xs s (sym (home_holds path fields home s) ∙ n)));
          rest = subst (λ (z : List Bool). Spelt root (x ++ map fills home) p1 r f.behind z) (append-nil back)
              (spelt_then root x (map fills home) p1 r f.behind f.behind back [] f.spelt
              (fills_spell home p2 f.behind differ (λ s h.
              let y = home_number home xs (λ t z. LeastAnswer (domain_of root t) (form_asks_on root t (seq fields home) (record_of ps)) z) count least s h in
              let asked : p2.asked s ≡ fields_asks_on root s fields ps =
              asked_along root s x p1 (unfilled s (home_near home around s h)) ∙ (ap (λ z. z ++ all_on root s x) (quiet s (home_unknown path fields home p.known right.0 s h)) ∙ fields_ask root s fields path 0 ps) in
              (y.0, f.numbers s (home_near home around s h) ∙ ap (λ o. or_number o (q.numbers s)) y.1, subst (λ (z : List Ask). LeastAnswer (domain_of root s) z y.0) (sym asked) y.2))));
        };
        at = omega (arith, one, l);
        outer = f.outer;
        numbers = λ s h. f.numbers s (more_near home around s h) ∙ ap (λ o. or_number o (q.numbers s)) (away_number home xs s (apart s h));
      }
    where
      env_number : (s : ℕ) → holds (home ++ around) s ≡ true → or_number (at_slot (zip home xs) s) (q.numbers s) ≡ at_slot (with_home home xs env) s
      env_number s h = truth {F = or_number (at_slot (zip home xs) s) (q.numbers s) ≡ at_slot (with_home home xs env) s} (holds home s)
          (λ y.
          let z = home_number home xs (λ t v. Unit {0}) count (all_unit (zip home xs)) s y in
          ap (λ o. or_number o (q.numbers s)) z.1 ∙ (sym (ap (λ o. or_number o (at_slot env s)) z.1) ∙ sym (over_env (zip home xs) env s)))
          (λ y. ap (or_number (at_slot (zip home xs) s)) (under s (sym (rest_near home around s y) ∙ h)) ∙ sym (over_env (zip home xs) env s))
        where
          all_unit : (l : List (ℕ × ℤ)) → AllByRecursion (λ (e : ℕ × ℤ). Unit {0}) l
          all_unit [] = tt
          all_unit (e ∷ l) = (tt, all_unit l)

  mutual
    pub node_spells : (g : Grammar) (k : ℕ) (around : List ℕ) (ks : Known) → Sound root k around ks g → (path : List ℕ) (d : Data) (p : Mark) → AllRight root (events root g path d) p → Unasked p → (q : Writing) (env : Env) → Under around q env → (at : ℕ) → q.at ≡ at → (bs : List Bool) → Spell root Written g env d at bs
        → Spells around (events root g path d) p q bs
    node_spells (node align form) k around ks s path d p r u q env n at e bs t =
        spells_is around (aligns align ∷ form_events root form path d) p q (t.front ++ t.back) bs (sym t.whole)
        (spells_then around (aligns align ∷ []) (form_events root form path d) p q t.front t.back (spells_one around (aligns align) p q t.front (pad_bits align at t.front t.first ∙ ap (λ z. replicate (padding align z) false) (sym e), refl))
        (λ mid a m. form_spells form k around ks s.2 path d (marked (aligns align) p) r.1 (unasked_on root (aligns align) p r.0 u) mid env (λ v w. m v w ∙ n v w) (at + length t.front) (a ∙ ap (λ z. z + length t.front) e) t.back t.second))

    form_spells : (form : Form) (k : ℕ) (around : List ℕ) (ks : Known) → FormSound root k around ks form → (path : List ℕ) (d : Data) (p : Mark) → AllRight root (form_events root form path d) p → Unasked p → (q : Writing) (env : Env) → Under around q env → (at : ℕ) → q.at ≡ at → (bs : List Bool) → FormPart root Written form env d at bs
        → Spells around (form_events root form path d) p q bs
    form_spells (num leaf) k around ks s path d p r u q env n at e bs t =
        spells_one around (codes leaf (number_of d)) p q bs (subst (λ (z : ℤ). Code Written leaf z bs) (NumberOf-number_of leaf.kind d t.0 t.1) t.2, refl)
    form_spells (octets sizing) k around ks s path (octet_string os) p r u q env n at e bs t =
        spells_is around (form_events root (octets sizing) path (octet_string os)) p q (t.front ++ t.back) bs (sym t.whole)
        (string_spells around path sizing (length os) t.front t.back (bits_of os) p q (rule_bits sizing.rule env (length os) at t.front t.first.spelled) t.second.spelled)
    form_spells (bits sizing) k around ks s path (bit_string xs) p r u q env n at e bs t =
        spells_is around (form_events root (bits sizing) path (bit_string xs)) p q (t.front ++ t.back) bs (sym t.whole)
        (string_spells around path sizing (length xs) t.front t.back xs p q (rule_bits sizing.rule env (length xs) at t.front t.first.spelled) t.second)
    form_spells (text leaf) k around ks s path (characters cs) p r u q env n at e bs t =
        spells_then around (size_wants path (length cs) leaf.sized.rule) (texts leaf cs ∷ []) p q [] bs (size_spells around path (length cs) leaf.sized.rule p q)
        (λ mid a m. spells_one around (texts leaf cs) (ends (size_wants path (length cs) leaf.sized.rule) p) mid bs ((env, at, t), refl))
    form_spells (seq fields home) k around ks s path (record_of ps) p r u q env n at e bs t =
        let v = t.spelled in
        spells_is around (form_events root (seq fields home) path (record_of ps)) p q (v.front ++ v.back) bs (sym v.whole)
        (sequence_spells around fields home path ps t.numbers p q env v.front v.back r u n s.0.named_once s.0.not_around (t.fine).count ((t.fine).least refl)
        (λ z h. fields_unfilled root z fields (suc k) (home ++ around) ks s.1 h path 0 ps) v.first
        (λ p1 r1 u1 w n1 a. fields_spell fields (suc k) (home ++ around) ks s.1 path 0 ps p1 r1 u1 w (with_home home t.numbers env) n1 (at + length v.front) (a ∙ ap (λ z. z + length v.front) e) v.back v.second))
    form_spells (list sizing g) k around ks s path (list_of es) p r u q env n at e bs t =
        let each : ℕ → Data → List Event = λ j d. events root g (path ++ j ∷ []) d in
        let c = element_count es in
        let x = run_events each 0 es in
        let l = list_bits sizing env (Spell root Written g env) es at bs sizing.rule refl t in
        let p1 = marked (sizes sizing c) p in
        let w = size_wants path c sizing.rule in
        let rs = right_split root w (x ++ end_events sizing.rule) p1 r.1 in
        let p2 = ends w p1 in
        let xs = right_split root x (end_events sizing.rule) p2 rs.1 in
        let u1 = unasked_on root (sizes sizing c) p r.0 u in
        let u2 = unasked_along root w p1 rs.0 u1 in
        spells_is around (form_events root (list sizing g) path (list_of es)) p q (l.front ++ (l.run ++ end_bits sizing.rule)) bs (sym l.whole)
        (spells_then around (sizes sizing c ∷ []) (w ++ (x ++ end_events sizing.rule)) p q l.front (l.run ++ end_bits sizing.rule) (spells_one around (sizes sizing c) p q l.front (l.size, refl))
        (λ q1 a1 m1.
        spells_then around w (x ++ end_events sizing.rule) p1 q1 [] (l.run ++ end_bits sizing.rule) (size_spells around path c sizing.rule p1 q1)
        (λ q2 a2 m2.
        spells_then around x (end_events sizing.rule) p2 q2 l.run (end_bits sizing.rule)
        (run_spell around env each (Spell root Written g env) (λ j d p' r' u' q' n' at' e' bs' t'. node_spells g (suc k) around ks s.4 (path ++ j ∷ []) d p' r' u' q' env n' at' e' bs' t') 0 es p2 xs.0 u2 q2 (λ v h. m2 v h ∙ (m1 v h ∙ n v h)) (at + length l.front)
        (a2 ∙ (none_behind q1.at ∙ (a1 ∙ ap (λ z. z + length l.front) e))) l.run l.spelled)
        (λ q3 a3 m3. end_spells around sizing.rule (ends x p2) q3))))
    form_spells (choice cases rule) k around ks s path (alt i d) p r u q env n at e bs t =
        let rs = right_split root (index_events rule i) (case_events root cases rule path i i d) p r in
        spells_is around (form_events root (choice cases rule) path (alt i d)) p q (t.front ++ t.back) bs (sym t.whole)
        (spells_then around (index_events rule i) (case_events root cases rule path i i d) p q t.front t.back (index_spells around rule i at t.front p q t.first)
        (λ mid a m.
        case_spells cases rule (suc k) around ks s.3 path i i d (ends (index_events rule i) p) rs.1 (unasked_along root (index_events rule i) p rs.0 u) mid env (λ v w. m v w ∙ n v w) (at + length t.front) (a ∙ ap (λ z. z + length t.front) e) t.back t.second))
    form_spells (contained sizing g) k around ks s path d p r u q env n at e bs t =
        let v = t.spelled in
        let w = v.second.inside in
        let x = events root g (path ++ 0 ∷ []) d in
        let p1 = marked (enters sizing.rule) p in
        let rs = right_split root x (aligns 8 ∷ closes path sizing (octets_for (bit_length g 0 d)) ∷ []) p1 r.1 in
        let r1 : Writing = record { numbers = q.numbers; at = 0; outer = record { start = q.at + length v.front; octets = t.some; rule = sizing.rule } ∷ q.outer } in
        let l1 = then-length w in
        let l2 = v.second.size in
        spells_is around (form_events root (contained sizing g) path d) p q (v.front ++ (w.front ++ w.back)) bs (sym (v.whole ∙ ap (λ z. v.front ++ z) w.whole))
        (contents_spell around path sizing x t.some (octets_for (bit_length g 0 d)) p q v.front w.front w.back (rule_bits sizing.rule env t.some at v.front v.first.spelled) (sym l1 ∙ l2) w.second
        (node_spells g (suc k) around ks s.3 (path ++ 0 ∷ []) d p1 rs.0 (unasked_on root (enters sizing.rule) p r.0 u) r1 env n 0 refl w.front w.first))
    form_spells (octets sizing) k around ks s path _ p r u q env n at e bs t = absurd t.0
    form_spells (bits sizing) k around ks s path _ p r u q env n at e bs t = absurd t.0
    form_spells (text leaf) k around ks s path _ p r u q env n at e bs t = absurd t.0
    form_spells (seq _ home) k around ks s path _ p r u q env n at e bs t = absurd t.0
    form_spells (list sizing g) k around ks s path _ p r u q env n at e bs t = absurd t.0
    form_spells (choice cases rule) k around ks s path _ p r u q env n at e bs t = absurd t.0

    fields_spell : (fs : Fields) (k : ℕ) (around : List ℕ) (ks : Known) → FieldsSound root k around ks fs → (path : List ℕ) (j : ℕ) (ps : Places) (p : Mark) → AllRight root (field_events root fs path j ps) p → Unasked p → (q : Writing) (env : Env) → Under around q env → (at : ℕ) → q.at ≡ at → (bs : List Bool) → FieldsPart root Written fs env ps at bs
        → Spells around (field_events root fs path j ps) p q bs
    fields_spell no_fields k around ks s path j no_places p r u q env n at e bs t = spells_is around [] p q [] bs (sym t) (spells_none around p q)
    fields_spell (component name g presence default own fs) k around ks s path j (filled d ps) p r u q env n at e bs t =
        let h = path ++ j ∷ [] in
        let a = own_events h own g d in
        let b = presence_events h true presence in
        let x = events root g h d in
        let y = field_events root fs path (suc j) ps in
        let r1 = right_split root a (b ++ (x ++ y)) p r in
        let p1 = ends a p in
        let r2 = right_split root b (x ++ y) p1 r1.1 in
        let p2 = ends b p1 in
        let r3 = right_split root x y p2 r2.1 in
        let u1 = unasked_along root a p r1.0 u in
        let u2 = unasked_along root b p1 r2.0 u1 in
        let u3 = unasked_along root x p2 r3.0 u2 in
        spells_is around (a ++ (b ++ (x ++ y))) p q (t.front ++ t.back) bs (sym t.whole)
        (spells_then around a (b ++ (x ++ y)) p q [] (t.front ++ t.back) (own_spells around h own g d p q)
        (λ q1 a1 m1.
        spells_then around b (x ++ y) p1 q1 [] (t.front ++ t.back) (presence_spells around h true presence p1 q1)
        (λ q2 a2 m2.
        let n2 : Under around q2 env = λ v w. m2 v w ∙ (m1 v w ∙ n v w) in
        let e2 : q2.at ≡ at = a2 ∙ (none_behind q1.at ∙ (a1 ∙ (none_behind q.at ∙ e))) in
        spells_then around x y p2 q2 t.front t.back (node_spells g k around ks s.3 h d p2 r3.0 u2 q2 env n2 at e2 t.front t.first.spelled)
        (λ q3 a3 m3.
        fields_spell fs k around (choose_known presence ks (with_own own (after ks g))) s.4 path (suc j) ps (ends x p2) r3.1 u3 q3 env (λ v w. m3 v w ∙ n2 v w) (at + length t.front) (a3 ∙ ap (λ z. z + length t.front) e2) t.back t.second))))
    fields_spell (component name g presence default own fs) k around ks s path j (empty ps) p r u q env n at e bs t =
        let b = presence_events (path ++ j ∷ []) false presence in
        let y = field_events root fs path (suc j) ps in
        let r1 = right_split root b y p r in
        spells_then around b y p q [] bs (presence_spells around (path ++ j ∷ []) false presence p q)
        (λ q1 a1 m1.
        fields_spell fs k around (choose_known presence ks (with_own own (after ks g))) s.4 path (suc j) ps (ends b p) r1.1 (unasked_along root b p r1.0 u) q1 env (λ v w. m1 v w ∙ n v w) at (a1 ∙ (none_behind q.at ∙ e)) bs t.spelled)
    fields_spell (inserted name (node align (num leaf)) (Some v) fs) k around ks s path j ps p r u q env n at e bs t =
        let f = t.first in
        let y = field_events root fs path (suc j) ps in
        let p1 = marked (aligns align) p in
        let p2 = marked (opens v leaf) p1 in
        let c = f.2 in
        let u1 = unasked_on root (aligns align) p r.0 u in
        let u2 = unasked_on root (opens v leaf) p1 r.1.0 u1 in
        spells_is around (aligns align ∷ (opens v leaf ∷ y)) p q (c.front ++ (c.back ++ t.back)) bs (sym (t.whole ∙ (ap (λ z. z ++ t.back) c.whole ∙ append_assoc c.front c.back t.back)))
        (spells_then around (aligns align ∷ []) (opens v leaf ∷ y) p q c.front (c.back ++ t.back) (spells_one around (aligns align) p q c.front (pad_bits align at c.front c.first ∙ ap (λ z. replicate (padding align z) false) (sym e), refl))
        (λ q1 a1 m1.
        spells_then around (opens v leaf ∷ []) y p1 q1 c.back t.back (spells_one around (opens v leaf) p1 q1 c.back ((f.0, m1 v s.0.0 ∙ (n v s.0.0 ∙ f.1), c.second), refl))
        (λ q2 a2 m2.
        let l = then-length c in
        fields_spell fs k around (with_slot v ks) s.3 path (suc j) ps p2 r.1.1 u2 q2 env (λ z w. m2 z w ∙ (m1 z w ∙ n z w)) (at + length t.front) (omega (arith, l, a1, a2, e)) t.back t.second)))
    fields_spell (inserted name (node align (num leaf)) None fs) k around ks s path j ps p r u q env n at e bs t =
        let c = t.first in
        let y = field_events root fs path (suc j) ps in
        let p1 = marked (aligns align) p in
        let p2 = marked (codes leaf (pos 0)) p1 in
        let code : Code Written leaf (pos 0) c.back = subst (λ (z : ℤ). Code Written leaf z c.back) (NumberOf-number_of leaf.kind null c.second.0 c.second.1) c.second.2 in
        let u1 = unasked_on root (aligns align) p r.0 u in
        let u2 = unasked_on root (codes leaf (pos 0)) p1 r.1.0 u1 in
        spells_is around (aligns align ∷ (codes leaf (pos 0) ∷ y)) p q (c.front ++ (c.back ++ t.back)) bs (sym (t.whole ∙ (ap (λ z. z ++ t.back) c.whole ∙ append_assoc c.front c.back t.back)))
        (spells_then around (aligns align ∷ []) (codes leaf (pos 0) ∷ y) p q c.front (c.back ++ t.back) (spells_one around (aligns align) p q c.front (pad_bits align at c.front c.first ∙ ap (λ z. replicate (padding align z) false) (sym e), refl))
        (λ q1 a1 m1.
        spells_then around (codes leaf (pos 0) ∷ []) y p1 q1 c.back t.back (spells_one around (codes leaf (pos 0)) p1 q1 c.back (code, refl))
        (λ q2 a2 m2.
        let l = then-length c in
        fields_spell fs k around ks s.2 path (suc j) ps p2 r.1.1 u2 q2 env (λ z w. m2 z w ∙ (m1 z w ∙ n z w)) (at + length t.front) (omega (arith, l, a1, a2, e)) t.back t.second)))
    fields_spell (inserted name (node align _) (Some v) fs) k around ks s path j ps p r u q env n at e bs t = absurd s.0
    fields_spell (inserted name (node align _) None fs) k around ks s path j ps p r u q env n at e bs t = absurd s.0
    fields_spell no_fields k around ks s path j _ p r u q env n at e bs t = absurd t.0
    fields_spell (component name g presence default own fs) k around ks s path j no_places p r u q env n at e bs t = absurd t.0

    case_spells : (cases : Alternatives) (rule : ChoiceRule) (k : ℕ) (around : List ℕ) (ks : Known) → AlternativesSound root k around ks cases → (path : List ℕ) (i j : ℕ) (d : Data) (p : Mark) → AllRight root (case_events root cases rule path i j d) p → Unasked p → (q : Writing) (env : Env) → Under around q env → (at : ℕ) → q.at ≡ at → (bs : List Bool)
        → AlternativePart root Written cases rule env j d at bs → Spells around (case_events root cases rule path i j d) p q bs
    case_spells no_alternatives rule k around ks s path i j d p r u q env n at e bs t = absurd t.0
    case_spells (alternative name g tests more) rule k around ks s path i zero d p r u q env n at e bs t =
        let a = rule_events root path i rule name tests in
        let r1 = right_split root a (events root g (path ++ i ∷ []) d) p r in
        spells_then around a (events root g (path ++ i ∷ []) d) p q [] bs (rule_spells around path i rule name tests p q)
        (λ mid b m. node_spells g k around ks s.1 (path ++ i ∷ []) d (ends a p) r1.1 (unasked_along root a p r1.0 u) mid env (λ v w. m v w ∙ n v w) at (b ∙ (none_behind q.at ∙ e)) bs t.spelled)
    case_spells (alternative name g tests more) rule k around ks s path i (suc j) d p r u q env n at e bs t = case_spells more rule k around ks s.2 path i j d p r u q env n at e bs t
