-- A best value has the form of its node, and no breach.
use Rattle.std.proofs.Common.{◌≡◌, ℕ, zero, suc, ◌-◌, ◌*◌, ◌<◌, ℤ, pos, negsuc, Bool, true, false, not, ◌&&◌, List, [], ◌∷◌, ◌++◌, length, map, Option, Some, None, refl, sym, ap, ◌∙◌, arith, nat_lt}
use Rattle.std.proofs.lemmas.Bool.{and_parts, and_from}
use Rattle.std.proofs.lemmas.Bool.Decides.{nat_tests}
use Rattle.std.proofs.lemmas.Int.{ints}
use Rattle.std.specs.Prelude.{◌≤ℤ◌, ◌%◌, ◌/◌, is_none, if◌then◌else◌, replicate, slice_get, position}
use Rattle.std.specs.List.{position_or_len}
use Rattle.acn_num.specs.Bits.{number}
use Rattle.acn_num.specs.Ranges.{In, Ranges, has}
use Rattle.acn_grammar.specs.Code.{in_octets}
use Rattle.acn_grammar.specs.Grammar.{Grammar, Form, Fields, Alternatives, Data, Places, Elements, node, num, octets, bits, text, seq, list, choice, contained, no_fields, component, inserted, no_alternatives, alternative, octet_string, bit_string, characters, record_of, list_of, alt, no_places, empty, filled, no_elements, element, element_count}
use Rattle.acn_grammar.specs.Leaves.{set_fine, is_range, items_fine, text_fine, end_fine}
use Rattle.acn_grammar.specs.Length.{number_of, ending, least}
use Rattle.acn_grammar.specs.Meets.{Unfit, Why, first_end, unless, out_of_range, size_out_of_range, size_breach, end_breach, text_breach, at_path, run_breaches, breaches, form_breaches, field_breaches, alternative_breaches, Meets}
use Rattle.acn_grammar.specs.Scoped.{Known, with_slot, with_own, after, choose_known}
use Rattle.acn_grammar.specs.Shaped.{may_be_absent, num_fits, are_octets, each_element, fits, form_fits, fields_fit, alternative_fits}
use Rattle.acn_grammar.specs.Sound.{Sound, FormSound, FieldsSound, AlternativesSound}
use Rattle.acn_grammar.specs.Spell.{octet_numbers}
use Rattle.acn_grammar.specs.declared.node.ChoiceRule.{ChoiceRule}
use Rattle.acn_grammar.specs.declared.node.NumCoding.{NumCoding}
use Rattle.acn_grammar.specs.declared.node.Items.{Items}
use Rattle.acn_grammar.specs.declared.node.Table.{Table}
use Rattle.acn_grammar.specs.declared.node.NumKind.{NumKind}
use Rattle.acn_grammar.specs.declared.node.NumKind.TheVariants.{Integer, Boolean, Enumerated, Null}
use Rattle.acn_grammar.specs.declared.node.Presence.{Presence}
use Rattle.acn_grammar.specs.declared.node.Presence.TheVariants.{Always, Bit, When}
use Rattle.acn_grammar.specs.declared.node.SizeRule.{SizeRule}
use Rattle.acn_grammar.specs.declared.node.TextLeaf.{TextLeaf}
use Rattle.acn_grammar.proofs.FineLeaves.{rules_of}
use Rattle.acn_grammar.proofs.HasImage.{range_within}
use Rattle.acn_grammar.proofs.Octets.{octets_whole}
use Rattle.acn_grammar.proofs.TextRules.{text_rules, end_rules}
use Rattle.acn_extreme_laws.specs.Best.{number_data, can_stand, other_by, character_by, character_of}
use Rattle.acn_extreme_laws.specs.Codes.{number_at}
use Rattle.acn_extreme_laws.specs.Reach.{natural, can_be_away}
use Rattle.acn_extreme_laws.specs.declared.side.Side.{Side}
use Rattle.acn_extreme_laws.proofs.BestLength.{leaf_back}
use Rattle.acn_extreme_laws.proofs.Chosen.{RunBest, ListBest, IsBest, FormBest, FieldsBest, CaseBest}
use Rattle.acn_extreme_laws.proofs.Codes.{number_permitted}
use Rattle.acn_extreme_laws.proofs.Parts.{repeated_texts_have_no_end, one_repeats}
use Rattle.acn_extreme_laws.proofs.Ready.{TextReady, Ready, FormReady, FieldsReady, CasesReady, least_character}
use Rattle.acn_extreme_laws.proofs.Sizes.{lies_within}
use Rattle.acn_extreme_laws.proofs.Tuples.{first_two, second_three, third_four, fourth_five, last_two, last_three, last_four, last_five}

-- Numbers.

count_below : (x : ℤ) (n : ℕ) → nat_lt 0 n ≡ true → pos 0 ≤ℤ x → x ≤ℤ pos (n - 1) → nat_lt (natural x) n ≡ true
count_below (pos m) zero l a b = cc
count_below (pos m) (suc n) l a b = (let q : m < suc n = omega (arith, ints) in grind (arith, nat_tests, q))
count_below (negsuc m) n l a b = absurd (omega (arith, ints))

number_fits : (kind : NumKind) (coding : NumCoding) (items : Items) (table : Option Table) (set : Ranges) (x : ℤ) → set_fine kind coding items table set ≡ true → has set x ≡ true → num_fits kind (length items.items) (number_data kind x) ≡ true
number_fits Integer coding items table set x h k = refl
number_fits Boolean coding items table set x h k = refl
number_fits Null coding items table set x h k = refl
number_fits Enumerated coding items table set x h k =
    let f = and_parts (nat_lt 0 (length items.items)) (is_range (pos 0) (pos (length items.items - 1)) set && items_fine coding items) h in
    let w = range_within (pos 0) (pos (length items.items - 1)) set x (and_parts (is_range (pos 0) (pos (length items.items - 1)) set) (items_fine coding items) f.1).0 k in
    count_below x (length items.items) f.0 w.0 w.1

-- Strings.

zeros_fit : (n c : ℕ) → c < 256 → are_octets (replicate n c) ≡ true
zeros_fit zero c l = refl
zeros_fit (suc n) c l = and_from (nat_lt c 256) (are_octets (replicate n c)) (grind (arith, nat_tests, l)) (zeros_fit n c l)

none_at : (p : ℕ → Bool) (c : ℕ) → p c ≡ false → (n : ℕ) → position_or_len p (replicate n c) ≡ length (replicate n c)
none_at p c h zero = refl
none_at p c h (suc n) = (let rest = none_at p c h n in rw h (omega (arith, rest)))

no_position : (p : ℕ → Bool) (c : ℕ) → p c ≡ false → (n : ℕ) → position p (replicate n c) ≡ None
no_position p c h n =
    let e = none_at p c h n in
    let t : nat_lt (position_or_len p (replicate n c)) (length (replicate n c)) ≡ false = grind (arith, nat_tests, e) in
    rw t refl

sized : (path : List ℕ) (b : Bool) (why : Why) → b ≡ true → at_path path (unless b why) ≡ []
sized path true why h = refl
sized path false why h = cc

long : {A : Type 0} (n : ℕ) (x : A) → length (replicate n x) ≡ n
long zero x = refl
long (suc n) x = ap suc (long n x)

-- Texts.

octet_there : (end : List Bool) (os : List (List Bool)) → in_octets end ≡ os → 0 < length (octet_numbers end) → (octet : List Bool) × (more : List ℕ) × (slice_get (in_octets end) 0 ≡ Some octet) × (octet_numbers end ≡ number octet ∷ more)
octet_there end [] e l = absurd (none (ap (λ (z : List (List Bool)). length (map number z)) e))
  where
    none : length (octet_numbers end) ≡ 0 → ⊥
    none q = omega (arith, l)
octet_there end (o ∷ os) e l = (o, map number os, ap (λ (z : List (List Bool)). slice_get z 0) e, ap (λ (z : List (List Bool)). map number z) e)

-- a text of the character that is taken has no end inside, and the character is of the alphabet
record CanRepeat (leaf : TextLeaf) (o : Option (List Bool)) (c : ℕ) : Type 0 where
  ends_late : (n : ℕ) → end_breach o (replicate n c) ≡ []
  permitted : In leaf.alphabet (pos c)

other_repeats : (leaf : TextLeaf) → text_fine leaf ≡ true → (end : List Bool) → leaf.ended ≡ Some end → TextReady (Some end) leaf → CanRepeat leaf (Some end) (other_by end leaf.alphabet)
other_repeats leaf fine end is h =
    let r = end_rules leaf end (ap (λ o. end_fine o leaf) (sym is) ∙ (text_rules leaf fine).end) in
    let whole = octets_whole end (rest (length end) (length end / 8) r.octets) in
    let some = r.some in
    let eight = r.octets in
    let t = octet_there end (in_octets end) refl (omega arith) in
    record { ends_late = λ n. rw (t.3, repeated_texts_have_no_end (other_by end leaf.alphabet) (number t.0) n t.1 (h.1 t.0 t.2)) refl; permitted = h.0 }
  where
    rest : (l q : ℕ) → l ≡ 8 * q → l % 8 ≡ 0
    rest l q e = omega arith

can_repeat : (leaf : TextLeaf) → text_fine leaf ≡ true → (o : Option (List Bool)) → leaf.ended ≡ o → TextReady o leaf → CanRepeat leaf o (character_by o leaf.alphabet)
can_repeat leaf fine None is h = record { ends_late = λ n. refl; permitted = least_character leaf fine }
can_repeat leaf fine (Some end) is h = by (can_stand end (natural (least leaf.alphabet))) refl
  where
    none : {A : Type 0} (o : Option A) → is_none o ≡ true → o ≡ None
    none None e = refl
    none (Some x) e = cc

    by : (b : Bool) → can_stand end (natural (least leaf.alphabet)) ≡ b → CanRepeat leaf (Some end) (if b then natural (least leaf.alphabet) else other_by end leaf.alphabet)
    by true e = record {
      ends_late = λ n. rw (one_repeats (natural (least leaf.alphabet)) n (octet_numbers end) (none (first_end (octet_numbers end) (natural (least leaf.alphabet) ∷ [])) e)) refl;
      permitted = least_character leaf fine;
    }
    by false e = other_repeats leaf fine end is h

small : (leaf : TextLeaf) → text_fine leaf ≡ true → (c : ℕ) → In leaf.alphabet (pos c) → c < 256
small leaf fine c h = (let w = lies_within (pos 0) (pos 127) leaf.alphabet (pos c) (text_rules leaf fine).small h in let high = w.1 in omega (arith, ints))

unless_true : (b : Bool) (why : Why) → b ≡ true → unless b why ≡ []
unless_true true why h = refl
unless_true false why h = cc

not_false : (b : Bool) → b ≡ true → not b ≡ false
not_false true h = refl
not_false false h = cc

text_meets : (leaf : TextLeaf) → text_fine leaf ≡ true → TextReady leaf.ended leaf → (n : ℕ) → has leaf.sized.sizes (pos n) ≡ true → text_breach leaf (replicate n (character_of leaf)) ≡ []
text_meets leaf fine h n size =
    let c = character_of leaf in
    let repeats = can_repeat leaf fine leaf.ended refl h in
    let inn = repeats.permitted in
    let one = unless_true (has leaf.sized.sizes (pos (length (replicate n c)))) (size_out_of_range (length (replicate n c))) (ap (λ m. has leaf.sized.sizes (pos m)) (long n c) ∙ size) in
    let two = no_position (λ x. not (has leaf.alphabet (pos x))) c (not_false (has leaf.alphabet (pos c)) inn) n in
    let three = repeats.ends_late n in
    rw (one, two, three) refl

no_append : {A : Type 0} (xs ys : List A) → xs ≡ [] → ys ≡ [] → xs ++ ys ≡ []
no_append xs ys e f = ap (λ z. z ++ ys) e ∙ f

-- Elements.

run_fits : (each : ℕ → Data → ℕ → Type 0) (p : Data → Bool) → ((at : ℕ) (d : Data) (e : ℕ) → each at d e → p d ≡ true) → (es : Elements) (at e : ℕ) → RunBest each at es e → each_element p es ≡ true
run_fits each p h no_elements at e r = refl
run_fits each p h (element d es) at e r = and_from (p d) (each_element p es) (h at d r.0 r.1) (run_fits each p h es r.0 e r.2)

run_meets : (each : ℕ → Data → ℕ → Type 0) (b : ℕ → Data → List Unfit) → ((k at : ℕ) (d : Data) (e : ℕ) → each at d e → b k d ≡ []) → (k : ℕ) (es : Elements) (at e : ℕ) → RunBest each at es e → run_breaches b k es ≡ []
run_meets each b h k no_elements at e r = refl
run_meets each b h k (element d es) at e r = no_append (b k d) (run_breaches b (suc k) es) (h k at d r.0 r.1) (run_meets each b h (suc k) es r.0 e r.2)

pub list_run : (o : Option (List Bool)) (rule : SizeRule) (each : ℕ → Data → ℕ → Type 0) (at : ℕ) (es : Elements) (e : ℕ) → ListBest o rule each at es e → (from to : ℕ) × RunBest each from es to
list_run None rule each at es e r = (_, r.0, r.1)
list_run (Some p) rule each at es e r = (at, r.0, r.1)

absent : (root : Grammar) (p : Presence) → can_be_away root p ≡ true → may_be_absent p ≡ true
absent root Always h = h
absent root Bit h = refl
absent root (When ts) h = refl

module _ (root : Grammar) (side : Side) where
  mutual
    pub node_fits : (g : Grammar) (k : ℕ) (around : List ℕ) (ks : Known) → Sound root k around ks g → Ready root g → (at : ℕ) (d : Data) (e : ℕ) → IsBest root side g at d e → fits g d ≡ true
    node_fits (node a form) k around ks sound h at d e r = form_fit form k around ks (last_three sound) h _ d e r

    form_fit : (form : Form) (k : ℕ) (around : List ℕ) (ks : Known) → FormSound root k around ks form → FormReady root form → (at : ℕ) (d : Data) (e : ℕ) → FormBest root side form at d e → form_fits form d ≡ true
    form_fit (num l) k around ks sound h at d e r = ap (num_fits l.kind (length l.items.items)) r.0 ∙ number_fits l.kind l.coding l.items l.table l.set (number_at side l) (rules_of l sound).set (number_permitted l sound side)
    form_fit (octets z) k around ks sound h at (octet_string os) e r = ap are_octets r.2 ∙ zeros_fit r.0 0 (omega arith)
    form_fit (bits z) k around ks sound h at (bit_string bs) e r = refl
    form_fit (text l) k around ks sound h at (characters cs) e r = ap are_octets r.2 ∙ zeros_fit r.0 (character_of l) (small l (first_two sound) (character_of l) (can_repeat l (first_two sound) l.ended refl h).permitted)
    form_fit (seq fs home) k around ks sound h at (record_of ps) e r = fields_fits fs (suc k) (home ++ around) ks (last_two sound) h _ ps e r
    form_fit (list z g) k around ks sound h at (list_of es) e r =
        let t = list_run (ending z.rule) z.rule (IsBest root side g) at es e r.1 in
        run_fits (IsBest root side g) (fits g) (λ m d q s. node_fits g (suc k) around ks (last_five sound) h m d q s) es t.0 t.1 t.2
    form_fit (choice cases rule) k around ks sound h at (alt i d) e r = case_fits cases rule (suc k) around ks (last_four sound) h i _ d e r
    form_fit (contained z g) k around ks sound h at d e r = node_fits g (suc k) around ks (last_four sound) h.1 0 d r.0 r.1
    form_fit (octets z) k around ks sound h at _ e r = absurd r
    form_fit (bits z) k around ks sound h at _ e r = absurd r
    form_fit (text l) k around ks sound h at _ e r = absurd r
    form_fit (seq fs home) k around ks sound h at _ e r = absurd r
    form_fit (list z g) k around ks sound h at _ e r = absurd r
    form_fit (choice cases rule) k around ks sound h at _ e r = absurd r

    fields_fits : (fs : Fields) (k : ℕ) (around : List ℕ) (ks : Known) → FieldsSound root k around ks fs → FieldsReady root fs → (at : ℕ) (ps : Places) (e : ℕ) → FieldsBest root side fs at ps e → fields_fit fs ps ≡ true
    fields_fits no_fields k around ks sound h at no_places e r = refl
    fields_fits no_fields k around ks sound h at (empty ps) e r = absurd r
    fields_fits no_fields k around ks sound h at (filled d ps) e r = absurd r
    fields_fits (component n g p def own fs) k around ks sound h at no_places e r = absurd r
    fields_fits (component n g p def own fs) k around ks sound h at (filled d ps) e r =
        and_from (fits g d) (fields_fit fs ps) (node_fits g k around ks (fourth_five sound) (third_four h) at d r.1 r.2) (fields_fits fs k around (choose_known p ks (with_own own (after ks g))) (last_five sound) (last_four h) r.1 ps e r.3)
    fields_fits (component n g p def own fs) k around ks sound h at (empty ps) e r =
        and_from (may_be_absent p) (fields_fit fs ps) (absent root p r.0) (fields_fits fs k around (choose_known p ks (with_own own (after ks g))) (last_five sound) (last_four h) at ps e r.1)
    fields_fits (inserted n g (Some s) fs) k around ks sound h at ps e r = fields_fits fs k around (with_slot s ks) (last_four sound) (last_two h) r.1 ps e r.3
    fields_fits (inserted n g None fs) k around ks sound h at ps e r = fields_fits fs k around ks (last_three sound) (last_two h) r.1 ps e r.3

    case_fits : (cases : Alternatives) (rule : ChoiceRule) (k : ℕ) (around : List ℕ) (ks : Known) → AlternativesSound root k around ks cases → CasesReady root cases → (i at : ℕ) (d : Data) (e : ℕ) → CaseBest root side rule cases i at d e → alternative_fits cases i d ≡ true
    case_fits no_alternatives rule k around ks sound h i at d e r = absurd r
    case_fits (alternative n g ts more) rule k around ks sound h zero at d e r = node_fits g k around ks (second_three sound) (first_two h) at d e r.1
    case_fits (alternative n g ts more) rule k around ks sound h (suc i) at d e r = case_fits more rule k around ks (last_three sound) (last_two h) i at d e r

  mutual
    pub node_meets : (g : Grammar) (k : ℕ) (around : List ℕ) (ks : Known) → Sound root k around ks g → Ready root g → (at : ℕ) (d : Data) (e : ℕ) → IsBest root side g at d e → (path : List ℕ) → breaches path g d ≡ []
    node_meets (node a form) k around ks sound h at d e r path = form_meets form k around ks (last_three sound) h _ d e r path

    form_meets : (form : Form) (k : ℕ) (around : List ℕ) (ks : Known) → FormSound root k around ks form → FormReady root form → (at : ℕ) (d : Data) (e : ℕ) → FormBest root side form at d e → (path : List ℕ) → form_breaches path form d ≡ []
    form_meets (num l) k around ks sound h at d e r path =
        sized path (has l.set (number_of d)) (out_of_range (number_of d)) (ap (λ x. has l.set x) (ap number_of r.0 ∙ leaf_back l sound side) ∙ number_permitted l sound side)
    form_meets (octets z) k around ks sound h at (octet_string os) e r path =
        sized path (has z.sizes (pos (length os))) (size_out_of_range (length os)) (ap (λ m. has z.sizes (pos m)) (ap length r.2 ∙ long r.0 0) ∙ (r.1).permitted)
    form_meets (bits z) k around ks sound h at (bit_string bs) e r path =
        sized path (has z.sizes (pos (length bs))) (size_out_of_range (length bs)) (ap (λ m. has z.sizes (pos m)) (ap length r.2 ∙ long r.0 false) ∙ (r.1).permitted)
    form_meets (text l) k around ks sound h at (characters cs) e r path =
        ap (λ (z : List ℕ). at_path path (text_breach l z)) r.2 ∙ ap (at_path path) (text_meets l (first_two sound) h r.0 (r.1).permitted)
    form_meets (seq fs home) k around ks sound h at (record_of ps) e r path = fields_meet fs (suc k) (home ++ around) ks (last_two sound) h _ ps e r path 0
    form_meets (list z g) k around ks sound h at (list_of es) e r path =
        let t = list_run (ending z.rule) z.rule (IsBest root side g) at es e r.1 in
        no_append (at_path path (size_breach z (element_count es))) (run_breaches (λ j d. breaches (path ++ j ∷ []) g d) 0 es)
        (sized path (has z.sizes (pos (element_count es))) (size_out_of_range (element_count es)) (r.0).permitted)
        (run_meets (IsBest root side g) (λ j d. breaches (path ++ j ∷ []) g d) (λ j m d q s. node_meets g (suc k) around ks (last_five sound) h m d q s (path ++ j ∷ [])) 0 es t.0 t.1 t.2)
    form_meets (choice cases rule) k around ks sound h at (alt i d) e r path = case_meets cases rule (suc k) around ks (last_four sound) h i _ d e r path i
    form_meets (contained z g) k around ks sound h at d e r path = node_meets g (suc k) around ks (last_four sound) h.1 0 d r.0 r.1 (path ++ 0 ∷ [])
    form_meets (octets z) k around ks sound h at _ e r path = absurd r
    form_meets (bits z) k around ks sound h at _ e r path = absurd r
    form_meets (text l) k around ks sound h at _ e r path = absurd r
    form_meets (seq fs home) k around ks sound h at _ e r path = absurd r
    form_meets (list z g) k around ks sound h at _ e r path = absurd r
    form_meets (choice cases rule) k around ks sound h at _ e r path = absurd r

    fields_meet : (fs : Fields) (k : ℕ) (around : List ℕ) (ks : Known) → FieldsSound root k around ks fs → FieldsReady root fs → (at : ℕ) (ps : Places) (e : ℕ) → FieldsBest root side fs at ps e → (path : List ℕ) (i : ℕ) → field_breaches path i fs ps ≡ []
    fields_meet no_fields k around ks sound h at no_places e r path i = refl
    fields_meet no_fields k around ks sound h at (empty ps) e r path i = absurd r
    fields_meet no_fields k around ks sound h at (filled d ps) e r path i = absurd r
    fields_meet (component n g p def own fs) k around ks sound h at no_places e r path i = absurd r
    fields_meet (component n g p def own fs) k around ks sound h at (filled d ps) e r path i =
        no_append (breaches (path ++ i ∷ []) g d) (field_breaches path (suc i) fs ps) (node_meets g k around ks (fourth_five sound) (third_four h) at d r.1 r.2 (path ++ i ∷ []))
        (fields_meet fs k around (choose_known p ks (with_own own (after ks g))) (last_five sound) (last_four h) r.1 ps e r.3 path (suc i))
    fields_meet (component n g p def own fs) k around ks sound h at (empty ps) e r path i = fields_meet fs k around (choose_known p ks (with_own own (after ks g))) (last_five sound) (last_four h) at ps e r.1 path (suc i)
    fields_meet (inserted n g (Some s) fs) k around ks sound h at ps e r path i = fields_meet fs k around (with_slot s ks) (last_four sound) (last_two h) r.1 ps e r.3 path (suc i)
    fields_meet (inserted n g None fs) k around ks sound h at ps e r path i = fields_meet fs k around ks (last_three sound) (last_two h) r.1 ps e r.3 path (suc i)

    case_meets : (cases : Alternatives) (rule : ChoiceRule) (k : ℕ) (around : List ℕ) (ks : Known) → AlternativesSound root k around ks cases → CasesReady root cases → (j at : ℕ) (d : Data) (e : ℕ) → CaseBest root side rule cases j at d e → (path : List ℕ) (i : ℕ) → alternative_breaches path i cases j d ≡ []
    case_meets no_alternatives rule k around ks sound h j at d e r path i = absurd r
    case_meets (alternative n g ts more) rule k around ks sound h zero at d e r path i = node_meets g k around ks (second_three sound) (first_two h) at d e r.1 (path ++ i ∷ [])
    case_meets (alternative n g ts more) rule k around ks sound h (suc j) at d e r path i = case_meets more rule k around ks (last_three sound) (last_two h) j at d e r path i

  pub best_meets : (g : Grammar) (k : ℕ) (around : List ℕ) (ks : Known) → Sound root k around ks g → Ready root g → (at : ℕ) (d : Data) (e : ℕ) → IsBest root side g at d e → Meets g d
  best_meets g k around ks sound h at d e r = record { shaped = node_fits g k around ks sound h at d e r; none = node_meets g k around ks sound h at d e r [] }
