-- A packet of a grammar is a packet of each grammar that accepts it.
use Rattle.std.proofs.Common.{◌≡◌, ℕ, zero, suc, ◌+◌, ◌≤◌, ℤ, pos, Bool, true, false, ◌&&◌, ◌||◌, List, [], ◌∷◌, ◌++◌, length, Option, Some, None, refl, sym, ap, ◌∙◌, arith, subst, nat_eq}
use Rattle.std.specs.Prelude.{if◌then◌else◌, slice_get}
use Rattle.std.specs.List.{AllByRecursion}
use Rattle.acn_num.specs.Bits.{IsNumber}
use Rattle.acn_grammar.specs.Code.{Any, Code, NumberOf, image_of, image_by, image_in, item_number, CodingCode}
use Rattle.acn_grammar.specs.Env.{Env}
use Rattle.acn_grammar.specs.Fails.{count_of}
use Rattle.acn_grammar.specs.Front.{Front}
use Rattle.acn_grammar.specs.Grammar.{Grammar, Form, Fields, Alternatives, Data, Places, Elements, node, num, octets, bits, text, seq, list, choice, contained, no_fields, component, inserted, no_alternatives, alternative, octet_string, bit_string, characters, record_of, list_of, alt, null, no_places, empty, filled, no_elements, element, element_count}
use Rattle.acn_grammar.specs.Length.{presence_bits, ending}
use Rattle.acn_grammar.specs.Spell.{Part, Padding, Fill, Spell, FormPart, FieldsPart, SlotField, RunPart, ListPart, Window, AlternativePart, SizePart, RulePart, CharactersPart, EndedPart, TextPart, character_number, place_in, IndexPart, Chosen, Carries, with_home}
use Rattle.acn_grammar.specs.Walk.{conditions_of}
use Rattle.acn_grammar.specs.declared.node.ChoiceRule.{ChoiceRule}
use Rattle.acn_grammar.specs.declared.node.ChoiceRule.TheVariants.{Index, Tests, Item}
use Rattle.acn_grammar.specs.declared.node.NumLeaf.{NumLeaf}
use Rattle.acn_grammar.specs.declared.node.Presence.{Presence}
use Rattle.acn_grammar.specs.declared.node.Presence.TheVariants.{Always, Bit, When}
use Rattle.acn_grammar.specs.declared.node.Sizing.{Sizing}
use Rattle.acn_grammar.specs.declared.node.SizeRule.{SizeRule}
use Rattle.acn_grammar.specs.declared.node.SizeRule.TheVariants.{Prefix, Slot, Ended}
use Rattle.acn_grammar.specs.declared.node.Table.{Table}
use Rattle.acn_grammar.specs.declared.node.Test.{Test}
use Rattle.acn_grammar.specs.declared.node.TextLeaf.{TextLeaf}
use Rattle.acn_compare.specs.Accepts.{Answering, answers, answering, slot_pair, Place, places, form_places, field_places, case_places, Head, heads, Together, Permits, table_lines, SameNumberCoding, SameTextCoding, SameRule, SameSlot, SameIndex, SameChooser, SameConditions, BothSay, BothBy, BothChoose, Agree, AllAgree}
use Rattle.acn_compare.specs.declared.answer.Reason.{Reason}
use Rattle.acn_compare.specs.declared.answer.Reason.TheVariants as because
use Rattle.acn_compare.proofs.Renamed.{AreLinked, Renamed, renamed_home, permitted_home, home_count, tests_hold, there, away}

-- Lists of places.

pub all_parts : {A : Type 0} (P : A → Type 0) (xs ys : List A) → AllByRecursion P (xs ++ ys) → AllByRecursion P xs × AllByRecursion P ys
all_parts P [] ys h = (tt, h)
all_parts P (x ∷ xs) ys h = (let r = all_parts P xs ys h.1 in ((h.0, r.0), r.1))

-- Numbers.

lines_tell : (t u : Option Table) → table_lines t ≡ table_lines u → (x : ℤ) → image_by t x ≡ image_by u x
lines_tell None None e x = refl
lines_tell (Some t) (Some u) e x = (let same : t.lines ≡ u.lines = cc in ap (λ lines. image_in lines x) same)
lines_tell None (Some u) e x = cc
lines_tell (Some t) None e x = cc

images_same : (l m : NumLeaf) → l.items.values ≡ m.items.values → l.items.items ≡ m.items.items → table_lines l.table ≡ table_lines m.table → (x : ℤ) → image_of l x ≡ image_of m x
images_same l m v i t x =
    ap (λ (b : Bool). if b then item_number l.items.items x else image_by l.table x) v
    ∙ ap (λ items. if m.items.values then item_number items x else image_by l.table x) i
    ∙ ap (λ image. if m.items.values then item_number m.items.items x else image) (lines_tell l.table m.table t x)

code_reads : (l m : NumLeaf) → SameNumberCoding l m → l.items.items ≡ m.items.items → Permits l.set m.set → (x : ℤ) (bs : List Bool) → Code Any l x bs → Code Any m x bs
code_reads l m c i p x bs h = record {
  permitted = p x h.permitted;
  image = h.image;
  maps = sym (images_same l m c.values i c.table x) ∙ h.maps;
  spelled = subst (λ (b : Bool). CodingCode Any m.coding b h.image bs) c.little (subst (λ coding. CodingCode Any coding l.little h.image bs) c.coding h.spelled);
}

-- Texts.

number_same : (l m : TextLeaf) → l.indexed ≡ m.indexed → (l.indexed ≡ true → l.alphabet ≡ m.alphabet) → (c : ℕ) → character_number l c ≡ character_number m c
number_same l m e a c = by l.indexed refl
  where
    by : (b : Bool) → l.indexed ≡ b → character_number l c ≡ character_number m c
    by true h = rw (h, sym e ∙ h) (ap (λ alphabet. place_in alphabet (pos c)) (a h))
    by false h = rw (h, sym e ∙ h) refl

characters_read : (l m : TextLeaf) → l.width ≡ m.width → l.indexed ≡ m.indexed → (l.indexed ≡ true → l.alphabet ≡ m.alphabet) → Permits l.alphabet m.alphabet → (cs : List ℕ) (at : ℕ) (bs : List Bool) → CharactersPart l cs at bs → CharactersPart m cs at bs
characters_read l m w e a p [] at bs h = h
characters_read l m w e a p (c ∷ cs) at bs h =
    let u = h.first in
    record {
      front = h.front;
      back = h.back;
      whole = h.whole;
      first = record { given = p (pos c) u.given; spelled = subst (λ n. IsNumber m.width n h.front) (number_same l m e a c) (subst (λ width. IsNumber width (character_number l c) h.front) w u.spelled) };
      second = characters_read l m w e a p cs (at + length h.front) h.back h.second;
    }

-- Elements and windows.

run_reads : (each other : Data → Part) → ((d : Data) (at : ℕ) (bs : List Bool) → each d at bs → other d at bs) → (es : Elements) (at : ℕ) (bs : List Bool) → RunPart each es at bs → RunPart other es at bs
run_reads each other h no_elements at bs t = t
run_reads each other h (element d es) at bs t =
    record { front = t.front; back = t.back; whole = t.whole; first = h d at t.front t.first; second = run_reads each other h es (at + length t.front) t.back t.second }

window_reads : (content other : Part) (n at : ℕ) (bs : List Bool) → ((cs : List Bool) → content 0 cs → other 0 cs) → Window content (Fill Any) n at bs → Window other (Fill Any) n at bs
window_reads content other n at bs h t =
    let u = t.inside in
    record { size = t.size; inside = record { front = u.front; back = u.back; whole = u.whole; first = h u.front u.first; second = u.second } }

-- What stands in front of fields.

presence_same : (fs gs : Fields) (ps : Places) → length (heads fs) ≡ length (heads gs) → Together (λ h k. h.inserted ≡ k.inserted) (heads fs) (heads gs) → Together (λ h k. BothBy h.presence k.presence) (heads fs) (heads gs) → presence_bits fs ps ≡ presence_bits gs ps
presence_same no_fields no_fields ps l i p = refl
presence_same no_fields (component n g q def own gs) ps l i p = absurd (omega arith)
presence_same no_fields (inserted n g own gs) ps l i p = absurd (omega arith)
presence_same (component n g q def own fs) no_fields ps l i p = absurd (omega arith)
presence_same (inserted n g own fs) no_fields ps l i p = absurd (omega arith)
presence_same (component n g q def own fs) (inserted n' g' own' gs) ps l i p = cc
presence_same (inserted n g own fs) (component n' g' q' def' own' gs) ps l i p = cc
presence_same (inserted n g own fs) (inserted n' g' own' gs) ps l i p = presence_same fs gs ps (omega arith) i.1 p.1
presence_same (component n g q def own fs) (component n' g' q' def' own' gs) no_places l i p = refl
presence_same (component n g Always def own fs) (component n' g' Always def' own' gs) (filled d ps) l i p = presence_same fs gs ps (omega arith) i.1 p.1
presence_same (component n g Always def own fs) (component n' g' Always def' own' gs) (empty ps) l i p = presence_same fs gs ps (omega arith) i.1 p.1
presence_same (component n g Bit def own fs) (component n' g' Bit def' own' gs) (filled d ps) l i p = ap (λ bs. true ∷ bs) (presence_same fs gs ps (omega arith) i.1 p.1)
presence_same (component n g Bit def own fs) (component n' g' Bit def' own' gs) (empty ps) l i p = ap (λ bs. false ∷ bs) (presence_same fs gs ps (omega arith) i.1 p.1)
presence_same (component n g (When ts) def own fs) (component n' g' (When us) def' own' gs) (filled d ps) l i p = presence_same fs gs ps (omega arith) i.1 p.1
presence_same (component n g (When ts) def own fs) (component n' g' (When us) def' own' gs) (empty ps) l i p = presence_same fs gs ps (omega arith) i.1 p.1
presence_same (component n g Always def own fs) (component n' g' Bit def' own' gs) ps l i p = absurd p.0
presence_same (component n g Always def own fs) (component n' g' (When us) def' own' gs) ps l i p = absurd p.0
presence_same (component n g Bit def own fs) (component n' g' Always def' own' gs) ps l i p = absurd p.0
presence_same (component n g Bit def own fs) (component n' g' (When us) def' own' gs) ps l i p = absurd p.0
presence_same (component n g (When ts) def own fs) (component n' g' Always def' own' gs) ps l i p = absurd p.0
presence_same (component n g (When ts) def own fs) (component n' g' Bit def' own' gs) ps l i p = absurd p.0

-- what fields have alike beside their nodes
record FieldsAlike (by : Answering) (fs gs : Fields) : Type 0 where
  count : length (heads fs) ≡ length (heads gs)
  inserted_alike : Together (λ h k. h.inserted ≡ k.inserted) (heads fs) (heads gs)
  presence_alike : Together (λ h k. BothBy h.presence k.presence) (heads fs) (heads gs)
  conditions_alike : Together (λ h k. BothSay h.slot k.slot × SameConditions by h.presence k.presence) (heads fs) (heads gs)

abbrev a_head : List ℕ → Presence → Option ℕ → Head
a_head name presence slot = record { inserted = false; name = name; presence = presence; slot = slot }

alike_tail : (by : Answering) (h k : Head) (fs gs : Fields) → length (h ∷ heads fs) ≡ length (k ∷ heads gs) → Together (λ h k. h.inserted ≡ k.inserted) (heads fs) (heads gs) → Together (λ h k. BothBy h.presence k.presence) (heads fs) (heads gs)
    → Together (λ h k. BothSay h.slot k.slot × SameConditions by h.presence k.presence) (heads fs) (heads gs) → FieldsAlike by fs gs
alike_tail by h k fs gs l i p c = record { count = omega arith; inserted_alike = i; presence_alike = p; conditions_alike = c }

-- the places below answer as all do
abbrev Inner : Answering → List Place → Type 0
Inner by ps = (s t : ℕ) → answers (answering ps) s t ≡ true → answers by s t ≡ true

or_left : (a b : Bool) → a ≡ true → (a || b) ≡ true
or_left true b e = refl
or_left false b e = cc

or_right : (a b : Bool) → b ≡ true → (a || b) ≡ true
or_right true b e = refl
or_right false b e = e

or_both : (a b c : Bool) → (a || (b || c)) ≡ ((a || b) || c)
or_both true b c = refl
or_both false b c = refl

pub answers_append : (as' bs : Answering) (s t : ℕ) → answers (as' ++ bs) s t ≡ (answers as' s t || answers bs s t)
answers_append [] bs s t = refl
answers_append (a ∷ as') bs s t = ap (λ b. (nat_eq a.0 s && nat_eq a.1 t) || b) (answers_append as' bs s t) ∙ or_both (nat_eq a.0 s && nat_eq a.1 t) (answers as' s t) (answers bs s t)

append_same : (xs ys zs : Answering) → xs ++ (ys ++ zs) ≡ (xs ++ ys) ++ zs
append_same [] ys zs = refl
append_same (x ∷ xs) ys zs = ap (λ z. x ∷ z) (append_same xs ys zs)

pub answering_append : (xs ys : List Place) → answering (xs ++ ys) ≡ answering xs ++ answering ys
answering_append [] ys = refl
answering_append (p ∷ xs) ys = ap (λ z. slot_pair p.old_slot p.new_slot ++ z) (answering_append xs ys) ∙ append_same (slot_pair p.old_slot p.new_slot) (answering xs) (answering ys)

inner_parts : (by : Answering) (xs ys : List Place) → Inner by (xs ++ ys) → Inner by xs × Inner by ys
inner_parts by xs ys h = (
  λ s t e. h s t (ap (λ z. answers z s t) (answering_append xs ys) ∙ answers_append (answering xs) (answering ys) s t ∙ or_left (answers (answering xs) s t) (answers (answering ys) s t) e),
  λ s t e. h s t (ap (λ z. answers z s t) (answering_append xs ys) ∙ answers_append (answering xs) (answering ys) s t ∙ or_right (answers (answering xs) s t) (answers (answering ys) s t) e),
)

inner_form : (by : Answering) (path : List ℕ) (own own' : Option ℕ) (a b : ℕ) (f f' : Form) → Inner by (places path own own' (node a f) (node b f')) → Inner by (form_places path f f')
inner_form by path own own' a b f f' h = λ s t e. h s t (answers_append (slot_pair own own') (answering (form_places path f f')) s t ∙ or_right (answers (slot_pair own own') s t) (answers (answering (form_places path f f')) s t) e)

self_eq : (s : ℕ) → nat_eq s s ≡ true
self_eq s = grind arith

inner_head : (by : Answering) (path : List ℕ) (s t : ℕ) (g h : Grammar) → Inner by (places path (Some s) (Some t) g h) → answers by s t ≡ true
inner_head by path s t (node a f) (node b f') i = i s t (rw (self_eq s, self_eq t) refl)

module _ (old new : Grammar) (by : Answering) (linked : AreLinked old new by) where
  module _ (env env' : Env) (r : Renamed by env env') where
    rule_reads : (p q : SizeRule) → SameRule p q → SameSlot by p q → (n at : ℕ) (bs : List Bool) → RulePart p env n at bs → RulePart q env' n at bs
    rule_reads (Prefix low width) (Prefix low' width') c s n at bs h =
        subst (λ w. RulePart (Prefix low' w) env' n at bs) c.1 (subst (λ l. RulePart (Prefix l width) env' n at bs) c.0 h)
    rule_reads (Slot s) (Slot t) c e n at bs h = (sym (r s t e) ∙ h.0, h.1)
    rule_reads (Ended p) (Ended q) c e n at bs h = absurd h.0
    rule_reads (Prefix low width) (Slot t) c e n at bs h = absurd c
    rule_reads (Prefix low width) (Ended q) c e n at bs h = absurd c
    rule_reads (Slot s) (Prefix low width) c e n at bs h = absurd c
    rule_reads (Slot s) (Ended q) c e n at bs h = absurd c
    rule_reads (Ended p) (Prefix low width) c e n at bs h = absurd c
    rule_reads (Ended p) (Slot t) c e n at bs h = absurd c

    size_reads : (z y : Sizing) → SameRule z.rule y.rule → SameSlot by z.rule y.rule → Permits z.sizes y.sizes → (n at : ℕ) (bs : List Bool) → SizePart z env n at bs → SizePart y env' n at bs
    size_reads z y c s p n at bs h = record { given = p (pos n) h.given; spelled = rule_reads z.rule y.rule c s n at bs h.spelled }

    ended_reads : (l m : TextLeaf) → SameTextCoding l m → SameSlot by l.sized.rule m.sized.rule → Permits l.sized.sizes m.sized.sizes → Permits l.alphabet m.alphabet → (o : Option (List Bool)) (cs : List ℕ) (at : ℕ) (bs : List Bool)
        → EndedPart o l env cs at bs → EndedPart o m env' cs at bs
    ended_reads l m c s p a None cs at bs h = record {
      front = h.front;
      back = h.back;
      whole = h.whole;
      first = size_reads l.sized m.sized c.rule s p (length cs) at h.front h.first;
      second = characters_read l m c.width c.indexed c.places a cs (at + length h.front) h.back h.second;
    }
    ended_reads l m c s p a (Some end) cs at bs h =
        let u = h.spelled in
        record {
          given = (p (pos (length cs)) (h.given).0, (h.given).1);
          spelled = record { front = u.front; back = u.back; whole = u.whole; first = characters_read l m c.width c.indexed c.places a cs at u.front u.first; second = u.second };
        }

    text_reads : (l m : TextLeaf) → SameTextCoding l m → SameSlot by l.sized.rule m.sized.rule → Permits l.sized.sizes m.sized.sizes → Permits l.alphabet m.alphabet → (cs : List ℕ) (at : ℕ) (bs : List Bool)
        → TextPart l env cs at bs → TextPart m env' cs at bs
    text_reads l m c s p a cs at bs h = subst (λ o. EndedPart o m env' cs at bs) c.ended (ended_reads l m c s p a l.ended cs at bs h)

    ends_same : (p q : SizeRule) → SameRule p q → ending p ≡ ending q
    ends_same (Prefix low width) (Prefix low' width') c = refl
    ends_same (Slot s) (Slot t) c = refl
    ends_same (Ended p) (Ended q) c = ap Some c
    ends_same (Prefix low width) (Slot t) c = absurd c
    ends_same (Prefix low width) (Ended q) c = absurd c
    ends_same (Slot s) (Prefix low width) c = absurd c
    ends_same (Slot s) (Ended q) c = absurd c
    ends_same (Ended p) (Prefix low width) c = absurd c
    ends_same (Ended p) (Slot t) c = absurd c

    list_reads : (z y : Sizing) → SameRule z.rule y.rule → SameSlot by z.rule y.rule → Permits z.sizes y.sizes → (each other : Data → Part) → ((d : Data) (at : ℕ) (bs : List Bool) → each d at bs → other d at bs)
        → (o : Option (List Bool)) (es : Elements) (at : ℕ) (bs : List Bool) → ListPart o z env each es at bs → ListPart o y env' other es at bs
    list_reads z y c s p each other h None es at bs t = record {
      front = t.front;
      back = t.back;
      whole = t.whole;
      first = size_reads z y c s p (element_count es) at t.front t.first;
      second = run_reads each other h es (at + length t.front) t.back t.second;
    }
    list_reads z y c s p each other h (Some end) es at bs t =
        let u = t.spelled in
        record { given = p (pos (element_count es)) t.given; spelled = record { front = u.front; back = u.back; whole = u.whole; first = run_reads each other h es at u.front u.first; second = u.second } }

    index_reads : (p q : ChoiceRule) → BothChoose p q → SameIndex p q → (i at : ℕ) (bs : List Bool) → IndexPart old p i at bs → IndexPart new q i at bs
    index_reads (Index w) (Index v) b c i at bs h = subst (λ width. IsNumber width i bs) c h
    index_reads Tests Tests b c i at bs h = h
    index_reads (Item s) (Item t) b c i at bs h = h
    index_reads (Index w) Tests b c i at bs h = absurd b
    index_reads (Index w) (Item t) b c i at bs h = absurd b
    index_reads Tests (Index v) b c i at bs h = absurd b
    index_reads Tests (Item t) b c i at bs h = absurd b
    index_reads (Item s) (Index v) b c i at bs h = absurd b
    index_reads (Item s) Tests b c i at bs h = absurd b

    chosen_reads : (p q : ChoiceRule) → BothChoose p q → (n m : List ℕ) (ts us : List Test) → n ≡ m → (cs ds : Alternatives) (g h : Grammar) → SameChooser by (alternative n g ts cs) p (alternative m h us ds) q → Chosen old p env n ts → Chosen new q env' m us
    chosen_reads (Index w) (Index v) b n m ts us e cs ds g h c k = tt
    chosen_reads Tests Tests b n m ts us e cs ds g h c k = tests_hold by env env' r ts us c.0 k
    chosen_reads (Item s) (Item t) b n m ts us e cs ds g h c k =
        (k.0, k.1, sym (r s t c) ∙ k.2, ap (λ items. slice_get items k.0) (sym (linked.items s t c)) ∙ k.3 ∙ ap (λ name. Some (name, k.1)) e)
    chosen_reads (Index w) Tests b n m ts us e cs ds g h c k = absurd b
    chosen_reads (Index w) (Item t) b n m ts us e cs ds g h c k = absurd b
    chosen_reads Tests (Index v) b n m ts us e cs ds g h c k = absurd b
    chosen_reads Tests (Item t) b n m ts us e cs ds g h c k = absurd b
    chosen_reads (Item s) (Index v) b n m ts us e cs ds g h c k = absurd b
    chosen_reads (Item s) Tests b n m ts us e cs ds g h c k = absurd b

    chooser_tail : (p q : ChoiceRule) → BothChoose p q → (n m : List ℕ) (ts us : List Test) (cs ds : Alternatives) (g h : Grammar) → SameChooser by (alternative n g ts cs) p (alternative m h us ds) q → SameChooser by cs p ds q
    chooser_tail (Index w) (Index v) b n m ts us cs ds g h c = tt
    chooser_tail Tests Tests b n m ts us cs ds g h c = c.1
    chooser_tail (Item s) (Item t) b n m ts us cs ds g h c = c
    chooser_tail (Index w) Tests b n m ts us cs ds g h c = absurd b
    chooser_tail (Index w) (Item t) b n m ts us cs ds g h c = absurd b
    chooser_tail Tests (Index v) b n m ts us cs ds g h c = absurd b
    chooser_tail Tests (Item t) b n m ts us cs ds g h c = absurd b
    chooser_tail (Item s) (Index v) b n m ts us cs ds g h c = absurd b
    chooser_tail (Item s) Tests b n m ts us cs ds g h c = absurd b

    own_reads : (own own' : Option ℕ) (path : List ℕ) (g h : Grammar) → BothSay own own' → Inner by (places path own own' g h) → (d : Data) → Carries env own d → Carries env' own' d
    own_reads None None path g h b i d c = tt
    own_reads (Some s) (Some t) path g h b i d c = sym (r s t (inner_head by path s t g h i)) ∙ c
    own_reads None (Some t) path g h b i d c = absurd b
    own_reads (Some s) None path g h b i d c = absurd b

    field_reads : (s t : ℕ) (path : List ℕ) (g h : Grammar) → AllAgree by (places path (Some s) (Some t) g h) → Inner by (places path (Some s) (Some t) g h) → (at : ℕ) (bs : List Bool) → SlotField old Any g env s at bs → SlotField new Any h env' t at bs
    field_reads s t path (node a (num l)) (node b (num m)) c i at bs k =
        let u = k.2 in
        let q = c.0 in (
          k.0,
          sym (r s t (inner_head by path s t (node a (num l)) (node b (num m)) i)) ∙ k.1,
          record {
            front = u.front;
            back = u.back;
            whole = u.whole;
            first = subst (λ z. Padding Any z at u.front) (q because.Align) u.first;
            second = code_reads l m (q because.Coding) (q because.Names) (q because.Values).0 k.0 u.back u.second;
          },
        )
    field_reads s t path (node a (num l)) (node b (octets z)) c i at bs k = absurd (c.0 because.Kind)
    field_reads s t path (node a (num l)) (node b (bits z)) c i at bs k = absurd (c.0 because.Kind)
    field_reads s t path (node a (num l)) (node b (text z)) c i at bs k = absurd (c.0 because.Kind)
    field_reads s t path (node a (num l)) (node b (seq z y)) c i at bs k = absurd (c.0 because.Kind)
    field_reads s t path (node a (num l)) (node b (list z y)) c i at bs k = absurd (c.0 because.Kind)
    field_reads s t path (node a (num l)) (node b (choice z y)) c i at bs k = absurd (c.0 because.Kind)
    field_reads s t path (node a (num l)) (node b (contained z y)) c i at bs k = absurd (c.0 because.Kind)
    field_reads s t path (node a _) (node b _) c i at bs k = absurd k.0

  mutual
    pub node_reads : (path : List ℕ) (own own' : Option ℕ) (g h : Grammar) → AllAgree by (places path own own' g h) → Inner by (places path own own' g h) → (env env' : Env) → Renamed by env env' → (d : Data) (at : ℕ) (bs : List Bool) → Spell old Any g env d at bs → Spell new Any h env' d at bs
    node_reads path own own' (node a f) (node b f') c i env env' r d at bs t = record {
      front = t.front;
      back = t.back;
      whole = t.whole;
      first = subst (λ z. Padding Any z at t.front) (c.0 because.Align) t.first;
      second = form_reads path f f' a b c.0 c.1 (inner_form by path own own' a b f f' i) env env' r d (at + length t.front) t.back t.second;
    }

    form_reads : (path : List ℕ) (f f' : Form) (a b : ℕ) → ((q : Reason) → Agree by q (node a f) (node b f')) → AllAgree by (form_places path f f') → Inner by (form_places path f f') → (env env' : Env) → Renamed by env env' → (d : Data) (at : ℕ) (bs : List Bool)
        → FormPart old Any f env d at bs → FormPart new Any f' env' d at bs
    form_reads path (num l) (num m) a b q c i env env' r d at bs t = (t.0, subst (λ kind. NumberOf kind d t.0) (q because.Kind) t.1, code_reads l m (q because.Coding) (q because.Names) (q because.Values).0 t.0 bs t.2)
    form_reads path (octets z) (octets y) a b q c i env env' r (octet_string os) at bs t =
        record { front = t.front; back = t.back; whole = t.whole; first = size_reads env env' r z y (q because.Coding) (q because.Determinant) (q because.Values).0 (length os) at t.front t.first; second = t.second }
    form_reads path (bits z) (bits y) a b q c i env env' r (bit_string cs) at bs t =
        record { front = t.front; back = t.back; whole = t.whole; first = size_reads env env' r z y (q because.Coding) (q because.Determinant) (q because.Values).0 (length cs) at t.front t.first; second = t.second }
    form_reads path (text l) (text m) a b q c i env env' r (characters cs) at bs t = text_reads env env' r l m (q because.Coding) (q because.Determinant) (q because.Values).0 ((q because.Values).1).0 cs at bs t
    form_reads path (seq fs home) (seq gs home') a b q c i env env' r (record_of ps) at bs t =
        let u = t.spelled in
        let n = t.fine in
        let homes = (q because.Determinant).0 in
        let alike : FieldsAlike by fs gs = record { count = (q because.Fields).0; inserted_alike = (q because.Fields).1; presence_alike = q because.Presence; conditions_alike = (q because.Determinant).1 } in
        record {
          numbers = t.numbers;
          fine = record { count = n.count ∙ home_count by home home' homes; permitted = permitted_home old new by linked home home' t.numbers homes n.permitted; least = λ e. cc };
          spelled = record {
            front = u.front;
            back = u.back;
            whole = u.whole;
            first = u.first ∙ presence_same fs gs ps (q because.Fields).0 (q because.Fields).1 (q because.Presence);
            second = fields_read path 0 fs gs alike c i (with_home home t.numbers env) (with_home home' t.numbers env') (renamed_home old new by linked home home' t.numbers env env' homes r) ps (at + length u.front) u.back u.second;
          };
        }
    form_reads path (list z g) (list y h) a b q c i env env' r (list_of es) at bs t =
        subst (λ o. ListPart o y env' (Spell new Any h env') es at bs) (ends_same env env' r z.rule y.rule (q because.Coding))
        (list_reads env env' r z y (q because.Coding) (q because.Determinant) (q because.Values).0 (Spell old Any g env) (Spell new Any h env') (node_reads (path ++ 0 ∷ []) None None g h c i env env' r) (ending z.rule) es at bs t)
    form_reads path (choice cs p) (choice ds p') a b q c i env env' r (alt k d) at bs t =
        let o = q because.Alternatives in
        record {
          front = t.front;
          back = t.back;
          whole = t.whole;
          first = index_reads env env' r p p' o.0 (q because.Coding) k at t.front t.first;
          second = case_reads path 0 cs ds p p' o.0 o.1 (q because.Names) (q because.Determinant) c i env env' r k d (at + length t.front) t.back t.second;
        }
    form_reads path (contained z g) (contained y h) a b q c i env env' r d at bs t =
        let u = t.spelled in
        record {
          some = t.some;
          spelled = record {
            front = u.front;
            back = u.back;
            whole = u.whole;
            first = size_reads env env' r z y (q because.Coding) (q because.Determinant) (q because.Values).0 t.some at u.front u.first;
            second = window_reads (Spell old Any g env d) (Spell new Any h env' d) t.some (at + length u.front) u.back (λ cs k. node_reads (path ++ 0 ∷ []) None None g h c i env env' r d 0 cs k) u.second;
          };
        }
    form_reads path (octets z) (octets y) a b q c i env env' r _ at bs t = absurd t.0
    form_reads path (bits z) (bits y) a b q c i env env' r _ at bs t = absurd t.0
    form_reads path (text l) (text m) a b q c i env env' r _ at bs t = absurd t.0
    form_reads path (seq fs home) (seq gs home') a b q c i env env' r _ at bs t = absurd t.0
    form_reads path (list z g) (list y h) a b q c i env env' r _ at bs t = absurd t.0
    form_reads path (choice cs p) (choice ds p') a b q c i env env' r _ at bs t = absurd t.0
    form_reads path (num l) _ a b q c i env env' r d at bs t = absurd (q because.Kind)
    form_reads path (octets z) _ a b q c i env env' r d at bs t = absurd (q because.Kind)
    form_reads path (bits z) _ a b q c i env env' r d at bs t = absurd (q because.Kind)
    form_reads path (text l) _ a b q c i env env' r d at bs t = absurd (q because.Kind)
    form_reads path (seq fs home) _ a b q c i env env' r d at bs t = absurd (q because.Kind)
    form_reads path (list z g) _ a b q c i env env' r d at bs t = absurd (q because.Kind)
    form_reads path (choice cs p) _ a b q c i env env' r d at bs t = absurd (q because.Kind)
    form_reads path (contained z g) _ a b q c i env env' r d at bs t = absurd (q because.Kind)

    fields_read : (path : List ℕ) (k : ℕ) (fs gs : Fields) → FieldsAlike by fs gs → AllAgree by (field_places path k fs gs) → Inner by (field_places path k fs gs) → (env env' : Env) → Renamed by env env' → (ps : Places) (at : ℕ) (bs : List Bool)
        → FieldsPart old Any fs env ps at bs → FieldsPart new Any gs env' ps at bs
    fields_read path k no_fields no_fields l c i env env' r no_places at bs t = t
    fields_read path k no_fields no_fields l c i env env' r _ at bs t = absurd t.0
    fields_read path k no_fields (component n h q def own gs) l c i env env' r ps at bs t = (let e = l.count in absurd (omega arith))
    fields_read path k no_fields (inserted n h own gs) l c i env env' r ps at bs t = (let e = l.count in absurd (omega arith))
    fields_read path k (component n g p def own fs) no_fields l c i env env' r ps at bs t = (let e = l.count in absurd (omega arith))
    fields_read path k (inserted n g own fs) no_fields l c i env env' r ps at bs t = (let e = l.count in absurd (omega arith))
    fields_read path k (component n g p def own fs) (inserted n' h own' gs) l c i env env' r ps at bs t = (let e = (l.inserted_alike).0 in cc)
    fields_read path k (inserted n g own fs) (component n' h p' def' own' gs) l c i env env' r ps at bs t = (let e = (l.inserted_alike).0 in cc)
    fields_read path k (component n g p def own fs) (component n' h p' def' own' gs) l c i env env' r (filled d ps) at bs t =
        let u = t.first in
        let cs = all_parts _ (places (path ++ k ∷ []) own own' g h) (field_places path (suc k) fs gs) c in
        let is = inner_parts by (places (path ++ k ∷ []) own own' g h) (field_places path (suc k) fs gs) i in
        let both = (l.conditions_alike).0 in
        record {
          front = t.front;
          back = t.back;
          whole = t.whole;
          first = record {
            given = (there by env env' r p p' (l.presence_alike).0 both.1 (u.given).0, own_reads env env' r own own' (path ++ k ∷ []) g h both.0 is.0 d (u.given).1);
            spelled = node_reads (path ++ k ∷ []) own own' g h cs.0 is.0 env env' r d at t.front u.spelled;
          };
          second = fields_read path (suc k) fs gs (alike_tail by (a_head n p own) (a_head n' p' own') fs gs l.count (l.inserted_alike).1 (l.presence_alike).1 (l.conditions_alike).1) cs.1 is.1 env env' r ps (at + length t.front) t.back t.second;
        }
    fields_read path k (component n g p def own fs) (component n' h p' def' own' gs) l c i env env' r (empty ps) at bs t =
        let cs = all_parts _ (places (path ++ k ∷ []) own own' g h) (field_places path (suc k) fs gs) c in
        let is = inner_parts by (places (path ++ k ∷ []) own own' g h) (field_places path (suc k) fs gs) i in
        record {
          given = away by env env' r p p' (l.presence_alike).0 ((l.conditions_alike).0).1 t.given;
          spelled = fields_read path (suc k) fs gs (alike_tail by (a_head n p own) (a_head n' p' own') fs gs l.count (l.inserted_alike).1 (l.presence_alike).1 (l.conditions_alike).1) cs.1 is.1 env env' r ps at bs t.spelled;
        }
    fields_read path k (component n g p def own fs) (component n' h p' def' own' gs) l c i env env' r no_places at bs t = absurd t.0
    fields_read path k (inserted n g (Some s) fs) (inserted n' h (Some s') gs) l c i env env' r ps at bs t =
        let cs = all_parts _ (places (path ++ k ∷ []) (Some s) (Some s') g h) (field_places path (suc k) fs gs) c in
        let is = inner_parts by (places (path ++ k ∷ []) (Some s) (Some s') g h) (field_places path (suc k) fs gs) i in
        record {
          front = t.front;
          back = t.back;
          whole = t.whole;
          first = field_reads env env' r s s' (path ++ k ∷ []) g h cs.0 is.0 at t.front t.first;
          second = fields_read path (suc k) fs gs (alike_tail by (a_head n Always (Some s)) (a_head n' Always (Some s')) fs gs l.count (l.inserted_alike).1 (l.presence_alike).1 (l.conditions_alike).1) cs.1 is.1 env env' r ps (at + length t.front) t.back t.second;
        }
    fields_read path k (inserted n g None fs) (inserted n' h None gs) l c i env env' r ps at bs t =
        let cs = all_parts _ (places (path ++ k ∷ []) None None g h) (field_places path (suc k) fs gs) c in
        let is = inner_parts by (places (path ++ k ∷ []) None None g h) (field_places path (suc k) fs gs) i in
        record {
          front = t.front;
          back = t.back;
          whole = t.whole;
          first = node_reads (path ++ k ∷ []) None None g h cs.0 is.0 env env' r null at t.front t.first;
          second = fields_read path (suc k) fs gs (alike_tail by (a_head n Always None) (a_head n' Always None) fs gs l.count (l.inserted_alike).1 (l.presence_alike).1 (l.conditions_alike).1) cs.1 is.1 env env' r ps (at + length t.front) t.back t.second;
        }
    fields_read path k (inserted n g (Some s) fs) (inserted n' h None gs) l c i env env' r ps at bs t = absurd ((l.conditions_alike).0).0
    fields_read path k (inserted n g None fs) (inserted n' h (Some s') gs) l c i env env' r ps at bs t = absurd ((l.conditions_alike).0).0

    case_reads : (path : List ℕ) (k : ℕ) (cs ds : Alternatives) (p p' : ChoiceRule) → BothChoose p p' → count_of cs ≤ count_of ds → Together (λ c d. c.0 ≡ d.0) (conditions_of cs) (conditions_of ds) → SameChooser by cs p ds p' → AllAgree by (case_places path k cs ds) → Inner by (case_places path k cs ds)
        → (env env' : Env) → Renamed by env env' → (j : ℕ) (d : Data) (at : ℕ) (bs : List Bool) → AlternativePart old Any cs p env j d at bs → AlternativePart new Any ds p' env' j d at bs
    case_reads path k no_alternatives ds p p' b n names chooser c i env env' r j d at bs t = absurd t.0
    case_reads path k (alternative m g ts cs) no_alternatives p p' b n names chooser c i env env' r j d at bs t = absurd (omega arith)
    case_reads path k (alternative m g ts cs) (alternative m' h us ds) p p' b n names chooser c i env env' r zero d at bs t =
        let two = all_parts _ (places (path ++ k ∷ []) None None g h) (case_places path (suc k) cs ds) c in
        let is = inner_parts by (places (path ++ k ∷ []) None None g h) (case_places path (suc k) cs ds) i in
        record {
          given = chosen_reads env env' r p p' b m m' ts us names.0 cs ds g h chooser t.given;
          spelled = node_reads (path ++ k ∷ []) None None g h two.0 is.0 env env' r d at bs t.spelled;
        }
    case_reads path k (alternative m g ts cs) (alternative m' h us ds) p p' b n names chooser c i env env' r (suc j) d at bs t =
        let two = all_parts _ (places (path ++ k ∷ []) None None g h) (case_places path (suc k) cs ds) c in
        let is = inner_parts by (places (path ++ k ∷ []) None None g h) (case_places path (suc k) cs ds) i in
        case_reads path (suc k) cs ds p p' b (omega arith) names.1 (chooser_tail env env' r p p' b m m' ts us cs ds g h chooser) two.1 is.1 env env' r j d at bs t

  pub front_reads : AllAgree by (places [] None None old new) → Inner by (places [] None None old new) → (input : List Bool) (d : Data) (n : ℕ) → Front old input d n → Front new input d n
  front_reads c i input d n f = record { within = f.within; spelled = node_reads [] None None old new c i [] [] (λ s t e. refl) d 0 _ f.spelled }
