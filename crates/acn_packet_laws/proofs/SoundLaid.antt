-- In a sound node each slot's field stands where its home is open, it is one, and its numbers are the slot's.
use Rattle.std.proofs.Common.{◌≡◌, ℕ, suc, true, false, not, ◌||◌, List, ◌++◌, Option, Some, None, refl, sym, ap, ◌∙◌, nat_eq, subst}
use Rattle.std.proofs.lemmas.Bool.{and_from, false_from_ne_true, or_left, or_right, and_parts, eqb-true}
use Rattle.acn_num.specs.Ranges.{In}
use Rattle.acn_grammar.specs.Grammar.{Grammar, Form, Fields, Alternatives, node, num, octets, bits, text, seq, list, choice, contained, no_fields, component, inserted, no_alternatives, alternative}
use Rattle.acn_grammar.specs.Scoped.{Known, with_slot, with_own, choose_known, after, fields_after}
use Rattle.acn_grammar.specs.Sound.{NothingLeaves, IsNull, SaysSlot, OwnSound, Sound, FormSound, FieldsSound, AlternativesSound}
use Rattle.acn_grammar.specs.Tree.{holds}
use Rattle.acn_grammar.specs.declared.node.Presence.{Presence}
use Rattle.acn_grammar.specs.declared.node.Presence.TheVariants.{Always, Bit, When}
use Rattle.acn_packet_laws.specs.Laws.{KnownStays, SlotsPermitWhatTheirFieldsSay}
use Rattle.acn_packet_laws.proofs.Moves.{is_own, opens, fields_opens, Shut, Others, SlotLaid, OwnLaid, Laid, FormLaid, FieldsLaid, CasesLaid}
use Rattle.acn_packet_laws.proofs.Scoping.{own_second, not_true}
use Rattle.acn_packet_laws.proofs.SlotNumbers.{domain_is}
use Rattle.acn_packet_laws.proofs.Tuples.{first_two, first_three, first_four, second_three, second_five, third_four, third_five, fourth_five, last_two, last_three, last_four, last_five}
use Rattle.acn_grammar.proofs.WholeTests.{either}
use Rattle.acn_grammar.proofs.SlotLists.{holds-append}

own_true : (own : Option ℕ) (ks : Known) (s : ℕ) → is_own own s ≡ true → with_own own ks s ≡ true
own_true None ks s h = cc
own_true (Some t) ks s h = or_left (nat_eq t s) (ks s) h

module _ (root : Grammar) where
  -- what is known before a sound node is known behind it
  mutual
    pub sound_stays : (g : Grammar) (k : ℕ) (around : List ℕ) (ks : Known) → Sound root k around ks g → (s : ℕ) → ks s ≡ true → after ks g s ≡ true
    sound_stays (node align (seq fields home)) k around ks h s e =
        let f = last_three h in
        and_from (fields_after ks fields s) (not (holds home s)) (fields_stay fields (suc k) (home ++ around) ks (last_two f) s e) (not_true (holds home s) ((first_two f).unknown s e))
    sound_stays (node align (num leaf)) k around ks h s e = e
    sound_stays (node align (octets sizing)) k around ks h s e = e
    sound_stays (node align (bits sizing)) k around ks h s e = e
    sound_stays (node align (text leaf)) k around ks h s e = e
    sound_stays (node align (list sizing g)) k around ks h s e = e
    sound_stays (node align (choice cases rule)) k around ks h s e = e
    sound_stays (node align (contained sizing g)) k around ks h s e = e

    fields_stay : (fs : Fields) (k : ℕ) (around : List ℕ) (ks : Known) → FieldsSound root k around ks fs → (s : ℕ) → ks s ≡ true → fields_after ks fs s ≡ true
    fields_stay no_fields k around ks h s e = e
    fields_stay (component name g Always default own fs) k around ks h s e = fields_stay fs k around (with_own own (after ks g)) (last_five h) s (own_second own (after ks g) s (sound_stays g k around ks (fourth_five h) s e))
    fields_stay (component name g Bit default own fs) k around ks h s e = fields_stay fs k around ks (last_five h) s e
    fields_stay (component name g (When ts) default own fs) k around ks h s e = fields_stay fs k around ks (last_five h) s e
    fields_stay (inserted name g (Some t) fs) k around ks h s e = fields_stay fs k around (with_slot t ks) (last_four h) s (or_right (nat_eq t s) (ks s) e)
    fields_stay (inserted name g None fs) k around ks h s e = fields_stay fs k around ks (last_three h) s e

  says_parts : (around : List ℕ) (ks : Known) (s : ℕ) (g : Grammar) → SaysSlot root around ks s g → (holds around s ≡ true) × (ks s ≡ false)
  says_parts around ks s (node align (num leaf)) h = (h.0, h.1)
  says_parts around ks s (node align _) h = absurd h

  own_parts : (around : List ℕ) (ks : Known) (own : Option ℕ) (presence : Presence) (g : Grammar) → OwnSound root around ks own presence g → (s : ℕ) → is_own own s ≡ true → (presence ≡ Always) × (ks s ≡ false)
  own_parts around ks None presence g h s e = cc
  own_parts around ks (Some t) presence g h s e = (h.0, subst (λ n. ks n ≡ false) (eqb-true t s e) (says_parts around ks t g h.1).1)

  -- a slot whose field stands in a sound node and whose home is round it is new behind it
  abbrev New : (before behind : Known) → ℕ → Type 0
  New before behind s = (before s ≡ false) × (behind s ≡ true)

  mutual
    opens_new : (g : Grammar) (k : ℕ) (around : List ℕ) (ks : Known) → Sound root k around ks g → (s : ℕ) → opens g s ≡ true → New ks (after ks g) s
    opens_new (node align (seq fields home)) k around ks h s e =
        let f = and_parts (fields_opens fields s) (not (holds home s)) e in
        let n = fields_new fields (suc k) (home ++ around) ks (last_two (last_three h)) s f.0 in
        (n.0, and_from (fields_after ks fields s) (not (holds home s)) n.1 f.1)
    opens_new (node align (num leaf)) k around ks h s e = cc
    opens_new (node align (octets sizing)) k around ks h s e = cc
    opens_new (node align (bits sizing)) k around ks h s e = cc
    opens_new (node align (text leaf)) k around ks h s e = cc
    opens_new (node align (list sizing g)) k around ks h s e = cc
    opens_new (node align (choice cases rule)) k around ks h s e = cc
    opens_new (node align (contained sizing g)) k around ks h s e = cc

    fields_new : (fs : Fields) (k : ℕ) (around : List ℕ) (ks : Known) → FieldsSound root k around ks fs → (s : ℕ) → fields_opens fs s ≡ true → New ks (fields_after ks fs) s
    fields_new no_fields k around ks h s e = cc
    fields_new (component name g Always default own fs) k around ks h s e =
        either {F = New ks (fields_after (with_own own (after ks g)) fs) s} (is_own own s) (opens g s || fields_opens fs s) e
        (λ q. ((own_parts around ks own Always g (second_five h) s q).1, fields_stay fs k around (with_own own (after ks g)) (last_five h) s (own_true own (after ks g) s q)))
        (λ q. either {F = New ks (fields_after (with_own own (after ks g)) fs) s} (opens g s) (fields_opens fs s) q
        (λ r. let n = opens_new g k around ks (fourth_five h) s r in (n.0, fields_stay fs k around (with_own own (after ks g)) (last_five h) s (own_second own (after ks g) s n.1)))
        (λ r. let n = fields_new fs k around (with_own own (after ks g)) (last_five h) s r in (false_from_ne_true (ks s) (λ t. let known = own_second own (after ks g) s (sound_stays g k around ks (fourth_five h) s t) in let none = n.0 in cc), n.1)))
    fields_new (component name g Bit default own fs) k around ks h s e =
        either {F = New ks (fields_after ks fs) s} (is_own own s) (opens g s || fields_opens fs s) e
        (λ q. (let never = (own_parts around ks own Bit g (second_five h) s q).0 in cc))
        (λ q. either {F = New ks (fields_after ks fs) s} (opens g s) (fields_opens fs s) q
        (λ r. (let n = opens_new g k around ks (fourth_five h) s r in let m = n.0 in let o = n.1 in let same = third_five h s in cc))
        (λ r. fields_new fs k around ks (last_five h) s r))
    fields_new (component name g (When ts) default own fs) k around ks h s e =
        either {F = New ks (fields_after ks fs) s} (is_own own s) (opens g s || fields_opens fs s) e
        (λ q. (let never = (own_parts around ks own (When ts) g (second_five h) s q).0 in cc))
        (λ q. either {F = New ks (fields_after ks fs) s} (opens g s) (fields_opens fs s) q
        (λ r. (let n = opens_new g k around ks (fourth_five h) s r in let m = n.0 in let o = n.1 in let same = third_five h s in cc))
        (λ r. fields_new fs k around ks (last_five h) s r))
    fields_new (inserted name g (Some t) fs) k around ks h s e =
        either {F = New ks (fields_after (with_slot t ks) fs) s} (nat_eq t s) (fields_opens fs s) e
        (λ q. (subst (λ n. ks n ≡ false) (eqb-true t s q) (says_parts around ks t g (first_four h)).1, fields_stay fs k around (with_slot t ks) (last_four h) s (or_left (nat_eq t s) (ks s) q)))
        (λ q. let n = fields_new fs k around (with_slot t ks) (last_four h) s q in (false_from_ne_true (ks s) (λ r. let known = or_right (nat_eq t s) (ks s) r in let none = n.0 in cc), n.1))
    fields_new (inserted name g None fs) k around ks h s e = fields_new fs k around ks (last_three h) s e

  -- so a node that nothing leaves has no field of an outer home
  shut : (g : Grammar) (k : ℕ) (around : List ℕ) (ks : Known) → Sound root k around ks g → NothingLeaves ks g → Shut g
  shut g k around ks h nothing s = false_from_ne_true (opens g s) (λ q. (let n = opens_new g k around ks h s q in let m = n.0 in let o = n.1 in let same = nothing s in cc))

  null_shut : (g : Grammar) → IsNull g → Shut g
  null_shut (node align (num leaf)) h s = refl
  null_shut (node align _) h s = absurd h

  -- a slot that is known behind some fields before the rest has no field in the rest
  not_in_rest : (fs : Fields) (k : ℕ) (around : List ℕ) (ks : Known) → FieldsSound root k around ks fs → (s : ℕ) → ks s ≡ true → fields_opens fs s ≡ false
  not_in_rest fs k around ks h s e = false_from_ne_true (fields_opens fs s) (λ q. (let n = (fields_new fs k around ks h s q).0 in cc))

  slot_laid : (keys : Known) (around : List ℕ) (ks : Known) (s : ℕ) (g : Grammar) → ((t : ℕ) → keys t ≡ holds around t) → SaysSlot root around ks s g → SlotLaid root keys s g
  slot_laid keys around ks s (node align (num leaf)) same h = (same s ∙ h.0, λ x i. subst (λ set. In set x) (sym (domain_is root s leaf h.2)) i)
  slot_laid keys around ks s (node align _) same h = absurd h

  own_laid : (keys : Known) (around : List ℕ) (ks : Known) (own : Option ℕ) (presence : Presence) (g : Grammar) → ((t : ℕ) → keys t ≡ holds around t) → OwnSound root around ks own presence g → OwnLaid root keys own g
  own_laid keys around ks None presence g same h = tt
  own_laid keys around ks (Some t) presence g same h = slot_laid keys around ks t g same h.1

  -- a field's own slot, and those inside it, are others than those behind it
  own_others : (fs : Fields) (k : ℕ) (around : List ℕ) (ks : Known) (own : Option ℕ) (presence : Presence) (g : Grammar) → OwnSound root around ks own presence g → FieldsSound root k around (choose_known presence ks (with_own own (after ks g))) fs → Others root (is_own own) (fields_opens fs)
  own_others fs k around ks own Always g o h s e = not_in_rest fs k around (with_own own (after ks g)) h s (own_true own (after ks g) s e)
  own_others fs k around ks own Bit g o h s e = (let never = (own_parts around ks own Bit g o s e).0 in cc)
  own_others fs k around ks own (When ts) g o h s e = (let never = (own_parts around ks own (When ts) g o s e).0 in cc)

  inner_others : (fs : Fields) (k : ℕ) (around : List ℕ) (name : List ℕ) (ks : Known) (own : Option ℕ) (presence : Presence) (default : Option (List ℕ)) (g : Grammar) → FieldsSound root k around ks (component name g presence default own fs) → Others root (opens g) (fields_opens fs)
  inner_others fs k around name ks own Always default g h s e = not_in_rest fs k around (with_own own (after ks g)) (last_five h) s (own_second own (after ks g) s (opens_new g k around ks (fourth_five h) s e).1)
  inner_others fs k around name ks own Bit default g h s e = (let never = shut g k around ks (fourth_five h) (third_five h) s in cc)
  inner_others fs k around name ks own (When ts) default g h s e = (let never = shut g k around ks (fourth_five h) (third_five h) s in cc)

  mutual
    pub sound_laid : (g : Grammar) (k : ℕ) (around : List ℕ) (ks : Known) → Sound root k around ks g → (keys : Known) → ((s : ℕ) → keys s ≡ holds around s) → Laid root keys g
    sound_laid (node align form) k around ks h keys same = form_laid form k around ks (last_three h) keys same

    form_laid : (form : Form) (k : ℕ) (around : List ℕ) (ks : Known) → FormSound root k around ks form → (keys : Known) → ((s : ℕ) → keys s ≡ holds around s) → FormLaid root keys form
    form_laid (num leaf) k around ks h keys same = tt
    form_laid (octets sizing) k around ks h keys same = tt
    form_laid (bits sizing) k around ks h keys same = tt
    form_laid (text leaf) k around ks h keys same = tt
    form_laid (seq fields home) k around ks h keys same =
        let one = first_two h in (
          fields_laid fields (suc k) (home ++ around) ks (last_two h) (λ s. holds home s || keys s) (λ s. ap (λ b. holds home s || b) (same s) ∙ sym (holds-append home around s)),
          one.permits,
          (λ s e. false_from_ne_true (keys s) (λ q. (let no' = one.not_around s (sym (same s) ∙ q) in cc))),
        )
    form_laid (list sizing g) k around ks h keys same = (sound_laid g (suc k) around ks (last_five h) keys same, shut g (suc k) around ks (last_five h) (fourth_five h))
    form_laid (contained sizing g) k around ks h keys same = (sound_laid g (suc k) around ks (last_four h) keys same, shut g (suc k) around ks (last_four h) (third_four h))
    form_laid (choice cases rule) k around ks h keys same = cases_laid cases (suc k) around ks (last_four h) keys same

    fields_laid : (fs : Fields) (k : ℕ) (around : List ℕ) (ks : Known) → FieldsSound root k around ks fs → (keys : Known) → ((s : ℕ) → keys s ≡ holds around s) → FieldsLaid root keys fs
    fields_laid no_fields k around ks h keys same = tt
    fields_laid (component name g presence default own fs) k around ks h keys same = (
      sound_laid g k around ks (fourth_five h) keys same,
      own_laid keys around ks own presence g same (second_five h),
      own_others fs k around ks own presence g (second_five h) (last_five h),
      inner_others fs k around name ks own presence default g h,
      fields_laid fs k around (choose_known presence ks (with_own own (after ks g))) (last_five h) keys same,
    )
    fields_laid (inserted name g (Some t) fs) k around ks h keys same = (
      slot_laid keys around ks t g same (first_four h),
      (λ s e. not_in_rest fs k around (with_slot t ks) (last_four h) s (or_left (nat_eq t s) (ks s) e)),
      fields_laid fs k around (with_slot t ks) (last_four h) keys same,
    )
    fields_laid (inserted name g None fs) k around ks h keys same =
        (sound_laid g k around ks (second_three h) keys same, null_shut g (first_three h), first_three h, fields_laid fs k around ks (last_three h) keys same)

    cases_laid : (cases : Alternatives) (k : ℕ) (around : List ℕ) (ks : Known) → AlternativesSound root k around ks cases → (keys : Known) → ((s : ℕ) → keys s ≡ holds around s) → CasesLaid root keys cases
    cases_laid no_alternatives k around ks h keys same = tt
    cases_laid (alternative name g tests more) k around ks h keys same = (sound_laid g k around ks (second_three h) keys same, shut g k around ks (second_three h) (first_three h), cases_laid more k around ks (last_three h) keys same)

pub known_stays : KnownStays
known_stays root k around ks g h s e = sound_stays root g k around ks h s e

pub slots_permit_what_their_fields_say : SlotsPermitWhatTheirFieldsSay
slots_permit_what_their_fields_say root around ks s align leaf h = domain_is root s leaf h.2
