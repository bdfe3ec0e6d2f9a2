-- Every input begins with a spelling of a node, or the node fails, under numbers that may move at slots whose fields stand in it.
use Rattle.std.proofs.Common.{◌≡◌, ℕ, zero, suc, ◌+◌, ◌*◌, ◌<◌, ◌≤◌, max, ℤ, pos, Bool, true, false, not, ◌&&◌, ◌||◌, List, [], ◌∷◌, ◌++◌, length, take, drop, Option, Some, None, refl, sym, ap, ◌∙◌, arith, append_assoc, inl, inr, ◌⊎◌, nat_eq, subst, take-append-drop, IsTrue}
use Rattle.std.proofs.lemmas.Bool.{or_parts, or_right, and_parts, eqb-true}
use Rattle.std.specs.List.{zip, AllByRecursion}
use Rattle.std.proofs.lemmas.List.{length-take-le}
use Rattle.acn_num.specs.Bits.{number}
use Rattle.acn_num.specs.Ranges.{In, greatest}
use Rattle.acn_grammar.specs.Code.{Any, NumberOf}
use Rattle.acn_grammar.specs.Env.{Env, at_slot}
use Rattle.acn_grammar.specs.Fails.{Failing, Here, Fault, SizeFails, PartsFail, TextFails, presence_count, IsThere, flags_behind, count_of, RunFails, EndFails, EndedFails, ListFails, NoneChosen, IndexFails, IndexIs, Fails, FormFails, FieldsFail, AlternativeFails, ContentFails, fails_at_size, fails_behind_size, fails_at_element, fails_behind_element, pattern_cut, pattern_differs, full_not_permitted, full_not_ended, end_not_permitted, next_element_fails, fails_behind_next, index_cut, index_too_great, fails_at_index, fails_at_alternative, padding_cut, fails_behind_padding, presence_cut, fails_behind_presence, fails_at_component, fails_behind_component, fails_behind_absent, fails_at_inserted, fails_behind_inserted, window_cut, content_fails, content_overlong}
use Rattle.acn_grammar.specs.Grammar.{Grammar, Form, Fields, Alternatives, Data, Places, Elements, node, num, octets, bits, text, seq, list, choice, contained, no_fields, component, inserted, no_alternatives, alternative, null, characters, record_of, list_of, alt, no_places, empty, filled, no_elements, element, element_count}
use Rattle.acn_grammar.specs.Interval.{size_of}
use Rattle.acn_grammar.specs.LeafFails.{Reason, short, too_long, size_out_of_range, no_alternative, content_size, LeafFails}
use Rattle.acn_grammar.specs.Leaves.{num_fine, sizing_fine, sizes_fine, list_rule_fine}
use Rattle.acn_grammar.specs.Length.{padding, presence_bits, ending, index_width}
use Rattle.acn_grammar.specs.Scoped.{Known, with_slot, with_own, Agree, RuleIn, choose_known, after, Scoped, FormScoped, FieldsScoped, AlternativesScoped}
use Rattle.acn_grammar.specs.Slots.{domain_of}
use Rattle.acn_grammar.specs.Spell.{Part, ◌then◌, Where, Exactly, Padding, Fill, SizePart, EndedPart, Carries, RunPart, ListPart, Window, Spell, FormPart, FieldsPart, SlotField, AlternativePart, Chosen, IndexPart, with_home}
use Rattle.acn_grammar.specs.Tree.{holds}
use Rattle.acn_grammar.specs.declared.node.ChoiceRule.{ChoiceRule}
use Rattle.acn_grammar.specs.declared.node.ChoiceRule.TheVariants.{Index, Tests, Item}
use Rattle.acn_grammar.specs.declared.node.NumKind.{NumKind}
use Rattle.acn_grammar.specs.declared.node.NumKind.TheVariants.{Null}
use Rattle.acn_grammar.specs.declared.node.NumLeaf.{NumLeaf}
use Rattle.acn_grammar.specs.declared.node.Presence.{Presence}
use Rattle.acn_grammar.specs.declared.node.Sizing.{Sizing}
use Rattle.acn_grammar.specs.declared.node.Test.{Test}
use Rattle.acn_grammar.specs.declared.node.TextLeaf.{TextLeaf}
use Rattle.acn_grammar.proofs.FineLeaves.{rules_of}
use Rattle.acn_grammar.proofs.SpanLaw.{Fine, FormFine, FieldsFine, AlternativesFine}
use Rattle.acn_packet_laws.specs.Laws.{CodeAtFront}
use Rattle.acn_packet_laws.proofs.Envs.{Good, Moved, unmoved, moved_more, moved_as, move_to, Numbers, some_numbers, good_home, outside, FrontOf, Stuck, says, in_or_not, ASize, size_total}
use Rattle.acn_packet_laws.proofs.LeafTotal.{same_or_not}
use Rattle.acn_packet_laws.proofs.Moves.{is_own, opens, form_opens, fields_opens, Shut, or_either, self_eq, RuleKnown, SlotLaid, OwnLaid, Others, Laid, FormLaid, FieldsLaid, CasesLaid, after_within, chosen_within, size_moves, own_moves, spell_moves, chosen_moves, CasesKnown, cases_known}
use Rattle.acn_packet_laws.proofs.NumberTotal.{each_input_is_a_number_or_fails}
use Rattle.acn_packet_laws.proofs.NodeParts.{join_front, join_stuck, TextTotal, none}
use Rattle.acn_packet_laws.proofs.ReadParts.{ChosenAt, bits_make, choose, content_makes, flags_away, flags_left, flags_there, index_chosen, is_there_moves, may_be_away, may_be_there, null_is, number_is, octets_make, padded, there_or_not, value_by}
use Rattle.acn_grammar.proofs.FirstPlaces.{less_or_not}

module _ (root : Grammar) (text_total : TextTotal) where
  -- an env that moved, and under it a value at the front or a failure
  pub record Outcome (keys : Known) (o : ℕ → Bool) (env : Env) (P : Env → Data → Part) (F : Env → Failing) (at : ℕ) (rest : List Bool) : Type 0 where
    pub moved : Moved root keys o env
    pub result : ((d : Data) × FrontOf (P moved.now d) at rest) ⊎ Stuck (F moved.now) at rest

  -- Numbers.

  number_total : (leaf : NumLeaf) → IsTrue (num_fine leaf) → (env : Env) (here : Here) (origin at : ℕ) (rest : List Bool) → ((d : Data) × FrontOf (FormPart root Any (num leaf) env d) at rest) ⊎ Stuck (FormFails root (num leaf) env here origin) at rest
  number_total leaf fine env here origin at rest = by (each_input_is_a_number_or_fails leaf rest fine)
    where
      by : CodeAtFront leaf rest ⊎ ((r : Reason) × (reach : ℕ) × LeafFails leaf rest r reach) → ((d : Data) × FrontOf (FormPart root Any (num leaf) env d) at rest) ⊎ Stuck (FormFails root (num leaf) env here origin) at rest
      by (inl t) =
          let v = value_by leaf leaf.kind t.number (rules_of leaf fine).set t.codes.permitted in
          inl (v.0, record { front = t.code; back = t.behind; whole = t.whole; spelled = (t.number, v.1, t.codes) })
      by (inr f) = inr (says here f.0, f.1, record { reason = f.0; fails = f.2; says = refl })

  -- Strings.

  parts_total : (each : ℕ) (here : Here) (sizing : Sizing) (env : Env) (P : Data → Part) (at : ℕ) (rest : List Bool) → ((n : ℕ) (bs : List Bool) → length bs ≡ each * n → (d : Data) × ((front : List Bool) → SizePart sizing env n at front → P d at (front ++ bs)))
      → ASize sizing env at rest ⊎ Stuck (SizeFails here sizing env) at rest → ((d : Data) × FrontOf (P d) at rest) ⊎ Stuck (PartsFail here each sizing env) at rest
  parts_total each here sizing env P at rest make (inr f) = inr (f.0, f.1, fails_at_size f.2)
  parts_total each here sizing env P at rest make (inl s) = by (less_or_not (length s.front.back) (each * s.n))
    where
      by : (length s.front.back < each * s.n) ⊎ (each * s.n ≤ length s.front.back) → ((d : Data) × FrontOf (P d) at rest) ⊎ Stuck (PartsFail here each sizing env) at rest
      by (inl h) =
          inr (says here short, length s.front.front + length s.front.back, fails_behind_size (record { n = s.n; behind = record { front = s.front.front; back = s.front.back; whole = s.front.whole; spelled = s.front.spelled; more = length s.front.back; fails = (h, refl, refl); reaches = refl } }))
      by (inr h) =
          let m = make s.n (take (each * s.n) s.front.back) (length-take-le (each * s.n) s.front.back h) in
          inl (
            m.0,
            record {
              front = s.front.front ++ take (each * s.n) s.front.back;
              back = drop (each * s.n) s.front.back;
              whole = s.front.whole ∙ (ap (λ z. s.front.front ++ z) (sym (take-append-drop (each * s.n) s.front.back)) ∙ sym (append_assoc s.front.front (take (each * s.n) s.front.back) (drop (each * s.n) s.front.back)));
              spelled = m.1 s.front.front s.front.spelled;
            },
          )

  -- Elements.

  abbrev FormListPart : Option (List Bool) → Sizing → Grammar → Env → Data → Part
  FormListPart end sizing g e (list_of es) = ListPart end sizing e (Spell root Any g e) es
  FormListPart end sizing g e _ = Rattle.acn_grammar.specs.Spell.Only ⊥

  abbrev Each : Known → Grammar → (ℕ → Env → Failing) → Type 0
  Each keys g fails = (env : Env) → Good root keys env → (k at : ℕ) (rest : List Bool) → Outcome keys none env (λ e. Spell root Any g e) (fails k) at rest

  abbrev Forward : Known → Grammar → Type 0
  Forward keys g = (env env' : Env) → ((s : ℕ) → at_slot env s ≡ at_slot env' s) → (d : Data) (at : ℕ) (bs : List Bool) → Spell root Any g env d at bs → Spell root Any g env' d at bs

  record RunOutcome (keys : Known) (g : Grammar) (fails : ℕ → Env → Failing) (n k : ℕ) (env : Env) (at : ℕ) (rest : List Bool) : Type 0 where
    moved : Moved root keys none env
    result : ((es : Elements) × (element_count es ≡ n) × FrontOf (RunPart (Spell root Any g moved.now) es) at rest) ⊎ Stuck (RunFails (Spell root Any g moved.now) (λ i. fails i moved.now) n k) at rest

  none_both : (s : ℕ) → none s ≡ false → (none s ≡ false) × (none s ≡ false)
  none_both s h = (refl, refl)

  run_total : (keys : Known) (g : Grammar) (fails : ℕ → Env → Failing) → Each keys g fails → Forward keys g → (n k : ℕ) (env : Env) → Good root keys env → (at : ℕ) (rest : List Bool) → RunOutcome keys g fails n k env at rest
  run_total keys g fails each forward zero k env good at rest = record { moved = unmoved root keys none env good; result = inl (no_elements, refl, record { front = []; back = rest; whole = refl; spelled = refl }) }
  run_total keys g fails each forward (suc n) k env good at rest =
      let o = each env good k at rest in
      by o.moved o.result (λ d f. run_total keys g fails each forward n (suc k) o.moved.now o.moved.good (at + length f.front) f.back)
    where
      by : (m : Moved root keys none env) → ((d : Data) × FrontOf (Spell root Any g m.now d) at rest) ⊎ Stuck (fails k m.now) at rest
          → ((d : Data) (f : FrontOf (Spell root Any g m.now d) at rest) → RunOutcome keys g fails n (suc k) m.now (at + length f.front) f.back) → RunOutcome keys g fails (suc n) k env at rest
      by m (inr x) more = record { moved = m; result = inr (x.0, x.1, fails_at_element x.2) }
      by m (inl (d, f)) more = (let r = more d f in record { moved = moved_more root keys none none none env m r.moved none_both; result = ended r.moved r.result })
        where
          ended : (q : Moved root keys none m.now) → ((es : Elements) × (element_count es ≡ n) × FrontOf (RunPart (Spell root Any g q.now) es) (at + length f.front) f.back) ⊎ Stuck (RunFails (Spell root Any g q.now) (λ i. fails i q.now) n (suc k)) (at + length f.front) f.back
              → ((es : Elements) × (element_count es ≡ suc n) × FrontOf (RunPart (Spell root Any g q.now) es) at rest) ⊎ Stuck (RunFails (Spell root Any g q.now) (λ i. fails i q.now) (suc n) k) at rest
          ended q (inl (es, c, h)) = inl (element d es, ap suc c, join_front at rest f.front f.back f.whole (forward m.now q.now (λ s. q.rest s refl) d at f.front f.spelled) h)
          ended q (inr x) = (let b = join_stuck {P = Spell root Any g q.now d} at rest f.front f.back f.whole (forward m.now q.now (λ s. q.rest s refl) d at f.front f.spelled) x in inr (b.0, b.1, fails_behind_element (d, b.2)))

  -- with a pattern behind them
  record EndedOutcome (keys : Known) (here : Here) (p : List Bool) (sizing : Sizing) (g : Grammar) (fails : ℕ → Env → Failing) (n k : ℕ) (env : Env) (at : ℕ) (rest : List Bool) : Type 0 where
    moved : Moved root keys none env
    result : ((es : Elements) × In sizing.sizes (pos (k + element_count es)) × FrontOf (RunPart (Spell root Any g moved.now) es then Exactly p) at rest) ⊎ Stuck (EndedFails here p sizing (Spell root Any g moved.now) (λ i. fails i moved.now) n k) at rest

  end_here : (here : Here) (p : List Bool) (sizing : Sizing) (g : Grammar) (fails : ℕ → Env → Failing) (n k : ℕ) (env : Env) (at : ℕ) (rest : List Bool) → take (length p) rest ≡ p → In sizing.sizes (pos k) ⊎ (In sizing.sizes (pos k) → ⊥)
      → ((es : Elements) × In sizing.sizes (pos (k + element_count es)) × FrontOf (RunPart (Spell root Any g env) es then Exactly p) at rest) ⊎ Stuck (EndFails here p sizing k) at rest
  end_here here p sizing g fails n k env at rest e (inl i) =
      inl (no_elements, subst (λ (m : ℕ). In sizing.sizes (pos m)) (omega arith) i, record { front = p; back = drop (length p) rest; whole = sym (take-append-drop (length p) rest) ∙ ap (λ z. z ++ drop (length p) rest) e; spelled = record { front = []; back = p; whole = refl; first = refl; second = refl } })
  end_here here p sizing g fails n k env at rest e (inr i) = inr (says here (size_out_of_range k), length p, record { stands = e; refused = i; says = refl; reaches = refl })

  run_ended : (keys : Known) (here : Here) (p : List Bool) (sizing : Sizing) (g : Grammar) (fails : ℕ → Env → Failing) → Each keys g fails → Forward keys g → (n k : ℕ) (env : Env) → Good root keys env → (at : ℕ) (rest : List Bool) → EndedOutcome keys here p sizing g fails n k env at rest
  run_ended keys here p sizing g fails each forward zero k env good at rest = record { moved = unmoved root keys none env good; result = by (same_or_not (take (length p) rest) p) (less_or_not (length rest) (length p)) }
    where
      Goal : Type 0
      Goal = ((es : Elements) × In sizing.sizes (pos (k + element_count es)) × FrontOf (RunPart (Spell root Any g env) es then Exactly p) at rest) ⊎ Stuck (EndedFails here p sizing (Spell root Any g env) (λ i. fails i env) zero k) at rest

      found : ((es : Elements) × In sizing.sizes (pos (k + element_count es)) × FrontOf (RunPart (Spell root Any g env) es then Exactly p) at rest) ⊎ Stuck (EndFails here p sizing k) at rest → Goal
      found (inl h) = inl h
      found (inr x) = inr (x.0, x.1, full_not_permitted x.2)

      by : (take (length p) rest ≡ p) ⊎ (take (length p) rest ≡ p → ⊥) → (length rest < length p) ⊎ (length p ≤ length rest) → Goal
      by (inl e) l = found (end_here here p sizing g fails zero k env at rest e (in_or_not sizing.sizes (pos k)))
      by (inr e) (inl l) = inr (says here short, length rest, full_not_ended (pattern_cut (l, refl, refl)))
      by (inr e) (inr l) = inr (says here too_long, length p, full_not_ended (pattern_differs (l, e, refl, refl)))
  run_ended keys here p sizing g fails each forward (suc n) k env good at rest =
      let o = each env good k at rest in
      by (same_or_not (take (length p) rest) p) o.moved o.result (λ d f. run_ended keys here p sizing g fails each forward n (suc k) o.moved.now o.moved.good (at + length f.front) f.back)
    where
      found : ((es : Elements) × In sizing.sizes (pos (k + element_count es)) × FrontOf (RunPart (Spell root Any g env) es then Exactly p) at rest) ⊎ Stuck (EndFails here p sizing k) at rest
          → ((es : Elements) × In sizing.sizes (pos (k + element_count es)) × FrontOf (RunPart (Spell root Any g env) es then Exactly p) at rest) ⊎ Stuck (EndedFails here p sizing (Spell root Any g env) (λ i. fails i env) (suc n) k) at rest
      found (inl h) = inl h
      found (inr x) = inr (x.0, x.1, end_not_permitted x.2)

      by : (take (length p) rest ≡ p) ⊎ (take (length p) rest ≡ p → ⊥) → (m : Moved root keys none env) → ((d : Data) × FrontOf (Spell root Any g m.now d) at rest) ⊎ Stuck (fails k m.now) at rest
          → ((d : Data) (f : FrontOf (Spell root Any g m.now d) at rest) → EndedOutcome keys here p sizing g fails n (suc k) m.now (at + length f.front) f.back) → EndedOutcome keys here p sizing g fails (suc n) k env at rest
      by (inl e) m r more = record { moved = unmoved root keys none env good; result = found (end_here here p sizing g fails (suc n) k env at rest e (in_or_not sizing.sizes (pos k))) }
      by (inr e) m (inr x) more = record { moved = m; result = inr (x.0, max (length p) x.1, next_element_fails (record { differs = e; inner = x.1; fails = x.2; reaches = refl })) }
      by (inr e) m (inl (d, f)) more = (let r = more d f in record { moved = moved_more root keys none none none env m r.moved none_both; result = ended r.moved r.result })
        where
          ended : (q : Moved root keys none m.now) → ((es : Elements) × In sizing.sizes (pos (suc k + element_count es)) × FrontOf (RunPart (Spell root Any g q.now) es then Exactly p) (at + length f.front) f.back) ⊎ Stuck (EndedFails here p sizing (Spell root Any g q.now) (λ i. fails i q.now) n (suc k)) (at + length f.front) f.back
              → ((es : Elements) × In sizing.sizes (pos (k + element_count es)) × FrontOf (RunPart (Spell root Any g q.now) es then Exactly p) at rest) ⊎ Stuck (EndedFails here p sizing (Spell root Any g q.now) (λ i. fails i q.now) (suc n) k) at rest
          ended q (inl (es, i, h)) =
              let s = forward m.now q.now (λ t. q.rest t refl) d at f.front f.spelled in
              let u = h.spelled in
              inl (
                element d es,
                subst (λ (z : ℕ). In sizing.sizes (pos z)) (omega arith) i,
                record {
                  front = f.front ++ h.front;
                  back = h.back;
                  whole = f.whole ∙ (ap (λ z. f.front ++ z) h.whole ∙ sym (append_assoc f.front h.front h.back));
                  spelled = record {
                    front = f.front ++ u.front;
                    back = u.back;
                    whole = ap (λ z. f.front ++ z) u.whole ∙ sym (append_assoc f.front u.front u.back);
                    first = record { front = f.front; back = u.front; whole = refl; first = s; second = u.first };
                    second = u.second;
                  };
                },
              )
          ended q (inr x) = (let b = join_stuck {P = Spell root Any g q.now d} at rest f.front f.back f.whole (forward m.now q.now (λ s. q.rest s refl) d at f.front f.spelled) x in inr (b.0, b.1, fails_behind_next (d, b.2)))

  -- Slots whose fields stand in a node are keys.

  slot_key : (keys : Known) (s : ℕ) (g : Grammar) → SlotLaid root keys s g → keys s ≡ true
  slot_key keys s (node align (num leaf)) laid = laid.0
  slot_key keys s (node align _) laid = absurd laid

  own_key : (keys : Known) (own : Option ℕ) (g : Grammar) (t : ℕ) → OwnLaid root keys own g → is_own own t ≡ true → keys t ≡ true
  own_key keys None g t laid h = cc
  own_key keys (Some s) g t laid h = subst (λ (z : ℕ). keys z ≡ true) (eqb-true s t h) (slot_key keys s g laid)

  own_apart : (keys : Known) (own : Option ℕ) (g : Grammar) (t : ℕ) → OwnLaid root keys own g → opens g t ≡ true → is_own own t ≡ false
  own_apart keys None g t laid h = refl
  own_apart keys (Some s) (node align (num leaf)) t laid h = cc
  own_apart keys (Some s) (node align _) t laid h = absurd laid

  either_key : (a b c k : Bool) → (a || (b || c)) ≡ true → (a ≡ true → k ≡ true) → (b ≡ true → k ≡ true) → (c ≡ true → k ≡ true) → k ≡ true
  either_key true b c k h f g i = f refl
  either_key false true c k h f g i = g refl
  either_key false false c k h f g i = i h

  mutual
    opens_key : (g : Grammar) (keys : Known) → Laid root keys g → (s : ℕ) → opens g s ≡ true → keys s ≡ true
    opens_key (node align form) keys laid s h = form_key form keys laid s h

    form_key : (form : Form) (keys : Known) → FormLaid root keys form → (s : ℕ) → form_opens form s ≡ true → keys s ≡ true
    form_key (seq fields home) keys laid s h = inner (holds home s) (keys s) (and_parts (fields_opens fields s) (not (holds home s)) h).1 (fields_key fields (λ t. holds home t || keys t) laid.0 s (and_parts (fields_opens fields s) (not (holds home s)) h).0)
      where
        inner : (a b : Bool) → not a ≡ true → (a || b) ≡ true → b ≡ true
        inner true b h k = cc
        inner false b h k = k
    form_key (num leaf) keys laid s h = cc
    form_key (octets sizing) keys laid s h = cc
    form_key (bits sizing) keys laid s h = cc
    form_key (text leaf) keys laid s h = cc
    form_key (list sizing g) keys laid s h = cc
    form_key (choice cases rule) keys laid s h = cc
    form_key (contained sizing g) keys laid s h = cc

    fields_key : (fs : Fields) (keys : Known) → FieldsLaid root keys fs → (s : ℕ) → fields_opens fs s ≡ true → keys s ≡ true
    fields_key no_fields keys laid s h = cc
    fields_key (component name g presence default own fs) keys laid s h =
        either_key (is_own own s) (opens g s) (fields_opens fs s) (keys s) h (own_key keys own g s laid.1) (opens_key g keys laid.0 s) (fields_key fs keys laid.4 s)
    fields_key (inserted name g (Some t) fs) keys laid s h =
        either_key (nat_eq t s) false (fields_opens fs s) (keys s) h (λ e. subst (λ (z : ℕ). keys z ≡ true) (eqb-true t s e) (slot_key keys t g laid.0)) (λ e. cc) (fields_key fs keys laid.2 s)
    fields_key (inserted name g None fs) keys laid s h = fields_key fs keys laid.3 s h

  -- Nodes.

  node_done : (align at : ℕ) → 0 < align → (form : Form) (keys : Known) (env : Env) → Good root keys env → (inside : Bool) (origin : ℕ) (path : List ℕ) (rest : List Bool)
      → Outcome keys (form_opens form) env (λ e. FormPart root Any form e) (λ e. FormFails root form e (record { path = path; place = origin + at; inside = inside }) origin) (at + length (take (padding align at) rest)) (drop (padding align at) rest)
      → Outcome keys (form_opens form) env (λ e. Spell root Any (node align form) e) (λ e. Fails root (node align form) e inside origin path) at rest
  node_done align at some form keys env good inside origin path rest o = by (less_or_not (length rest) (padding align at))
    where
      here : Here
      here = record { path = path; place = origin + at; inside = inside }

      ended : (now : Env) → length (take (padding align at) rest) ≡ padding align at → ((d : Data) × FrontOf (FormPart root Any form now d) (at + length (take (padding align at) rest)) (drop (padding align at) rest)) ⊎ Stuck (FormFails root form now (record { path = path; place = origin + at; inside = inside }) origin) (at + length (take (padding align at) rest)) (drop (padding align at) rest)
          → ((d : Data) × FrontOf (Spell root Any (node align form) now d) at rest) ⊎ Stuck (Fails root (node align form) now inside origin path) at rest
      ended now l (inl (d, f)) = inl (d, join_front at rest (take (padding align at) rest) (drop (padding align at) rest) (sym (take-append-drop (padding align at) rest)) (padded align at some (take (padding align at) rest) l) f)
      ended now l (inr x) = (let b = join_stuck {P = Padding Any align} at rest (take (padding align at) rest) (drop (padding align at) rest) (sym (take-append-drop (padding align at) rest)) (padded align at some (take (padding align at) rest) l) x in inr (b.0, b.1, fails_behind_padding b.2))

      by : (length rest < padding align at) ⊎ (padding align at ≤ length rest) → Outcome keys (form_opens form) env (λ e. Spell root Any (node align form) e) (λ e. Fails root (node align form) e inside origin path) at rest
      by (inl h) = record { moved = unmoved root keys (form_opens form) env good; result = inr (says (record { path = path; place = origin + at; inside = inside }) short, length rest, padding_cut (h, refl, refl)) }
      by (inr h) = record { moved = o.moved; result = ended o.moved.now (length-take-le (padding align at) rest h) o.result }

  -- Lists.

  list_done : (keys ks : Known) (end : Option (List Bool)) (here : Here) (sizing : Sizing) → (sizes_fine sizing.sizes && list_rule_fine end sizing) ≡ true → RuleIn ks sizing.rule → ((s : ℕ) → ks s ≡ true → keys s ≡ true) → (g : Grammar) (fails : ℕ → Env → Failing) → Each keys g fails → Forward keys g → (env : Env) → Good root keys env → (at : ℕ) (rest : List Bool)
      → Outcome keys none env (λ e d. FormListPart end sizing g e d) (λ e. ListFails end here sizing e (Spell root Any g e) (λ k. fails k e)) at rest
  list_done keys ks (Some p) here sizing fine known within g fails each forward env good at rest =
      let o = run_ended keys here p sizing g fails each forward (size_of (greatest sizing.sizes)) 0 env good at rest in
      record { moved = o.moved; result = ended o.moved.now o.result }
    where
      ended : (now : Env) → ((es : Elements) × In sizing.sizes (pos (0 + element_count es)) × FrontOf (RunPart (Spell root Any g now) es then Exactly p) at rest) ⊎ Stuck (EndedFails here p sizing (Spell root Any g now) (λ i. fails i now) (size_of (greatest sizing.sizes)) 0) at rest
          → ((d : Data) × FrontOf (FormListPart (Some p) sizing g now d) at rest) ⊎ Stuck (ListFails (Some p) here sizing now (Spell root Any g now) (λ k. fails k now)) at rest
      ended now (inl (es, i, f)) = inl (list_of es, record { front = f.front; back = f.back; whole = f.whole; spelled = record { given = subst (λ (m : ℕ). In sizing.sizes (pos m)) (omega arith) i; spelled = f.spelled } })
      ended now (inr x) = inr x
  list_done keys ks None here sizing fine known within g fails each forward env good at rest = by (size_total root here sizing fine ks keys known within env good at rest)
    where
      Goal : Type 0
      Goal = Outcome keys none env (λ e d. FormListPart None sizing g e d) (λ e. ListFails None here sizing e (Spell root Any g e) (λ k. fails k e)) at rest

      ended : (n : ℕ) (f : FrontOf (SizePart sizing env n) at rest) (q : Moved root keys none env) → ((es : Elements) × (element_count es ≡ n) × FrontOf (RunPart (Spell root Any g q.now) es) (at + length f.front) f.back) ⊎ Stuck (RunFails (Spell root Any g q.now) (λ i. fails i q.now) n 0) (at + length f.front) f.back
          → ((d : Data) × FrontOf (FormListPart None sizing g q.now d) at rest) ⊎ Stuck (ListFails None here sizing q.now (Spell root Any g q.now) (λ k. fails k q.now)) at rest
      ended n f q (inl (es, c, h)) =
          inl (list_of es, join_front at rest f.front f.back f.whole (subst (λ (m : ℕ). SizePart sizing q.now m at f.front) (sym c) (size_moves root sizing ks known env q.now (λ s k. q.rest s refl) n at f.front f.spelled)) h)
      ended n f q (inr x) =
          (let b = join_stuck {P = SizePart sizing q.now n} at rest f.front f.back f.whole (size_moves root sizing ks known env q.now (λ s k. q.rest s refl) n at f.front f.spelled) x in inr (b.0, b.1, fails_behind_size (record { n = n; behind = b.2 })))

      by : ASize sizing env at rest ⊎ Stuck (SizeFails here sizing env) at rest → Goal
      by (inr x) = record { moved = unmoved root keys none env good; result = inr (x.0, x.1, fails_at_size x.2) }
      by (inl s) =
          let o = run_total keys g fails each forward s.n 0 env good (at + length s.front.front) s.front.back in
          record { moved = o.moved; result = ended s.n s.front o.moved o.result }

  list_part : (sizing : Sizing) (g : Grammar) (e : Env) (d : Data) (at : ℕ) (bs : List Bool) → FormListPart (ending sizing.rule) sizing g e d at bs → FormPart root Any (list sizing g) e d at bs
  list_part sizing g e (list_of es) at bs t = t
  list_part sizing g e _ at bs t = absurd t.0

  list_form : (keys : Known) (sizing : Sizing) (g : Grammar) (here : Here) (origin : ℕ) (env : Env) (at : ℕ) (rest : List Bool)
      → Outcome keys none env (λ e d. FormListPart (ending sizing.rule) sizing g e d) (λ e. ListFails (ending sizing.rule) here sizing e (Spell root Any g e) (λ k. Fails root g e here.inside origin (here.path ++ k ∷ []))) at rest
      → Outcome keys none env (λ e. FormPart root Any (list sizing g) e) (λ e. FormFails root (list sizing g) e here origin) at rest
  list_form keys sizing g here origin env at rest o = record { moved = o.moved; result = by o.moved.now o.result }
    where
      by : (now : Env) → ((d : Data) × FrontOf (FormListPart (ending sizing.rule) sizing g now d) at rest) ⊎ Stuck (ListFails (ending sizing.rule) here sizing now (Spell root Any g now) (λ k. Fails root g now here.inside origin (here.path ++ k ∷ []))) at rest
          → ((d : Data) × FrontOf (FormPart root Any (list sizing g) now d) at rest) ⊎ Stuck (FormFails root (list sizing g) now here origin) at rest
      by now (inl (d, f)) = inl (d, record { front = f.front; back = f.back; whole = f.whole; spelled = list_part sizing g now d at f.front f.spelled })
      by now (inr x) = inr x

  -- Contents.

  contained_done : (keys ks : Known) (here : Here) (origin : ℕ) (sizing : Sizing) → sizing_fine sizing ≡ true → RuleIn ks sizing.rule → ((s : ℕ) → ks s ≡ true → keys s ≡ true) → (g : Grammar) (env : Env) → Good root keys env → (at : ℕ) (rest : List Bool)
      → ((place : ℕ) (window : List Bool) → Outcome keys none env (λ e. Spell root Any g e) (λ e. Fails root g e true (origin + place) (here.path ++ 0 ∷ [])) 0 window)
      → Outcome keys none env (λ e. FormPart root Any (contained sizing g) e) (λ e. FormFails root (contained sizing g) e here origin) at rest
  contained_done keys ks here origin sizing fine known within g env good at rest content = by (size_total root here sizing fine ks keys known within env good at rest)
    where
      Goal : Type 0
      Goal = Outcome keys none env (λ e. FormPart root Any (contained sizing g) e) (λ e. FormFails root (contained sizing g) e here origin) at rest

      stuck : (n : ℕ) (f : FrontOf (SizePart sizing env n) at rest) (q : Moved root keys none env) → (fault : Fault) (reach : ℕ)
          → ContentFails here (Spell root Any g q.now) (λ place. Fails root g q.now true (origin + place) (here.path ++ 0 ∷ [])) n (at + length f.front) f.back fault reach
          → Stuck (FormFails root (contained sizing g) q.now here origin) at rest
      stuck n f q fault reach x = (
        fault,
        length f.front + reach,
        fails_behind_size (record {
          n = n;
          behind = record { front = f.front; back = f.back; whole = f.whole; spelled = size_moves root sizing ks known env q.now (λ s k. q.rest s refl) n at f.front f.spelled; more = reach; fails = x; reaches = refl };
        }),
      )

      content_read : (n : ℕ) (f : FrontOf (SizePart sizing env n) at rest) (q : Moved root keys none env) → 8 * n ≤ length f.back → (d : Data) (c : FrontOf (Spell root Any g q.now d) 0 (take (8 * n) f.back)) → (length c.back < 8) ⊎ (8 ≤ length c.back)
          → ((d : Data) × FrontOf (FormPart root Any (contained sizing g) q.now d) at rest) ⊎ Stuck (FormFails root (contained sizing g) q.now here origin) at rest
      content_read n f q h d c (inr byte) =
          inr (stuck n f q (says here (content_size n (length c.front))) (8 * n) (content_overlong (h, (d, record { used = c.front; left = c.back; whole = c.whole; spelled = c.spelled; byte = byte; says = refl }), refl)))
      content_read n f q h d c (inl few) =
          let l = length-take-le (8 * n) f.back h in
          inl (
            d,
            record {
              front = f.front ++ take (8 * n) f.back;
              back = drop (8 * n) f.back;
              whole = f.whole ∙ (ap (λ z. f.front ++ z) (sym (take-append-drop (8 * n) f.back)) ∙ sym (append_assoc f.front (take (8 * n) f.back) (drop (8 * n) f.back)));
              spelled = content_makes root sizing g q.now d at n f.front (take (8 * n) f.back) c.front c.back (size_moves root sizing ks known env q.now (λ s k. q.rest s refl) n at f.front f.spelled) l c.whole c.spelled few;
            },
          )

      ended : (n : ℕ) (f : FrontOf (SizePart sizing env n) at rest) (q : Moved root keys none env) → 8 * n ≤ length f.back → ((d : Data) × FrontOf (Spell root Any g q.now d) 0 (take (8 * n) f.back)) ⊎ Stuck (Fails root g q.now true (origin + (at + length f.front)) (here.path ++ 0 ∷ [])) 0 (take (8 * n) f.back)
          → ((d : Data) × FrontOf (FormPart root Any (contained sizing g) q.now d) at rest) ⊎ Stuck (FormFails root (contained sizing g) q.now here origin) at rest
      ended n f q h (inl (d, c)) = content_read n f q h d c (less_or_not (length c.back) 8)
      ended n f q h (inr x) = inr (stuck n f q x.0 (8 * n) (content_fails (h, (x.1, x.2), refl)))

      sized : (n : ℕ) (f : FrontOf (SizePart sizing env n) at rest) → (length f.back < 8 * n) ⊎ (8 * n ≤ length f.back) → Goal
      sized n f (inl h) = (let q = unmoved root keys none env good in record { moved = unmoved root keys none env good; result = inr (stuck n f (unmoved root keys none env good) (says here short) (length f.back) (window_cut (h, refl, refl))) })
      sized n f (inr h) = (let o = content (at + length f.front) (take (8 * n) f.back) in record { moved = o.moved; result = ended n f o.moved h o.result })

      by : ASize sizing env at rest ⊎ Stuck (SizeFails here sizing env) at rest → Goal
      by (inr x) = record { moved = unmoved root keys none env good; result = inr (x.0, x.1, fails_at_size x.2) }
      by (inl s) = sized s.n s.front (less_or_not (length s.front.back) (8 * s.n))

  -- Alternatives.

  -- an alternative, with an index in front of it or none
  choice_done : (keys : Known) (cases : Alternatives) (rule : ChoiceRule) (env : Env) → Good root keys env → (here : Here) (origin at : ℕ) (rest : List Bool)
      → ((i : ℕ) → ChosenAt root cases rule env i → Outcome keys none env (λ e. AlternativePart root Any cases rule e i) (λ e. AlternativeFails root cases rule e here origin i i) (at + index_width rule) (drop (index_width rule) rest))
      → Outcome keys none env (λ e. FormPart root Any (choice cases rule) e) (λ e. FormFails root (choice cases rule) e here origin) at rest
  choice_done keys cases rule env good here origin at rest case = by rule refl
    where
      Goal : Type 0
      Goal = Outcome keys none env (λ e. FormPart root Any (choice cases rule) e) (λ e. FormFails root (choice cases rule) e here origin) at rest

      failed : Stuck (IndexFails root here rule cases env) at rest → Goal
      failed x = record { moved = unmoved root keys none env good; result = inr (x.0, x.1, fails_at_index x.2) }

      ended : (i : ℕ) (now : Env) → index_width rule ≤ length rest → IndexIs root rule rest i → IndexPart root rule i at (take (index_width rule) rest) → ((d : Data) × FrontOf (AlternativePart root Any cases rule now i d) (at + index_width rule) (drop (index_width rule) rest)) ⊎ Stuck (AlternativeFails root cases rule now here origin i i) (at + index_width rule) (drop (index_width rule) rest)
          → ((d : Data) × FrontOf (FormPart root Any (choice cases rule) now d) at rest) ⊎ Stuck (FormFails root (choice cases rule) now here origin) at rest
      ended i now h is p (inl (d, f)) =
          inl (
            alt i d,
            join_front at rest (take (index_width rule) rest) (drop (index_width rule) rest) (sym (take-append-drop (index_width rule) rest)) p
                (subst (λ (n : ℕ). FrontOf (AlternativePart root Any cases rule now i d) (at + n) (drop (index_width rule) rest)) (sym (length-take-le (index_width rule) rest h)) f),
          )
      ended i now h is p (inr x) = inr (x.0, index_width rule + x.1, fails_at_alternative (record { index = i; stands = is; behind = record { there = h; more = x.1; fails = x.2; reaches = refl } }))

      go : (i : ℕ) → index_width rule ≤ length rest → IndexIs root rule rest i → IndexPart root rule i at (take (index_width rule) rest) → ChosenAt root cases rule env i → Goal
      go i h is p c = (let o = case i c in record { moved = o.moved; result = ended i o.moved.now h is p o.result })

      with_rule : (r : ChoiceRule) → rule ≡ r → (P : ChoiceRule → Type 0) → P r → P rule
      with_rule r e P x = subst P (sym e) x

      indexed : (width : ℕ) → rule ≡ Index width → (length rest < width) ⊎ (width ≤ length rest) → (number (take width rest) < count_of cases) ⊎ (count_of cases ≤ number (take width rest)) → Goal
      indexed width e (inl h) c = failed (with_rule (Index width) e (λ r. Stuck (IndexFails root here r cases env) at rest) (says here short, length rest, index_cut (h, refl, refl)))
      indexed width e (inr h) (inr c) = failed (with_rule (Index width) e (λ r. Stuck (IndexFails root here r cases env) at rest) (says here no_alternative, width, index_too_great (h, c, refl, refl)))
      indexed width e (inr h) (inl c) =
          go (number (take width rest)) (with_rule (Index width) e (λ r. index_width r ≤ length rest) h) (with_rule (Index width) e (λ r. IndexIs root r rest (number (take width rest))) refl)
          (with_rule (Index width) e (λ r. IndexPart root r (number (take width rest)) at (take (index_width r) rest)) (record { width = length-take-le width rest h; value = refl }))
          (with_rule (Index width) e (λ r. ChosenAt root cases r env (number (take width rest))) (index_chosen root cases width env (number (take width rest)) c))

      tested : rule ≡ Tests → ((i : ℕ) × ChosenAt root cases rule env i) ⊎ NoneChosen root cases rule env → Goal
      tested e (inl c) = go c.0 (with_rule Tests e (λ r. index_width r ≤ length rest) (omega arith)) (with_rule Tests e (λ r. IndexIs root r rest c.0) tt) (with_rule Tests e (λ r. IndexPart root r c.0 at (take (index_width r) rest)) refl) c.1
      tested e (inr n) = failed (with_rule Tests e (λ r. Stuck (IndexFails root here r cases env) at rest) (says here no_alternative, 0, record { none = subst (λ r. NoneChosen root cases r env) e n; says = refl; reaches = refl }))

      by_item : (s : ℕ) → rule ≡ Item s → ((i : ℕ) × ChosenAt root cases rule env i) ⊎ NoneChosen root cases rule env → Goal
      by_item s e (inl c) = go c.0 (with_rule (Item s) e (λ r. index_width r ≤ length rest) (omega arith)) (with_rule (Item s) e (λ r. IndexIs root r rest c.0) tt) (with_rule (Item s) e (λ r. IndexPart root r c.0 at (take (index_width r) rest)) refl) c.1
      by_item s e (inr n) = failed (with_rule (Item s) e (λ r. Stuck (IndexFails root here r cases env) at rest) (says here no_alternative, 0, record { none = subst (λ r. NoneChosen root cases r env) e n; says = refl; reaches = refl }))

      by : (r : ChoiceRule) → rule ≡ r → Goal
      by (Index width) e = indexed width e (less_or_not (length rest) width) (less_or_not (number (take width rest)) (count_of cases))
      by Tests e = tested e (choose root cases rule env)
      by (Item s) e = by_item s e (choose root cases rule env)

  -- Fields.

  record FieldsOutcome (keys : Known) (o : ℕ → Bool) (env : Env) (fs : Fields) (flags : List Bool) (here : Here) (origin k at : ℕ) (rest : List Bool) : Type 0 where
    moved : Moved root keys o env
    result : ((ps : Places) × (presence_bits fs ps ≡ flags) × FrontOf (FieldsPart root Any fs moved.now ps) at rest) ⊎ Stuck (FieldsFail root fs moved.now flags here origin k) at rest

  seq_done : (keys : Known) (fields : Fields) (home : List ℕ) (n : Numbers root home) (env : Env) → Good root keys env → ((s : ℕ) → holds home s ≡ true → keys s ≡ false) → (here : Here) (origin at : ℕ) (rest : List Bool)
      → (presence_count fields ≤ length rest → FieldsOutcome (λ s. holds home s || keys s) (fields_opens fields) (with_home home n.numbers env) fields (take (presence_count fields) rest) here origin 0 (at + presence_count fields) (drop (presence_count fields) rest))
      → Outcome keys (form_opens (seq fields home)) env (λ e. FormPart root Any (seq fields home) e) (λ e. FormFails root (seq fields home) e here origin) at rest
  seq_done keys fields home n env good apart here origin at rest inside = by (less_or_not (length rest) (presence_count fields))
    where
      ended : (ys : List ℤ) (now : Env) → presence_count fields ≤ length rest → length ys ≡ length home → AllByRecursion (λ e. In (domain_of root e.0) e.1) (zip home ys)
          → ((ps : Places) × (presence_bits fields ps ≡ take (presence_count fields) rest) × FrontOf (FieldsPart root Any fields (with_home home ys now) ps) (at + presence_count fields) (drop (presence_count fields) rest)) ⊎ Stuck (FieldsFail root fields (with_home home ys now) (take (presence_count fields) rest) here origin 0) (at + presence_count fields) (drop (presence_count fields) rest)
          → ((d : Data) × FrontOf (FormPart root Any (seq fields home) now d) at rest) ⊎ Stuck (FormFails root (seq fields home) now here origin) at rest
      ended ys now h count permitted (inl (ps, flags, f)) =
          let l = length-take-le (presence_count fields) rest h in
          inl (
            record_of ps,
            record {
              front = take (presence_count fields) rest ++ f.front;
              back = f.back;
              whole = sym (take-append-drop (presence_count fields) rest) ∙ (ap (λ z. take (presence_count fields) rest ++ z) f.whole ∙ sym (append_assoc (take (presence_count fields) rest) f.front f.back));
              spelled = record {
                numbers = ys;
                fine = record { count = count; permitted = permitted; least = λ e. cc };
                spelled = record {
                  front = take (presence_count fields) rest;
                  back = f.front;
                  whole = refl;
                  first = sym flags;
                  second = subst (λ (m : ℕ). FieldsPart root Any fields (with_home home ys now) ps (at + m) f.front) (sym l) f.spelled;
                };
              };
            },
          )
      ended ys now h count permitted (inr x) = inr (x.0, presence_count fields + x.1, fails_behind_presence (record { numbers = ys; count = count; permitted = permitted; behind = record { there = h; more = x.1; fails = x.2; reaches = refl } }))

      by : (length rest < presence_count fields) ⊎ (presence_count fields ≤ length rest) → Outcome keys (form_opens (seq fields home)) env (λ e. FormPart root Any (seq fields home) e) (λ e. FormFails root (seq fields home) e here origin) at rest
      by (inl h) = record { moved = unmoved root keys (form_opens (seq fields home)) env good; result = inr (says here short, length rest, presence_cut (h, refl, refl)) }
      by (inr h) =
          let o = inside h in
          let out = outside root keys home n (fields_opens fields) env good apart o.moved in
          record {
            moved = out.moved;
            result = ended out.numbers out.moved.now h out.count out.permitted
                (subst (λ (z : Env). ((ps : Places) × (presence_bits fields ps ≡ take (presence_count fields) rest) × FrontOf (FieldsPart root Any fields z ps) (at + presence_count fields) (drop (presence_count fields) rest)) ⊎ Stuck (FieldsFail root fields z (take (presence_count fields) rest) here origin 0) (at + presence_count fields) (drop (presence_count fields) rest)) out.whole o.result);
          }

  -- the number of a component's slot moves to its value's
  record OwnMoved (keys : Known) (own : Option ℕ) (env : Env) (d : Data) : Type 0 where
    moved : Moved root keys (is_own own) env
    carries : Carries moved.now own d

  own_total : (keys : Known) (own : Option ℕ) (g : Grammar) → OwnLaid root keys own g → (env : Env) → Good root keys env → (d : Data) (at : ℕ) (bs : List Bool) → Spell root Any g env d at bs → OwnMoved keys own env d
  own_total keys None g laid env good d at bs t = record { moved = unmoved root keys (is_own None) env good; carries = tt }
  own_total keys (Some s) (node align (num leaf)) laid env good d at bs t =
      let c = t.second in
      let m = move_to root keys s c.0 env good laid.0 (laid.1 c.0 c.2.permitted) in
      record { moved = m.moved; carries = m.is ∙ ap Some (sym (number_is leaf.kind d c.0 c.1)) }
  own_total keys (Some s) (node align _) laid env good d at bs t = absurd laid

  abbrev component_known : Known → Presence → Option ℕ → Grammar → Known
  component_known ks presence own g = choose_known presence ks (with_own own (after ks g))

  -- what is known behind a component are keys, and no field behind it has them
  known_keys : (presence : Presence) (own : Option ℕ) (g : Grammar) (ks keys : Known) → Laid root keys g → OwnLaid root keys own g → ((s : ℕ) → ks s ≡ true → keys s ≡ true) → (s : ℕ) → component_known ks presence own g s ≡ true → keys s ≡ true
  known_keys presence own g ks keys laid owned within s h = by (chosen_within root presence own g ks s (after_within root g ks s) h)
    where
      by : (ks s ≡ true) ⊎ ((is_own own s || opens g s) ≡ true) → keys s ≡ true
      by (inl k) = within s k
      by (inr k) = either_key (is_own own s) (opens g s) false (keys s) (join (is_own own s) (opens g s) k) (own_key keys own g s owned) (opens_key g keys laid s) (λ e. cc)
        where
          join : (a b : Bool) → (a || b) ≡ true → (a || (b || false)) ≡ true
          join true b h = refl
          join false true h = refl
          join false false h = cc

  known_apart : (presence : Presence) (own : Option ℕ) (g : Grammar) (fs : Fields) (ks : Known) → Others root (is_own own) (fields_opens fs) → Others root (opens g) (fields_opens fs) → ((s : ℕ) → ks s ≡ true → (is_own own s || (opens g s || fields_opens fs s)) ≡ false) → (s : ℕ) → component_known ks presence own g s ≡ true → fields_opens fs s ≡ false
  known_apart presence own g fs ks a b apart s h = by (chosen_within root presence own g ks s (after_within root g ks s) h)
    where
      by : (ks s ≡ true) ⊎ ((is_own own s || opens g s) ≡ true) → fields_opens fs s ≡ false
      by (inl k) = (or_parts (opens g s) (fields_opens fs s) (or_parts (is_own own s) (opens g s || fields_opens fs s) (apart s k)).1).1
      by (inr k) = more (or_either (is_own own s) (opens g s) k)
        where
          more : (is_own own s ≡ true) ⊎ (opens g s ≡ true) → fields_opens fs s ≡ false
          more (inl e) = a s e
          more (inr e) = b s e

  agree_on : (p o : ℕ → Bool) (env env' : Env) → ((s : ℕ) → o s ≡ false → at_slot env s ≡ at_slot env' s) → ((s : ℕ) → p s ≡ true → o s ≡ false) → Agree p env env'
  agree_on p o env env' m h s k = m s (h s k)

  module _ (name : List ℕ) (g : Grammar) (presence : Presence) (default : Option (List ℕ)) (own : Option ℕ) (fs : Fields) (keys ks : Known) (laid : FieldsLaid root keys (component name g presence default own fs)) (fine : FieldsScoped root ks (component name g presence default own fs))
      (apart : (s : ℕ) → ks s ≡ true → fields_opens (component name g presence default own fs) s ≡ false) (env : Env) (good : Good root keys env) (flags : List Bool) (long : length flags ≡ presence_count (component name g presence default own fs)) (here : Here) (origin k at : ℕ) (rest : List Bool) where
    abbrev Whole : Type 0
    Whole = FieldsOutcome keys (fields_opens (component name g presence default own fs)) env (component name g presence default own fs) flags here origin k at rest

    abbrev Rest : Env → ℕ → List Bool → Type 0
    Rest now at' back = FieldsOutcome keys (fields_opens fs) now fs (flags_behind presence flags) here origin (suc k) at' back

    apart_own : (s : ℕ) → ks s ≡ true → is_own own s ≡ false
    apart_own s h = (or_parts (is_own own s) (opens g s || fields_opens fs s) (apart s h)).0

    apart_node : (s : ℕ) → ks s ≡ true → opens g s ≡ false
    apart_node s h = (or_parts (opens g s) (fields_opens fs s) (or_parts (is_own own s) (opens g s || fields_opens fs s) (apart s h)).1).0

    apart_fields : (s : ℕ) → ks s ≡ true → fields_opens fs s ≡ false
    apart_fields s h = (or_parts (opens g s) (fields_opens fs s) (or_parts (is_own own s) (opens g s || fields_opens fs s) (apart s h)).1).1

    each_part : (s : ℕ) → fields_opens (component name g presence default own fs) s ≡ false → (is_own own s ≡ false) × (opens g s ≡ false) × (fields_opens fs s ≡ false)
    each_part s h = (let a = or_parts (is_own own s) (opens g s || fields_opens fs s) h in let b = or_parts (opens g s) (fields_opens fs s) a.1 in (a.0, b.0, b.1))

    -- the component is away
    away_done : (IsThere env presence flags → ⊥) → Rest env at rest → Whole
    away_done h o = record { moved = moved_as root keys (fields_opens fs) (fields_opens (component name g presence default own fs)) env o.moved (λ s e. (each_part s e).2); result = by o.moved o.result }
      where
        no_more : (q : Moved root keys (fields_opens fs) env) → IsThere q.now presence flags → ⊥
        no_more q t = h (is_there_moves root presence flags ks fine.0 q.now env (λ s e. sym (q.rest s (apart_fields s e))) t)

        by : (q : Moved root keys (fields_opens fs) env) → ((ps : Places) × (presence_bits fs ps ≡ flags_behind presence flags) × FrontOf (FieldsPart root Any fs q.now ps) at rest) ⊎ Stuck (FieldsFail root fs q.now (flags_behind presence flags) here origin (suc k)) at rest
            → ((ps : Places) × (presence_bits (component name g presence default own fs) ps ≡ flags) × FrontOf (FieldsPart root Any (component name g presence default own fs) q.now ps) at rest) ⊎ Stuck (FieldsFail root (component name g presence default own fs) q.now flags here origin k) at rest
        by q (inl (ps, e, f)) =
            inl (empty ps, flags_away presence q.now flags (presence_bits fs ps) (flags_left presence name g default own fs flags long).0 (no_more q) e, record { front = f.front; back = f.back; whole = f.whole; spelled = record { given = may_be_away q.now presence flags (no_more q); spelled = f.spelled } })
        by q (inr x) = inr (x.0, x.1, fails_behind_absent (no_more q, x.2))

    -- it is there
    there_done : IsThere env presence flags → (m : Moved root keys (opens g) env) → ((d : Data) × FrontOf (Spell root Any g m.now d) at rest) ⊎ Stuck (Fails root g m.now here.inside origin (here.path ++ k ∷ [])) at rest
        → ((now : Env) → Good root keys now → (at' : ℕ) (back : List Bool) → Rest now at' back) → Whole
    there_done h m (inr x) more = record {
      moved = moved_as root keys (opens g) (fields_opens (component name g presence default own fs)) env m (λ s e. (each_part s e).1);
      result = inr (x.0, x.1, fails_at_component (is_there_moves root presence flags ks fine.0 env m.now (λ s e. m.rest s (apart_node s e)) h, x.2));
    }
    there_done h m (inl (d, f)) more =
        let w = own_total keys own g laid.1 m.now m.good d at f.front f.spelled in
        let o = more w.moved.now w.moved.good (at + length f.front) f.back in
        record {
          moved = moved_more root keys (opens g) (λ s. is_own own s || fields_opens fs s) (fields_opens (component name g presence default own fs)) env m
              (moved_more root keys (is_own own) (fields_opens fs) (λ s. is_own own s || fields_opens fs s) m.now w.moved o.moved (λ s e. or_parts (is_own own s) (fields_opens fs s) e))
              (λ s e. (let p = each_part s e in (p.1, both_false (is_own own s) (fields_opens fs s) p.0 p.2)));
          result = by w.moved w.carries o.moved o.result;
        }
      where
        both_false : (a b : Bool) → a ≡ false → b ≡ false → (a || b) ≡ false
        both_false true b h g = cc
        both_false false b h g = g

        by : (v : Moved root keys (is_own own) m.now) → Carries v.now own d → (q : Moved root keys (fields_opens fs) v.now)
            → ((ps : Places) × (presence_bits fs ps ≡ flags_behind presence flags) × FrontOf (FieldsPart root Any fs q.now ps) (at + length f.front) f.back) ⊎ Stuck (FieldsFail root fs q.now (flags_behind presence flags) here origin (suc k)) (at + length f.front) f.back
            → ((ps : Places) × (presence_bits (component name g presence default own fs) ps ≡ flags) × FrontOf (FieldsPart root Any (component name g presence default own fs) q.now ps) at rest) ⊎ Stuck (FieldsFail root (component name g presence default own fs) q.now flags here origin k) at rest
        by v c q r = last r
          where
            known : Agree ks env q.now
            known s e = m.rest s (apart_node s e) ∙ (v.rest s (apart_own s e) ∙ q.rest s (apart_fields s e))

            there : IsThere q.now presence flags
            there = is_there_moves root presence flags ks fine.0 env q.now known h

            carried : Carries q.now own d
            carried = own_moves root own v.now q.now d (λ s e. q.rest s (laid.2 s e)) c

            spelled : Spell root Any g q.now d at f.front
            spelled = spell_moves root g keys ks laid.0 fine.1 m.now q.now (λ s e. v.rest s (apart_own s e) ∙ q.rest s (apart_fields s e)) (λ s e. v.rest s (own_apart keys own g s laid.1 e) ∙ q.rest s (laid.3 s e)) d at f.front f.spelled

            last : ((ps : Places) × (presence_bits fs ps ≡ flags_behind presence flags) × FrontOf (FieldsPart root Any fs q.now ps) (at + length f.front) f.back) ⊎ Stuck (FieldsFail root fs q.now (flags_behind presence flags) here origin (suc k)) (at + length f.front) f.back
                → ((ps : Places) × (presence_bits (component name g presence default own fs) ps ≡ flags) × FrontOf (FieldsPart root Any (component name g presence default own fs) q.now ps) at rest) ⊎ Stuck (FieldsFail root (component name g presence default own fs) q.now flags here origin k) at rest
            last (inl (ps, e, u)) =
                inl (filled d ps, flags_there presence q.now flags (presence_bits fs ps) there e, join_front at rest f.front f.back f.whole (record { given = (may_be_there q.now presence flags there, carried); spelled = spelled }) u)
            last (inr x) =
                let b = join_stuck {P = Where (Carries q.now own d) (Spell root Any g q.now d)} at rest f.front f.back f.whole (record { given = carried; spelled = spelled }) x in
                inr (b.0, b.1, fails_behind_component (there, (d, b.2)))

    component_done : IsThere env presence flags ⊎ (IsThere env presence flags → ⊥) → (m : Moved root keys (opens g) env) → ((d : Data) × FrontOf (Spell root Any g m.now d) at rest) ⊎ Stuck (Fails root g m.now here.inside origin (here.path ++ k ∷ [])) at rest
        → ((now : Env) → Good root keys now → (at' : ℕ) (back : List Bool) → Rest now at' back) → Whole
    component_done (inl h) m r more = there_done h m r more
    component_done (inr h) m r more = away_done h (more env good at rest)

  module _ (name : List ℕ) (align : ℕ) (leaf : NumLeaf) (fs : Fields) (keys : Known) (env : Env) (flags : List Bool) (here : Here) (origin k at : ℕ) (rest : List Bool) where
    abbrev Field_ : Grammar
    Field_ = node align (num leaf)

    -- an inserted field with a slot, to whose number the slot moves
    slot_done : (s : ℕ) → FieldsLaid root keys (inserted name (node align (num leaf)) (Some s) fs) → (m : Moved root keys none env) → ((d : Data) × FrontOf (Spell root Any (node align (num leaf)) m.now d) at rest) ⊎ Stuck (Fails root (node align (num leaf)) m.now here.inside origin (here.path ++ k ∷ [])) at rest
        → ((now : Env) → Good root keys now → (at' : ℕ) (back : List Bool) → FieldsOutcome keys (fields_opens fs) now fs flags here origin (suc k) at' back)
        → FieldsOutcome keys (fields_opens (inserted name (node align (num leaf)) (Some s) fs)) env (inserted name (node align (num leaf)) (Some s) fs) flags here origin k at rest
    slot_done s laid m (inr x) more = record { moved = moved_as root keys none (fields_opens (inserted name (node align (num leaf)) (Some s) fs)) env m (λ t e. refl); result = inr (x.0, x.1, fails_at_inserted x.2) }
    slot_done s laid m (inl (d, f)) more =
        let c = f.spelled.second in
        let w = move_to root keys s c.0 m.now m.good laid.0.0 (laid.0.1 c.0 c.2.permitted) in
        let o = more w.moved.now w.moved.good (at + length f.front) f.back in
        record {
          moved = moved_more root keys none (λ t. nat_eq s t || fields_opens fs t) (fields_opens (inserted name (node align (num leaf)) (Some s) fs)) env m
              (moved_more root keys (nat_eq s) (fields_opens fs) (λ t. nat_eq s t || fields_opens fs t) m.now w.moved o.moved (λ t e. or_parts (nat_eq s t) (fields_opens fs t) e)) (λ t e. (refl, e));
          result = by w.moved w.is o.moved o.result;
        }
      where
        by : (v : Moved root keys (nat_eq s) m.now) → at_slot v.now s ≡ Some f.spelled.second.0 → (q : Moved root keys (fields_opens fs) v.now)
            → ((ps : Places) × (presence_bits fs ps ≡ flags) × FrontOf (FieldsPart root Any fs q.now ps) (at + length f.front) f.back) ⊎ Stuck (FieldsFail root fs q.now flags here origin (suc k)) (at + length f.front) f.back
            → ((ps : Places) × (presence_bits fs ps ≡ flags) × FrontOf (FieldsPart root Any (inserted name (node align (num leaf)) (Some s) fs) q.now ps) at rest) ⊎ Stuck (FieldsFail root (inserted name (node align (num leaf)) (Some s) fs) q.now flags here origin k) at rest
        by v is q r = last r
          where
            spelled : SlotField root Any (node align (num leaf)) q.now s at f.front
            spelled =
                let t = f.spelled in
                (t.second.0, sym (q.rest s (laid.1 s (self_eq s))) ∙ is, record { front = t.front; back = t.back; whole = t.whole; first = t.first; second = t.second.2 })

            last : ((ps : Places) × (presence_bits fs ps ≡ flags) × FrontOf (FieldsPart root Any fs q.now ps) (at + length f.front) f.back) ⊎ Stuck (FieldsFail root fs q.now flags here origin (suc k)) (at + length f.front) f.back
                → ((ps : Places) × (presence_bits fs ps ≡ flags) × FrontOf (FieldsPart root Any (inserted name (node align (num leaf)) (Some s) fs) q.now ps) at rest) ⊎ Stuck (FieldsFail root (inserted name (node align (num leaf)) (Some s) fs) q.now flags here origin k) at rest
            last (inl (ps, e, u)) = inl (ps, e, join_front at rest f.front f.back f.whole spelled u)
            last (inr x) = (let b = join_stuck {P = SlotField root Any (node align (num leaf)) q.now s} at rest f.front f.back f.whole spelled x in inr (b.0, b.1, fails_behind_inserted b.2))

    -- one that is always the same
    null_done : leaf.kind ≡ Null → (m : Moved root keys none env) → ((d : Data) × FrontOf (Spell root Any (node align (num leaf)) m.now d) at rest) ⊎ Stuck (Fails root (node align (num leaf)) m.now here.inside origin (here.path ++ k ∷ [])) at rest
        → ((now : Env) → Good root keys now → (at' : ℕ) (back : List Bool) → FieldsOutcome keys (fields_opens fs) now fs flags here origin (suc k) at' back)
        → FieldsOutcome keys (fields_opens (inserted name (node align (num leaf)) None fs)) env (inserted name (node align (num leaf)) None fs) flags here origin k at rest
    null_done kind m (inr x) more = record { moved = moved_as root keys none (fields_opens (inserted name (node align (num leaf)) None fs)) env m (λ t e. refl); result = inr (x.0, x.1, fails_at_inserted x.2) }
    null_done kind m (inl (d, f)) more =
        let o = more m.now m.good (at + length f.front) f.back in
        record {
          moved = moved_more root keys none (fields_opens fs) (fields_opens (inserted name (node align (num leaf)) None fs)) env m o.moved (λ t e. (refl, e));
          result = by o.moved o.result;
        }
      where
        by : (q : Moved root keys (fields_opens fs) m.now)
            → ((ps : Places) × (presence_bits fs ps ≡ flags) × FrontOf (FieldsPart root Any fs q.now ps) (at + length f.front) f.back) ⊎ Stuck (FieldsFail root fs q.now flags here origin (suc k)) (at + length f.front) f.back
            → ((ps : Places) × (presence_bits fs ps ≡ flags) × FrontOf (FieldsPart root Any (inserted name (node align (num leaf)) None fs) q.now ps) at rest) ⊎ Stuck (FieldsFail root (inserted name (node align (num leaf)) None fs) q.now flags here origin k) at rest
        by q r = last r
          where
            same : d ≡ null
            same = null_is d f.spelled.second.0 (subst (λ (z : NumKind). NumberOf z d f.spelled.second.0) kind f.spelled.second.1)

            spelled : Spell root Any (node align (num leaf)) q.now null at f.front
            spelled = subst (λ (z : Data). Spell root Any (node align (num leaf)) q.now z at f.front) same f.spelled

            last : ((ps : Places) × (presence_bits fs ps ≡ flags) × FrontOf (FieldsPart root Any fs q.now ps) (at + length f.front) f.back) ⊎ Stuck (FieldsFail root fs q.now flags here origin (suc k)) (at + length f.front) f.back
                → ((ps : Places) × (presence_bits fs ps ≡ flags) × FrontOf (FieldsPart root Any (inserted name (node align (num leaf)) None fs) q.now ps) at rest) ⊎ Stuck (FieldsFail root (inserted name (node align (num leaf)) None fs) q.now flags here origin k) at rest
            last (inl (ps, e, u)) = inl (ps, e, join_front at rest f.front f.back f.whole spelled u)
            last (inr x) = (let b = join_stuck {P = Spell root Any (node align (num leaf)) q.now null} at rest f.front f.back f.whole spelled x in inr (b.0, b.1, fails_behind_inserted b.2))

  closed : (keys : Known) (g : Grammar) → Shut g → (env : Env) (P : Env → Data → Part) (F : Env → Failing) (at : ℕ) (rest : List Bool) → Outcome keys (λ s. opens g s) env P F at rest → Outcome keys none env P F at rest
  closed keys g shut env P F at rest o = record { moved = moved_as root keys (λ s. opens g s) none env o.moved (λ s h. shut s); result = o.result }

  case_done : (keys ks : Known) (rule : ChoiceRule) (name : List ℕ) (tests : List Test) → RuleKnown ks rule tests → (g : Grammar) (more : Alternatives) (env : Env) → Chosen root rule env name tests → (here : Here) (origin i at : ℕ) (rest : List Bool)
      → Outcome keys none env (λ e. Spell root Any g e) (λ e. Fails root g e here.inside origin (here.path ++ i ∷ [])) at rest
      → Outcome keys none env (λ e d. AlternativePart root Any (alternative name g tests more) rule e zero d) (λ e at' rest' fault reach. AlternativeFails root (alternative name g tests more) rule e here origin i zero at' rest' fault reach) at rest
  case_done keys ks rule name tests known g more env c here origin i at rest o = record { moved = o.moved; result = by o.moved.now (chosen_moves root rule ks env o.moved.now (λ s h. o.moved.rest s refl) name tests known c) o.result }
    where
      by : (now : Env) → Chosen root rule now name tests → ((d : Data) × FrontOf (Spell root Any g now d) at rest) ⊎ Stuck (Fails root g now here.inside origin (here.path ++ i ∷ [])) at rest
          → ((d : Data) × FrontOf (AlternativePart root Any (alternative name g tests more) rule now zero d) at rest) ⊎ Stuck (AlternativeFails root (alternative name g tests more) rule now here origin i zero) at rest
      by now c' (inl (d, f)) = inl (d, record { front = f.front; back = f.back; whole = f.whole; spelled = record { given = c'; spelled = f.spelled } })
      by now c' (inr x) = inr (x.0, x.1, (c', x.2))

  text_form : (leaf : TextLeaf) (env : Env) (here : Here) (origin at : ℕ) (rest : List Bool) → ((cs : List ℕ) × FrontOf (EndedPart leaf.ended leaf env cs) at rest) ⊎ Stuck (TextFails here leaf.ended leaf env) at rest → ((d : Data) × FrontOf (FormPart root Any (text leaf) env d) at rest) ⊎ Stuck (FormFails root (text leaf) env here origin) at rest
  text_form leaf env here origin at rest (inl t) = inl (characters t.0, record { front = t.1.front; back = t.1.back; whole = t.1.whole; spelled = t.1.spelled })
  text_form leaf env here origin at rest (inr x) = inr x

  and_apart : (a b : Bool) → (a && not b) ≡ false → b ≡ false → a ≡ false
  and_apart true true h e = cc
  and_apart true false h e = cc
  and_apart false b h e = refl

  no_flags : (flags : List Bool) → length flags ≡ 0 → [] ≡ flags
  no_flags [] l = refl
  no_flags (b ∷ flags) l = absurd (omega arith)

  slot_within : (s : ℕ) (ks keys : Known) → keys s ≡ true → ((t : ℕ) → ks t ≡ true → keys t ≡ true) → (t : ℕ) → with_slot s ks t ≡ true → keys t ≡ true
  slot_within s ks keys here within t h = by (or_either (nat_eq s t) (ks t) h)
    where
      by : (nat_eq s t ≡ true) ⊎ (ks t ≡ true) → keys t ≡ true
      by (inl e) = subst (λ (z : ℕ). keys z ≡ true) (eqb-true s t e) here
      by (inr k) = within t k

  slot_apart : (s : ℕ) (ks : Known) (fs : Fields) → Others root (nat_eq s) (fields_opens fs) → ((t : ℕ) → ks t ≡ true → (nat_eq s t || fields_opens fs t) ≡ false) → (t : ℕ) → with_slot s ks t ≡ true → fields_opens fs t ≡ false
  slot_apart s ks fs other apart t h = by (or_either (nat_eq s t) (ks t) h)
    where
      by : (nat_eq s t ≡ true) ⊎ (ks t ≡ true) → fields_opens fs t ≡ false
      by (inl e) = other t e
      by (inr k) = (or_parts (nat_eq s t) (fields_opens fs t) (apart t k)).1

  mutual
    pub node_total : (g : Grammar) (keys ks : Known) → Fine g → Laid root keys g → Scoped root ks g → ((s : ℕ) → ks s ≡ true → keys s ≡ true) → ((s : ℕ) → ks s ≡ true → opens g s ≡ false) → (env : Env) → Good root keys env → (inside : Bool) (origin : ℕ) (path : List ℕ) (at : ℕ) (rest : List Bool)
        → Outcome keys (λ s. opens g s) env (λ e. Spell root Any g e) (λ e. Fails root g e inside origin path) at rest
    node_total (node align form) keys ks fine laid scoped within apart env good inside origin path at rest =
        node_done align at fine.0 form keys env good inside origin path rest
        (form_total form keys ks fine.1 laid scoped within apart env good (record { path = path; place = origin + at; inside = inside }) origin (at + length (take (padding align at) rest)) (drop (padding align at) rest))

    form_total : (form : Form) (keys ks : Known) → FormFine form → FormLaid root keys form → FormScoped root ks form → ((s : ℕ) → ks s ≡ true → keys s ≡ true) → ((s : ℕ) → ks s ≡ true → form_opens form s ≡ false) → (env : Env) → Good root keys env → (here : Here) (origin at : ℕ) (rest : List Bool)
        → Outcome keys (λ s. form_opens form s) env (λ e. FormPart root Any form e) (λ e. FormFails root form e here origin) at rest
    form_total (num leaf) keys ks fine laid scoped within apart env good here origin at rest = record { moved = unmoved root keys (λ s. form_opens (num leaf) s) env good; result = number_total leaf fine env here origin at rest }
    form_total (octets sizing) keys ks fine laid scoped within apart env good here origin at rest = record {
      moved = unmoved root keys (λ s. form_opens (octets sizing) s) env good;
      result = parts_total 8 here sizing env (FormPart root Any (octets sizing) env) at rest (λ n bs l. octets_make root sizing env at n bs l) (size_total root here sizing fine ks keys scoped within env good at rest);
    }
    form_total (bits sizing) keys ks fine laid scoped within apart env good here origin at rest = record {
      moved = unmoved root keys (λ s. form_opens (bits sizing) s) env good;
      result = parts_total 1 here sizing env (FormPart root Any (bits sizing) env) at rest (λ n bs l. bits_make root sizing env at n bs l) (size_total root here sizing fine ks keys scoped within env good at rest);
    }
    form_total (text leaf) keys ks fine laid scoped within apart env good here origin at rest = record {
      moved = unmoved root keys (λ s. form_opens (text leaf) s) env good;
      result = text_form leaf env here origin at rest (text_total root here leaf fine ks keys scoped.0 within env good at rest);
    }
    form_total (seq fields home) keys ks fine laid scoped within apart env good here origin at rest =
        seq_done keys fields home (some_numbers root home laid.1) env good laid.2 here origin at rest (λ h.
        fields_total fields (λ s. holds home s || keys s) ks fine laid.0 scoped.1 (λ s k. or_right (holds home s) (keys s) (within s k)) (λ s k. and_apart (fields_opens fields s) (holds home s) (apart s k) (scoped.0 s k))
        (with_home home (some_numbers root home laid.1).numbers env) (good_home root keys home (some_numbers root home laid.1) env good) (take (presence_count fields) rest) (length-take-le (presence_count fields) rest h) here origin 0 (at + presence_count fields) (drop (presence_count fields) rest))
    form_total (list sizing g) keys ks fine laid scoped within apart env good here origin at rest =
        list_form keys sizing g here origin env at rest (list_done keys ks (ending sizing.rule) here sizing fine.0 scoped.0 within g (λ k e. Fails root g e here.inside origin (here.path ++ k ∷ []))
        (λ env' good' k at' rest'. closed keys g laid.1 env' (λ e. Spell root Any g e) (λ e. Fails root g e here.inside origin (here.path ++ k ∷ [])) at' rest' (node_total g keys ks fine.1 laid.0 scoped.1 within (λ s h. laid.1 s) env' good' here.inside origin (here.path ++ k ∷ []) at' rest'))
        (λ e e' a d at' bs t. spell_moves root g keys ks laid.0 scoped.1 e e' (λ s h. a s) (λ s h. a s) d at' bs t) env good at rest)
    form_total (choice cases rule) keys ks fine laid scoped within apart env good here origin at rest =
        let k = cases_known root ks cases rule scoped in
        choice_done keys cases rule env good here origin at rest (λ i c. case_total cases rule keys ks fine laid k.0 k.1 within env good i i c here origin (at + index_width rule) (drop (index_width rule) rest))
    form_total (contained sizing g) keys ks fine laid scoped within apart env good here origin at rest =
        contained_done keys ks here origin sizing fine.0 scoped.0 within g env good at rest (λ place window.
        closed keys g laid.1 env (λ e. Spell root Any g e) (λ e. Fails root g e true (origin + place) (here.path ++ 0 ∷ [])) 0 window (node_total g keys ks fine.1 laid.0 scoped.1 within (λ s h. laid.1 s) env good true (origin + place) (here.path ++ 0 ∷ []) 0 window))

    case_total : (cases : Alternatives) (rule : ChoiceRule) (keys ks : Known) → AlternativesFine cases → CasesLaid root keys cases → CasesKnown root ks rule cases → AlternativesScoped root ks cases → ((s : ℕ) → ks s ≡ true → keys s ≡ true) → (env : Env) → Good root keys env → (i j : ℕ) → ChosenAt root cases rule env j → (here : Here) (origin at : ℕ) (rest : List Bool)
        → Outcome keys none env (λ e d. AlternativePart root Any cases rule e j d) (λ e at' rest' fault reach. AlternativeFails root cases rule e here origin i j at' rest' fault reach) at rest
    case_total no_alternatives rule keys ks fine laid known scoped within env good i j c here origin at rest = absurd c
    case_total (alternative name g tests more) rule keys ks fine laid known scoped within env good i zero c here origin at rest =
        case_done keys ks rule name tests known.0 g more env c here origin i at rest
        (closed keys g laid.1 env (λ e. Spell root Any g e) (λ e. Fails root g e here.inside origin (here.path ++ i ∷ [])) at rest (node_total g keys ks fine.0 laid.0 scoped.0 within (λ s h. laid.1 s) env good here.inside origin (here.path ++ i ∷ []) at rest))
    case_total (alternative name g tests more) rule keys ks fine laid known scoped within env good i (suc j) c here origin at rest =
        let o = case_total more rule keys ks fine.1 laid.2 known.1 scoped.1 within env good i j c here origin at rest in
        record { moved = o.moved; result = o.result }

    fields_total : (fs : Fields) (keys ks : Known) → FieldsFine fs → FieldsLaid root keys fs → FieldsScoped root ks fs → ((s : ℕ) → ks s ≡ true → keys s ≡ true) → ((s : ℕ) → ks s ≡ true → fields_opens fs s ≡ false) → (env : Env) → Good root keys env → (flags : List Bool) → length flags ≡ presence_count fs → (here : Here) (origin k at : ℕ) (rest : List Bool)
        → FieldsOutcome keys (fields_opens fs) env fs flags here origin k at rest
    fields_total no_fields keys ks fine laid scoped within apart env good flags long here origin k at rest = record { moved = unmoved root keys (fields_opens no_fields) env good; result = inl (no_places, no_flags flags long, record { front = []; back = rest; whole = refl; spelled = refl }) }
    fields_total (component name g presence default own fs) keys ks fine laid scoped within apart env good flags long here origin k at rest =
        let o = node_total g keys ks fine.0 laid.0 scoped.1 within (λ s h. (or_parts (opens g s) (fields_opens fs s) (or_parts (is_own own s) (opens g s || fields_opens fs s) (apart s h)).1).0) env good here.inside origin (here.path ++ k ∷ []) at rest in
        component_done name g presence default own fs keys ks laid scoped apart env good flags long here origin k at rest (there_or_not env presence flags) o.moved o.result (λ now good' at' back.
        fields_total fs keys (component_known ks presence own g) fine.1 laid.4 scoped.2 (known_keys presence own g ks keys laid.0 laid.1 within) (known_apart presence own g fs ks laid.2 laid.3 apart) now good' (flags_behind presence flags) (flags_left presence name g default own fs flags long).1 here origin (suc k) at' back)
    fields_total (inserted name (node align (num leaf)) (Some s) fs) keys ks fine laid scoped within apart env good flags long here origin k at rest =
        let o = node_total (node align (num leaf)) keys ks fine.0 tt scoped.0 within (λ t h. refl) env good here.inside origin (here.path ++ k ∷ []) at rest in
        slot_done name align leaf fs keys env flags here origin k at rest s laid o.moved o.result (λ now good' at' back.
        fields_total fs keys (with_slot s ks) fine.1 laid.2 scoped.1 (slot_within s ks keys laid.0.0 within) (slot_apart s ks fs laid.1 apart) now good' flags long here origin (suc k) at' back)
    fields_total (inserted name (node align (num leaf)) None fs) keys ks fine laid scoped within apart env good flags long here origin k at rest =
        let o = node_total (node align (num leaf)) keys ks fine.0 tt scoped.0 within (λ t h. refl) env good here.inside origin (here.path ++ k ∷ []) at rest in
        null_done name align leaf fs keys env flags here origin k at rest laid.2 o.moved o.result (λ now good' at' back.
        fields_total fs keys ks fine.1 laid.3 scoped.1 within apart now good' flags long here origin (suc k) at' back)
    fields_total (inserted name (node align _) (Some s) fs) keys ks fine laid scoped within apart env good flags long here origin k at rest = absurd laid.0
    fields_total (inserted name (node align _) None fs) keys ks fine laid scoped within apart env good flags long here origin k at rest = absurd laid.2
