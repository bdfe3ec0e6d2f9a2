-- How a best value is made, by its form.
use Rattle.std.proofs.Common.{◌≡◌, ℕ, zero, suc, ◌+◌, ◌*◌, ℤ, Bool, true, false, ◌&&◌, List, length, Option, Some, None, refl, sym, ap, ◌∙◌, arith, inl, inr, ◌⊎◌, subst}
use Rattle.std.proofs.lemmas.Bool.{and_parts}
use Rattle.std.specs.Prelude.{if◌then◌else◌, replicate}
use Rattle.acn_num.specs.Bits.{octets as octets_for}
use Rattle.acn_grammar.specs.Grammar.{Grammar, Form, Fields, Alternatives, Data, Places, Elements, node, num, octets, bits, text, seq, list, choice, contained, no_fields, component, inserted, no_alternatives, alternative, octet_string, bit_string, characters, record_of, list_of, alt, no_places, empty, filled, no_elements, element, element_count}
use Rattle.acn_grammar.specs.Images.{ends}
use Rattle.acn_grammar.specs.Leaves.{list_rule_fine, rule_fine, sizes_fine}
use Rattle.acn_grammar.specs.Length.{padding, num_length, rule_width, index_width, ending}
use Rattle.acn_grammar.specs.Scoped.{Known, with_slot, with_own, after, choose_known}
use Rattle.acn_grammar.specs.Sound.{Sound, FormSound, FieldsSound, AlternativesSound}
use Rattle.acn_grammar.specs.declared.node.ChoiceRule.{ChoiceRule}
use Rattle.acn_grammar.specs.declared.node.Sizing.{Sizing}
use Rattle.acn_grammar.specs.declared.node.SizeRule.{SizeRule}
use Rattle.acn_grammar.specs.declared.node.Test.{Test}
use Rattle.acn_grammar.proofs.TextRules.{text_rules}
use Rattle.acn_extreme_laws.specs.Best.{Way, behind, end_of, size_by, side_by, parts_way, character_of, better, put, put_way, where_way, there_way, alternative_way, with_place, past, record_way, element_way, with_element, is_enough, adds_nothing, run_way, or_none, run_by_ends, list_way, elements_way, octets_way, number_data, best, form_best, fields_best, cases_best}
use Rattle.acn_extreme_laws.specs.Codes.{ahead, number_at}
use Rattle.acn_extreme_laws.specs.Reach.{natural, text_around, presence_count, sizes_can, can_be_there, can_be_away, can_be_chosen}
use Rattle.acn_extreme_laws.specs.declared.side.Side.{Side}
use Rattle.acn_extreme_laws.proofs.Sizes.{IsSize, chosen_size, enough_size, least_size}
use Rattle.acn_extreme_laws.proofs.Tuples.{first_two, first_five, second_three, third_four, fourth_five, last_two, last_three, last_four, last_five}

-- elements one behind another
abbrev pub RunBest : (ℕ → Data → ℕ → Type 0) → ℕ → Elements → ℕ → Type 0
RunBest each at no_elements end = at ≡ end
RunBest each at (element d es) end = (e : ℕ) × each at d e × RunBest each e es end

abbrev pub ListBest : Option (List Bool) → SizeRule → (ℕ → Data → ℕ → Type 0) → ℕ → Elements → ℕ → Type 0
ListBest None rule each at es end = (e : ℕ) × RunBest each (behind at (rule_width rule)) es e × (end ≡ behind e 0)
ListBest (Some p) rule each at es end = (e : ℕ) × RunBest each at es e × (end ≡ behind e (length p))

module _ (root : Grammar) (side : Side) where
  -- the best value of the node that begins at a place, and the place behind it
  abbrev mutual
    pub IsBest : Grammar → ℕ → Data → ℕ → Type 0
    IsBest (node align form) at d end = FormBest form (behind at (padding align at)) d end

    pub FormBest : Form → ℕ → Data → ℕ → Type 0
    FormBest (num leaf) at d end = (d ≡ number_data leaf.kind (number_at side leaf)) × (end ≡ behind at (num_length leaf (number_at side leaf)))
    FormBest (octets sizing) at (octet_string os) end = (n : ℕ) × IsSize root sizing n × (os ≡ replicate n 0) × (end ≡ behind (behind at (rule_width sizing.rule)) (8 * n))
    FormBest (bits sizing) at (bit_string bs) end = (n : ℕ) × IsSize root sizing n × (bs ≡ replicate n false) × (end ≡ behind (behind at (rule_width sizing.rule)) (1 * n))
    FormBest (text leaf) at (characters cs) end = (n : ℕ) × IsSize root leaf.sized n × (cs ≡ replicate n (character_of leaf)) × (end ≡ behind (behind at (text_around leaf.ended leaf)) (leaf.width * n))
    FormBest (seq fields home) at (record_of ps) end = FieldsBest fields (behind at (presence_count fields)) ps end
    FormBest (list sizing g) at (list_of es) end = IsSize root sizing (element_count es) × ListBest (ending sizing.rule) sizing.rule (IsBest g) at es end
    FormBest (choice cases rule) at (alt i d) end = CaseBest rule cases i (behind at (index_width rule)) d end
    FormBest (contained sizing g) at d end = (e : ℕ) × IsBest g 0 d e × (end ≡ behind at (rule_width sizing.rule + 8 * octets_for e))
    FormBest _ at d end = ⊥

    pub FieldsBest : Fields → ℕ → Places → ℕ → Type 0
    FieldsBest no_fields at no_places end = at ≡ end
    FieldsBest (component name g presence default own fs) at (filled d ps) end = (can_be_there root presence ≡ true) × (e : ℕ) × IsBest g at d e × FieldsBest fs e ps end
    FieldsBest (component name g presence default own fs) at (empty ps) end = (can_be_away root presence ≡ true) × FieldsBest fs at ps end
    FieldsBest (inserted name g slot fs) at ps end = (d : Data) × (e : ℕ) × IsBest g at d e × FieldsBest fs e ps end
    FieldsBest _ at ps end = ⊥

    pub CaseBest : ChoiceRule → Alternatives → ℕ → ℕ → Data → ℕ → Type 0
    CaseBest rule (alternative name g tests more) zero at d end = (can_be_chosen root rule name tests ≡ true) × IsBest g at d end
    CaseBest rule (alternative name g tests more) (suc i) at d end = CaseBest rule more i at d end
    CaseBest rule no_alternatives i at d end = ⊥

some_is : {A : Type 0} (x y : A) → Some x ≡ Some y → x ≡ y
some_is x y e = cc

nothing : {A F : Type 0} (w : A) → None ≡ Some w → F
nothing {A} {F} w q = absurd (none q)
  where
    none : None ≡ Some w → ⊥
    none q = cc

-- Strings.

record Parts (root : Grammar) (side : Side) (sizing : Sizing) (unit at : ℕ) (value : ℕ → Data) (w : Way Data) : Type 0 where
  size : ℕ
  fits_it : IsSize root sizing size
  is : w ≡ (behind at (unit * size), value size)

parts_made : (root : Grammar) (side : Side) (sizing : Sizing) → sizes_fine sizing.sizes ≡ true → (unit at : ℕ) (value : ℕ → Data) (w : Way Data) → parts_way unit value at (size_by side (ends (sizes_can root sizing))) ≡ Some w → Parts root side sizing unit at value w
parts_made root side sizing fine unit at value w q = by (ends (sizes_can root sizing)) refl q
  where
    by : (o : Option (ℤ × ℤ)) → ends (sizes_can root sizing) ≡ o → parts_way unit value at (size_by side o) ≡ Some w → Parts root side sizing unit at value w
    by None e k = nothing w k
    by (Some t) e k = record { size = natural (end_of side t); fits_it = chosen_size root side sizing t fine e; is = sym (some_is (behind at (unit * natural (end_of side t)), value (natural (end_of side t))) w k) }

-- Elements.

run_made : (enough : ℕ → Bool) (each : ℕ → Option (Way Data)) (made : ℕ → Data → ℕ → Type 0) → ((at : ℕ) (w : Way Data) → each at ≡ Some w → made at w.1 w.0) → (size : ℕ → Type 0) → ((k : ℕ) → enough k ≡ true → size k)
    → (n k at : ℕ) (w : Way Elements) → size (k + n) → run_way enough each n k at ≡ Some w → size (k + element_count w.1) × RunBest made at w.1 w.0
run_made enough each made h size may zero k at w full q = subst (λ (v : Way Elements). size (k + element_count v.1) × RunBest made at v.1 v.0) (some_is (at, no_elements) w q) (full, refl)
run_made enough each made h size may (suc n) k at w full q = by (adds_nothing (each at) at && enough k) refl q (λ m u p. run_made enough each made h size may n (suc k) m u (subst size (sym (one_more k n)) full) p)
  where
    none_yet : (k : ℕ) → k ≡ k + 0
    none_yet k = omega arith

    one_more : (k n : ℕ) → suc k + n ≡ k + suc n
    one_more k n = omega arith

    next : (o : Option (Way Data)) → each at ≡ o → with_element o (run_way enough each n (suc k)) ≡ Some w → ((m : ℕ) (u : Way Elements) → run_way enough each n (suc k) m ≡ Some u → size (suc k + element_count u.1) × RunBest made m u.1 u.0) → size (k + element_count w.1) × RunBest made at w.1 w.0
    next None e l again = nothing w l
    next (Some v) e l again = rest (run_way enough each n (suc k) v.0) refl l
      where
        rest : (o : Option (Way Elements)) → run_way enough each n (suc k) v.0 ≡ o → element_way v.1 o ≡ Some w → size (k + element_count w.1) × RunBest made at w.1 w.0
        rest None p l = nothing w l
        rest (Some u) p l =
            let more = again v.0 u p in
            subst (λ (z : Way Elements). size (k + element_count z.1) × RunBest made at z.1 z.0) (some_is (u.0, element v.1 u.1) w l) (subst size (one_more k (element_count u.1)) more.0, (v.0, h at v e, more.1))

    by : (b : Bool) → (adds_nothing (each at) at && enough k) ≡ b → (if b then Some (at, no_elements) else with_element (each at) (run_way enough each n (suc k))) ≡ Some w
        → ((m : ℕ) (u : Way Elements) → run_way enough each n (suc k) m ≡ Some u → size (suc k + element_count u.1) × RunBest made m u.1 u.0) → size (k + element_count w.1) × RunBest made at w.1 w.0
    by true e l again =
        subst (λ (z : Way Elements). size (k + element_count z.1) × RunBest made at z.1 z.0) (some_is (at, no_elements) w l) (subst size (none_yet k) (may k (and_parts (adds_nothing (each at) at) (enough k) e).1), refl)
    by false e l again = next (each at) refl l again

abbrev Counted : (ℕ → Data → ℕ → Type 0) → (ℕ → Type 0) → ℕ → Way Elements → Type 0
Counted made size at w = size (element_count w.1) × RunBest made at w.1 w.0

ends_made : (root : Grammar) (side : Side) (sizing : Sizing) → sizes_fine sizing.sizes ≡ true → (each : ℕ → Option (Way Data)) (made : ℕ → Data → ℕ → Type 0) → ((at : ℕ) (w : Way Data) → each at ≡ Some w → made at w.1 w.0)
    → (at : ℕ) (w : Way Elements) → run_by_ends side (sizes_can root sizing) each at (ends (sizes_can root sizing)) ≡ Some w → Counted made (IsSize root sizing) at w
ends_made root side sizing fine each made h at w q = by (ends (sizes_can root sizing)) refl q
  where
    from_zero : (j : ℕ) → j ≡ 0 + j
    from_zero j = omega arith

    by : (o : Option (ℤ × ℤ)) → ends (sizes_can root sizing) ≡ o → run_by_ends side (sizes_can root sizing) each at o ≡ Some w → Counted made (IsSize root sizing) at w
    by None e k = nothing w k
    by (Some t) e k = rest (run_way (is_enough side (sizes_can root sizing)) each (natural (end_of side t)) 0 at) (natural t.0) refl refl k
      where
        rest : (o : Option (Way Elements)) (f : ℕ) → run_way (is_enough side (sizes_can root sizing)) each (natural (end_of side t)) 0 at ≡ o → natural t.0 ≡ f → or_none o f at ≡ Some w → Counted made (IsSize root sizing) at w
        rest (Some v) f p is l =
            let made' = run_made (is_enough side (sizes_can root sizing)) each made h (IsSize root sizing) (enough_size root side sizing fine) (natural (end_of side t)) 0 at v (subst (IsSize root sizing) (from_zero (natural (end_of side t))) (chosen_size root side sizing t fine e)) p in
            subst (λ (z : Way Elements). Counted made (IsSize root sizing) at z) (some_is v w l) (subst (IsSize root sizing) (sym (from_zero (element_count v.1))) made'.0, made'.1)
        rest None zero p is l = subst (λ (z : Way Elements). Counted made (IsSize root sizing) at z) (some_is (at, no_elements) w l) (subst (IsSize root sizing) is (least_size root sizing t fine e), refl)
        rest None (suc f) p is l = nothing w l

abbrev ListMade : Grammar → Sizing → Option (List Bool) → (ℕ → Data → ℕ → Type 0) → ℕ → Data → ℕ → Type 0
ListMade root sizing o made at (list_of es) end = IsSize root sizing (element_count es) × ListBest o sizing.rule made at es end
ListMade root sizing o made at _ end = ⊥

list_made : (root : Grammar) (side : Side) (sizing : Sizing) → sizes_fine sizing.sizes ≡ true → (o : Option (List Bool)) (each : ℕ → Option (Way Data)) (made : ℕ → Data → ℕ → Type 0) → ((at : ℕ) (w : Way Data) → each at ≡ Some w → made at w.1 w.0)
    → (at : ℕ) (w : Way Data) → elements_way side o sizing.rule each (sizes_can root sizing) at ≡ Some w → ListMade root sizing o made at w.1 w.0
list_made root side sizing fine None each made h at w q = by (run_by_ends side (sizes_can root sizing) each (behind at (rule_width sizing.rule)) (ends (sizes_can root sizing))) refl q
  where
    by : (o : Option (Way Elements)) → run_by_ends side (sizes_can root sizing) each (behind at (rule_width sizing.rule)) (ends (sizes_can root sizing)) ≡ o → list_way 0 o ≡ Some w → ListMade root sizing None made at w.1 w.0
    by None e k = nothing w k
    by (Some u) e k =
        let m = ends_made root side sizing fine each made h (behind at (rule_width sizing.rule)) u e in
        subst (λ (z : Way Data). ListMade root sizing None made at z.1 z.0) (some_is (behind u.0 0, list_of u.1) w k) (m.0, (u.0, m.1, refl))
list_made root side sizing fine (Some p) each made h at w q = by (run_by_ends side (sizes_can root sizing) each at (ends (sizes_can root sizing))) refl q
  where
    by : (o : Option (Way Elements)) → run_by_ends side (sizes_can root sizing) each at (ends (sizes_can root sizing)) ≡ o → list_way (length p) o ≡ Some w → ListMade root sizing (Some p) made at w.1 w.0
    by None e k = nothing w k
    by (Some u) e k =
        let m = ends_made root side sizing fine each made h at u e in
        subst (λ (z : Way Data). ListMade root sizing (Some p) made at z.1 z.0) (some_is (behind u.0 (length p), list_of u.1) w k) (m.0, (u.0, m.1, refl))

-- Which of two.

better_from : {A F : Type 0} (side : Side) (a b : Option (Way A)) (w : Way A) → better side a b ≡ Some w → (a ≡ Some w → F) → (b ≡ Some w → F) → F
better_from side None b w e f g = g e
better_from side (Some x) None w e f g = f e
better_from {A} {F} side (Some x) (Some y) w e f g = by (ahead side y.0 x.0) e
  where
    by : (t : Bool) → (if t then Some y else Some x) ≡ Some w → F
    by true k = g k
    by false k = f k

where_from : {A : Type 0} (can : Bool) (o : Option (Way A)) (w : Way A) → where_way can o ≡ Some w → (can ≡ true) × (o ≡ Some w)
where_from true o w e = (refl, e)
where_from false o w e = nothing w e

there_from : (o : Option (Way Data)) (w : Way (Option Data)) → there_way o ≡ Some w → (v : Way Data) × (o ≡ Some v) × (w ≡ (v.0, Some v.1))
there_from None w e = nothing w e
there_from (Some v) w e = (v, refl, sym (some_is (v.0, Some v.1) w e))

alternative_from : (i : ℕ) (o : Option (Way Data)) (w : Way Data) → alternative_way i o ≡ Some w → (v : Way Data) × (o ≡ Some v) × (w ≡ (v.0, alt i v.1))
alternative_from i None w e = nothing w e
alternative_from i (Some v) w e = (v, refl, sym (some_is (v.0, alt i v.1) w e))

place_from : (o : Option (Way (Option Data))) (next : ℕ → Option (Way Places)) (w : Way Places) → with_place o next ≡ Some w → (v : Way (Option Data)) × (u : Way Places) × (o ≡ Some v) × (next v.0 ≡ Some u) × (w ≡ (u.0, put v.1 u.1))
place_from None next w e = nothing w e
place_from (Some v) next w e = by (next v.0) refl e
  where
    by : (o : Option (Way Places)) → next v.0 ≡ o → put_way v.1 o ≡ Some w → (v' : Way (Option Data)) × (u : Way Places) × (Some v ≡ Some v') × (next v'.0 ≡ Some u) × (w ≡ (u.0, put v'.1 u.1))
    by None p k = nothing w k
    by (Some u) p k = (v, u, refl, p, sym (some_is (u.0, put v.1 u.1) w k))

past_from : (o : Option (Way Data)) (next : ℕ → Option (Way Places)) (w : Way Places) → past o next ≡ Some w → (v : Way Data) × (o ≡ Some v) × (next v.0 ≡ Some w)
past_from None next w e = nothing w e
past_from (Some v) next w e = (v, refl, e)

record_from : (o : Option (Way Places)) (w : Way Data) → record_way o ≡ Some w → (u : Way Places) × (o ≡ Some u) × (w ≡ (u.0, record_of u.1))
record_from None w e = nothing w e
record_from (Some u) w e = (u, refl, sym (some_is (u.0, record_of u.1) w e))

octets_from : (at width : ℕ) (o : Option (Way Data)) (w : Way Data) → octets_way at width o ≡ Some w → (v : Way Data) × (o ≡ Some v) × (w ≡ (behind at (width + 8 * octets_for v.0), v.1))
octets_from at width None w e = nothing w e
octets_from at width (Some v) w e = (v, refl, sym (some_is (behind at (width + 8 * octets_for v.0), v.1) w e))

module _ (root : Grammar) (side : Side) where
  abbrev CaseMade : ChoiceRule → Alternatives → (i at : ℕ) → Way Data → Type 0
  CaseMade rule cases i at w = (j : ℕ) × (v : Way Data) × (w ≡ (v.0, alt (i + j) v.1)) × CaseBest root side rule cases j at v.1 v.0

  case_here : (rule : ChoiceRule) (n : List ℕ) (g : Grammar) (ts : List Test) (more : Alternatives) (i at : ℕ) (w : Way Data) → ((v : Way Data) → best root side g at ≡ Some v → IsBest root side g at v.1 v.0)
      → where_way (can_be_chosen root rule n ts) (alternative_way i (best root side g at)) ≡ Some w → CaseMade rule (alternative n g ts more) i at w
  case_here rule n g ts more i at w inner a =
      let t = where_from (can_be_chosen root rule n ts) (alternative_way i (best root side g at)) w a in
      let v = alternative_from i (best root side g at) w t.1 in
      (0, v.0, v.2 ∙ ap (λ j. ((v.0).0, alt j (v.0).1)) (plus_zero i), (t.0, inner v.0 v.1))
    where
      plus_zero : (i : ℕ) → i ≡ i + 0
      plus_zero i = omega arith

  case_more : (rule : ChoiceRule) (n : List ℕ) (g : Grammar) (ts : List Test) (more : Alternatives) (i at : ℕ) (o : Option (Way Data)) (w : Way Data) → ((v : Way Data) → best root side g at ≡ Some v → IsBest root side g at v.1 v.0)
      → (better side o (where_way (can_be_chosen root rule n ts) (alternative_way i (best root side g at))) ≡ Some w) ⊎ CaseMade rule more (suc i) at w → (o ≡ Some w) ⊎ CaseMade rule (alternative n g ts more) i at w
  case_more rule n g ts more i at o w inner (inl e) = better_from {F = (o ≡ Some w) ⊎ CaseMade rule (alternative n g ts more) i at w} side o (where_way (can_be_chosen root rule n ts) (alternative_way i (best root side g at))) w e (λ a. inl a) (λ a. inr (case_here rule n g ts more i at w inner a))
  case_more rule n g ts more i at o w inner (inr m) = inr (suc m.0, m.1, m.2 ∙ ap (λ j. ((m.1).0, alt j (m.1).1)) (moved i m.0), m.3)
    where
      moved : (i j : ℕ) → suc i + j ≡ i + suc j
      moved i j = omega arith

  mutual
    pub node_made : (g : Grammar) (k : ℕ) (around : List ℕ) (ks : Known) → Sound root k around ks g → (at : ℕ) (w : Way Data) → best root side g at ≡ Some w → IsBest root side g at w.1 w.0
    node_made (node a form) k around ks sound at w q = form_made form k around ks (last_three sound) (behind at (padding a at)) w q

    form_made : (form : Form) (k : ℕ) (around : List ℕ) (ks : Known) → FormSound root k around ks form → (at : ℕ) (w : Way Data) → form_best root side form at ≡ Some w → FormBest root side form at w.1 w.0
    form_made (num l) k around ks sound at w q = subst (λ (z : Way Data). FormBest root side (num l) at z.1 z.0) (some_is (behind at (num_length l (number_at side l)), number_data l.kind (number_at side l)) w q) (refl, refl)
    form_made (octets z) k around ks sound at w q =
        let m = parts_made root side z (and_parts (sizes_fine z.sizes) (rule_fine z.sizes z.rule) (first_two sound)).0 8 (behind at (rule_width z.rule)) (λ n. octet_string (replicate n 0)) w q in
        subst (λ (v : Way Data). FormBest root side (octets z) at v.1 v.0) (sym m.is) (m.size, m.fits_it, refl, refl)
    form_made (bits z) k around ks sound at w q =
        let m = parts_made root side z (and_parts (sizes_fine z.sizes) (rule_fine z.sizes z.rule) (first_two sound)).0 1 (behind at (rule_width z.rule)) (λ n. bit_string (replicate n false)) w q in
        subst (λ (v : Way Data). FormBest root side (bits z) at v.1 v.0) (sym m.is) (m.size, m.fits_it, refl, refl)
    form_made (text l) k around ks sound at w q =
        let m = parts_made root (side_by l.width side) l.sized (text_rules l (first_two sound)).sizes l.width (behind at (text_around l.ended l)) (λ n. characters (replicate n (character_of l))) w q in
        subst (λ (v : Way Data). FormBest root side (text l) at v.1 v.0) (sym m.is) (m.size, m.fits_it, refl, refl)
    form_made (seq fs home) k around ks sound at w q =
        let r = record_from (fields_best root side fs (behind at (presence_count fs))) w q in
        subst (λ (v : Way Data). FormBest root side (seq fs home) at v.1 v.0) (sym r.2) (fields_made fs (suc k) _ ks (last_two sound) (behind at (presence_count fs)) r.0 r.1)
    form_made (list z g) k around ks sound at w q =
        same w.1 w.0 (list_made root side z (and_parts (sizes_fine z.sizes) (list_rule_fine (ending z.rule) z) (first_five sound)).0 (ending z.rule) (best root side g) (IsBest root side g) (λ m v p. node_made g (suc k) around ks (last_five sound) m v p) at w q)
      where
        same : (d : Data) (e : ℕ) → ListMade root z (ending z.rule) (IsBest root side g) at d e → FormBest root side (list z g) at d e
        same (list_of es) e h = h
        same _ e h = absurd h
    form_made (choice cases rule) k around ks sound at w q =
        let r = cases_made cases rule (suc k) around ks (last_four sound) 0 (behind at (index_width rule)) None w q in
        by r
      where
        by : ((None ≡ Some w) ⊎ CaseMade rule cases 0 (behind at (index_width rule)) w) → FormBest root side (choice cases rule) at w.1 w.0
        by (inl n) = nothing w n
        by (inr m) = subst (λ (v : Way Data). FormBest root side (choice cases rule) at v.1 v.0) (sym (m.2 ∙ ap (λ i. ((m.1).0, alt i (m.1).1)) (from_zero m.0))) m.3
          where
            from_zero : (j : ℕ) → 0 + j ≡ j
            from_zero j = omega arith
    form_made (contained z g) k around ks sound at w q =
        let r = octets_from at (rule_width z.rule) (best root side g 0) w q in
        subst (λ (v : Way Data). FormBest root side (contained z g) at v.1 v.0) (sym r.2) ((r.0).0, node_made g (suc k) around ks (last_four sound) 0 r.0 r.1, refl)

    fields_made : (fs : Fields) (k : ℕ) (around : List ℕ) (ks : Known) → FieldsSound root k around ks fs → (at : ℕ) (w : Way Places) → fields_best root side fs at ≡ Some w → FieldsBest root side fs at w.1 w.0
    fields_made no_fields k around ks sound at w q = subst (λ (v : Way Places). FieldsBest root side no_fields at v.1 v.0) (some_is (at, no_places) w q) refl
    fields_made (component n g p def own fs) k around ks sound at w q =
        let r = place_from (better side (where_way (can_be_away root p) (Some (at, None))) (where_way (can_be_there root p) (there_way (best root side g at)))) (fields_best root side fs) w q in
        subst (λ (v : Way Places). FieldsBest root side (component n g p def own fs) at v.1 v.0) (sym r.4)
        (better_from {F = FieldsBest root side (component n g p def own fs) at (put (r.0).1 (r.1).1) (r.1).0} side (where_way (can_be_away root p) (Some (at, None))) (where_way (can_be_there root p) (there_way (best root side g at))) r.0 r.2
        (λ a. let t = where_from (can_be_away root p) (Some (at, None)) r.0 a in
        let is = some_is (at, None) r.0 t.1 in
        subst (λ (v : Way (Option Data)). FieldsBest root side (component n g p def own fs) at (put v.1 (r.1).1) (r.1).0) is
        (t.0, fields_made fs k around (choose_known p ks (with_own own (after ks g))) (last_five sound) at r.1 (ap (λ (v : Way (Option Data)). fields_best root side fs v.0) is ∙ r.3)))
        (λ a. let t = where_from (can_be_there root p) (there_way (best root side g at)) r.0 a in
        let v = there_from (best root side g at) r.0 t.1 in
        subst (λ (v : Way (Option Data)). FieldsBest root side (component n g p def own fs) at (put v.1 (r.1).1) (r.1).0) (sym v.2)
        (t.0, (v.0).0, node_made g k around ks (fourth_five sound) at v.0 v.1, fields_made fs k around (choose_known p ks (with_own own (after ks g))) (last_five sound) (v.0).0 r.1 (sym (ap (λ (z : Way (Option Data)). fields_best root side fs z.0) v.2) ∙ r.3))))
    fields_made (inserted n g (Some s) fs) k around ks sound at w q =
        let r = past_from (best root side g at) (fields_best root side fs) w q in
        ((r.0).1, (r.0).0, node_made g k around ks (third_four sound) at r.0 r.1, fields_made fs k around (with_slot s ks) (last_four sound) (r.0).0 w r.2)
    fields_made (inserted n g None fs) k around ks sound at w q =
        let r = past_from (best root side g at) (fields_best root side fs) w q in
        ((r.0).1, (r.0).0, node_made g k around ks (second_three sound) at r.0 r.1, fields_made fs k around ks (last_three sound) (r.0).0 w r.2)

    cases_made : (cases : Alternatives) (rule : ChoiceRule) (k : ℕ) (around : List ℕ) (ks : Known) → AlternativesSound root k around ks cases → (i at : ℕ) (o : Option (Way Data)) (w : Way Data) → cases_best root side rule cases i at o ≡ Some w → (o ≡ Some w) ⊎ CaseMade rule cases i at w
    cases_made no_alternatives rule k around ks sound i at o w q = inl q
    cases_made (alternative n g ts more) rule k around ks sound i at o w q =
        case_more rule n g ts more i at o w (λ v p. node_made g k around ks (second_three sound) at v p)
        (cases_made more rule k around ks (last_three sound) (suc i) at (better side o (where_way (can_be_chosen root rule n ts) (alternative_way i (best root side g at)))) w q)
