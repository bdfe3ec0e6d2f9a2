-- A failure other than the want of bits is the same on every input with the same bits up to where it rests.
use Rattle.std.proofs.Common.{◌≡◌, ℕ, zero, suc, ◌+◌, ◌-◌, ◌*◌, ◌≤◌, Bool, true, false, List, [], ◌∷◌, ◌++◌, length, take, drop, Option, Some, None, refl, sym, ap, ◌∙◌, arith, IsTrue}
use Rattle.std.proofs.lemmas.List.{take-take, length-take, take-append-drop, length-append, length-drop}
use Rattle.std.proofs.Math.Seq.{take-append-add, take-append_seam}
use Rattle.acn_num.specs.Bits.{number}
use Rattle.acn_num.specs.Ranges.{greatest}
use Rattle.acn_grammar.specs.Interval.{size_of}
use Rattle.acn_grammar.specs.Env.{Env}
use Rattle.acn_grammar.specs.Grammar.{Grammar, Form, Fields, Alternatives, Data, node, num, octets, bits, text, seq, list, choice, contained, no_fields, component, inserted, no_alternatives, alternative, null}
use Rattle.acn_grammar.specs.Code.{Any}
use Rattle.acn_grammar.specs.Fails.{Fault, Failing, Behind, Here, Short, After, RuleFails, Sized, PartsFail, TextFails, RunFails, EndFails, NoEnd, NextFails, EndedFails, ListFails, Fails, FormFails, FieldsFail, AlternativeFails, IndexFails, IndexIs, flags_behind, presence_count, Refusal, SizedFails, ContentFails, prefix_cut, prefix_not_permitted, fails_at_size, fails_behind_size, fails_at_element, fails_behind_element, pattern_cut, pattern_differs, full_not_permitted, full_not_ended, end_not_permitted, next_element_fails, fails_behind_next, index_cut, index_too_great, fails_at_index, fails_at_alternative, padding_cut, fails_behind_padding, presence_cut, fails_behind_presence, fails_at_component, fails_behind_component, fails_behind_absent, fails_at_inserted, fails_behind_inserted, window_cut, content_fails, content_overlong}
use Rattle.acn_grammar.specs.LeafFails.{Reason, short, LeafFails}
use Rattle.acn_grammar.specs.Length.{index_width, ending}
use Rattle.acn_grammar.specs.Spell.{Part, Where, Padding, SizePart, Carries, Spell, SlotField, with_home}
use Rattle.acn_grammar.specs.declared.node.ChoiceRule.{ChoiceRule}
use Rattle.acn_grammar.specs.declared.node.ChoiceRule.TheVariants.{Index, Tests, Item}
use Rattle.acn_grammar.specs.declared.node.NumLeaf.{NumLeaf}
use Rattle.acn_grammar.specs.declared.node.Sizing.{Sizing}
use Rattle.acn_grammar.specs.declared.node.SizeRule.{SizeRule}
use Rattle.acn_grammar.specs.declared.node.SizeRule.TheVariants.{Prefix, Slot, Ended}
use Rattle.acn_grammar.specs.declared.node.TextLeaf.{TextLeaf}
use Rattle.acn_grammar.specs.Leaves.{text_fine}
use Rattle.acn_grammar.proofs.Prefix.{same_front}
use Rattle.acn_grammar.proofs.SpanLaw.{Fine, FormFine, FieldsFine, AlternativesFine}

abbrev pub Steady : Failing → Type 0
Steady F = (at : ℕ) (rest : List Bool) (fault : Fault) (reach : ℕ) → F at rest fault reach → (fault.reason ≡ short → ⊥) → (other : List Bool) → take reach other ≡ take reach rest → F at other fault reach

pub same_within : (m n : ℕ) (a b : List Bool) → n ≤ m → take m a ≡ take m b → take n a ≡ take n b
same_within m n a b h e = sym (take-take n m a h) ∙ (ap (take n) e ∙ take-take n m b h)

pub long_enough : (m : ℕ) (a b : List Bool) → m ≤ length b → take m a ≡ take m b → m ≤ length a
long_enough m a b h e = omega (arith, length-take m a, length-take m b, ap length e)

-- behind the same front the rest agrees as far as before
pub split_other : (front back other : List Bool) (more : ℕ) → take (length front + more) other ≡ take (length front + more) (front ++ back)
    → (other ≡ front ++ drop (length front) other) × (take more (drop (length front) other) ≡ take more back)
split_other front back other more e =
    let whole = take-append-drop (length front) other in
    let n = length-append front back in
    let first : take (length front) other ≡ front = same_within (length front + more) (length front) other (front ++ back) (omega arith) e ∙ take-append_seam front back in
    let is : other ≡ front ++ drop (length front) other = sym whole ∙ ap (λ x. x ++ drop (length front) other) first in
    let wide : front ++ take more (drop (length front) other) ≡ front ++ take more back =
    sym (take-append-add front (drop (length front) other) more) ∙ (ap (take (length front + more)) (sym is) ∙ (e ∙ take-append-add front back more)) in
    (is, (same_front front front (take more (drop (length front) other)) (take more back) refl wide).1)

behind_steady : (P : Part) (F : Failing) → Steady F → Steady (Behind P F)
behind_steady P F h at rest fault reach t r =
    λ other e.
    let wide : take (length t.front + t.more) other ≡ take (length t.front + t.more) (t.front ++ t.back) = rw (← t.reaches, ← t.whole) e in
    let p = split_other t.front t.back other t.more wide in
    record { front = t.front; back = drop (length t.front) other; whole = p.0; spelled = t.spelled; more = t.more; fails = h (at + length t.front) t.back fault t.more t.fails r (drop (length t.front) other) p.1; reaches = t.reaches }

-- a node that no window is round
abbrev pub out : List ℕ → ℕ → Here
out path place = record { path = path; place = place; inside = false }

short_steady : (path : List ℕ) (place n : ℕ) → Steady (Short (out path place) n)
short_steady path place n at rest fault reach t r = absurd (r (ap (λ f. f.reason) t.1))

rule_steady : (path : List ℕ) (place : ℕ) (sizing : Sizing) (rule : SizeRule) (env : Env) → Steady (RuleFails (out path place) sizing rule env)
rule_steady path place sizing (Prefix low width) env at rest fault reach (prefix_cut t) r = absurd (r (ap (λ f. f.reason) t.1))
rule_steady path place sizing (Prefix low width) env at rest fault reach (prefix_not_permitted t) r =
    λ other e.
    let is = t.3 in
    let same = same_within reach width other rest (omega arith) e in
    let far = long_enough width other rest t.0 same in
    prefix_not_permitted (far, rw same t.1, rw same t.2, t.3)
rule_steady path place sizing (Slot s) env at rest fault reach t r = λ other e. t
rule_steady path place sizing (Ended end) env at rest fault reach t r = absurd t

sized_steady : (sizing : Sizing) (env : Env) (F : ℕ → Failing) → ((n : ℕ) → Steady (F n)) → Steady (Sized sizing env F)
sized_steady sizing env F h at rest fault reach t r =
    λ other e. record { n = t.n; behind = behind_steady (SizePart sizing env t.n) (F t.n) (h t.n) at rest fault reach t.behind r other e }

pub size_steady : (path : List ℕ) (place : ℕ) (sizing : Sizing) (env : Env) (F : ℕ → Failing) → ((n : ℕ) → Steady (F n)) → Steady (SizedFails (out path place) sizing env F)
size_steady path place sizing env F h at rest fault reach (fails_at_size t) r = λ other e. fails_at_size (rule_steady path place sizing sizing.rule env at rest fault reach t r other e)
size_steady path place sizing env F h at rest fault reach (fails_behind_size t) r = λ other e. fails_behind_size (sized_steady sizing env F h at rest fault reach t r other e)

length_drop_is : (n : ℕ) (l : List Bool) → n ≤ length l → length (drop n l) ≡ length l - n
length_drop_is n l h = omega (arith, length-drop n l)

after_steady : (n : ℕ) (F : List Bool → Failing) → ((flags : List Bool) → Steady (F flags)) → Steady (λ at rest fault reach. After n (F (take n rest)) at rest fault reach)
after_steady n F h at rest fault reach t r =
    let s = h (take n rest) (at + n) (drop n rest) fault t.more t.fails r in
    λ other e.
    let is = t.reaches in
    let low = t.there in
    let same = same_within reach n other rest (omega arith) e in
    let far = long_enough n other rest low same in
    let front : length (take n rest) ≡ n = omega (arith, length-take n rest) in
    let whole = sym (take-append-drop n rest) in
    let wide : take (length (take n rest) + t.more) other ≡ take (length (take n rest) + t.more) (take n rest ++ drop n rest) = rw (front, ← t.reaches, ← whole) e in
    let p = split_other (take n rest) (drop n rest) other t.more wide in
    let rest_is : take t.more (drop n other) ≡ take t.more (drop n rest) = ap (λ k. take t.more (drop k other)) (sym front) ∙ p.1 in
    record { there = far; more = t.more; fails = rw same (s (drop n other) rest_is); reaches = t.reaches }

run_steady : (each : Data → Part) (fails : ℕ → Failing) → ((k : ℕ) → Steady (fails k)) → (n k : ℕ) → Steady (RunFails each fails n k)
run_steady each fails h zero k at rest fault reach t r = absurd t
run_steady each fails h (suc n) k at rest fault reach (fails_at_element t) r = λ other e. fails_at_element (h k at rest fault reach t r other e)
run_steady each fails h (suc n) k at rest fault reach (fails_behind_element t) r =
    λ other e. fails_behind_element (t.0, behind_steady (each t.0) (RunFails each fails n (suc k)) (run_steady each fails h n (suc k)) at rest fault reach t.1 r other e)

-- a list that is ended by a pattern, on which each of its failures rests
end_steady : (path : List ℕ) (place : ℕ) (p : List Bool) (sizing : Sizing) (k : ℕ) → Steady (EndFails (out path place) p sizing k)
end_steady path place p sizing k at rest fault reach t r =
    λ other e.
    let same = same_within reach (length p) other rest (omega (arith, t.reaches)) e in
    record { stands = same ∙ t.stands; refused = t.refused; says = t.says; reaches = t.reaches }

no_end_steady : (path : List ℕ) (place : ℕ) (p : List Bool) → Steady (NoEnd (out path place) p)
no_end_steady path place p at rest fault reach (pattern_cut t) r = absurd (r (ap (λ f. f.reason) t.1))
no_end_steady path place p at rest fault reach (pattern_differs t) r =
    λ other e.
    let same = same_within reach (length p) other rest (omega (arith, t.3)) e in
    pattern_differs (long_enough (length p) other rest t.0 same, (λ h. t.1 (sym same ∙ h)), t.2, t.3)

next_steady : (p : List Bool) (F : Failing) → Steady F → Steady (NextFails p F)
next_steady p F h at rest fault reach t r =
    λ other e.
    let same = same_within reach (length p) other rest (omega (arith, t.reaches)) e in
    let inner = same_within reach t.inner other rest (omega (arith, t.reaches)) e in
    record { differs = λ x. t.differs (sym same ∙ x); inner = t.inner; fails = h at rest fault t.inner t.fails r other inner; reaches = t.reaches }

ended_steady : (path : List ℕ) (place : ℕ) (p : List Bool) (sizing : Sizing) (each : Data → Part) (fails : ℕ → Failing) → ((k : ℕ) → Steady (fails k)) → (n k : ℕ) → Steady (EndedFails (out path place) p sizing each fails n k)
ended_steady path place p sizing each fails h zero k at rest fault reach (full_not_permitted t) r = λ other e. full_not_permitted (end_steady path place p sizing k at rest fault reach t r other e)
ended_steady path place p sizing each fails h zero k at rest fault reach (full_not_ended t) r = λ other e. full_not_ended (no_end_steady path place p at rest fault reach t r other e)
ended_steady path place p sizing each fails h (suc n) k at rest fault reach (end_not_permitted t) r = λ other e. end_not_permitted (end_steady path place p sizing k at rest fault reach t r other e)
ended_steady path place p sizing each fails h (suc n) k at rest fault reach (next_element_fails t) r = λ other e. next_element_fails (next_steady p (fails k) (h k) at rest fault reach t r other e)
ended_steady path place p sizing each fails h (suc n) k at rest fault reach (fails_behind_next t) r =
    λ other e. fails_behind_next (t.0, behind_steady (each t.0) (EndedFails (out path place) p sizing each fails n (suc k)) (ended_steady path place p sizing each fails h n (suc k)) at rest fault reach t.1 r other e)

-- what the failures of one leaf and of one text need
abbrev pub LeafSteady : NumLeaf → Type 0
LeafSteady leaf = (rest : List Bool) (r : Reason) (reach : ℕ) → LeafFails leaf rest r reach → (r ≡ short → ⊥) → (reach ≤ length rest) × ((other : List Bool) → take reach other ≡ take reach rest → LeafFails leaf other r reach)

abbrev pub TextSteady : TextLeaf → Type 0
TextSteady leaf = (path : List ℕ) (place : ℕ) (env : Env) → Steady (TextFails (out path place) leaf.ended leaf env)

module _ (root : Grammar) (leaves : (leaf : NumLeaf) → LeafSteady leaf) (texts : (leaf : TextLeaf) → IsTrue (text_fine leaf) → TextSteady leaf) where
  parts_steady : (path : List ℕ) (place each : ℕ) (sizing : Sizing) (env : Env) → Steady (PartsFail (out path place) each sizing env)
  parts_steady path place each sizing env = size_steady path place sizing env (λ n. Short (out path place) (each * n)) (λ n. short_steady path place (each * n))

  index_steady : (path : List ℕ) (place : ℕ) (rule : ChoiceRule) (cases : Alternatives) (env : Env) → Steady (IndexFails root (out path place) rule cases env)
  index_steady path place (Index width) cases env at rest fault reach (index_cut t) r = absurd (r (ap (λ f. f.reason) t.1))
  index_steady path place (Index width) cases env at rest fault reach (index_too_great t) r =
      λ other e.
      let is = t.3 in
      let same = same_within reach width other rest (omega arith) e in
      let far = long_enough width other rest t.0 same in
      index_too_great (far, rw same t.1, t.2, t.3)
  index_steady path place Tests cases env at rest fault reach t r = λ other e. t
  index_steady path place (Item s) cases env at rest fault reach t r = λ other e. t

  index_too : (rule : ChoiceRule) (rest other : List Bool) (i : ℕ) → IndexIs root rule rest i → take (index_width rule) other ≡ take (index_width rule) rest → IndexIs root rule other i
  index_too (Index width) rest other i p e = ap number e ∙ p
  index_too Tests rest other i p e = tt
  index_too (Item s) rest other i p e = tt

  -- contents stand in a window of their own, on the whole of which their failures rest
  content_steady : (path : List ℕ) (place n : ℕ) (content : Data → Part) (inside : ℕ → Failing) → Steady (ContentFails (out path place) content inside n)
  content_steady path place n content inside at rest fault reach (window_cut t) r = absurd (r (ap (λ f. f.reason) t.1))
  content_steady path place n content inside at rest fault reach (content_fails t) r =
      λ other e.
      let is = t.2 in
      let same = same_within reach (8 * n) other rest (omega arith) e in
      let far = long_enough (8 * n) other rest t.0 same in
      content_fails (far, rw same t.1, t.2)
  content_steady path place n content inside at rest fault reach (content_overlong t) r =
      λ other e.
      let is = t.2 in
      let same = same_within reach (8 * n) other rest (omega arith) e in
      let far = long_enough (8 * n) other rest t.0 same in
      content_overlong (far, rw same t.1, t.2)

  list_steady : (end : Option (List Bool)) (path : List ℕ) (place : ℕ) (sizing : Sizing) (env : Env) (each : Data → Part) (fails : ℕ → Failing) → ((k : ℕ) → Steady (fails k)) → Steady (ListFails end (out path place) sizing env each fails)
  list_steady None path place sizing env each fails h = size_steady path place sizing env (λ n. RunFails each fails n 0) (λ n. run_steady each fails h n 0)
  list_steady (Some p) path place sizing env each fails h = ended_steady path place p sizing each fails h (size_of (greatest sizing.sizes)) 0

  mutual
    node_steady : (g : Grammar) → Fine g → (env : Env) (origin : ℕ) (path : List ℕ) → Steady (Fails root g env false origin path)
    node_steady (node align form) f env origin path at rest fault reach (padding_cut t) r = absurd (r (ap (λ f. f.reason) t.1))
    node_steady (node align form) f env origin path at rest fault reach (fails_behind_padding t) r =
        let s = behind_steady (Padding Any align) (FormFails root form env (out path (origin + at)) origin) (form_steady form f.1 env path (origin + at) origin) at rest fault reach t r in
        λ other e. fails_behind_padding (s other e)

    form_steady : (form : Form) → FormFine form → (env : Env) (path : List ℕ) (place origin : ℕ) → Steady (FormFails root form env (out path place) origin)
    form_steady (num leaf) f env path place origin at rest fault reach t r =
        let s = leaves leaf rest t.reason reach t.fails (λ h. r (ap (λ f. f.reason) t.says ∙ h)) in
        λ other e. record { reason = t.reason; fails = s.1 other e; says = t.says }
    form_steady (octets sizing) f env path place origin at rest fault reach t r = parts_steady path place 8 sizing env at rest fault reach t r
    form_steady (bits sizing) f env path place origin at rest fault reach t r = parts_steady path place 1 sizing env at rest fault reach t r
    form_steady (text leaf) f env path place origin at rest fault reach t r = texts leaf f path place env at rest fault reach t r
    form_steady (seq _ home) f env path place origin at rest fault reach (presence_cut t) r = absurd (r (ap (λ f. f.reason) t.1))
    form_steady (seq fields home) f env path place origin at rest fault reach (fails_behind_presence t) r =
        let s = after_steady (presence_count fields) (λ flags. FieldsFail root fields (with_home home t.numbers env) flags (out path place) origin 0) (λ flags. fields_steady fields f (with_home home t.numbers env) flags path place origin 0) at rest fault reach t.behind r in
        λ other e. fails_behind_presence (record { numbers = t.numbers; count = t.count; permitted = t.permitted; behind = s other e })
    form_steady (list sizing g) f env path place origin at rest fault reach t r =
        list_steady (ending sizing.rule) path place sizing env (Spell root Any g env) (λ k. Fails root g env false origin (path ++ k ∷ [])) (λ k. node_steady g f.1 env origin (path ++ k ∷ [])) at rest fault reach t r
    form_steady (choice cases rule) f env path place origin at rest fault reach (fails_at_index t) r =
        let s = index_steady path place rule cases env at rest fault reach t r in
        λ other e. fails_at_index (s other e)
    form_steady (choice cases rule) f env path place origin at rest fault reach (fails_at_alternative t) r =
        let s = after_steady (index_width rule) (λ _. AlternativeFails root cases rule env (out path place) origin t.index t.index) (λ _. alternative_steady cases f rule env path place origin t.index t.index) at rest fault reach t.behind r in
        λ other e. (let is = t.behind.reaches in fails_at_alternative (record { index = t.index; stands = index_too rule rest other t.index t.stands (same_within reach (index_width rule) other rest (omega arith) e); behind = s other e }))
    form_steady (contained sizing g) f env path place origin at rest fault reach t r =
        let inside = λ (place' : ℕ). Fails root g env true (origin + place') (path ++ 0 ∷ []) in
        size_steady path place sizing env (ContentFails (out path place) (Spell root Any g env) inside) (λ n. content_steady path place n (Spell root Any g env) inside) at rest fault reach t r

    fields_steady : (fs : Fields) → FieldsFine fs → (env : Env) (flags : List Bool) (path : List ℕ) (place origin k : ℕ) → Steady (FieldsFail root fs env flags (out path place) origin k)
    fields_steady no_fields f env flags path place origin k at rest fault reach t r = absurd t
    fields_steady (component name g presence default own fs) f env flags path place origin k at rest fault reach (fails_at_component t) r =
        let s = node_steady g f.0 env origin (path ++ k ∷ []) at rest fault reach t.1 r in
        λ other e. fails_at_component (t.0, s other e)
    fields_steady (component name g presence default own fs) f env flags path place origin k at rest fault reach (fails_behind_component t) r =
        let s = behind_steady (Where (Carries env own t.1.0) (Spell root Any g env t.1.0)) (FieldsFail root fs env (flags_behind presence flags) (out path place) origin (suc k))
        (fields_steady fs f.1 env (flags_behind presence flags) path place origin (suc k)) at rest fault reach t.1.1 r in
        λ other e. fails_behind_component (t.0, (t.1.0, s other e))
    fields_steady (component name g presence default own fs) f env flags path place origin k at rest fault reach (fails_behind_absent t) r =
        let s = fields_steady fs f.1 env (flags_behind presence flags) path place origin (suc k) at rest fault reach t.1 r in
        λ other e. fails_behind_absent (t.0, s other e)
    fields_steady (inserted name g (Some s) fs) f env flags path place origin k at rest fault reach (fails_at_inserted t) r =
        λ other e. fails_at_inserted (node_steady g f.0 env origin (path ++ k ∷ []) at rest fault reach t r other e)
    fields_steady (inserted name g (Some s) fs) f env flags path place origin k at rest fault reach (fails_behind_inserted t) r =
        λ other e. fails_behind_inserted (behind_steady (SlotField root Any g env s) (FieldsFail root fs env flags (out path place) origin (suc k)) (fields_steady fs f.1 env flags path place origin (suc k)) at rest fault reach t r other e)
    fields_steady (inserted name g None fs) f env flags path place origin k at rest fault reach (fails_at_inserted t) r =
        λ other e. fails_at_inserted (node_steady g f.0 env origin (path ++ k ∷ []) at rest fault reach t r other e)
    fields_steady (inserted name g None fs) f env flags path place origin k at rest fault reach (fails_behind_inserted t) r =
        λ other e. fails_behind_inserted (behind_steady (Spell root Any g env null) (FieldsFail root fs env flags (out path place) origin (suc k)) (fields_steady fs f.1 env flags path place origin (suc k)) at rest fault reach t r other e)

    alternative_steady : (cases : Alternatives) → AlternativesFine cases → (rule : ChoiceRule) (env : Env) (path : List ℕ) (place origin i j : ℕ) → Steady (AlternativeFails root cases rule env (out path place) origin i j)
    alternative_steady no_alternatives f rule env path place origin i j at rest fault reach t r = absurd t
    alternative_steady (alternative name g tests more) f rule env path place origin i zero at rest fault reach t r =
        let s = node_steady g f.0 env origin (path ++ i ∷ []) at rest fault reach t.1 r in
        λ other e. (t.0, s other e)
    alternative_steady (alternative name g tests more) f rule env path place origin i (suc j) at rest fault reach t r = alternative_steady more f.1 rule env path place origin i j at rest fault reach t r

  -- the failure of a packet is the same on every input with the same bits up to where it rests
  pub refusal_steady : Fine root → (input other : List Bool) (fault : Fault) (reach : ℕ) → Refusal root input fault reach → (fault.reason ≡ short → ⊥) → take reach other ≡ take reach input → Refusal root other fault reach
  refusal_steady f input other fault reach t r e = node_steady root f [] 0 [] 0 input fault reach t r other e
