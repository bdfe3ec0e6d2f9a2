-- What holds of the step of each node, whatever stands behind those inside it, holds of each step of a tree.
use Rattle.std.proofs.Common.{◌≡◌, ℕ, zero, suc, ◌+◌, List, [], ◌∷◌, ◌++◌, drop, sym, ap, ◌∙◌, subst, arith, append_assoc, append-nil}
use Rattle.acn_grammar.specs.Grammar.{Grammar, Form, Fields, Alternatives, node, num, octets, bits, text, seq, list, choice, contained, no_fields, component, inserted, no_alternatives, alternative}
use Rattle.acn_grammar.specs.declared.node.ChoiceRule.{ChoiceRule}
use Rattle.acn_plan.specs.Back.{StepAt}
use Rattle.acn_plan.specs.Steps.{count_of, form_count, fields_count, cases_count, act_of, item_for, node_steps, form_steps, field_steps, case_steps, steps_of}
use Rattle.acn_plan.specs.declared.step.Act.{Act}
use Rattle.acn_plan.specs.declared.step.Place.{Place}
use Rattle.acn_plan.specs.declared.step.Place.TheVariants as places
use Rattle.acn_plan.specs.declared.step.Step.{Step}
use Rattle.acn_plan.proofs.Marks.{no_step}

-- P is said of a step with others behind it, the first of which has the number
module _ (root : Grammar) (P : (number : ℕ) → Act → (next : ℕ) → List Step → Type 0)
    (made : (form : Form) (i : ℕ) (rest : List Step) → P (i + 1) (act_of (i + 1) form) (i + suc (form_count form)) (form_steps root (i + 1) form ++ rest)) where
  abbrev of_each : (n : ℕ) → List Step → Type 0
  of_each n [] = Unit {0}
  of_each n (s ∷ ss) = P (n + 1) s.act s.next ss × of_each (n + 1) ss

  one_of : (n i : ℕ) (ss : List Step) (s : Step) → of_each n ss → StepAt ss i s → P (n + i + 1) s.act s.next (drop (i + 1) ss)
  one_of n i [] s a h = absurd (no_step i s h)
  one_of n zero (x ∷ xs) s a h =
      (let e : x ≡ s = cc in
      let f : n + 1 ≡ n + 0 + 1 = omega arith in
      subst (λ (m : ℕ). P m s.act s.next xs) f (subst (λ (y : Step). P (n + 1) y.act y.next xs) e a.0))
  one_of n (suc i) (x ∷ xs) s a h =
      (let f : n + 1 + i + 1 ≡ n + suc i + 1 = omega arith in
      let e : suc i + 1 ≡ suc (i + 1) = omega arith in
      let there : StepAt xs i s = h ∙ ap (λ (m : ℕ). s ∷ drop m (x ∷ xs)) e in
      subst (λ (m : ℕ). P (n + suc i + 1) s.act s.next (drop m (x ∷ xs))) (sym e) (subst (λ (m : ℕ). P m s.act s.next (drop (i + 1) xs)) f (one_of (n + 1) i xs s a.1 there)))

  none : (i : ℕ) (rest : List Step) → of_each (i + 0) rest → of_each i rest
  none i rest r = (let e : i + 0 ≡ i = omega arith in subst (λ (m : ℕ). of_each m rest) e r)

  mutual
    node_all : (p : Place) (i : ℕ) (g : Grammar) (rest : List Step) → of_each (i + count_of g) rest → of_each i (node_steps root p i g ++ rest)
    node_all p i (node align form) rest r =
        (let e : i + suc (form_count form) ≡ (i + 1) + form_count form = omega arith in
        (made form i rest, form_all (i + 1) form rest (subst (λ (m : ℕ). of_each m rest) e r)))

    form_all : (i : ℕ) (form : Form) (rest : List Step) → of_each (i + form_count form) rest → of_each i (form_steps root i form ++ rest)
    form_all i (seq fs home) rest r = fields_all i fs rest r
    form_all i (list sizing g) rest r = node_all places.Element i g rest r
    form_all i (choice cases rule) rest r = cases_all rule i cases rest r
    form_all i (contained sizing g) rest r = node_all places.Content i g rest r
    form_all i (num leaf) rest r = none i rest r
    form_all i (octets sizing) rest r = none i rest r
    form_all i (bits sizing) rest r = none i rest r
    form_all i (text leaf) rest r = none i rest r

    fields_all : (i : ℕ) (fs : Fields) (rest : List Step) → of_each (i + fields_count fs) rest → of_each i (field_steps root i fs ++ rest)
    fields_all i no_fields rest r = none i rest r
    fields_all i (component name g presence default own fs) rest r =
        (let p : Place = places.Component name presence default own in
        let a = append_assoc (node_steps root p i g) (field_steps root (i + count_of g) fs) rest in
        let e : i + (count_of g + fields_count fs) ≡ (i + count_of g) + fields_count fs = omega arith in
        subst (λ (x : List Step). of_each i x) (sym a) (node_all p i g (field_steps root (i + count_of g) fs ++ rest) (fields_all (i + count_of g) fs rest (subst (λ (m : ℕ). of_each m rest) e r))))
    fields_all i (inserted name g slot fs) rest r =
        (let p : Place = places.Inserted name slot in
        let a = append_assoc (node_steps root p i g) (field_steps root (i + count_of g) fs) rest in
        let e : i + (count_of g + fields_count fs) ≡ (i + count_of g) + fields_count fs = omega arith in
        subst (λ (x : List Step). of_each i x) (sym a) (node_all p i g (field_steps root (i + count_of g) fs ++ rest) (fields_all (i + count_of g) fs rest (subst (λ (m : ℕ). of_each m rest) e r))))

    cases_all : (rule : ChoiceRule) (i : ℕ) (cs : Alternatives) (rest : List Step) → of_each (i + cases_count cs) rest → of_each i (case_steps root rule i cs ++ rest)
    cases_all rule i no_alternatives rest r = none i rest r
    cases_all rule i (alternative name g tests more) rest r =
        (let p : Place = places.Alternative name tests (item_for root rule name) in
        let a = append_assoc (node_steps root p i g) (case_steps root rule (i + count_of g) more) rest in
        let e : i + (count_of g + cases_count more) ≡ (i + count_of g) + cases_count more = omega arith in
        subst (λ (x : List Step). of_each i x) (sym a) (node_all p i g (case_steps root rule (i + count_of g) more ++ rest) (cases_all rule (i + count_of g) more rest (subst (λ (m : ℕ). of_each m rest) e r))))

  pub everywhere : (i : ℕ) (s : Step) → StepAt (steps_of root) i s → P (i + 1) s.act s.next (drop (i + 1) (steps_of root))
  everywhere i s h =
      (let whole : of_each 0 (steps_of root) = subst (λ (x : List Step). of_each 0 x) (append-nil (steps_of root)) (node_all places.Root 0 root [] tt) in
      let e : 0 + i + 1 ≡ i + 1 = omega arith in
      subst (λ (m : ℕ). P m s.act s.next (drop (i + 1) (steps_of root))) e (one_of 0 i (steps_of root) s whole h))
