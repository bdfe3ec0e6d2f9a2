-- The steps of a tree are nested.
use Rattle.std.proofs.Common.{◌≡◌, ℕ, zero, suc, ◌+◌, ◌≤◌, List, [], ◌∷◌, ◌++◌, length, drop, sym, ap, ◌∙◌, subst, arith, append_assoc, append-nil}
use Rattle.acn_grammar.specs.Grammar.{Grammar, Form, Fields, Alternatives, node, num, octets, bits, text, seq, list, choice, contained, no_fields, component, inserted, no_alternatives, alternative}
use Rattle.acn_grammar.specs.declared.node.ChoiceRule.{ChoiceRule}
use Rattle.acn_plan.specs.Back.{HoldsOne, IsNested, StepAt}
use Rattle.acn_plan.specs.Laws.{StepsAreNested}
use Rattle.acn_plan.specs.Steps.{count_of, form_count, fields_count, cases_count, act_of, item_for, node_steps, form_steps, field_steps, case_steps, steps_of}
use Rattle.acn_plan.specs.declared.step.Place.{Place}
use Rattle.acn_plan.specs.declared.step.Place.TheVariants as places
use Rattle.acn_plan.specs.declared.step.Step.{Step}
use Rattle.acn_plan.proofs.Backs.{node_length, some_nodes}
use Rattle.acn_plan.proofs.Marks.{no_step}

-- all steps of a list from a number on
abbrev all_nested : (end n : ℕ) → List Step → Type 0
all_nested end n [] = Unit {0}
all_nested end n (s ∷ ss) = IsNested end n s × all_nested end (n + 1) ss

one_of : (end n i : ℕ) (ss : List Step) (s : Step) → all_nested end n ss → StepAt ss i s → IsNested end (n + i) s
one_of end n i [] s a h = absurd (no_step i s h)
one_of end n zero (x ∷ xs) s a h = (let e : x ≡ s = cc in let f : n ≡ n + 0 = omega arith in subst (λ (m : ℕ). IsNested end m s) f (subst (λ (y : Step). IsNested end n y) e a.0))
one_of end n (suc i) (x ∷ xs) s a h = (let f : (n + 1) + i ≡ n + suc i = omega arith in let e : suc i + 1 ≡ suc (i + 1) = omega arith in subst (λ (m : ℕ). IsNested end m s) f (one_of end (n + 1) i xs s a.1 (h ∙ ap (λ (m : ℕ). s ∷ drop m (x ∷ xs)) e)))

module _ (root : Grammar) where
  holds_one : (form : Form) (i : ℕ) → HoldsOne (act_of (i + 1) form) i (i + suc (form_count form))
  holds_one (num leaf) i = tt
  holds_one (octets sizing) i = tt
  holds_one (bits sizing) i = tt
  holds_one (text leaf) i = tt
  holds_one (seq fs home) i = tt
  holds_one (list sizing g) i = (let p = some_nodes root g in omega (arith, p))
  holds_one (choice cases rule) i = tt
  holds_one (contained sizing g) i = (let p = some_nodes root g in omega (arith, p))

  none : (end i : ℕ) (rest : List Step) → all_nested end (i + 0) rest → all_nested end i rest
  none end i rest r = (let e : i + 0 ≡ i = omega arith in subst (λ (m : ℕ). all_nested end m rest) e r)

  mutual
    node_nested : (p : Place) (end i : ℕ) (g : Grammar) (rest : List Step) → i + count_of g ≤ end → all_nested end (i + count_of g) rest → all_nested end i (node_steps root p i g ++ rest)
    node_nested p end i (node align form) rest le r =
        (let e : i + suc (form_count form) ≡ (i + 1) + form_count form = omega arith in
        (record { behind = omega arith; within = le; holds = holds_one form i }, form_nested end (i + 1) form rest (omega (arith, le)) (subst (λ (m : ℕ). all_nested end m rest) e r)))

    form_nested : (end i : ℕ) (form : Form) (rest : List Step) → i + form_count form ≤ end → all_nested end (i + form_count form) rest → all_nested end i (form_steps root i form ++ rest)
    form_nested end i (seq fs home) rest le r = fields_nested end i fs rest le r
    form_nested end i (list sizing g) rest le r = node_nested places.Element end i g rest le r
    form_nested end i (choice cases rule) rest le r = cases_nested rule end i cases rest le r
    form_nested end i (contained sizing g) rest le r = node_nested places.Content end i g rest le r
    form_nested end i (num leaf) rest le r = none end i rest r
    form_nested end i (octets sizing) rest le r = none end i rest r
    form_nested end i (bits sizing) rest le r = none end i rest r
    form_nested end i (text leaf) rest le r = none end i rest r

    fields_nested : (end i : ℕ) (fs : Fields) (rest : List Step) → i + fields_count fs ≤ end → all_nested end (i + fields_count fs) rest → all_nested end i (field_steps root i fs ++ rest)
    fields_nested end i no_fields rest le r = none end i rest r
    fields_nested end i (component name g presence default own fs) rest le r =
        (let a = append_assoc (node_steps root (places.Component name presence default own) i g) (field_steps root (i + count_of g) fs) rest in
        let e : i + (count_of g + fields_count fs) ≡ (i + count_of g) + fields_count fs = omega arith in
        subst (λ (x : List Step). all_nested end i x) (sym a) (node_nested (places.Component name presence default own) end i g (field_steps root (i + count_of g) fs ++ rest) (omega (arith, le)) (fields_nested end (i + count_of g) fs rest (omega (arith, le)) (subst (λ (m : ℕ). all_nested end m rest) e r))))
    fields_nested end i (inserted name g slot fs) rest le r =
        (let a = append_assoc (node_steps root (places.Inserted name slot) i g) (field_steps root (i + count_of g) fs) rest in
        let e : i + (count_of g + fields_count fs) ≡ (i + count_of g) + fields_count fs = omega arith in
        subst (λ (x : List Step). all_nested end i x) (sym a) (node_nested (places.Inserted name slot) end i g (field_steps root (i + count_of g) fs ++ rest) (omega (arith, le)) (fields_nested end (i + count_of g) fs rest (omega (arith, le)) (subst (λ (m : ℕ). all_nested end m rest) e r))))

    cases_nested : (rule : ChoiceRule) (end i : ℕ) (cs : Alternatives) (rest : List Step) → i + cases_count cs ≤ end → all_nested end (i + cases_count cs) rest → all_nested end i (case_steps root rule i cs ++ rest)
    cases_nested rule end i no_alternatives rest le r = none end i rest r
    cases_nested rule end i (alternative name g tests more) rest le r =
        (let p : Place = places.Alternative name tests (item_for root rule name) in
        let a = append_assoc (node_steps root p i g) (case_steps root rule (i + count_of g) more) rest in
        let e : i + (count_of g + cases_count more) ≡ (i + count_of g) + cases_count more = omega arith in
        subst (λ (x : List Step). all_nested end i x) (sym a) (node_nested p end i g (case_steps root rule (i + count_of g) more ++ rest) (omega (arith, le)) (cases_nested rule end (i + count_of g) more rest (omega (arith, le)) (subst (λ (m : ℕ). all_nested end m rest) e r))))

pub nested : StepsAreNested
nested root i s h =
    (let l = node_length root places.Root 0 root in
    let all = node_nested root places.Root (length (steps_of root)) 0 root [] (omega (arith, l)) tt in
    let e : 0 + i ≡ i = omega arith in
    subst (λ (m : ℕ). IsNested (length (steps_of root)) m s) e (one_of (length (steps_of root)) 0 i (steps_of root) s (subst (λ (x : List Step). all_nested (length (steps_of root)) 0 x) (append-nil (steps_of root)) all) h))
