-- The steps of a tree say that tree.
use Rattle.std.proofs.Common.{◌≡◌, ℕ, suc, ◌+◌, ◌-◌, ◌<◌, List, [], ◌∷◌, ◌++◌, length, drop, refl, sym, ap, ◌∙◌, arith, append_assoc, append-nil, length-append}
use Rattle.std.proofs.Math.Seq.{drop-append_seam}
use Rattle.acn_grammar.specs.Grammar.{Grammar, Form, Fields, Alternatives, node, num, octets, bits, text, seq, list, choice, contained, no_fields, component, inserted, no_alternatives, alternative}
use Rattle.acn_grammar.specs.declared.node.ChoiceRule.{ChoiceRule}
use Rattle.acn_plan.specs.Back.{first_node, put_field, put_case, fields_in, cases_in, form_in, marks, root_of}
use Rattle.acn_plan.specs.Laws.{StepsSayTheirRoot, StepsTellTheirRoot}
use Rattle.acn_plan.specs.Steps.{count_of, form_count, fields_count, cases_count, act_of, item_for, node_steps, form_steps, field_steps, case_steps, steps_of}
use Rattle.acn_plan.specs.declared.step.Place.{Place}
use Rattle.acn_plan.specs.declared.step.Place.TheVariants as places
use Rattle.acn_plan.specs.declared.step.Step.{Step}
use Rattle.acn_plan.proofs.Marks.{fields_first, cases_first}

module _ (root : Grammar) where
  mutual
    pub node_length : (p : Place) (i : ℕ) (g : Grammar) → length (node_steps root p i g) ≡ count_of g
    node_length p i (node align form) = ap suc (form_length (i + 1) form)

    pub form_length : (i : ℕ) (form : Form) → length (form_steps root i form) ≡ form_count form
    form_length i (seq fs home) = fields_length i fs
    form_length i (list sizing g) = node_length places.Element i g
    form_length i (choice cases rule) = cases_length rule i cases
    form_length i (contained sizing g) = node_length places.Content i g
    form_length i (num leaf) = refl
    form_length i (octets sizing) = refl
    form_length i (bits sizing) = refl
    form_length i (text leaf) = refl

    fields_length : (i : ℕ) (fs : Fields) → length (field_steps root i fs) ≡ fields_count fs
    fields_length i no_fields = refl
    fields_length i (component name g presence default own fs) = omega (arith, length-append (node_steps root (places.Component name presence default own) i g) (field_steps root (i + count_of g) fs), node_length (places.Component name presence default own) i g, fields_length (i + count_of g) fs)
    fields_length i (inserted name g slot fs) = omega (arith, length-append (node_steps root (places.Inserted name slot) i g) (field_steps root (i + count_of g) fs), node_length (places.Inserted name slot) i g, fields_length (i + count_of g) fs)

    cases_length : (rule : ChoiceRule) (i : ℕ) (cs : Alternatives) → length (case_steps root rule i cs) ≡ cases_count cs
    cases_length rule i no_alternatives = refl
    cases_length rule i (alternative name g tests more) = omega (arith, length-append (node_steps root (places.Alternative name tests (item_for root rule name)) i g) (case_steps root rule (i + count_of g) more), node_length (places.Alternative name tests (item_for root rule name)) i g, cases_length rule (i + count_of g) more)

  -- the first step of a node, and the others
  abbrev pub first_step : Place → ℕ → Grammar → Step
  first_step p i (node align form) = record { align = align; act = act_of (i + 1) form; place = p; next = i + suc (form_count form) }

  abbrev pub inner_steps : ℕ → Grammar → List Step
  inner_steps i (node align form) = form_steps root (i + 1) form

  pub steps_split : (p : Place) (i : ℕ) (g : Grammar) → node_steps root p i g ≡ first_step p i g ∷ inner_steps i g
  steps_split p i (node align form) = refl

  pub first_place : (p : Place) (i : ℕ) (g : Grammar) → (first_step p i g).place ≡ p
  first_place p i (node align form) = refl

  pub first_next : (p : Place) (i : ℕ) (g : Grammar) → (first_step p i g).next ≡ i + count_of g
  first_next p i (node align form) = refl

  pub some_nodes : (g : Grammar) → 0 < count_of g
  some_nodes (node align form) = omega arith

  inner_length : (i : ℕ) (g : Grammar) → length (inner_steps i g) + 1 ≡ count_of g
  inner_length i (node align form) = omega (arith, form_length (i + 1) form)

  pub past : (i n : ℕ) (g : Grammar) (rest : List Step) → n ≡ (i + count_of g) - (i + 1) → drop n (inner_steps i g ++ rest) ≡ rest
  past i n g rest e = (let l = inner_length i g in let q : n ≡ length (inner_steps i g) = omega (arith, e, l) in rw q (drop-append_seam (inner_steps i g) rest))

  -- a field in front of others
  field_back : (p : Place) (k m : ℕ) (g : Grammar) (more : List Step) (fs : Fields) → first_node (marks k (node_steps root p k g ++ more)) ≡ g → fields_in 0 m (k + count_of g) (marks (k + count_of g) more) ≡ fs
      → fields_in 0 (count_of g + m) k (marks k (node_steps root p k g ++ more)) ≡ put_field p g fs
  field_back p k m g more fs here others =
      (let s = first_step p k g in
      let inner = inner_steps k g in
      let split : node_steps root p k g ++ more ≡ s ∷ (inner ++ more) = ap (λ (x : List Step). x ++ more) (steps_split p k g) in
      let n = first_next p k g in
      let some = some_nodes g in
      let e : count_of g + m ≡ (k + (count_of g + m)) - k = omega arith in
      let f : (k + (count_of g + m)) - s.next ≡ m = omega (arith, n) in
      let gone : drop (s.next - (k + 1)) (inner ++ more) ≡ more = past k (s.next - (k + 1)) g more (omega (arith, n)) in
      let one = fields_first k (k + (count_of g + m)) s (inner ++ more) (omega (arith, some)) (omega (arith, some, n)) in
      let here' : first_node (marks k (s ∷ (inner ++ more))) ≡ g = ap (λ (x : List Step). first_node (marks k x)) (sym split) ∙ here in
      ap (λ (x : List Step). fields_in 0 (count_of g + m) k (marks k x)) split
      ∙ (ap (λ (l : ℕ). fields_in 0 l k (marks k (s ∷ (inner ++ more)))) e
      ∙ (one
      ∙ (ap (λ (q : Place). put_field q (first_node (marks k (s ∷ (inner ++ more)))) (fields_in 0 ((k + (count_of g + m)) - s.next) s.next (marks s.next (drop (s.next - (k + 1)) (inner ++ more))))) (first_place p k g)
      ∙ (ap (λ (x : Grammar). put_field p x (fields_in 0 ((k + (count_of g + m)) - s.next) s.next (marks s.next (drop (s.next - (k + 1)) (inner ++ more))))) here'
      ∙ ap (put_field p g) (ap (λ (x : List Step). fields_in 0 ((k + (count_of g + m)) - s.next) s.next (marks s.next x)) gone ∙ (ap (λ (l : ℕ). fields_in 0 l s.next (marks s.next more)) f ∙ (ap (λ (x : ℕ). fields_in 0 m x (marks x more)) n ∙ others))))))))

  case_back : (p : Place) (k m : ℕ) (g : Grammar) (more : List Step) (cs : Alternatives) → first_node (marks k (node_steps root p k g ++ more)) ≡ g → cases_in 0 m (k + count_of g) (marks (k + count_of g) more) ≡ cs
      → cases_in 0 (count_of g + m) k (marks k (node_steps root p k g ++ more)) ≡ put_case p g cs
  case_back p k m g more cs here others =
      (let s = first_step p k g in
      let inner = inner_steps k g in
      let split : node_steps root p k g ++ more ≡ s ∷ (inner ++ more) = ap (λ (x : List Step). x ++ more) (steps_split p k g) in
      let n = first_next p k g in
      let some = some_nodes g in
      let e : count_of g + m ≡ (k + (count_of g + m)) - k = omega arith in
      let f : (k + (count_of g + m)) - s.next ≡ m = omega (arith, n) in
      let gone : drop (s.next - (k + 1)) (inner ++ more) ≡ more = past k (s.next - (k + 1)) g more (omega (arith, n)) in
      let one = cases_first k (k + (count_of g + m)) s (inner ++ more) (omega (arith, some)) (omega (arith, some, n)) in
      let here' : first_node (marks k (s ∷ (inner ++ more))) ≡ g = ap (λ (x : List Step). first_node (marks k x)) (sym split) ∙ here in
      ap (λ (x : List Step). cases_in 0 (count_of g + m) k (marks k x)) split
      ∙ (ap (λ (l : ℕ). cases_in 0 l k (marks k (s ∷ (inner ++ more)))) e
      ∙ (one
      ∙ (ap (λ (q : Place). put_case q (first_node (marks k (s ∷ (inner ++ more)))) (cases_in 0 ((k + (count_of g + m)) - s.next) s.next (marks s.next (drop (s.next - (k + 1)) (inner ++ more))))) (first_place p k g)
      ∙ (ap (λ (x : Grammar). put_case p x (cases_in 0 ((k + (count_of g + m)) - s.next) s.next (marks s.next (drop (s.next - (k + 1)) (inner ++ more))))) here'
      ∙ ap (put_case p g) (ap (λ (x : List Step). cases_in 0 ((k + (count_of g + m)) - s.next) s.next (marks s.next x)) gone ∙ (ap (λ (l : ℕ). cases_in 0 l s.next (marks s.next more)) f ∙ (ap (λ (x : ℕ). cases_in 0 m x (marks x more)) n ∙ others))))))))

  mutual
    pub node_back : (p : Place) (i : ℕ) (g : Grammar) (rest : List Step) → first_node (marks i (node_steps root p i g ++ rest)) ≡ g
    node_back p i (node align form) rest = ap (node align) (form_back i form rest)

    form_back : (i : ℕ) (form : Form) (rest : List Step) → form_in (act_of (i + 1) form) (i + suc (form_count form)) (i + 1) (marks (i + 1) (form_steps root (i + 1) form ++ rest)) ≡ form
    form_back i (num leaf) rest = refl
    form_back i (octets sizing) rest = refl
    form_back i (bits sizing) rest = refl
    form_back i (text leaf) rest = refl
    form_back i (seq fs home) rest = (let e : (i + suc (fields_count fs)) - (i + 1) ≡ fields_count fs = omega arith in ap (λ (x : Fields). seq x home) (ap (λ (l : ℕ). fields_in 0 l (i + 1) (marks (i + 1) (field_steps root (i + 1) fs ++ rest))) e ∙ fields_back (i + 1) fs rest))
    form_back i (list sizing g) rest = ap (list sizing) (node_back places.Element (i + 1) g rest)
    form_back i (choice cases rule) rest = (let e : (i + suc (cases_count cases)) - (i + 1) ≡ cases_count cases = omega arith in ap (λ (x : Alternatives). choice x rule) (ap (λ (l : ℕ). cases_in 0 l (i + 1) (marks (i + 1) (case_steps root rule (i + 1) cases ++ rest))) e ∙ cases_back rule (i + 1) cases rest))
    form_back i (contained sizing g) rest = ap (contained sizing) (node_back places.Content (i + 1) g rest)

    fields_back : (k : ℕ) (fs : Fields) (rest : List Step) → fields_in 0 (fields_count fs) k (marks k (field_steps root k fs ++ rest)) ≡ fs
    fields_back k no_fields rest = refl
    fields_back k (component name g presence default own fs) rest =
        ap (λ (x : List Step). fields_in 0 (count_of g + fields_count fs) k (marks k x)) (append_assoc (node_steps root (places.Component name presence default own) k g) (field_steps root (k + count_of g) fs) rest)
        ∙ field_back (places.Component name presence default own) k (fields_count fs) g (field_steps root (k + count_of g) fs ++ rest) fs (node_back (places.Component name presence default own) k g (field_steps root (k + count_of g) fs ++ rest)) (fields_back (k + count_of g) fs rest)
    fields_back k (inserted name g slot fs) rest =
        ap (λ (x : List Step). fields_in 0 (count_of g + fields_count fs) k (marks k x)) (append_assoc (node_steps root (places.Inserted name slot) k g) (field_steps root (k + count_of g) fs) rest)
        ∙ field_back (places.Inserted name slot) k (fields_count fs) g (field_steps root (k + count_of g) fs ++ rest) fs (node_back (places.Inserted name slot) k g (field_steps root (k + count_of g) fs ++ rest)) (fields_back (k + count_of g) fs rest)

    pub cases_back : (rule : ChoiceRule) (k : ℕ) (cs : Alternatives) (rest : List Step) → cases_in 0 (cases_count cs) k (marks k (case_steps root rule k cs ++ rest)) ≡ cs
    cases_back rule k no_alternatives rest = refl
    cases_back rule k (alternative name g tests more) rest =
        ap (λ (x : List Step). cases_in 0 (count_of g + cases_count more) k (marks k x)) (append_assoc (node_steps root (places.Alternative name tests (item_for root rule name)) k g) (case_steps root rule (k + count_of g) more) rest)
        ∙ case_back (places.Alternative name tests (item_for root rule name)) k (cases_count more) g (case_steps root rule (k + count_of g) more ++ rest) more (node_back (places.Alternative name tests (item_for root rule name)) k g (case_steps root rule (k + count_of g) more ++ rest)) (cases_back rule (k + count_of g) more rest)

pub root_back : StepsSayTheirRoot
root_back root = ap (λ (x : List Step). first_node (marks 0 x)) (sym (append-nil (steps_of root))) ∙ node_back root places.Root 0 root []

pub told : StepsTellTheirRoot
told root other e = sym (root_back root) ∙ (ap root_of e ∙ root_back other)
