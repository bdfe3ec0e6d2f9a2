-- In the steps of a tree each alternative has the item of its name, where the number of a slot says which alternative is there.
use Rattle.std.proofs.Common.{◌≡◌, ℕ, suc, ◌+◌, ◌-◌, List, ◌∷◌, ◌++◌, map, drop, refl, sym, ap, ◌∙◌, arith, append_assoc, Option}
use Rattle.acn_grammar.specs.Grammar.{Grammar, Form, Alternatives, num, octets, bits, text, seq, list, choice, contained, no_alternatives, alternative}
use Rattle.acn_grammar.specs.Scoped.{names_of}
use Rattle.acn_grammar.specs.Slots.{items_of}
use Rattle.acn_grammar.specs.declared.node.ChoiceRule.{ChoiceRule}
use Rattle.acn_grammar.specs.declared.node.ChoiceRule.TheVariants.{Item}
use Rattle.acn_plan.specs.Back.{cases_in, marks, items_in, item_at}
use Rattle.acn_plan.specs.Laws.{StepsAreItemed}
use Rattle.acn_plan.specs.Steps.{count_of, form_count, cases_count, case_numbers, act_of, item_named, item_for, node_steps, form_steps, case_steps}
use Rattle.acn_plan.specs.declared.step.Act.{Act}
use Rattle.acn_plan.specs.declared.step.Act.TheVariants as acts
use Rattle.acn_plan.specs.declared.step.Cases.{Cases}
use Rattle.acn_plan.specs.declared.step.Place.{Place}
use Rattle.acn_plan.specs.declared.step.Place.TheVariants as places
use Rattle.acn_plan.specs.declared.step.Step.{Step}
use Rattle.acn_plan.proofs.Backs.{cases_back, first_step, inner_steps, steps_split, first_place, first_next, some_nodes, past}
use Rattle.acn_plan.proofs.Everywhere.{everywhere}
use Rattle.acn_plan.proofs.Marks.{items_first}

pub one_choice : (x y : Cases) → acts.Choice x ≡ acts.Choice y → x ≡ y
one_choice x y e = cc

module _ (root : Grammar) where
  -- what is wanted of a step with others behind it, the first of which has the number
  abbrev step_itemed : (n : ℕ) → Act → (next : ℕ) → List Step → Type 0
  step_itemed n act next ss =
      (cases : Cases) (slot : ℕ) → act ≡ acts.Choice cases → cases.rule ≡ Item slot → items_in 0 (next - n) n ss ≡ map (λ name. item_named name 0 (items_of root slot)) (names_of (cases_in 0 (next - n) n (marks n ss)))

  -- the item of an alternative in front of those of others
  case_items_back : (p : Place) (k m : ℕ) (g : Grammar) (more : List Step) (items : List (Option ℕ)) → items_in 0 m (k + count_of g) more ≡ items
      → items_in 0 (count_of g + m) k (node_steps root p k g ++ more) ≡ item_at p ∷ items
  case_items_back p k m g more items others =
      (let s = first_step root p k g in
      let inner = inner_steps root k g in
      let split : node_steps root p k g ++ more ≡ s ∷ (inner ++ more) = ap (λ (x : List Step). x ++ more) (steps_split root p k g) in
      let n = first_next root p k g in
      let some = some_nodes root g in
      let e : count_of g + m ≡ (k + (count_of g + m)) - k = omega arith in
      let f : (k + (count_of g + m)) - s.next ≡ m = omega (arith, n) in
      let gone : drop (s.next - (k + 1)) (inner ++ more) ≡ more = past root k (s.next - (k + 1)) g more (omega (arith, n)) in
      let one = items_first k (k + (count_of g + m)) s (inner ++ more) (omega (arith, some)) (omega (arith, some, n)) in
      ap (λ (x : List Step). items_in 0 (count_of g + m) k x) split
      ∙ (ap (λ (l : ℕ). items_in 0 l k (s ∷ (inner ++ more))) e
      ∙ (one
      ∙ (ap (λ (q : Place). item_at q ∷ items_in 0 ((k + (count_of g + m)) - s.next) s.next (drop (s.next - (k + 1)) (inner ++ more))) (first_place root p k g)
      ∙ ap (λ (x : List (Option ℕ)). item_at p ∷ x) (ap (λ (x : List Step). items_in 0 ((k + (count_of g + m)) - s.next) s.next x) gone ∙ (ap (λ (l : ℕ). items_in 0 l s.next more) f ∙ (ap (λ (x : ℕ). items_in 0 m x more) n ∙ others)))))))

  items_back : (rule : ChoiceRule) (k : ℕ) (cs : Alternatives) (rest : List Step) → items_in 0 (cases_count cs) k (case_steps root rule k cs ++ rest) ≡ map (item_for root rule) (names_of cs)
  items_back rule k no_alternatives rest = refl
  items_back rule k (alternative name g tests more) rest =
      (let p : Place = places.Alternative name tests (item_for root rule name) in
      ap (λ (x : List Step). items_in 0 (count_of g + cases_count more) k x) (append_assoc (node_steps root p k g) (case_steps root rule (k + count_of g) more) rest)
      ∙ case_items_back p k (cases_count more) g (case_steps root rule (k + count_of g) more ++ rest) (map (item_for root rule) (names_of more)) (items_back rule (k + count_of g) more rest))

  -- the step of a node
  choice_itemed : (rule : ChoiceRule) (i : ℕ) (cs : Alternatives) (rest : List Step) → step_itemed (i + 1) (act_of (i + 1) (choice cs rule)) (i + suc (cases_count cs)) (case_steps root rule (i + 1) cs ++ rest)
  choice_itemed rule i cs rest cases slot e r =
      (let same : rule ≡ Item slot = ap (λ (x : Cases). x.rule) (one_choice (record { rule = rule; numbers = case_numbers (i + 1) cs }) cases e) ∙ r in
      let l : (i + suc (cases_count cs)) - (i + 1) ≡ cases_count cs = omega arith in
      let all : List Step = case_steps root rule (i + 1) cs ++ rest in
      ap (λ (m : ℕ). items_in 0 m (i + 1) all) l
      ∙ (items_back rule (i + 1) cs rest
      ∙ (ap (λ (r : ChoiceRule). map (item_for root r) (names_of cs)) same
      ∙ ap (λ (x : Alternatives). map (λ name. item_named name 0 (items_of root slot)) (names_of x)) (sym (ap (λ (m : ℕ). cases_in 0 m (i + 1) (marks (i + 1) all)) l ∙ cases_back root rule (i + 1) cs rest)))))

  form_has_items : (form : Form) (i : ℕ) (rest : List Step) → step_itemed (i + 1) (act_of (i + 1) form) (i + suc (form_count form)) (form_steps root (i + 1) form ++ rest)
  form_has_items (num leaf) i rest cases slot e r = absurd (cc)
  form_has_items (octets sizing) i rest cases slot e r = absurd (cc)
  form_has_items (bits sizing) i rest cases slot e r = absurd (cc)
  form_has_items (text leaf) i rest cases slot e r = absurd (cc)
  form_has_items (seq fs home) i rest cases slot e r = absurd (cc)
  form_has_items (list sizing g) i rest cases slot e r = absurd (cc)
  form_has_items (choice cs rule) i rest cases slot e r = choice_itemed rule i cs rest cases slot e r
  form_has_items (contained sizing g) i rest cases slot e r = absurd (cc)

pub itemed : StepsAreItemed
itemed root i s cases slot h = everywhere root (step_itemed root) (form_has_items root) i s h cases slot
