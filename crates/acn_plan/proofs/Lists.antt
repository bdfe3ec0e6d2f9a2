-- In the steps of a tree each CHOICE has the numbers of the steps of its alternatives.
use Rattle.std.proofs.Common.{◌≡◌, ℕ, suc, ◌+◌, ◌-◌, List, ◌∷◌, ◌++◌, drop, refl, sym, ap, ◌∙◌, arith, append_assoc}
use Rattle.acn_grammar.specs.Grammar.{Grammar, Form, Alternatives, num, octets, bits, text, seq, list, choice, contained, no_alternatives, alternative}
use Rattle.acn_grammar.specs.declared.node.ChoiceRule.{ChoiceRule}
use Rattle.acn_plan.specs.Back.{numbers_in}
use Rattle.acn_plan.specs.Laws.{StepsListTheirCases}
use Rattle.acn_plan.specs.Steps.{count_of, form_count, cases_count, case_numbers, act_of, item_for, node_steps, form_steps, case_steps}
use Rattle.acn_plan.specs.declared.step.Act.{Act}
use Rattle.acn_plan.specs.declared.step.Act.TheVariants as acts
use Rattle.acn_plan.specs.declared.step.Cases.{Cases}
use Rattle.acn_plan.specs.declared.step.Place.{Place}
use Rattle.acn_plan.specs.declared.step.Place.TheVariants as places
use Rattle.acn_plan.specs.declared.step.Step.{Step}
use Rattle.acn_plan.proofs.Backs.{first_step, inner_steps, steps_split, first_next, some_nodes, past}
use Rattle.acn_plan.proofs.Everywhere.{everywhere}
use Rattle.acn_plan.proofs.Itemizes.{one_choice}
use Rattle.acn_plan.proofs.Marks.{numbers_first}

-- what is wanted of a step with others behind it, the first of which has the number
abbrev step_listed : (n : ℕ) → Act → (next : ℕ) → List Step → Type 0
step_listed n act next ss = (cases : Cases) → act ≡ acts.Choice cases → cases.numbers ≡ numbers_in 0 (next - n) n ss

module _ (root : Grammar) where
  -- the number of an alternative in front of those of others
  number_back : (p : Place) (k m : ℕ) (g : Grammar) (more : List Step) (numbers : List ℕ) → numbers_in 0 m (k + count_of g) more ≡ numbers → numbers_in 0 (count_of g + m) k (node_steps root p k g ++ more) ≡ k ∷ numbers
  number_back p k m g more numbers others =
      (let s = first_step root p k g in
      let inner = inner_steps root k g in
      let split : node_steps root p k g ++ more ≡ s ∷ (inner ++ more) = ap (λ (x : List Step). x ++ more) (steps_split root p k g) in
      let n = first_next root p k g in
      let some = some_nodes root g in
      let e : count_of g + m ≡ (k + (count_of g + m)) - k = omega arith in
      let f : (k + (count_of g + m)) - s.next ≡ m = omega (arith, n) in
      let gone : drop (s.next - (k + 1)) (inner ++ more) ≡ more = past root k (s.next - (k + 1)) g more (omega (arith, n)) in
      let one = numbers_first k (k + (count_of g + m)) s (inner ++ more) (omega (arith, some)) (omega (arith, some, n)) in
      ap (λ (x : List Step). numbers_in 0 (count_of g + m) k x) split
      ∙ (ap (λ (l : ℕ). numbers_in 0 l k (s ∷ (inner ++ more))) e
      ∙ (one
      ∙ ap (λ (x : List ℕ). k ∷ x) (ap (λ (x : List Step). numbers_in 0 ((k + (count_of g + m)) - s.next) s.next x) gone ∙ (ap (λ (l : ℕ). numbers_in 0 l s.next more) f ∙ (ap (λ (x : ℕ). numbers_in 0 m x more) n ∙ others))))))

  numbers_back : (rule : ChoiceRule) (k : ℕ) (cs : Alternatives) (rest : List Step) → numbers_in 0 (cases_count cs) k (case_steps root rule k cs ++ rest) ≡ case_numbers k cs
  numbers_back rule k no_alternatives rest = refl
  numbers_back rule k (alternative name g tests more) rest =
      (let p : Place = places.Alternative name tests (item_for root rule name) in
      ap (λ (x : List Step). numbers_in 0 (count_of g + cases_count more) k x) (append_assoc (node_steps root p k g) (case_steps root rule (k + count_of g) more) rest)
      ∙ number_back p k (cases_count more) g (case_steps root rule (k + count_of g) more ++ rest) (case_numbers (k + count_of g) more) (numbers_back rule (k + count_of g) more rest))

  -- the step of a node
  choice_listed : (rule : ChoiceRule) (i : ℕ) (cs : Alternatives) (rest : List Step) → step_listed (i + 1) (act_of (i + 1) (choice cs rule)) (i + suc (cases_count cs)) (case_steps root rule (i + 1) cs ++ rest)
  choice_listed rule i cs rest cases e =
      (let l : (i + suc (cases_count cs)) - (i + 1) ≡ cases_count cs = omega arith in
      let same = ap (λ (x : Cases). x.numbers) (one_choice (record { rule = rule; numbers = case_numbers (i + 1) cs }) cases e) in
      sym same ∙ sym (ap (λ (m : ℕ). numbers_in 0 m (i + 1) (case_steps root rule (i + 1) cs ++ rest)) l ∙ numbers_back rule (i + 1) cs rest))

  form_lists : (form : Form) (i : ℕ) (rest : List Step) → step_listed (i + 1) (act_of (i + 1) form) (i + suc (form_count form)) (form_steps root (i + 1) form ++ rest)
  form_lists (num leaf) i rest cases e = absurd (cc)
  form_lists (octets sizing) i rest cases e = absurd (cc)
  form_lists (bits sizing) i rest cases e = absurd (cc)
  form_lists (text leaf) i rest cases e = absurd (cc)
  form_lists (seq fs home) i rest cases e = absurd (cc)
  form_lists (list sizing g) i rest cases e = absurd (cc)
  form_lists (choice cs rule) i rest cases e = choice_listed rule i cs rest cases e
  form_lists (contained sizing g) i rest cases e = absurd (cc)

pub listed : StepsListTheirCases
listed root i s cases h = everywhere root step_listed (form_lists root) i s h cases
