-- From a step to what its node is.
use Rattle.std.proofs.Common.{◌≡◌, ℕ, zero, suc, ◌+◌, ◌<◌, List, [], ◌∷◌, length, drop, get_or, refl, sym, ap, ◌∙◌, subst, arith}
use Rattle.std.proofs.lemmas.List.{drop_more, drop_all}
use Rattle.acn_grammar.specs.Grammar.{node, num}
use Rattle.acn_grammar.specs.declared.node.NumLeaf.{NumLeaf}
use Rattle.acn_plan.specs.Back.{StepAt, Nested, HoldsOne, node_at, form_at, form_in, marks}
use Rattle.acn_plan.specs.declared.step.Act.{Act}
use Rattle.acn_plan.specs.declared.step.Act.TheVariants as acts
use Rattle.acn_plan.specs.declared.step.Step.{Step}
use Rattle.acn_plan.proofs.Marks.{node_is}
use Rattle.acn_pack.specs.Parts.{IsNumber}

pub step_is : (steps : List Step) (i : ℕ) (s : Step) → i < length steps → s ≡ get_or steps i s → StepAt steps i s
step_is steps i s h e = drop_more steps i s h ∙ ap (λ (x : Step). x ∷ drop (i + 1) steps) (sym e)

pub inside : (steps : List Step) (i : ℕ) (s : Step) → StepAt steps i s → i < length steps
inside [] i s h = (let z = drop_all i [] (omega arith) in let bad : [] ≡ s ∷ drop (i + 1) [] = sym z ∙ h in absurd (cc))
inside (x ∷ xs) zero s h = omega arith
inside (x ∷ xs) (suc i) s h = (let e : suc i + 1 ≡ suc (i + 1) = omega arith in let l = inside xs i s (h ∙ ap (λ (m : ℕ). s ∷ drop m (x ∷ xs)) e) in omega (arith, l))

pub form_by : (steps : List Step) (i : ℕ) (s : Step) (a : Act) → s.act ≡ a → form_at steps i s ≡ form_in a s.next (i + 1) (marks (i + 1) (drop (i + 1) steps))
form_by steps i s a e = ap (λ (b : Act). form_in b s.next (i + 1) (marks (i + 1) (drop (i + 1) steps))) e

pub node_of_number : (steps : List Step) (i : ℕ) (s : Step) (leaf : NumLeaf) → StepAt steps i s → s.act ≡ acts.Num leaf → node_at steps i ≡ node s.align (num leaf)
node_of_number steps i s leaf h e = node_is steps i s h ∙ ap (node s.align) (form_by steps i s (acts.Num leaf) e)

-- a node that holds one has it behind itself
pub child_inside : (steps : List Step) (i : ℕ) (s : Step) (a : Act) → Nested steps → StepAt steps i s → s.act ≡ a → (HoldsOne a i s.next → i + 1 < s.next) → i + 1 < length steps
child_inside steps i s a n h e f = (let q = n i s h in let l = f (subst (λ (b : Act). HoldsOne b i s.next) e q.holds) in let w = q.within in omega (arith, l, w))

-- a number has one step
pub same_step : (steps : List Step) (i : ℕ) (s t : Step) → StepAt steps i s → StepAt steps i t → s ≡ t
same_step steps i s t h k = heads s t (drop (i + 1) steps) (drop (i + 1) steps) (sym h ∙ k)
  where
    heads : (a b : Step) (as' bs : List Step) → a ∷ as' ≡ b ∷ bs → a ≡ b
    heads a b as' bs e = cc

-- each number within the list has one
pub step_there : (steps : List Step) (i : ℕ) → i < length steps → (s : Step) × StepAt steps i s
step_there [] i h = absurd (omega (arith, h))
step_there (x ∷ xs) zero h = (x, refl)
step_there (x ∷ xs) (suc i) h = (let r = step_there xs i (omega (arith, h)) in let e : suc (i + 1) ≡ suc i + 1 = omega arith in (r.0, r.1 ∙ ap (λ (m : ℕ). r.0 ∷ drop m (x ∷ xs)) e))

-- a step whose node is a number is one
pub not_number : (steps : List Step) (i : ℕ) (s : Step) → StepAt steps i s → IsNumber (node_at steps i) → ((leaf : NumLeaf) → s.act ≡ acts.Num leaf → ⊥) → ⊥
not_number steps i s h n none = by s.act none (subst IsNumber (node_is steps i s h) n)
  where
    by : (a : Act) → ((leaf : NumLeaf) → a ≡ acts.Num leaf → ⊥) → IsNumber (node s.align (form_in a s.next (i + 1) (marks (i + 1) (drop (i + 1) steps)))) → ⊥
    by (acts.Num leaf) f x = f leaf refl
    by (acts.Octets sizing) f x = x
    by (acts.Bits sizing) f x = x
    by (acts.Text leaf) f x = x
    by (acts.Seq home) f x = x
    by (acts.List sizing) f x = x
    by (acts.Choice cases) f x = x
    by (acts.Contained sizing) f x = x
