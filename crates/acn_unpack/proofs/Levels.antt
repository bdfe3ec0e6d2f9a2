-- From a step to what its node is.
use Rattle.std.proofs.Common.{◌≡◌, ℕ, zero, suc, ◌+◌, ◌<◌, List, [], ◌∷◌, length, drop, get_or, sym, ap, ◌∙◌, subst, arith}
use Rattle.std.proofs.lemmas.List.{drop_more, drop_all}
use Rattle.acn_grammar.specs.Env.{Env}
use Rattle.acn_grammar.specs.Grammar.{Grammar, Form, node, num}
use Rattle.acn_grammar.specs.ItemsNamed.{ItemsNamed, FormItemsNamed}
use Rattle.acn_grammar.specs.declared.node.NumLeaf.{NumLeaf}
use Rattle.acn_plan.specs.Back.{StepAt, Nested, HoldsOne, node_at, form_at, form_in, marks}
use Rattle.acn_plan.specs.declared.step.Act.{Act}
use Rattle.acn_plan.specs.declared.step.Act.TheVariants as acts
use Rattle.acn_plan.specs.declared.step.Step.{Step}
use Rattle.acn_plan.proofs.Marks.{node_is}
use Rattle.acn_reads.specs.Decoded.{NodeStands, FormStands}

pub step_is : (steps : List Step) (i : ℕ) (s : Step) → i < length steps → s ≡ get_or steps i s → StepAt steps i s
step_is steps i s h e = drop_more steps i s h ∙ ap (λ (x : Step). x ∷ drop (i + 1) steps) (sym e)

pub inside : (steps : List Step) (i : ℕ) (s : Step) → StepAt steps i s → i < length steps
inside [] i s h = (let z = drop_all i [] (omega arith) in let bad : [] ≡ s ∷ drop (i + 1) [] = sym z ∙ h in absurd (cc))
inside (x ∷ xs) zero s h = omega arith
inside (x ∷ xs) (suc i) s h = (let e : suc i + 1 ≡ suc (i + 1) = omega arith in let l = inside xs i s (h ∙ ap (λ (m : ℕ). s ∷ drop m (x ∷ xs)) e) in omega (arith, l))

pub form_by : (steps : List Step) (i : ℕ) (s : Step) (a : Act) → s.act ≡ a → form_at steps i s ≡ form_in a s.next (i + 1) (marks (i + 1) (drop (i + 1) steps))
form_by steps i s a e = ap (λ (b : Act). form_in b s.next (i + 1) (marks (i + 1) (drop (i + 1) steps))) e

pub node_of_number : (steps : List Step) (i : ℕ) (s : Step) (leaf : NumLeaf) → StepAt steps i s → s.act ≡ acts.Num leaf → node_at steps i ≡ node s.align (num leaf)
node_of_number steps i s leaf h e = node_is steps i s h ∙ ap (node s.align) (form_by steps i s (acts.Num leaf) e)

pub body_named : (steps : List Step) (i : ℕ) (s : Step) → StepAt steps i s → ItemsNamed (node_at steps i) → FormItemsNamed (form_at steps i s)
body_named steps i s h n = subst ItemsNamed (node_is steps i s h) n

pub body_ready : (root : Grammar) (steps : List Step) (i : ℕ) (s : Step) (k : ℕ) (t : Env) → StepAt steps i s → ((around : List ℕ) × NodeStands root k (node_at steps i) t around) → (around : List ℕ) × FormStands root k (form_at steps i s) t around
body_ready root steps i s k t h r = (let q : NodeStands root k (node s.align (form_at steps i s)) t r.0 = subst (λ (g : Grammar). NodeStands root k g t r.0) (node_is steps i s h) r.1 in (r.0, record { known = q.known; noted = q.noted; is = q.is.2 }))

-- what is ready of a form that is another
pub form_ready : (root : Grammar) (form other : Form) (k : ℕ) (t : Env) → form ≡ other → ((around : List ℕ) × FormStands root k form t around) → (around : List ℕ) × FormStands root k other t around
form_ready root form other k t e r = (r.0, subst (λ (x : Form). FormStands root k x t r.0) e r.1)

-- a node that holds one has it behind itself
pub child_inside : (steps : List Step) (i : ℕ) (s : Step) (a : Act) → Nested steps → StepAt steps i s → s.act ≡ a → (HoldsOne a i s.next → i + 1 < s.next) → i + 1 < length steps
child_inside steps i s a n h e f = (let q = n i s h in let l = f (subst (λ (b : Act). HoldsOne b i s.next) e q.holds) in let w = q.within in omega (arith, l, w))
