-- From a step to what its node is.
use Rattle.std.proofs.Common.{◌≡◌, ℕ, zero, suc, ◌+◌, ◌<◌, ◌≤◌, List, [], ◌∷◌, ◌++◌, length, length-append, drop, Option, refl, sym, ap, ◌∙◌, subst, arith}
use Rattle.acn_grammar.specs.Grammar.{Grammar, Form, Fields, Alternatives, Data, node, seq, list, choice, contained}
use Rattle.acn_grammar.specs.Meets.{Unfit, first_of, breaches, form_breaches}
use Rattle.acn_grammar.specs.declared.node.ChoiceRule.{ChoiceRule}
use Rattle.acn_grammar.specs.declared.node.Sizing.{Sizing}
use Rattle.acn_num.specs.declared.limits.TheConstants.{MOST_STEPS}
use Rattle.acn_plan.specs.Back.{StepAt, Nested, HoldsOne, root_of, node_at, form_at, form_in, marks}
use Rattle.acn_plan.specs.Made.{IsMade}
use Rattle.acn_plan.specs.declared.step.Act.{Act}
use Rattle.acn_plan.specs.declared.step.Place.TheVariants.{Root}
use Rattle.acn_plan.specs.declared.step.Step.{Step}
use Rattle.acn_plan.proofs.Backs.{node_length, some_nodes}
use Rattle.acn_plan.proofs.Marks.{node_is}
use Rattle.acn_tree.specs.Room.{HasRoom, FormHasRoom, FieldsHaveRoom, AlternativesHaveRoom, SizesAreSmall}

pub step_there : (steps : List Step) (i : ℕ) → i < length steps → (s : Step) × StepAt steps i s
step_there [] i h = absurd (omega (arith, h))
step_there (x ∷ xs) zero h = (x, refl)
step_there (x ∷ xs) (suc i) h = (let r = step_there xs i (omega (arith, h)) in let e : suc (i + 1) ≡ suc i + 1 = omega arith in (r.0, r.1 ∙ ap (λ (m : ℕ). r.0 ∷ drop m (x ∷ xs)) e))

-- the form of an act
pub form_by : (steps : List Step) (i : ℕ) (s : Step) (a : Act) → s.act ≡ a → form_at steps i s ≡ form_in a s.next (i + 1) (marks (i + 1) (drop (i + 1) steps))
form_by steps i s a e = ap (λ (b : Act). form_in b s.next (i + 1) (marks (i + 1) (drop (i + 1) steps))) e

pub body_room : (steps : List Step) (i : ℕ) (s : Step) (k : ℕ) → StepAt steps i s → HasRoom k (node_at steps i) → FormHasRoom k (form_at steps i s)
body_room steps i s k is h =
    let r : HasRoom k (node s.align (form_at steps i s)) = subst (HasRoom k) (node_is steps i s is) h in
    r.1

pub room_depth : (g : Grammar) (k : ℕ) → HasRoom k g → k ≤ MOST_STEPS
room_depth (node align form) k h = h.0

-- one step more
pub child_room : (g : Grammar) (path longer : List ℕ) (n : ℕ) → longer ≡ path ++ n ∷ [] → HasRoom (suc (length path)) g → HasRoom (length longer) g
child_room g path longer n e h =
    let l = length-append path (n ∷ []) in
    let m : suc (length path) ≡ length (path ++ n ∷ []) = omega (arith, l) in
    subst (λ (k : ℕ). HasRoom k g) (m ∙ ap length (sym e)) h

-- the room of what is inside a form
pub seq_room : (form : Form) (fields : Fields) (home : List ℕ) (k : ℕ) → form ≡ seq fields home → FormHasRoom k form → FieldsHaveRoom (suc k) fields
seq_room form fields home k e h = (let r : FormHasRoom k (seq fields home) = subst (FormHasRoom k) e h in r.1)

pub list_room : (form : Form) (sizing : Sizing) (g : Grammar) (k : ℕ) → form ≡ list sizing g → FormHasRoom k form → SizesAreSmall sizing × HasRoom (suc k) g
list_room form sizing g k e h = subst (FormHasRoom k) e h

pub choice_room : (form : Form) (cases : Alternatives) (rule : ChoiceRule) (k : ℕ) → form ≡ choice cases rule → FormHasRoom k form → AlternativesHaveRoom (suc k) cases
choice_room form cases rule k e h = subst (FormHasRoom k) e h

pub content_room : (form : Form) (sizing : Sizing) (g : Grammar) (k : ℕ) → form ≡ contained sizing g → FormHasRoom k form → HasRoom (suc k) g
content_room form sizing g k e h = subst (FormHasRoom k) e h

-- what a form that is another breaks
pub form_breaks : (o : Option Unfit) (form other : Form) (path : List ℕ) (d : Data) → form ≡ other → o ≡ first_of (form_breaches path other d) → o ≡ first_of (form_breaches path form d)
form_breaks o form other path d e a = a ∙ ap (λ (x : Form). first_of (form_breaches path x d)) (sym e)

pub node_breaks : (o : Option Unfit) (g : Grammar) (align : ℕ) (form : Form) (path : List ℕ) (d : Data) → g ≡ node align form → o ≡ first_of (form_breaches path form d) → o ≡ first_of (breaches path g d)
node_breaks o g align form path d e a = a ∙ ap (λ (x : Grammar). first_of (breaches path x d)) (sym e)

-- a node that holds one has it behind itself
pub child_inside : (steps : List Step) (i : ℕ) (s : Step) (a : Act) → Nested steps → StepAt steps i s → s.act ≡ a → (HoldsOne a i s.next → i + 1 < s.next) → i + 1 < length steps
child_inside steps i s a n h e f = (let q = n i s h in let l = f (subst (λ (b : Act). HoldsOne b i s.next) e q.holds) in let w = q.within in omega (arith, l, w))

pub some_step : (steps : List Step) → IsMade steps → 0 < length steps
some_step steps m =
    let l = node_length (root_of steps) Root 0 (root_of steps) in
    let p = some_nodes (root_of steps) (root_of steps) in
    let n = ap length m.said in
    omega (arith, l, p, n)
