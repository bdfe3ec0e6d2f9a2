-- Alternatives, one behind another.
use Rattle.std.proofs.Common.{◌≡◌, ℕ, ℤ, zero, suc, ◌+◌, ◌-◌, ◌<◌, Bool, true, false, ◌≤◌, List, [], ◌∷◌, drop, Option, Some, length, refl, ap, ◌∙◌, arith}
use Rattle.acn_grammar.specs.Fails.{count_of}
use Rattle.acn_grammar.specs.Grammar.{Grammar, Alternatives, alternative}
use Rattle.acn_grammar.specs.declared.node.Test.{Test}
use Rattle.acn_reads.specs.Choices.{first_case, grammar_at}
use Rattle.acn_plan.specs.Back.{StepAt, cases_at, put_case}
use Rattle.acn_plan.specs.declared.step.Place.{Place}
use Rattle.acn_plan.specs.declared.step.Place.TheVariants as places
use Rattle.acn_plan.specs.declared.step.Step.{Step}
use Rattle.acn_unpack.specs.Items.{is_item, first_item}

pub one_case : (p : Place) (g : Grammar) (more : Alternatives) → count_of (put_case p g more) ≡ suc (count_of more)
one_case (places.Alternative name tests item) g more = refl
one_case places.Root g more = refl
one_case (places.Component name presence default slot) g more = refl
one_case (places.Inserted name slot) g more = refl
one_case places.Element g more = refl
one_case places.Content g more = refl

pub case_first : (p : Place) (g : Grammar) (more : Alternatives) → grammar_at (put_case p g more) 0 ≡ Some g
case_first (places.Alternative name tests item) g more = refl
case_first places.Root g more = refl
case_first (places.Component name presence default slot) g more = refl
case_first (places.Inserted name slot) g more = refl
case_first places.Element g more = refl
case_first places.Content g more = refl

pub case_later : (p : Place) (g : Grammar) (more : Alternatives) (i : ℕ) → grammar_at (put_case p g more) (suc i) ≡ grammar_at more i
case_later (places.Alternative name tests item) g more i = refl
case_later places.Root g more i = refl
case_later (places.Component name presence default slot) g more i = refl
case_later (places.Inserted name slot) g more i = refl
case_later places.Element g more i = refl
case_later places.Content g more i = refl

pub holds_case : (p : List ℕ → List Test → Bool) (i : ℕ) (name : List ℕ) (g : Grammar) (tests : List Test) (more : Alternatives) → p name tests ≡ true → first_case p i (alternative name g tests more) ≡ Some i
holds_case p i name g tests more e = rw e refl

pub fails_case : (p : List ℕ → List Test → Bool) (i : ℕ) (name : List ℕ) (g : Grammar) (tests : List Test) (more : Alternatives) → p name tests ≡ false → first_case p i (alternative name g tests more) ≡ first_case p (i + 1) more
fails_case p i name g tests more e = (let s : i + 1 ≡ suc i = omega arith in rw (e, s) refl)

pub step_there : (steps : List Step) (i : ℕ) → i < length steps → (s : Step) × StepAt steps i s
step_there [] i h = absurd (omega (arith, h))
step_there (x ∷ xs) zero h = (x, refl)
step_there (x ∷ xs) (suc i) h = (let r = step_there xs i (omega (arith, h)) in let e : suc (i + 1) ≡ suc i + 1 = omega arith in (r.0, r.1 ∙ ap (λ (m : ℕ). r.0 ∷ drop m (x ∷ xs)) e))

pub holds_item : (x : ℤ) (i : ℕ) (item : Option ℕ) (more : List (Option ℕ)) → is_item x item ≡ true → first_item x i (item ∷ more) ≡ Some i
holds_item x i item more e = rw e refl

pub fails_item : (x : ℤ) (i : ℕ) (item : Option ℕ) (more : List (Option ℕ)) → is_item x item ≡ false → first_item x i (item ∷ more) ≡ first_item x (i + 1) more
fails_item x i item more e = (let s : i + 1 ≡ suc i = omega arith in rw (e, s) refl)
