-- The alternative of an index, by the numbers of the steps of all.
use Rattle.std.proofs.Common.{◌≡◌, ℕ, zero, suc, ◌+◌, ◌-◌, ◌<◌, ◌≤◌, List, length, Option, Some, None, refl, sym, ap, ◌∙◌, subst, arith}
use Rattle.std.specs.Prelude.{slice_get}
use Rattle.acn_grammar.specs.Grammar.{Alternatives}
use Rattle.acn_plan.specs.Back.{StepAt, Nested, node_at, cases_at, case_places}
use Rattle.acn_plan.specs.Made.{IsMade}
use Rattle.acn_plan.specs.declared.step.Act.TheVariants as acts
use Rattle.acn_plan.specs.declared.step.Cases.{Cases}
use Rattle.acn_plan.specs.declared.step.Step.{Step}
use Rattle.acn_plan.proofs.Mades.{made_nested, made_listed}
use Rattle.acn_plan.proofs.Marks.{cases_more, items_more, places_more, places_none}
use Rattle.acn_pack.specs.Parts.{nth_case, IsCase}
use Rattle.acn_pack.proofs.Cases.{case_first, case_later, none_left, some_number, no_number}
use Rattle.acn_pack.proofs.Levels.{step_there}

none_of_none : (steps : List Step) (k end i n : ℕ) → end ≤ k → slice_get (case_places steps k end) i ≡ Some n → ⊥
none_of_none steps k end i n h e = (let z = ap (λ (xs : List ℕ). slice_get xs i) (places_none steps k end h) in no_number n (sym z ∙ e))

module _ (steps : List Step) (nested : Nested steps) (end : ℕ) (within : end ≤ length steps) where
  first_case : (k n : ℕ) → k < end → slice_get (case_places steps k end) 0 ≡ Some n → IsCase steps k end 0 n
  first_case k n less e =
      (let st = step_there steps k (omega (arith, less, within)) in
      let s = st.0 in
      let up = (nested k s st.1).behind in
      let same = some_number k n (sym (ap (λ (xs : List ℕ). slice_get xs 0) (places_more steps k end s st.1 less up)) ∙ e) in
      subst (λ (m : ℕ). IsCase steps k end 0 m) same
      (record {
        step = s;
        at = st.1;
        from = omega arith;
        is = ap (λ (x : Alternatives). nth_case x 0) (cases_more steps k end s st.1 less up) ∙ case_first s.place (node_at steps k) (cases_at steps s.next end);
        item = ap (λ (xs : List (Option ℕ)). slice_get xs 0) (items_more steps k end s st.1 less up);
      }))

  later_case : (k i n : ℕ) → k < end → slice_get (case_places steps k end) (suc i) ≡ Some n → ((m : ℕ) → slice_get (case_places steps m end) i ≡ Some n → IsCase steps m end i n) → IsCase steps k end (suc i) n
  later_case k i n less e f =
      (let st = step_there steps k (omega (arith, less, within)) in
      let s = st.0 in
      let up = (nested k s st.1).behind in
      let r = f s.next (sym (ap (λ (xs : List ℕ). slice_get xs (suc i)) (places_more steps k end s st.1 less up)) ∙ e) in
      let from = r.from in
      record {
        step = r.step;
        at = r.at;
        from = omega (arith, up, from);
        is = ap (λ (x : Alternatives). nth_case x (suc i)) (cases_more steps k end s st.1 less up) ∙ (case_later s.place (node_at steps k) (cases_at steps s.next end) i ∙ r.is);
        item = ap (λ (xs : List (Option ℕ)). slice_get xs (suc i)) (items_more steps k end s st.1 less up) ∙ r.item;
      })

  -- the number at an index is that of its alternative's step
  pub is_case : (i k n : ℕ) → slice_get (case_places steps k end) i ≡ Some n → IsCase steps k end i n
  is_case zero k n e = by (end - k) refl
    where
      by : (d : ℕ) → d ≡ end - k → IsCase steps k end 0 n
      by zero h = absurd (none_of_none steps k end 0 n (omega (arith, h)) e)
      by (suc d) h = first_case k n (omega (arith, h)) e
  is_case (suc i) k n e = by (end - k) refl (λ m. is_case i m n)
    where
      by : (d : ℕ) → d ≡ end - k → ((m : ℕ) → slice_get (case_places steps m end) i ≡ Some n → IsCase steps m end i n) → IsCase steps k end (suc i) n
      by zero h f = absurd (none_of_none steps k end (suc i) n (omega (arith, h)) e)
      by (suc d) h f = later_case k i n (omega (arith, h)) e f

  first_none : (k : ℕ) → k < end → slice_get (case_places steps k end) 0 ≡ None → ⊥
  first_none k less e =
      (let st = step_there steps k (omega (arith, less, within)) in
      no_number k (sym e ∙ ap (λ (xs : List ℕ). slice_get xs 0) (places_more steps k end st.0 st.1 less (nested k st.0 st.1).behind)))

  later_none : (k i : ℕ) → k < end → slice_get (case_places steps k end) (suc i) ≡ None → ((m : ℕ) → slice_get (case_places steps m end) i ≡ None → nth_case (cases_at steps m end) i ≡ None) → nth_case (cases_at steps k end) (suc i) ≡ None
  later_none k i less e f =
      (let st = step_there steps k (omega (arith, less, within)) in
      let s = st.0 in
      let up = (nested k s st.1).behind in
      let r = f s.next (sym (ap (λ (xs : List ℕ). slice_get xs (suc i)) (places_more steps k end s st.1 less up)) ∙ e) in
      ap (λ (x : Alternatives). nth_case x (suc i)) (cases_more steps k end s st.1 less up) ∙ (case_later s.place (node_at steps k) (cases_at steps s.next end) i ∙ r))

  -- where there is no number there is no alternative
  pub no_case : (i k : ℕ) → slice_get (case_places steps k end) i ≡ None → nth_case (cases_at steps k end) i ≡ None
  no_case zero k e = by (end - k) refl
    where
      by : (d : ℕ) → d ≡ end - k → nth_case (cases_at steps k end) 0 ≡ None
      by zero h = none_left steps k end 0 (omega (arith, h))
      by (suc d) h = absurd (first_none k (omega (arith, h)) e)
  no_case (suc i) k e = by (end - k) refl (no_case i)
    where
      by : (d : ℕ) → d ≡ end - k → ((m : ℕ) → slice_get (case_places steps m end) i ≡ None → nth_case (cases_at steps m end) i ≡ None) → nth_case (cases_at steps k end) (suc i) ≡ None
      by zero h f = none_left steps k end (suc i) (omega (arith, h))
      by (suc d) h f = later_none k i (omega (arith, h)) e f

-- of the numbers that a CHOICE has
module _ (steps : List Step) (made : IsMade steps) (this : ℕ) (s : Step) (cases : Cases) (numbers : List ℕ) (at : StepAt steps this s) (act : s.act ≡ acts.Choice cases) (same : numbers ≡ cases.numbers) where
  abbrev pub OfNumbers : ((steps : List Step) → (first end : ℕ) → Type 0) → Type 0
  OfNumbers P = (steps : List Step) (first end : ℕ) → IsMade steps → end ≤ length steps → numbers ≡ case_places steps first end → P steps first end

  pub chosen_case : {i n : ℕ} → OfNumbers (λ steps first end. IsCase steps first end i n) → IsCase steps (this + 1) s.next i n
  chosen_case f = f steps (this + 1) s.next made (made_nested steps made this s at).within (same ∙ made_listed steps made this s cases at act)

  pub no_chosen : (i : ℕ) → OfNumbers (λ steps first end. nth_case (cases_at steps first end) i ≡ None) → nth_case (cases_at steps (this + 1) s.next) i ≡ None
  no_chosen i f = f steps (this + 1) s.next made (made_nested steps made this s at).within (same ∙ made_listed steps made this s cases at act)
