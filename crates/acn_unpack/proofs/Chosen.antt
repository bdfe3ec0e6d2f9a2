-- The alternative of an index, and how many there are, by the numbers of the steps of all.
use Rattle.std.proofs.Common.{◌≡◌, ℕ, zero, suc, ◌+◌, ◌-◌, ◌<◌, ◌≤◌, List, [], ◌∷◌, length, get_or, Option, Some, None, refl, sym, ap, ◌∙◌, subst, arith}
use Rattle.std.specs.Prelude.{slice_get}
use Rattle.acn_grammar.specs.Fails.{count_of}
use Rattle.acn_grammar.specs.Grammar.{Alternatives}
use Rattle.acn_plan.specs.Back.{Nested, node_at, cases_at, case_places}
use Rattle.acn_plan.specs.declared.step.Step.{Step}
use Rattle.acn_plan.proofs.Marks.{cases_more, cases_none, places_more, places_none}
use Rattle.acn_reads.specs.Choices.{grammar_at}
use Rattle.acn_unpack.specs.Items.{IsCase}
use Rattle.acn_unpack.proofs.Cases.{one_case, case_first, case_later, step_there}

no_number : (a : ℕ) → ◌≡◌ {A = Option ℕ} None (Some a) → ⊥
no_number a e = cc

none_of_none : (steps : List Step) (k end i n : ℕ) → end ≤ k → slice_get (case_places steps k end) i ≡ Some n → ⊥
none_of_none steps k end i n h e = (let z = ap (λ (xs : List ℕ). slice_get xs i) (places_none steps k end h) in no_number n (sym z ∙ e))

some_number : (a b : ℕ) → ◌≡◌ {A = Option ℕ} (Some a) (Some b) → a ≡ b
some_number a b e = cc

pub number_there : (xs : List ℕ) (i other : ℕ) → i < length xs → slice_get xs i ≡ Some (get_or xs i other)
number_there [] i other h = absurd (omega (arith, h))
number_there (x ∷ xs) zero other h = refl
number_there (x ∷ xs) (suc i) other h = number_there xs i other (omega (arith, h))

module _ (steps : List Step) (nested : Nested steps) (end : ℕ) (within : end ≤ length steps) where
  first_case : (k n : ℕ) → k < end → slice_get (case_places steps k end) 0 ≡ Some n → IsCase steps k end 0 n
  first_case k n less e =
      (let st = step_there steps k (omega (arith, less, within)) in
      let s = st.0 in
      let up = (nested k s st.1).behind in
      let same = some_number k n (sym (ap (λ (xs : List ℕ). slice_get xs 0) (places_more steps k end s st.1 less up)) ∙ e) in
      subst (λ (m : ℕ). IsCase steps k end 0 m) same
      (record { from = omega arith; inside = omega (arith, less, within); is = ap (λ (x : Alternatives). grammar_at x 0) (cases_more steps k end s st.1 less up) ∙ case_first s.place (node_at steps k) (cases_at steps s.next end) }))

  later_case : (k i n : ℕ) → k < end → slice_get (case_places steps k end) (suc i) ≡ Some n → ((m : ℕ) → slice_get (case_places steps m end) i ≡ Some n → IsCase steps m end i n) → IsCase steps k end (suc i) n
  later_case k i n less e f =
      (let st = step_there steps k (omega (arith, less, within)) in
      let s = st.0 in
      let up = (nested k s st.1).behind in
      let r = f s.next (sym (ap (λ (xs : List ℕ). slice_get xs (suc i)) (places_more steps k end s st.1 less up)) ∙ e) in
      let from = r.from in
      record { from = omega (arith, up, from); inside = r.inside; is = ap (λ (x : Alternatives). grammar_at x (suc i)) (cases_more steps k end s st.1 less up) ∙ (case_later s.place (node_at steps k) (cases_at steps s.next end) i ∙ r.is) })

  -- the number at an index is that of its alternative's step
  pub is_case : (i k n : ℕ) → slice_get (case_places steps k end) i ≡ Some n → IsCase steps k end i n
  is_case zero k n e = by (end - k) refl
    where
      by : (d : ℕ) → d ≡ end - k → IsCase steps k end 0 n
      by zero h = absurd (none_of_none steps k end 0 n (omega (arith, h)) e)
      by (suc d) h = first_case k n (omega (arith, h)) e
  is_case (suc i) k n e = by (end - k) refl (λ m. is_case i m n)
    where
      by : (d : ℕ) → d ≡ end - k → ((m : ℕ) → slice_get (case_places steps m end) i ≡ Some n → IsCase steps m end i n) → IsCase steps k end (suc i) n
      by zero h f = absurd (none_of_none steps k end (suc i) n (omega (arith, h)) e)
      by (suc d) h f = later_case k i n (omega (arith, h)) e f

  -- there are as many numbers as alternatives
  count_from : (d k : ℕ) → end ≤ k + d → length (case_places steps k end) ≡ count_of (cases_at steps k end)
  count_from zero k h = (let le : end ≤ k = omega (arith, h) in ap length (places_none steps k end le) ∙ sym (ap count_of (cases_none steps k end le)))
  count_from (suc d) k h = by (end - k) refl (count_from d)
    where
      by : (l : ℕ) → l ≡ end - k → ((m : ℕ) → end ≤ m + d → length (case_places steps m end) ≡ count_of (cases_at steps m end)) → length (case_places steps k end) ≡ count_of (cases_at steps k end)
      by zero e f = (let le : end ≤ k = omega (arith, e) in ap length (places_none steps k end le) ∙ sym (ap count_of (cases_none steps k end le)))
      by (suc l) e f =
          (let less : k < end = omega (arith, e) in
          let st = step_there steps k (omega (arith, less, within)) in
          let s = st.0 in
          let up = (nested k s st.1).behind in
          ap length (places_more steps k end s st.1 less up)
          ∙ (ap suc (f s.next (omega (arith, up, h)))
          ∙ sym (ap count_of (cases_more steps k end s st.1 less up) ∙ one_case s.place (node_at steps k) (cases_at steps s.next end))))

  pub cases_counted : (k : ℕ) → length (case_places steps k end) ≡ count_of (cases_at steps k end)
  cases_counted k = count_from end k (omega arith)
