-- Elements that are made one after another, as a list.
use Rattle.std.proofs.Common.{◌≡◌, ℕ, zero, suc, ◌+◌, ◌-◌, ◌<◌, ◌≤◌, nat_eq, Bool, true, false, ◌&&◌, List, [], ◌∷◌, ◌++◌, Option, Some, None, refl, sym, ap, ◌∙◌, arith, append_assoc}
use Rattle.std.specs.Prelude.{if◌then◌else◌, option_map}
use Rattle.std.proofs.lemmas.List.{append-nil}
use Rattle.acn_grammar.specs.Grammar.{Data, Elements, no_elements}
use Rattle.acn_grammar.specs.View.{elements_of}
use Rattle.acn_extreme_laws.specs.Best.{Way, element_way, with_element, adds_nothing, run_way}

abbrev pub first_then : Option (Way Data) → (ℕ → Option (Way (List Data))) → Option (Way (List Data))
first_then None next = None
first_then (Some w) next = option_map (λ v. (v.0, w.1 ∷ v.1)) (next w.0)

abbrev pub run_left : (enough : ℕ → Bool) → (ℕ → Option (Way Data)) → ℕ → (k at : ℕ) → Option (Way (List Data))
run_left enough each zero k at = Some (at, [])
run_left enough each (suc n) k at = if adds_nothing (each at) at && enough k then Some (at, []) else first_then (each at) (run_left enough each n (suc k))

-- these elements, and those of what is left
abbrev pub with_run : List Data → Option (Way (List Data)) → Option (Way (List Data))
with_run done None = None
with_run done (Some w) = Some (w.0, done ++ w.1)

abbrev pub as_elements : Way (List Data) → Way Elements
as_elements w = (w.0, elements_of w.1)

-- the same as elements
pub run_elements : (enough : ℕ → Bool) (each : ℕ → Option (Way Data)) (n k at : ℕ) → option_map as_elements (run_left enough each n k at) ≡ run_way enough each n k at
run_elements enough each zero k at = refl
run_elements enough each (suc n) k at = by (adds_nothing (each at) at && enough k) (next (each at) (λ m. run_elements enough each n (suc k) m))
  where
    put : (d : Data) (o : Option (Way (List Data))) → option_map as_elements (option_map (λ v. (v.0, d ∷ v.1)) o) ≡ element_way d (option_map as_elements o)
    put d None = refl
    put d (Some v) = refl

    next : (o : Option (Way Data)) → ((m : ℕ) → option_map as_elements (run_left enough each n (suc k) m) ≡ run_way enough each n (suc k) m) → option_map as_elements (first_then o (run_left enough each n (suc k))) ≡ with_element o (run_way enough each n (suc k))
    next None again = refl
    next (Some w) again = put w.1 (run_left enough each n (suc k) w.0) ∙ ap (element_way w.1) (again w.0)

    by : (b : Bool) → option_map as_elements (first_then (each at) (run_left enough each n (suc k))) ≡ with_element (each at) (run_way enough each n (suc k))
        → option_map as_elements (if b then Some (at, []) else first_then (each at) (run_left enough each n (suc k))) ≡ (if b then Some (at, no_elements) else with_element (each at) (run_way enough each n (suc k)))
    by true e = refl
    by false e = e

one_left : (n k : ℕ) → k < n → n - k ≡ suc (n - (k + 1))
one_left n k h = omega arith

none_left : (n k : ℕ) → n ≤ k → n - k ≡ 0
none_left n k h = omega arith

module _ (enough : ℕ → Bool) (each : ℕ → Option (Way Data)) where
  left_is : (n k at : ℕ) → k < n → run_left enough each (n - k) k at ≡ (if adds_nothing (each at) at && enough k then Some (at, []) else first_then (each at) (run_left enough each (n - (k + 1)) (suc k)))
  left_is n k at h = rw (one_left n k h) refl

  -- an element more
  pub run_turn : (n k at : ℕ) (w : Way Data) (done : List Data) (whole : Option (Way (List Data))) → k < n → Some w ≡ each at → (nat_eq w.0 at && enough k) ≡ false
      → with_run done (run_left enough each (n - k) k at) ≡ whole → with_run (done ++ w.1 ∷ []) (run_left enough each (n - (k + 1)) (k + 1) w.0) ≡ whole
  run_turn n k at w done whole h e more same =
      let step : run_left enough each (n - k) k at ≡ option_map (λ v. (v.0, w.1 ∷ v.1)) (run_left enough each (n - (k + 1)) (suc k) w.0) = left_is n k at h ∙ rw (← e, more) refl in
      ap (λ m. with_run (done ++ w.1 ∷ []) (run_left enough each (n - (k + 1)) m w.0)) (one k) ∙ (by (run_left enough each (n - (k + 1)) (suc k) w.0) ∙ (ap (with_run done) (sym step) ∙ same))
    where
      one : (k : ℕ) → k + 1 ≡ suc k
      one k = omega arith

      by : (o : Option (Way (List Data))) → with_run (done ++ w.1 ∷ []) o ≡ with_run done (option_map (λ v. (v.0, w.1 ∷ v.1)) o)
      by None = refl
      by (Some v) = ap (λ ds. Some (v.0, ds)) (append_assoc done (w.1 ∷ []) v.1)

  -- no element more: those that were made are enough
  pub run_enough : (n k at : ℕ) (w : Way Data) (done : List Data) (whole : Option (Way (List Data))) → k < n → Some w ≡ each at → (nat_eq w.0 at && enough k) ≡ true
      → with_run done (run_left enough each (n - k) k at) ≡ whole → Some (at, done) ≡ whole
  run_enough n k at w done whole h e stop same =
      let step : run_left enough each (n - k) k at ≡ Some (at, []) = left_is n k at h ∙ rw (← e, stop) refl in
      ap (λ ds. Some (at, ds)) (sym (append-nil done)) ∙ (ap (with_run done) (sym step) ∙ same)

  -- no element more: there is none
  pub run_stops : (n k at : ℕ) (done : List Data) (whole : Option (Way (List Data))) → k < n → None ≡ each at → with_run done (run_left enough each (n - k) k at) ≡ whole → None ≡ whole
  run_stops n k at done whole h e same =
      let step : run_left enough each (n - k) k at ≡ None = left_is n k at h ∙ rw (← e) refl in
      ap (with_run done) (sym step) ∙ same

  pub run_done : (n k at : ℕ) (done : List Data) (whole : Option (Way (List Data))) → n ≤ k → with_run done (run_left enough each (n - k) k at) ≡ whole → Some (at, done) ≡ whole
  run_done n k at done whole h same =
      let step : with_run done (run_left enough each (n - k) k at) ≡ Some (at, done) = rw (none_left n k h) (ap (λ ds. Some (at, ds)) (append-nil done)) in
      sym step ∙ same

  run_nothing : (o : Option (Way (List Data))) → with_run [] o ≡ o
  run_nothing None = refl
  run_nothing (Some w) = refl

  -- what is told at the end
  pub run_told : (n at : ℕ) (done : List Data) (end : ℕ) → Some (end, done) ≡ with_run [] (run_left enough each n 0 at) → Some (end, elements_of done) ≡ run_way enough each n 0 at
  run_told n at done end e = ap (option_map as_elements) (e ∙ run_nothing (run_left enough each n 0 at)) ∙ run_elements enough each n 0 at

  pub run_stop : (n at : ℕ) → None ≡ with_run [] (run_left enough each n 0 at) → None ≡ run_way enough each n 0 at
  run_stop n at e = ap (option_map as_elements) (e ∙ run_nothing (run_left enough each n 0 at)) ∙ run_elements enough each n 0 at
