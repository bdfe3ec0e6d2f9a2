-- Parts that are made one after another, turn by turn of a loop.
use Rattle.std.proofs.Common.{◌≡◌, ℕ, suc, ◌+◌, ◌-◌, ◌<◌, ◌≤◌, List, [], ◌∷◌, ◌++◌, refl, sym, ◌∙◌, arith, append_assoc}
use Rattle.std.proofs.lemmas.List.{append-nil}
use Rattle.acn_tree.specs.Made.{Drawn, parts}

module _ {A : Type 0} (each : ℕ → Drawn A) where
  one_left : (n k : ℕ) → k < n → n - k ≡ suc (n - (k + 1))
  one_left n k h = omega arith

  none_left : (n k : ℕ) → n ≤ k → n - k ≡ 0
  none_left n k h = omega arith

  -- what is made and what is left give the whole
  pub value_turn : (n k s t : ℕ) (x : A) (done whole : List A) → k < n → x ≡ (each s).value → t ≡ (each s).state
      → done ++ (parts each (n - k) s).value ≡ whole → (done ++ x ∷ []) ++ (parts each (n - (k + 1)) t).value ≡ whole
  value_turn n k s t x done whole h e f same =
      let step : done ++ (parts each (n - k) s).value ≡ done ++ (x ∷ (parts each (n - (k + 1)) t).value) = rw (one_left n k h, e, f) refl in
      append_assoc done (x ∷ []) (parts each (n - (k + 1)) t).value ∙ (sym step ∙ same)

  pub state_turn : (n k s t whole : ℕ) → k < n → t ≡ (each s).state → (parts each (n - k) s).state ≡ whole → (parts each (n - (k + 1)) t).state ≡ whole
  state_turn n k s t whole h e same =
      let step : (parts each (n - k) s).state ≡ (parts each (n - (k + 1)) t).state = rw (one_left n k h, e) refl in
      sym step ∙ same

  pub value_done : (n k s : ℕ) (done whole : List A) → n ≤ k → done ++ (parts each (n - k) s).value ≡ whole → done ≡ whole
  value_done n k s done whole h same =
      let step : done ++ (parts each (n - k) s).value ≡ done = rw (none_left n k h) (append-nil done) in
      sym step ∙ same

  pub state_done : (n k s whole : ℕ) → n ≤ k → (parts each (n - k) s).state ≡ whole → s ≡ whole
  state_done n k s whole h same =
      let step : (parts each (n - k) s).state ≡ s = rw (none_left n k h) refl in
      sym step ∙ same
