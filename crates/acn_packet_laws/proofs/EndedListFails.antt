-- Failures of lists that are ended by a pattern that no element begins with.
use Rattle.std.proofs.Common.{◌≡◌, ℕ, zero, suc, ◌+◌, ◌<◌, ◌≤◌, pos, Bool, List, ◌++◌, length, take, sym, ap, ◌∙◌, arith, subst, length-append, max, IsTrue}
use Rattle.std.proofs.lemmas.List.{length-take}
use Rattle.acn_num.specs.Ranges.{In, greatest}
use Rattle.acn_grammar.specs.Fails.{Fault, Failing, Behind, Here, NoEnd, NextFails, EndedFails, pattern_cut, pattern_differs, full_not_permitted, full_not_ended, end_not_permitted, next_element_fails, fails_behind_next}
use Rattle.acn_grammar.specs.Grammar.{Data, Elements, no_elements, element, element_count}
use Rattle.acn_grammar.specs.Interval.{size_of}
use Rattle.acn_grammar.specs.Leaves.{sizes_fine}
use Rattle.acn_grammar.specs.Spell.{Part, ◌then◌, Exactly, RunPart}
use Rattle.acn_grammar.specs.declared.node.Sizing.{Sizing}
use Rattle.acn_grammar.proofs.Prefix.{Law}
use Rattle.acn_grammar.proofs.SpanLaw.{size_has}
use Rattle.acn_packet_laws.proofs.EndedLists.{Apart, first_of, alone}
use Rattle.acn_packet_laws.proofs.Exclusion.{Excl, Same, whole_of, excl_first, excl_behind, same_behind, clash_behind}
use Rattle.std.proofs.Math.Seq.{take-append_seam}

module _ (here : Here) (p : List Bool) (sizing : Sizing) (each other : Data → Part) where
  run_ends : (fails : ℕ → Failing) → ((d : Data) (k : ℕ) → Excl (each d) (fails k)) → ((d d' : Data) → Law (each d) (other d') (d ≡ d')) → Apart p each → Apart p other
      → (es : Elements) (n k m : ℕ) → m ≡ k + element_count es → In sizing.sizes (pos m) → element_count es ≤ n → Excl (RunPart each es then Exactly p) (EndedFails here p sizing other fails n k)
  run_ends fails h law x y no_elements zero k m c inside few at a r fault reach t (full_not_permitted f) =
      let is : m ≡ k = omega arith in
      f.refused (subst (λ (z : ℕ). In sizing.sizes (pos z)) is inside)
  run_ends fails h law x y no_elements zero k m c inside few at a r fault reach t (full_not_ended (pattern_cut f)) =
      let l = ap length (alone p at a t) in
      let w = length-append a r in
      let s = f.0 in
      absurd (omega arith)
  run_ends fails h law x y no_elements zero k m c inside few at a r fault reach t (full_not_ended (pattern_differs f)) =
      f.1 (ap (λ z. take (length p) (z ++ r)) (alone p at a t) ∙ take-append_seam p r)
  run_ends fails h law x y (element d es) zero k m c inside few at a r fault reach t f = absurd (omega arith)
  run_ends fails h law x y no_elements (suc n) k m c inside few at a r fault reach t (end_not_permitted f) =
      let is : m ≡ k = omega arith in
      f.refused (subst (λ (z : ℕ). In sizing.sizes (pos z)) is inside)
  run_ends fails h law x y no_elements (suc n) k m c inside few at a r fault reach t (next_element_fails f) =
      f.differs (ap (λ z. take (length p) (z ++ r)) (alone p at a t) ∙ take-append_seam p r)
  run_ends fails h law x y no_elements (suc n) k m c inside few at a r fault reach t (fails_behind_next f) =
      y f.0 at f.1.front f.1.back f.1.spelled (ap (take (length p)) (sym f.1.whole ∙ ap (λ z. z ++ r) (alone p at a t)) ∙ take-append_seam p r)
  run_ends fails h law x y (element d es) (suc n) k m c inside few at a r fault reach t (end_not_permitted f) =
      let w = first_of at a t in
      x d at w.front (w.back ++ r) w.first (ap (take (length p)) (sym (whole_of a w.front w.back r w.whole)) ∙ f.stands)
  run_ends fails h law x y (element d es) (suc n) k m c inside few at a r fault reach t (next_element_fails f) =
      excl_first {P = each d} {P2 = RunPart each es then Exactly p} (fails k) (h d k) at a r fault f.inner (first_of at a t) f.fails
  run_ends fails h law x y (element d es) (suc n) k m c inside few at a r fault reach t (fails_behind_next f) =
      excl_behind (law d f.0) (λ _. run_ends fails h law x y es n (suc k) m (omega arith) inside (omega arith)) at a r fault reach (first_of at a t) f.1

module _ (here : Here) (p : List Bool) (sizing : Sizing) where
  -- elements and the pattern behind them exclude a failure
  pub ended_excl : IsTrue (sizes_fine sizing.sizes) → (each other : Data → Part) (fails : ℕ → Failing) → ((d : Data) (k : ℕ) → Excl (each d) (fails k)) → ((d d' : Data) → Law (each d) (other d') (d ≡ d')) → Apart p each → Apart p other
      → (es : Elements) → In sizing.sizes (pos (element_count es)) → Excl (RunPart each es then Exactly p) (EndedFails here p sizing other fails (size_of (greatest sizing.sizes)) 0)
  ended_excl fine each other fails h law x y es inside =
      run_ends here p sizing each other fails h law x y es (size_of (greatest sizing.sizes)) 0 (element_count es) (omega arith) inside (size_has sizing.sizes (element_count es) fine inside).1

  too_few : (rest : List Bool) → length rest < length p → take (length p) rest ≡ p → ⊥
  too_few rest short e = omega (arith, length-take (length p) rest, ap length e)

  no_end_same : Same (NoEnd here p) (NoEnd here p)
  no_end_same at rest f g m n (pattern_cut a) (pattern_cut b) = (a.1 ∙ sym b.1, a.2 ∙ sym b.2)
  no_end_same at rest f g m n (pattern_cut a) (pattern_differs b) = let s = a.0 in let t = b.0 in absurd (omega arith)
  no_end_same at rest f g m n (pattern_differs a) (pattern_cut b) = let s = a.0 in let t = b.0 in absurd (omega arith)
  no_end_same at rest f g m n (pattern_differs a) (pattern_differs b) = (a.2 ∙ sym b.2, a.3 ∙ sym b.3)

  end_and_none : (rest : List Bool) (g : Fault) (n at : ℕ) → take (length p) rest ≡ p → NoEnd here p at rest g n → ⊥
  end_and_none rest g n at e (pattern_cut b) = too_few rest b.0 e
  end_and_none rest g n at e (pattern_differs b) = b.1 e

  next_same : (F G : Failing) → Same F G → Same (NextFails p F) (NextFails p G)
  next_same F G h at rest f g m n a b =
      let one = h at rest f g a.inner b.inner a.fails b.fails in
      (one.0, a.reaches ∙ (ap (λ z. max (length p) z) one.1 ∙ sym b.reaches))

  begun : (each : Data → Part) → Apart p each → (d : Data) (F : Failing) (at : ℕ) (rest : List Bool) (f : Fault) (m : ℕ) → Behind (each d) F at rest f m → take (length p) rest ≡ p → ⊥
  begun each x d F at rest f m b e = x d at b.front b.back b.spelled (ap (take (length p)) (sym b.whole) ∙ e)

  pub ended_same : (each other : Data → Part) (fails fails' : ℕ → Failing) → ((k : ℕ) → Same (fails k) (fails' k)) → ((d : Data) (k : ℕ) → Excl (each d) (fails' k)) → ((d : Data) (k : ℕ) → Excl (other d) (fails k)) → ((d d' : Data) → Law (each d) (other d') (d ≡ d')) → Apart p each → Apart p other
      → (n k : ℕ) → Same (EndedFails here p sizing each fails n k) (EndedFails here p sizing other fails' n k)
  ended_same each other fails fails' h x y law u v zero k at rest f g m l (full_not_permitted a) (full_not_permitted b) = (a.says ∙ sym b.says, a.reaches ∙ sym b.reaches)
  ended_same each other fails fails' h x y law u v zero k at rest f g m l (full_not_permitted a) (full_not_ended b) = absurd (end_and_none rest g l at a.stands b)
  ended_same each other fails fails' h x y law u v zero k at rest f g m l (full_not_ended a) (full_not_permitted b) = absurd (end_and_none rest f m at b.stands a)
  ended_same each other fails fails' h x y law u v zero k at rest f g m l (full_not_ended a) (full_not_ended b) = no_end_same at rest f g m l a b
  ended_same each other fails fails' h x y law u v (suc n) k at rest f g m l (end_not_permitted a) (end_not_permitted b) = (a.says ∙ sym b.says, a.reaches ∙ sym b.reaches)
  ended_same each other fails fails' h x y law u v (suc n) k at rest f g m l (end_not_permitted a) (next_element_fails b) = absurd (b.differs a.stands)
  ended_same each other fails fails' h x y law u v (suc n) k at rest f g m l (end_not_permitted a) (fails_behind_next b) = absurd (begun other v b.0 (EndedFails here p sizing other fails' n (suc k)) at rest g l b.1 a.stands)
  ended_same each other fails fails' h x y law u v (suc n) k at rest f g m l (next_element_fails a) (end_not_permitted b) = absurd (a.differs b.stands)
  ended_same each other fails fails' h x y law u v (suc n) k at rest f g m l (fails_behind_next a) (end_not_permitted b) = absurd (begun each u a.0 (EndedFails here p sizing each fails n (suc k)) at rest f m a.1 b.stands)
  ended_same each other fails fails' h x y law u v (suc n) k at rest f g m l (next_element_fails a) (next_element_fails b) = next_same (fails k) (fails' k) (h k) at rest f g m l a b
  ended_same each other fails fails' h x y law u v (suc n) k at rest f g m l (next_element_fails a) (fails_behind_next b) = absurd (clash_behind (fails k) (y b.0 k) at rest f g a.inner l a.fails b.1)
  ended_same each other fails fails' h x y law u v (suc n) k at rest f g m l (fails_behind_next a) (next_element_fails b) = absurd (clash_behind (fails' k) (x a.0 k) at rest g f b.inner m b.fails a.1)
  ended_same each other fails fails' h x y law u v (suc n) k at rest f g m l (fails_behind_next a) (fails_behind_next b) =
      same_behind (law a.0 b.0) (λ _. ended_same each other fails fails' h x y law u v n (suc k)) at rest f g m l a.1 b.1
