-- Ways down through SEQUENCEs that are always there, step by step.
use Rattle.std.proofs.Common.{◌≡◌, ◌⊎◌, inl, inr, ℕ, true, ◌&&◌, List, [], ◌∷◌, ◌++◌, sym, ap, subst, ◌∙◌}
use Rattle.std.specs.List.{list_any}
use Rattle.acn_grammar.specs.Tree.{is_seq}
use Rattle.acn_grammar.specs.Walk.{Stand}
use Rattle.acn_homes.specs.Homes.{Path, same, above}
use Rattle.acn_homes.specs.Laws.{Begins}
use Rattle.acn_home_laws.specs.Laws.{goes_on}
use Rattle.acn_home_laws.specs.Numbered.{always_there, IsPassed, IsWay}
use Rattle.acn_home_laws.proofs.Onward.{begins_on, begins_either, begins_above, begins_itself, above_step, fronts, not_back}

module _ (all : List Stand) where
  abbrev pub SeqAt : Path → Type 0
  SeqAt p = list_any (λ (at : Stand). same p at.path && is_seq at.form) all ≡ true

  abbrev pub AlwaysAt : Path → Type 0
  AlwaysAt p = list_any (λ (at : Stand). same p at.path && always_there at.role) all ≡ true

  -- a path from which one goes on by one step
  last_one : (from p path : Path) (k : ℕ) → path ≡ from ++ k ∷ [] → Begins from p → goes_on p path ≡ true → from ≡ p
  last_one from p path k e b g = by (begins_either from p b)
    where
      back : Begins p from
      back = subst (Begins p) (ap above e ∙ above_step from k) (begins_above p path g)

      by : (from ≡ p) ⊎ (goes_on from p ≡ true) → from ≡ p
      by (inl i) = i
      by (inr i) = absurd (not_back from p i back)

  first_passed : (from p : Path) → SeqAt from → from ≡ p → IsPassed all from p
  first_passed from p s e = record { sequence = subst SeqAt e s; always = λ g. absurd (not_back from p g (subst (Begins p) (sym e) (begins_itself p))) }

  pub way_one : (from path : Path) (k : ℕ) → path ≡ from ++ k ∷ [] → SeqAt from → IsWay all from path
  way_one from path k e s p b g = first_passed from p s (last_one from p path k e b g)

  pub way_more : (from mid path : Path) (k : ℕ) → mid ≡ from ++ k ∷ [] → SeqAt from → AlwaysAt mid → goes_on mid path ≡ true → IsWay all mid path → IsWay all from path
  way_more from mid path k e s a gm way p b g = by (fronts p mid path (begins_on p path g) (begins_on mid path gm))
    where
      later : Begins mid p → (mid ≡ p) ⊎ (goes_on mid p ≡ true) → IsPassed all from p
      later c (inl i) = record { sequence = (way p c g).sequence; always = λ j. subst AlwaysAt i a }
      later c (inr i) = record { sequence = (way p c g).sequence; always = λ j. (way p c g).always i }

      before : (p ≡ mid) ⊎ (goes_on p mid ≡ true) → IsPassed all from p
      before (inl i) = later (subst (Begins mid) (sym i) (begins_itself mid)) (inl (sym i))
      before (inr i) = first_passed from p s (last_one from p mid k e b i)

      by : Begins p mid ⊎ Begins mid p → IsPassed all from p
      by (inl c) = before (begins_either p mid c)
      by (inr c) = later c (begins_either mid p c)
