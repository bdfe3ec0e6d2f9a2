-- The numbers of the slots at home, by their determinants.
use Rattle.std.specs.Prelude.{◌≡◌, ℕ, ℤ, List, [], ◌∷◌, ◌++◌}
use Rattle.acn_asks.specs.Heard.{Hears}
use Rattle.acn_asks.specs.declared.asked.Asked.{Asked}
use Rattle.acn_determinants.specs.declared.homes.Determinant.{Determinant}
use Rattle.acn_grammar.specs.Asks.{Ask}
use Rattle.acn_grammar.specs.AsksOn.{LeastAnswer}

-- what was asked of the field of a determinant was heard, and this is the least number that meets it
pub record IsLeast (heard : List (List ℕ × Asked)) (path : List ℕ) (d : Determinant) (x : ℤ) : Type 0 where
  pub wanted : List Ask
  pub hears : Hears d.leaf.now.set wanted heard (path ++ d.steps)
  pub least : LeastAnswer d.leaf.now.set wanted x

-- the determinants are those of the slots, and each has its least number
abbrev pub AreLeast : (heard : List (List ℕ × Asked)) → (path : List ℕ) → List Determinant → (home : List ℕ) → List ℤ → Type 0
AreLeast heard path [] [] [] = Unit {0}
AreLeast heard path (d ∷ ds) (s ∷ home) (x ∷ xs) = (d.slot ≡ s) × IsLeast heard path d x × AreLeast heard path ds home xs
AreLeast heard path _ _ _ = ⊥
