-- Runs of numbers.
use Rattle.std.proofs.Common.{◌≡◌, ℕ, zero, suc, ◌+◌, ◌<◌, List, [], ◌∷◌, ◌++◌, length, drop, get_or, refl, sym, ap, subst, arith, true, ltb}
use Rattle.std.specs.Prelude.{Option, Some, slice_get, unwrap_or}
use Rattle.std.proofs.lemmas.Bool.Decides.{nat_tests}
use Rattle.acn_cut.specs.declared.stretch.Piece.{Piece}
use Rattle.acn_plan.specs.declared.step.Step.{Step}
use Rattle.acn_plan.specs.Runs.{ArePieces, IsPieceOf, IsRun, AreRuns}

-- one more
pub pieces_more : (n : ℕ) (ss : List Step) (ps : List Piece) (s : Step) (p : Piece) → length ps < length ss → s ≡ get_or ss (length ps) s → ArePieces n ss ps → IsPieceOf (n + length ps) s p → ArePieces n ss (ps ++ p ∷ [])
pieces_more n [] ps s p h e are one = absurd (omega (arith, h))
pieces_more n (t ∷ ss) [] s p h e are one = (subst (λ (x : Step). IsPieceOf n x p) e (let z : n + 0 ≡ n = omega arith in subst (λ (k : ℕ). IsPieceOf k s p) z one), tt)
pieces_more n (t ∷ ss) (q ∷ ps) s p h e are one =
    (are.0, pieces_more (n + 1) ss ps s p (omega (arith, h)) e are.1 (let z : n + suc (length ps) ≡ n + 1 + length ps = omega arith in subst (λ (k : ℕ). IsPieceOf k s p) z one))

pub no_pieces : (n : ℕ) (ss : List Step) → IsRun n ss []
no_pieces n ss = record { are = tt; few = omega arith }

-- what `get` says of a row that is there
below : (a b : ℕ) → true ≡ ltb a b → a < b
below a b h = grind (arith, nat_tests)

pub got : {A : Type 0} (xs : List A) (n : ℕ) (x : A) → true ≡ ltb n (length xs) → x ≡ get_or xs n x → slice_get xs n ≡ Some x
got {A = A} xs n x there is = found xs n (below n (length xs) there) is
  where
    found : (xs : List A) (n : ℕ) → n < length xs → x ≡ get_or xs n x → slice_get xs n ≡ Some x
    found [] n h is = absurd (omega (arith, h))
    found (y ∷ ys) zero h is = ap Some (sym is)
    found (y ∷ ys) (suc n) h is = found ys n (omega (arith, h)) is

-- one run more
pub runs_more : (steps : List Step) (runs : List (List Piece)) (run : List Piece) → AreRuns steps runs → IsRun (length runs) (drop (length runs) steps) run → AreRuns steps (runs ++ run ∷ [])
runs_more steps runs run all one i other got = at runs run i other got (λ h. all i other h) (λ h same. subst (λ (k : ℕ). IsRun k (drop k steps) other) (sym h) (subst (λ (x : List Piece). IsRun (length runs) (drop (length runs) steps) x) same one))
  where
    at : (runs : List (List Piece)) (run : List Piece) (i : ℕ) (other : List Piece) → slice_get (runs ++ run ∷ []) i ≡ Some other → {T : Type 0} → (slice_get runs i ≡ Some other → T) → (i ≡ length runs → run ≡ other → T) → T
    at [] run zero other got old new = new refl (ap (λ (o : Option (List Piece)). unwrap_or o run) got)
    at [] run (suc i) other got old new = absurd (cc got)
    at (r ∷ runs) run zero other got old new = old got
    at (r ∷ runs) run (suc i) other got old new = at runs run i other got old (λ h same. new (ap suc h) same)
