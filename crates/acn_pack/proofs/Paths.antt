-- A path whose last step is taken away again.
use Rattle.std.proofs.Common.{◌≡◌, ℕ, List, [], ◌∷◌, ◌++◌, length, Option, Some, None, refl, sym, ap, ◌∙◌, arith, length-append}
use Rattle.std.specs.Prelude.{MatchOption}

tails : (x y : ℕ) (xs ys : List ℕ) → x ∷ xs ≡ y ∷ ys → xs ≡ ys
tails x y xs ys e = cc

heads : (x y : ℕ) (xs ys : List ℕ) → x ∷ xs ≡ y ∷ ys → x ≡ y
heads x y xs ys e = cc

same_front : (p r : List ℕ) (i s : ℕ) → p ++ i ∷ [] ≡ r ++ s ∷ [] → p ≡ r
same_front [] [] i s e = refl
same_front [] (y ∷ r) i s e = (let l = ap length e in let m = length-append r (s ∷ []) in absurd (omega (arith, l, m)))
same_front (x ∷ p) [] i s e = (let l = ap length e in let m = length-append p (i ∷ []) in absurd (omega (arith, l, m)))
same_front (x ∷ p) (y ∷ r) i s e =
    (let h = heads x y (p ++ i ∷ []) (r ++ s ∷ []) e in
    let t = same_front p r i s (tails x y (p ++ i ∷ []) (r ++ s ∷ []) e) in cc)

-- what `pop` leaves of a path that was one step longer
pub back : (p q r : List ℕ) (i : ℕ) (o : Option ℕ) → q ≡ p ++ i ∷ [] → MatchOption o ((q ≡ []) × (r ≡ [])) (λ s. q ≡ r ++ s ∷ []) → r ≡ p
back p q r i None e m = (let l = ap length (sym e ∙ m.0) in let n = length-append p (i ∷ []) in absurd (omega (arith, l, n)))
back p q r i (Some s) e m = sym (same_front p r i s (sym e ∙ m))
