-- The number of a name stands at the place that was noted for it.
use Rattle.std.proofs.Common.{◌≡◌, ℕ, suc, ◌+◌, Bool, true, false, List, [], ◌∷◌, Option, Some, None, refl, ap, ◌∙◌, arith}
use Rattle.std.specs.Prelude.{cond, find, option_map}
use Rattle.std.specs.Str.{bytes_eq}
use Rattle.acn_num.specs.Names.{Name}
use Rattle.acn_firsts.specs.Placed.{place_of}
use Rattle.acn_written.specs.Items.{Numbered}
use Rattle.acn_written.specs.Numbers.{number_named}
use Rattle.acn_written.specs.View.{placed, number_there}

moved : (b : Bool) (i : ℕ) (o : Option ℕ) → cond b (Some (i + 1)) (option_map suc o) ≡ option_map suc (cond b (Some i) o)
moved true i o = ap Some (omega arith)
moved false i o = refl

later : (q : Name) (i : ℕ) (gs : List Numbered) → place_of q (placed (i + 1) gs) ≡ option_map suc (place_of q (placed i gs))
unfolding place_of
later q i [] = refl
later q i (g ∷ gs) = ap (cond (bytes_eq q g.0) (Some (i + 1))) (later q (i + 1) gs) ∙ moved (bytes_eq q g.0) i (place_of q (placed (i + 1) gs))

step : (g : Numbered) (gs : List Numbered) (b : Bool) (o : Option ℕ) (f : Option Numbered) → number_there gs o ≡ option_map (λ (x : Numbered). x.1) f → number_there (g ∷ gs) (cond b (Some 0) (option_map suc o)) ≡ option_map (λ (x : Numbered). x.1) (cond b (Some g) f)
step g gs true o f h = refl
step g gs false None f h = h
step g gs false (Some k) f h = h

found : (q : Name) (gs : List Numbered) → number_there gs (place_of q (placed 0 gs)) ≡ number_named gs q
unfolding place_of
found q [] = refl
found q (g ∷ gs) =
    ap (λ (o : Option ℕ). number_there (g ∷ gs) (cond (bytes_eq q g.0) (Some 0) o)) (later q 0 gs)
    ∙ step g gs (bytes_eq q g.0) (place_of q (placed 0 gs)) (find (λ (x : Numbered). bytes_eq q x.0) gs) (found q gs)

pub number_noted : (gs : List Numbered) (q : Name) (o : Option ℕ) → o ≡ place_of q (placed 0 gs) → number_there gs o ≡ number_named gs q
number_noted gs q o e = ap (number_there gs) e ∙ found q gs
