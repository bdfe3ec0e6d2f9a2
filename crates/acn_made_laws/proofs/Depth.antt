-- How deep a site stands, and what stands below it.
use Rattle.std.proofs.Common.{◌≡◌, ℕ, suc, ◌+◌, ◌≤◌, nat_lt, false, List, [], ◌∷◌, ◌++◌, length, length-append, refl, ap, arith}
use Rattle.std.specs.List.{AllByRecursion}
use Rattle.std.proofs.lemmas.Bool.Decides.{nat_tests}
use Rattle.acn_index.specs.World.{World}
use Rattle.acn_made_laws.proofs.Fine.{FineSite}
use Rattle.acn_reasons.specs.Braced.{unless_fit, has_no_such_field}
use Rattle.acn_sites.specs.Sites.{Site, Placed, base_of, below, inside_of, sites_in, sites_below}

abbrev pub FineAll : World → List Placed → Type 0
FineAll w ps = AllByRecursion (λ (p : Placed). FineSite w p.site) ps

pub split_all : (P : Placed → Type 0) (a b : List Placed) → AllByRecursion P (a ++ b) → AllByRecursion P a × AllByRecursion P b
split_all P [] b h = (tt, h)
split_all P (x ∷ a) b h = (let r = split_all P a b h.1 in ((h.0, r.0), r.1))

pub one_longer : (p : List ℕ) (k n : ℕ) (q : List ℕ) → q ≡ p ++ k ∷ [] → suc (length p) + n ≡ 65 → length q + n ≡ 65
one_longer p k n q e h = (let a = ap (λ (z : List ℕ). length z) e in let b = length-append p (k ∷ []) in omega (arith, a, b, h))

pub too_long : (m n : ℕ) → nat_lt 64 m ≡ false → m + n ≡ 65 → n ≡ 0 → ⊥
too_long m n h k e = (let b = below m h in omega (arith, b, k, e))
  where
    below : (m : ℕ) → nat_lt 64 m ≡ false → m ≤ 64
    below m h = grind (arith, nat_tests)

pub below_is : (w : World) (s : Site) → sites_below w s ≡ sites_in w s (inside_of (base_of s))
unfolding sites_below
below_is w s = refl

pub braces_fit : (w : World) (s : Site) → has_no_such_field s ≡ false → unless_fit (base_of s) (below w s).braces ≡ false
unfolding has_no_such_field
braces_fit w s h = h
