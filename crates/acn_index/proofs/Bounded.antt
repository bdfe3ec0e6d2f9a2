-- Steps that end pass no more assignments than there are, since none is passed twice.
use Rattle.std.proofs.Common.{◌≡◌, ℕ, zero, suc, ◌<◌, List, length, map, Option, None, subst, arith, inl, inr}
use Rattle.acn_ends.specs.declared.spot.Spot.{Spot}
use Rattle.acn_ends.specs.Laws.{EndlessWaysHaveNoEnd}
use Rattle.acn_ends.proofs.Leading.{Leads, stays, goes, led}
use Rattle.acn_index.specs.World.{World, places, count}
use Rattle.acn_graph.specs.Graph.{Among}
use Rattle.acn_index.specs.Steps.{spot_of, place_at}
use Rattle.acn_index.proofs.Left.{without, every_place, mapped_in}
use Rattle.acn_index.proofs.Sizes.{length_map}

module _ (endless : EndlessWaysHaveNoEnd) (next : Spot → Option Spot) where
  fewer : (n : ℕ) (p e : Spot) (left : List Spot) → Leads next n p e → next e ≡ None → ((m : ℕ) (q : Spot) → Leads next m p q → Among q left) → n < length left
  fewer zero p e left stays f all = let h = without left (all 0 p stays) in let a = h.1 in omega (arith, a)
  fewer (suc n) p e left (goes {q = q} s l) f all =
      let rest = without left (all 0 p stays) in
      let kept_all : (m : ℕ) (u : Spot) → Leads next m q u → Among u rest.0 = λ m u h. elim (rest.2 u (all (suc m) u (goes s h))) [
        | inl same ↦ absurd ((endless next m p (led next (goes s (subst (λ (z : Spot). Leads next m q z) same h)))).none (suc n) e (record { way = led next (goes s l); end = f }))
        | inr inside ↦ inside
      ] in
      let less = fewer n q e rest.0 l f kept_all in
      let a = rest.1 in omega (arith, a, less)

  -- where each place to which steps lead is an assignment
  pub fewer_than_all : (w : World) (n : ℕ) (p e : Spot) → Leads next n p e → next e ≡ None → ((m : ℕ) (q : Spot) → Leads next m p q → Among (place_at q) (places w)) → n < count w
  fewer_than_all w n p e l f all =
      let most = fewer n p e (map spot_of (places w)) l f (λ m q h. mapped_in spot_of (all m q h)) in
      let long = length_map spot_of (places w) in
      let whole = every_place w in
      omega (arith, most, long, whole)
