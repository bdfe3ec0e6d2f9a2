-- The steps of a look-up from module to module.
use Rattle.std.proofs.Common.{◌≡◌, ℕ, zero, suc, ◌<◌, ◌≤◌, Bool, Some, None, refl, arith}
use Rattle.acn_asn_syntax.specs.Mirror.{Assign}
use Rattle.acn_num.specs.Names.{Name}
use Rattle.acn_index.specs.World.{World}
use Rattle.acn_index.specs.Lookup.{own, imported_from, found_within}
use Rattle.acn_index.specs.declared.sources.TypeId.{TypeId}

module _ (w : World) (test : Assign → Bool) (name : Name) where
  pub lost : (n k : ℕ) → own w test k ≡ None → imported_from w name k ≡ None → found_within n w test name k ≡ None
  unfolding found_within
  lost zero k e i = refl
  lost (suc n) k e i = rw e (rw i refl)

  pub ends : (n k : ℕ) (p : TypeId) → 0 < n → own w test k ≡ Some p → found_within n w test name k ≡ Some p
  unfolding found_within
  ends zero k p lt e = absurd (omega arith)
  ends (suc n) k p lt e = rw e refl

  pub goes : (n m k j : ℕ) → n ≡ suc m → own w test k ≡ None → imported_from w name k ≡ Some j → found_within n w test name k ≡ found_within m w test name j
  unfolding found_within
  goes n m k j s e i = rw s (rw e (rw i refl))

  pub spent : (n k : ℕ) → n ≤ 0 → found_within n w test name k ≡ None
  unfolding found_within
  spent zero k le = refl
  spent (suc n) k le = absurd (omega arith)
