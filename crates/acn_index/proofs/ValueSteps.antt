-- The steps along references of values.
use Rattle.std.proofs.Common.{◌≡◌, ℕ, zero, suc, ◌<◌, ◌≤◌, Option, Some, None, refl, sym, subst, arith}
use Rattle.acn_num.specs.Names.{Name}
use Rattle.acn_index.specs.World.{World}
use Rattle.acn_index.specs.Values.{Worth, refers, first_worth, referring, value_within}

module _ (w : World) where
  pub lost : (n k : ℕ) (name : Name) → first_worth w k name ≡ None → value_within n w k name ≡ None
  unfolding value_within
  lost zero k name e = refl
  lost (suc n) k name e = rw e refl

  pub ends : (n k : ℕ) (name : Name) (x : Worth) → 0 < n → first_worth w k name ≡ Some x → refers x.is ≡ None → value_within n w k name ≡ Some x
  unfolding value_within
  ends zero k name x lt e r = absurd (omega arith)
  ends (suc n) k name x lt e r = rw e (subst (λ (z : Option Name). referring (λ y other. value_within n w y.owner other) x z ≡ Some x) (sym r) refl)

  pub goes : (n m k : ℕ) (name : Name) (x : Worth) (other : Name) → n ≡ suc m → first_worth w k name ≡ Some x → refers x.is ≡ Some other → value_within n w k name ≡ value_within m w x.owner other
  unfolding value_within
  goes n m k name x other s e r = rw s (rw e (subst (λ (z : Option Name). referring (λ y next. value_within m w y.owner next) x z ≡ value_within m w x.owner other) (sym r) refl))

  pub spent : (n k : ℕ) (name : Name) → n ≤ 0 → value_within n w k name ≡ None
  unfolding value_within
  spent zero k name le = refl
  spent (suc n) k name le = absurd (omega arith)
