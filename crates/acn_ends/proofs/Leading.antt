-- Steps from place to place, one after another.
use Rattle.std.proofs.Common.{◌≡◌, ℕ, zero, suc, Option, Some, None, refl, sym, ap, subst, ◌∙◌}
use Rattle.std.specs.Prelude.{option_and_then}
use Rattle.acn_ends.specs.declared.spot.Spot.{Spot}
use Rattle.acn_ends.specs.declared.spot.End.{End}
use Rattle.acn_ends.specs.declared.spot.End.TheVariants as end
use Rattle.acn_ends.specs.declared.ends.Ends.{Ends}
use Rattle.acn_ends.specs.Ends.{after, EndsAt, IsEndless, IsRight, AreRight, end_of}

-- from one place to another by so many steps
pub data Leads (next : Spot → Option Spot) : ℕ → Spot → Spot → Type 0 where
  stays : {p : Spot} → Leads next 0 p p
  goes : {n : ℕ} {p q r : Spot} → next p ≡ Some q → Leads next n q r → Leads next (suc n) p r

module _ (next : Spot → Option Spot) where
  by_step : (n : ℕ) (p q : Spot) (o : Option Spot) → next p ≡ o → option_and_then (after next n) o ≡ Some q → ((r : Spot) → after next n r ≡ Some q → Leads next n r q) → Leads next (suc n) p q
  by_step n p q None e h more = absurd (cc h)
  by_step n p q (Some r) e h more = goes e (more r h)

  pub leads : (n : ℕ) (p q : Spot) → after next n p ≡ Some q → Leads next n p q
  unfolding after
  leads zero p q h = let same : p ≡ q = cc h in subst (λ (z : Spot). Leads next 0 p z) same stays
  leads (suc n) p q h = by_step n p q (next p) refl h (λ r. leads n r q)

  pub led : {n : ℕ} {p q : Spot} → Leads next n p q → after next n p ≡ Some q
  unfolding after
  led stays = refl
  led (goes {n} e l) = ap (option_and_then (after next n)) e ∙ led l

  -- one step less
  pub onward_endless : (p q : Spot) → next p ≡ Some q → IsEndless next p → IsEndless next q
  onward_endless p q step e = record { none = λ n r at. e.none (suc n) r (record { way = led (goes step (leads n q r at.way)); end = at.end }) }

  pub not_over : (p : Spot) → next p ≡ None → IsEndless next p → ⊥
  not_over p f e = e.none 0 p (record { way = led stays; end = f })

  -- of each end that is noted
  pub right_of : (ends : Ends) → AreRight next ends → (p : Spot) (e : End) → end_of ends p ≡ Some e → IsRight next p e
  right_of ends right p (end.At q n) f = right.0 p q n f
  right_of ends right p end.Never f = right.1 p f

  pub all_right : (ends : Ends) → ((p : Spot) (e : End) → end_of ends p ≡ Some e → IsRight next p e) → AreRight next ends
  all_right ends h = (λ p q n f. h p (end.At q n) f, λ p f. h p end.Never f)
