-- What a bound finds is where references end, and the other way round.
use Rattle.std.proofs.Common.{◌≡◌, ℕ, zero, suc, Option, Some, None, refl, subst}
use Rattle.std.specs.Prelude.{option_and_then}
use Rattle.acn_num.specs.Names.{Name}
use Rattle.acn_index.specs.World.{World, count}
use Rattle.acn_index.specs.Lookup.{value_named, is_value}
use Rattle.acn_index.specs.Values.{Worth, worth_at, refers, first_worth, referring, onward, value_within, value_of}
use Rattle.acn_index.specs.Leading.{Leads, LookupsFindWhatNamesLeadTo}
use Rattle.acn_index.specs.declared.sources.TypeId.{TypeId}
use Rattle.acn_value_laws.specs.Ending.{EndsAtValue, by_value, by_reference, IsFoundWhereReferencesEnd}
use Rattle.acn_value_laws.proofs.Counted.{Away, here, over, fewer_than_all, reached}

module _ (w : World) (lookups : LookupsFindWhatNamesLeadTo) where
  named : (n k : ℕ) (name : Name) (p : TypeId) → Leads w (is_value name) name n k p → value_named w k name ≡ Some p
  unfolding value_named
  named n k name p l = (lookups w (is_value name) name k p).leads_found n l

  led : (k : ℕ) (name : Name) (p : TypeId) → value_named w k name ≡ Some p → (n : ℕ) × Leads w (is_value name) name n k p
  unfolding value_named
  led k name p e = (lookups w (is_value name) name k p).found_leads e

  -- ---- what ends is found

  record Counted (k : ℕ) (name : Name) (x : Worth) : Type 0 where
    references : ℕ
    place : TypeId
    is_named : value_named w k name ≡ Some place
    away : Away w references place x

  counted : {k : ℕ} {name : Name} {x : Worth} → EndsAtValue w k name x → Counted k name x
  counted (by_value {n} {k} {name} {p} {x} l e f) = record { references = 0; place = p; is_named = named n k name p l; away = here e f }
  counted (by_reference {n} {k} {name} {other} {p} {x} {y} l e f rest) =
      let h = counted rest in
      record { references = suc h.references; place = p; is_named = named n k name p l; away = over e f h.is_named h.away }

  ends_found : (k : ℕ) (name : Name) (x : Worth) → EndsAtValue w k name x → value_of w k name ≡ Some x
  unfolding value_of
  ends_found k name x e =
      let h = counted e in
      reached w h.references (count w) k name h.place x (fewer_than_all w h.references h.place x h.away) h.is_named h.away

  -- ---- what is found ends

  abbrev behind : ℕ → Worth → Name → Option Worth
  behind n x other = value_within n w x.owner other

  by_refers : (n k : ℕ) (name : Name) (p : TypeId) (x y : Worth) (o : Option Name) → value_named w k name ≡ Some p → worth_at w p ≡ Some y → refers y.is ≡ o → referring (behind n) y o ≡ Some x
      → ((other : Name) → value_within n w y.owner other ≡ Some x → EndsAtValue w y.owner other x) → EndsAtValue w k name x
  by_refers n k name p x y None e f g h more =
      let same : y ≡ x = cc h in
      subst (EndsAtValue w k name) same (by_value (led k name p e).1 f g)
  by_refers n k name p x y (Some other) e f g h more = by_reference (led k name p e).1 f g (more other h)

  by_worth : (n k : ℕ) (name : Name) (p : TypeId) (x : Worth) (o : Option Worth) → value_named w k name ≡ Some p → worth_at w p ≡ o → option_and_then (onward (behind n)) o ≡ Some x
      → ((j : ℕ) (other : Name) → value_within n w j other ≡ Some x → EndsAtValue w j other x) → EndsAtValue w k name x
  by_worth n k name p x None e f h more = absurd (cc h)
  by_worth n k name p x (Some y) e f h more = by_refers n k name p x y (refers y.is) e f refl h (more y.owner)

  by_place : (n k : ℕ) (name : Name) (x : Worth) (o : Option TypeId) → value_named w k name ≡ o → option_and_then (onward (behind n)) (option_and_then (worth_at w) o) ≡ Some x
      → ((j : ℕ) (other : Name) → value_within n w j other ≡ Some x → EndsAtValue w j other x) → EndsAtValue w k name x
  by_place n k name x None e h more = absurd (cc h)
  by_place n k name x (Some p) e h more = by_worth n k name p x (worth_at w p) e refl h more

  within_ends : (n k : ℕ) (name : Name) (x : Worth) → value_within n w k name ≡ Some x → EndsAtValue w k name x
  unfolding value_within first_worth
  within_ends zero k name x e = absurd (cc e)
  within_ends (suc n) k name x e = by_place n k name x (value_named w k name) refl e (λ j other h. within_ends n j other x h)

  found_ends : (k : ℕ) (name : Name) (x : Worth) → value_of w k name ≡ Some x → EndsAtValue w k name x
  unfolding value_of
  found_ends k name x e = within_ends (count w) k name x e

  pub both_ways : (k : ℕ) (name : Name) (x : Worth) → IsFoundWhereReferencesEnd w k name x
  both_ways k name x = record { found_ends = found_ends k name x; ends_found = ends_found k name x }
