-- The end of references of values.
use Rattle.std.proofs.Common.{◌≡◌, ℕ, zero, suc, ◌<◌, ◌≤◌, Option, Some, None, refl, sym, ap, subst, ◌∙◌, arith}
use Rattle.std.specs.Prelude.{option_map, option_and_then}
use Rattle.acn_num.specs.Names.{Name}
use Rattle.acn_ends.specs.declared.spot.Spot.{Spot}
use Rattle.acn_ends.specs.Ends.{EndsAt, IsEndless, end_of}
use Rattle.acn_ends.specs.declared.spot.End.TheVariants as end
use Rattle.acn_ends.specs.declared.ends.Ends.{Ends}
use Rattle.acn_ends.proofs.Leading.{Leads, stays, goes, leads, onward_endless, not_over}
use Rattle.acn_index.specs.World.{World, count}
use Rattle.acn_index.specs.Lookup.{value_named}
use Rattle.acn_index.specs.Values.{Worth, worth_at, refers, first_worth, referring, onward, value_within, value_of, unreferring, end_worth}
use Rattle.acn_index.specs.Steps.{spot_of, place_at, value_onward, value_step, AreLasts}
use Rattle.acn_index.specs.declared.sources.TypeId.{TypeId}

module _ (w : World) where
  -- what an assignment leads to over at most so many others
  abbrev behind : ℕ → Worth → Option Worth
  behind n = onward (λ x other. value_within n w x.owner other)

  abbrev from_place : ℕ → TypeId → Option Worth
  from_place n p = option_and_then (behind n) (worth_at w p)

  unnamed : (n k : ℕ) (name : Name) → value_named w k name ≡ None → value_within n w k name ≡ None
  unfolding value_within first_worth
  unnamed zero k name e = refl
  unnamed (suc n) k name e = rw e refl

  named : (n k : ℕ) (name : Name) (p : TypeId) → value_named w k name ≡ Some p → value_within (suc n) w k name ≡ from_place n p
  unfolding value_within first_worth
  named n k name p e = rw e refl

  -- ---- one step

  record Step (s t : Spot) : Type 0 where
    worth : Worth
    there : worth_at w (place_at s) ≡ Some worth
    name : Name
    referred : refers worth.is ≡ Some name
    place : TypeId
    next : value_named w worth.owner name ≡ Some place
    same : spot_of place ≡ t

  by_place : (s t : Spot) (x : Worth) (name : Name) (o : Option TypeId) → worth_at w (place_at s) ≡ Some x → refers x.is ≡ Some name → value_named w x.owner name ≡ o → option_map spot_of o ≡ Some t → Step s t
  by_place s t x name None e f g h = absurd (cc h)
  by_place s t x name (Some p) e f g h = record { worth = x; there = e; name = name; referred = f; place = p; next = g; same = cc h }

  by_refers : (s t : Spot) (x : Worth) (o : Option Name) → worth_at w (place_at s) ≡ Some x → refers x.is ≡ o → option_and_then (λ (name : Name). option_map spot_of (value_named w x.owner name)) o ≡ Some t → Step s t
  by_refers s t x None e f h = absurd (cc h)
  by_refers s t x (Some name) e f h = by_place s t x name (value_named w x.owner name) e f refl h

  by_worth : (s t : Spot) (o : Option Worth) → worth_at w (place_at s) ≡ o → option_and_then (value_onward w) o ≡ Some t → Step s t
  by_worth s t None e h = absurd (cc h)
  by_worth s t (Some x) e h = by_refers s t x (refers x.is) e refl h

  stepped : (s t : Spot) → value_step w s ≡ Some t → Step s t
  unfolding value_step
  stepped s t h = by_worth s t (worth_at w (place_at s)) refl h

  through : (n : ℕ) (s t : Spot) (st : Step s t) → from_place n (place_at s) ≡ value_within n w st.worth.owner st.name
  through n s t st =
      ap (option_and_then (behind n)) st.there ∙ ap (referring (λ (x : Worth) (other : Name). value_within n w x.owner other) st.worth) st.referred

  over : (n : ℕ) (s t : Spot) → Step s t → from_place (suc n) (place_at s) ≡ from_place n (place_at t)
  over n s t st =
      let at : st.place ≡ place_at t = ap place_at st.same in
      through (suc n) s t st ∙ (named n st.worth.owner st.name st.place st.next ∙ ap (from_place n) at)

  -- ---- at the end

  at_refers : (n : ℕ) (x : Worth) (o : Option Name) → refers x.is ≡ o → option_and_then (λ (name : Name). option_map spot_of (value_named w x.owner name)) o ≡ None → referring (λ (x : Worth) (other : Name). value_within n w x.owner other) x o ≡ unreferring x o
  at_refers n x None e h = refl
  at_refers n x (Some name) e h = unnamed n x.owner name (no_spot (value_named w x.owner name) h)
    where
      no_spot : (o : Option TypeId) → option_map spot_of o ≡ None → o ≡ None
      no_spot None e = refl
      no_spot (Some p) e = absurd (cc e)

  at_worth : (n : ℕ) (o : Option Worth) → option_and_then (value_onward w) o ≡ None → option_and_then (behind n) o ≡ option_and_then (λ (x : Worth). unreferring x (refers x.is)) o
  at_worth n None h = refl
  at_worth n (Some x) h = at_refers n x (refers x.is) refl h

  at_end : (n : ℕ) (s : Spot) → value_step w s ≡ None → from_place n (place_at s) ≡ end_worth w (place_at s)
  unfolding value_step
  at_end n s h = at_worth n (worth_at w (place_at s)) h

  ended : (n m : ℕ) (s e : Spot) → n ≤ m → Leads (value_step w) n s e → value_step w e ≡ None → from_place m (place_at s) ≡ end_worth w (place_at e)
  ended zero m s e le stays h = at_end m s h
  ended (suc n) zero s e le (goes step l) h = absurd (omega arith)
  ended (suc n) (suc m) s e le (goes {q = t} step l) h = over m s t (stepped s t step) ∙ ended n m t e (omega arith) l h

  lost_by : (m : ℕ) (s : Spot) (o : Option Spot) → value_step w s ≡ o → IsEndless (value_step w) s → ((t : Spot) → IsEndless (value_step w) t → from_place m (place_at t) ≡ None) → from_place (suc m) (place_at s) ≡ None
  lost_by m s None f e h = absurd (not_over (value_step w) s f e)
  lost_by m s (Some t) f e h = over m s t (stepped s t f) ∙ h t (onward_endless (value_step w) s t f e)

  lost_at_once : (s : Spot) (o : Option Spot) → value_step w s ≡ o → IsEndless (value_step w) s → from_place 0 (place_at s) ≡ None
  unfolding value_within
  lost_at_once s None f e = absurd (not_over (value_step w) s f e)
  lost_at_once s (Some t) f e = through 0 s t (stepped s t f)

  lost : (m : ℕ) (s : Spot) → IsEndless (value_step w) s → from_place m (place_at s) ≡ None
  lost zero s e = lost_at_once s (value_step w s) refl e
  lost (suc m) s e = lost_by m s (value_step w s) refl e (lost m)

  -- ---- an identifier

  by_count : (c n k : ℕ) (name : Name) (p : TypeId) (e : Spot) → c ≡ count w → value_named w k name ≡ Some p → n < c → Leads (value_step w) n (spot_of p) e → value_step w e ≡ None → value_within c w k name ≡ end_worth w (place_at e)
  by_count zero n k name p e c h lt l f = absurd (omega arith)
  by_count (suc m) n k name p e c h lt l f = named m k name p h ∙ ended n m (spot_of p) e (omega arith) l f

  pub value_ends : (n k : ℕ) (name : Name) (p : TypeId) (e : Spot) → value_named w k name ≡ Some p → n < count w → EndsAt (value_step w) n (spot_of p) e → value_of w k name ≡ end_worth w (place_at e)
  unfolding value_of
  value_ends n k name p e h lt at = by_count (count w) n k name p e refl h lt (leads (value_step w) n (spot_of p) e at.way) at.end

  never_by : (c k : ℕ) (name : Name) (p : TypeId) → value_named w k name ≡ Some p → IsEndless (value_step w) (spot_of p) → value_within c w k name ≡ None
  unfolding value_within
  never_by zero k name p h e = refl
  never_by (suc m) k name p h e = named m k name p h ∙ lost m (spot_of p) e

  pub value_never : (k : ℕ) (name : Name) (p : TypeId) → value_named w k name ≡ Some p → IsEndless (value_step w) (spot_of p) → value_of w k name ≡ None
  unfolding value_of
  value_never k name p h e = never_by (count w) k name p h e

  pub value_unnamed : (k : ℕ) (name : Name) → value_named w k name ≡ None → value_of w k name ≡ None
  unfolding value_of
  value_unnamed k name e = unnamed (count w) k name e

  -- ---- as an index keeps it

  pub kept_never : (ends : Ends) (k : ℕ) (name : Name) (p : TypeId) (s : Spot) → AreLasts w ends → Some p ≡ value_named w k name → s ≡ spot_of p → Some end.Never ≡ end_of ends s → None ≡ value_of w k name
  kept_never ends k name p s right e same f = sym (value_never k name p (sym e) (subst (IsEndless (value_step w)) same (right.1 s (sym f))))

  pub kept_end : (ends : Ends) (n k : ℕ) (name : Name) (p : TypeId) (s at : Spot) → AreLasts w ends → Some p ≡ value_named w k name → s ≡ spot_of p → Some (end.At at n) ≡ end_of ends s → n < count w → end_worth w (place_at at) ≡ value_of w k name
  kept_end ends n k name p s at right e same f lt = sym (value_ends n k name p at (sym e) lt (subst (λ (z : Spot). EndsAt (value_step w) n z at) same (right.0 s at n (sym f))))
