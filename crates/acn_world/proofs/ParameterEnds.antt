-- Where the steps along a chain end, an entry has parameters or none does.
use Rattle.std.proofs.Common.{◌≡◌, ℕ, zero, suc, ◌≤◌, Bool, true, false, cond, Option, Some, None, refl, sym, ap, subst, ◌∙◌, arith}
use Rattle.std.specs.Prelude.{option_and_then, IfSome}
use Rattle.acn_ends.specs.declared.spot.Spot.{Spot}
use Rattle.acn_ends.specs.declared.spot.End.{End}
use Rattle.acn_ends.specs.declared.spot.End.TheVariants as end
use Rattle.acn_ends.specs.declared.ends.Ends.{Ends}
use Rattle.acn_ends.specs.Ends.{EndsAt, IsRight, AreRight, end_of}
use Rattle.acn_ends.proofs.Leading.{Leads, stays, goes, leads, right_of}
use Rattle.acn_index.specs.World.{World, count}
use Rattle.acn_index.specs.Chains.{Link, assigned_link, next_link, links_within, links, has_parameters}
use Rattle.acn_index.specs.Steps.{spot_of, place_at, link_onward}
use Rattle.acn_index.specs.declared.sources.TypeId.{TypeId}
use Rattle.acn_index.proofs.LastLinks.{some_is_one, Step, by_next, by_end}
use Rattle.acn_world.specs.Parameters.{gives, onward_from, parameter_step, GivesAtEnd}
use Rattle.acn_world.proofs.ParameterSteps as steps

module _ (w : World) where
  record Passed (l : Link) (t : Spot) : Type 0 where
    none : gives w l ≡ false
    step : Step w l t

  by_gives : (l : Link) (t : Spot) (b : Bool) → gives w l ≡ b → cond b None (link_onward w l) ≡ Some t → Passed l t
  by_gives l t true e h = absurd (cc h)
  by_gives l t false e h = record { none = e; step = by_next w l t (next_link w l) refl h }

  passed : (s t : Spot) (l : Link) → assigned_link w (place_at s) ≡ Some l → parameter_step w s ≡ Some t → Passed l t
  unfolding parameter_step
  passed s t l e h = by_gives l t (gives w l) refl (ap (option_and_then (onward_from w)) (sym e) ∙ h)

  by_end_gives : (m : ℕ) (l : Link) (b : Bool) → gives w l ≡ b → cond b None (link_onward w l) ≡ None → steps.any_gives w (links_within (suc m) w l) ≡ gives w l
  by_end_gives m l true e h = steps.gives_here w (suc m) l (omega arith) e ∙ sym e
  by_end_gives m l false e h = steps.ends w (suc m) l e (by_end w l (next_link w l) refl h) ∙ sym e

  at_end : (m : ℕ) (s : Spot) (l : Link) → assigned_link w (place_at s) ≡ Some l → parameter_step w s ≡ None → steps.any_gives w (links_within (suc m) w l) ≡ gives w l
  unfolding parameter_step
  at_end m s l e h = by_end_gives m l (gives w l) refl (ap (option_and_then (onward_from w)) (sym e) ∙ h)

  along : (n m : ℕ) (s e : Spot) (l last : Link) → n ≤ m → assigned_link w (place_at s) ≡ Some l → assigned_link w (place_at e) ≡ Some last → Leads (parameter_step w) n s e → parameter_step w e ≡ None → steps.any_gives w (links_within (suc m) w l) ≡ gives w last
  along zero m s e l last le f g stays h = at_end m s l f h ∙ ap (gives w) (some_is_one f g)
  along (suc n) zero s e l last le f g (goes step way) h = absurd (omega arith)
  along (suc n) (suc m) s e l last le f g (goes {q = t} step way) h =
      let p = passed s t l f step in
      steps.goes w (suc (suc m)) (suc m) l p.step.next refl p.none p.step.onward ∙ along n m t e p.step.next last (omega arith) p.step.of_it g way h

  -- where the steps from an assigned type end, after no more of them than there are assignments
  parameters_at_end : (n : ℕ) (p : TypeId) (e : Spot) (l last : Link) → n ≤ count w → assigned_link w p ≡ Some l → assigned_link w (place_at e) ≡ Some last → EndsAt (parameter_step w) n (spot_of p) e → gives w last ≡ has_parameters w l
  unfolding has_parameters links
  parameters_at_end n p e l last le f g at = sym (along n (count w) (spot_of p) e l last le f g (leads (parameter_step w) n (spot_of p) e at.way) at.end)

  noted_end : (p : TypeId) (l : Link) (e : End) (b : Bool) → assigned_link w p ≡ Some l → IsRight (parameter_step w) (spot_of p) e → GivesAtEnd w e b → b ≡ has_parameters w l
  noted_end p l (end.At q n) b f right h = h.says ∙ parameters_at_end n p q l h.last h.few f h.there right
  noted_end p l end.Never b f right h = absurd h

  pub noted : (ends : Ends) (p : TypeId) (l : Link) (s : Spot) (e : End) (r : Option Bool) → AreRight (parameter_step w) ends → assigned_link w p ≡ Some l → s ≡ spot_of p → Some e ≡ end_of ends s → IfSome r (GivesAtEnd w e) → IfSome r (λ b. b ≡ has_parameters w l)
  noted ends p l s e None right f same g h = tt
  noted ends p l s e (Some b) right f same g h = noted_end p l e b f (subst (λ z. IsRight (parameter_step w) z e) same (right_of (parameter_step w) ends right s e (sym g))) h
