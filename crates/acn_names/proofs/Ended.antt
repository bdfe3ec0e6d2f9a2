-- References of values end: no more assignments are passed than there are, since none is passed twice.
use Rattle.std.proofs.Common.{◌≡◌, ℕ, zero, suc, ◌≤◌, List, [], ◌∷◌, length, refl, ap, subst, ◌∙◌, arith, inl, inr}
use Rattle.std.specs.Prelude.{Option, Some, None, is_some}
use Rattle.acn_asn_syntax.specs.Mirror.{AsnType, ValueIs}
use Rattle.acn_asn_syntax.specs.declared.values.AsnValue.{AsnValue}
use Rattle.acn_asn_syntax.specs.declared.values.AsnValue.TheVariants as value
use Rattle.acn_num.specs.Names.{Name}
use Rattle.acn_index.specs.World.{World, assignment, places, count}
use Rattle.acn_index.specs.Lookup.{value_named}
use Rattle.acn_index.specs.Values.{Worth, refers, first_worth, value_within, value_of}
use Rattle.acn_graph.specs.Graph.{Among, here}
use Rattle.acn_world.specs.Cycles.{targets, targets_of, Reaches, once, more}
use Rattle.acn_world.specs.Faults.{IsSound}
use Rattle.acn_index.specs.declared.sources.TypeId.{TypeId}
use Rattle.acn_index.proofs.Left.{without, is_placed, every_place}
use Rattle.acn_index.proofs.ValueSteps.{lost, ends, goes}
use Rattle.acn_cycles.proofs.Assigned.{IsAssigned, target_assigned}
use Rattle.acn_names.proofs.Valued.{valued}
use Rattle.acn_names.proofs.Known.{named_behind}

-- ---- references

is_reference : (v : AsnValue) (other : Name) → refers v ≡ Some other → v ≡ value.Ref other
is_reference (value.Ref name) other e = let same : name ≡ other = cc e in ap value.Ref same
is_reference (value.Number negative n) other e = absurd (cc e)
is_reference value.True other e = absurd (cc e)
is_reference value.False other e = absurd (cc e)
is_reference value.Null other e = absurd (cc e)
is_reference (value.Bits name) other e = absurd (cc e)
is_reference (value.Hex name) other e = absurd (cc e)
is_reference (value.Text name) other e = absurd (cc e)

module _ (w : World) where
  pub assigned_in : (p : TypeId) → IsAssigned w p → Among p (places w)
  assigned_in p a = is_placed w p a.0 a.1

  pub reached_in : {p q : TypeId} {way : List TypeId} → Reaches w p q way → Among q (places w)
  reached_in (once {p} {q} i) = assigned_in q (target_assigned w p q i)
  reached_in (more i rest) = reached_in rest

  onward : (p q : TypeId) (name : Name) (t : AsnType) (other : Name) → assignment w p ≡ Some (ValueIs name t (value.Ref other)) → value_named w p.module other ≡ Some q → Among q (targets w p)
  unfolding targets targets_of
  onward p q name t other e f = rw e (rw f here)

  worth : (k : ℕ) (name own : Name) (p : TypeId) (t : AsnType) (v : AsnValue) → value_named w k name ≡ Some p → assignment w p ≡ Some (ValueIs own t v)
      → first_worth w k name ≡ Some (record { owner = p.module; of = t; is = v })
  unfolding first_worth
  worth k name own p t v e f = rw e (rw f refl)

  abbrev LeadsOn : ℕ → ℕ → Name → Type 0
  LeadsOn n k name = (x : Worth) × (value_within n w k name ≡ Some x)

  step : (n k : ℕ) (name : Name) (x : Worth) (o : Option Name) → first_worth w k name ≡ Some x → refers x.is ≡ o → ((other : Name) → refers x.is ≡ Some other → LeadsOn n x.owner other) → LeadsOn (suc n) k name
  step n k name x None f r on = (x, ends w (suc n) k name x (omega arith) f r)
  step n k name x (Some other) f r on = let h = on other r in (h.0, goes w (suc n) n k name x other refl f r ∙ h.1)

  module _ (sound : IsSound w) where
    -- what is reached from an assignment stands among those that are left; the assignment itself isn't reached
    ended : (n : ℕ) (left : List TypeId) (k : ℕ) (name : Name) (p : TypeId) → length left ≤ n → value_named w k name ≡ Some p → Among p left
        → ((q : TypeId) (way : List TypeId) → Reaches w p q way → Among q left) → LeadsOn n k name
    ended zero left k name p le e i all = let h = without left i in let a = h.1 in absurd (omega arith)
    ended (suc n) left k name p le e i all =
        let v = valued w k name p e in
        let rest = without left i in
        let fewer : length rest.0 ≤ n = (let a = rest.1 in omega arith) in
        let stays : (q : TypeId) (way : List TypeId) → Reaches w p q way → Among q rest.0 = λ q way r. elim (rest.2 q (all q way r)) [
          | inl same ↦ absurd (sound.acyclic.none p way (subst (λ (y : TypeId). Reaches w p y way) same r))
          | inr j ↦ j
        ] in
        step n k name (record { owner = p.module; of = v.1; is = v.2 }) (refers v.2) (worth k name v.0 p v.1 v.2 e v.3) refl (λ other r.
        let here_other : assignment w p ≡ Some (ValueIs v.0 v.1 (value.Ref other)) = v.3 ∙ ap (λ (y : AsnValue). Some (ValueIs v.0 v.1 y)) (is_reference v.2 other r) in
        let q = named_behind w sound.early p v.0 v.1 other here_other in
        let edge = onward p q.0 v.0 v.1 other here_other q.1 in
        ended n rest.0 p.module other q.0 fewer q.1 (stays q.0 (p ∷ []) (once edge)) (λ u way h. stays u (p ∷ way) (more edge h)))

    cases : (k : ℕ) (name : Name) (o : Option TypeId) → value_named w k name ≡ o → is_some (value_of w k name) ≡ is_some o
    unfolding value_of first_worth
    cases k name None e = ap is_some (lost w (count w) k name (rw e refl))
    cases k name (Some p) e =
        let v = valued w k name p e in
        let h = ended (count w) (places w) k name p (let a = every_place w in omega arith) e (assigned_in p (ValueIs v.0 v.1 v.2, v.3)) (λ q way r. reached_in r) in
        ap is_some h.1

pub each_found : (w : World) (k : ℕ) (name : Name) → IsSound w → is_some (value_of w k name) ≡ is_some (value_named w k name)
each_found w k name sound = cases w sound k name (value_named w k name) refl
