-- What a name leads to is an assignment.
use Rattle.std.proofs.Common.{◌≡◌, ℕ, zero, suc, Bool, length, refl, ap, subst, ◌∙◌, arith, inl, inr, ◌⊎◌}
use Rattle.std.specs.Prelude.{Option, Some, None, slice_get, option_map, option_and_then}
use Rattle.std.specs.Option.{option_or}
use Rattle.std.specs.List.{position_from}
use Rattle.acn_asn_syntax.specs.Mirror.{AsnModule, Assign, TypeIs, ValueIs}
use Rattle.acn_num.specs.Names.{Name}
use Rattle.acn_index.specs.World.{World, place, assignment}
use Rattle.acn_index.specs.Lookup.{own, imported_from, found_within, found, type_named, value_named, is_type, is_value, module_named}
use Rattle.acn_mentions.specs.Mentions.{Mention, to_type, in_constraint, in_default, in_assignment, mentions, value_mentions}
use Rattle.acn_graph.specs.Graph.{Among}
use Rattle.acn_world.specs.Cycles.{type_target, value_target, targets_of, targets_at, targets}
use Rattle.acn_index.specs.declared.sources.TypeId.{TypeId}
use Rattle.acn_cycles.proofs.Lists.{nothing_within, chosen, position_within, got_within}

abbrev pub IsAssigned : World → TypeId → Type 0
IsAssigned w p = (a : Assign) × (assignment w p ≡ Some a)

mapped : {A B : Type 0} (f : A → B) (o : Option A) (y : B) → option_map f o ≡ Some y → (x : A) × (o ≡ Some x) × (f x ≡ y)
mapped f None y e = absurd (cc e)
mapped f (Some x) y e = (x, refl, cc e)

chained : {A B : Type 0} (f : A → Option B) (o : Option A) (y : B) → option_and_then f o ≡ Some y → (x : A) × (o ≡ Some x) × (f x ≡ Some y)
chained f None y e = absurd (cc e)
chained f (Some x) y e = (x, refl, e)

either_of : {A : Type 0} (a b : Option A) (y : A) → option_or a b ≡ Some y → (a ≡ Some y) ⊎ (b ≡ Some y)
either_of None b y e = inr e
either_of (Some x) b y e = inl e

module _ (w : World) where
  at_module : (k i : ℕ) (m : AsnModule) (a : Assign) → slice_get w.modules k ≡ Some m → slice_get m.items i ≡ Some a → assignment w (place k i) ≡ Some a
  unfolding assignment
  at_module k i m a e f = ap (option_and_then (λ (x : AsnModule). slice_get x.items i)) e ∙ f

  own_assigned : (test : Assign → Bool) (k : ℕ) (q : TypeId) → own w test k ≡ Some q → IsAssigned w q
  unfolding own
  own_assigned test k q e =
      let m = chained (λ (m : AsnModule). option_map (place k) (position_from test 0 m.items)) (slice_get w.modules k) q e in
      let i = mapped (place k) (position_from test 0 m.0.items) q m.2 in
      let r = position_within test 0 m.0.items i.0 i.1 in
      let a = got_within m.0.items i.0 (let x = r.1 in let y = r.2 in omega arith) in
      let there = at_module k i.0 m.0 a.0 m.1 a.1 in
      (a.0, subst (λ (p : TypeId). assignment w p ≡ Some a.0) i.2 there)

  within_assigned : (n : ℕ) (test : Assign → Bool) (name : Name) (k : ℕ) (q : TypeId) → found_within n w test name k ≡ Some q → IsAssigned w q
  unfolding found_within
  within_assigned zero test name k q e = absurd (cc e)
  within_assigned (suc n) test name k q e = elim (either_of (own w test k) (option_and_then (found_within n w test name) (imported_from w name k)) q e) [
    | inl h ↦ own_assigned test k q h
    | inr h ↦ let other = chained (found_within n w test name) (imported_from w name k) q h in within_assigned n test name other.0 q other.2
  ]

  found_assigned : (test : Assign → Bool) (name : Name) (k : ℕ) (q : TypeId) → found w test name k ≡ Some q → IsAssigned w q
  unfolding found
  found_assigned test name k q e = within_assigned (length w.modules) test name k q e

  type_assigned : (k : ℕ) (from : Option Name) (name : Name) (q : TypeId) → type_named w k from name ≡ Some q → IsAssigned w q
  unfolding type_named
  type_assigned k None name q e = found_assigned (is_type name) name k q e
  type_assigned k (Some from) name q e = let other = chained (found w (is_type name) name) (module_named w from) q e in found_assigned (is_type name) name other.0 q other.2

  type_target_assigned : (k : ℕ) (m : Mention) (q : TypeId) → type_target w k m ≡ Some q → IsAssigned w q
  type_target_assigned k (to_type from name) q e = type_assigned k from name q e
  type_target_assigned k (in_constraint g r name) q e = absurd (cc e)
  type_target_assigned k (in_default t name) q e = absurd (cc e)
  type_target_assigned k (in_assignment name) q e = absurd (cc e)

  value_target_assigned : (k : ℕ) (m : Mention) (q : TypeId) → value_target w k m ≡ Some q → IsAssigned w q
  unfolding value_named
  value_target_assigned k (to_type from name) q e = absurd (cc e)
  value_target_assigned k (in_constraint g r name) q e = absurd (cc e)
  value_target_assigned k (in_default t name) q e = absurd (cc e)
  value_target_assigned k (in_assignment name) q e = found_assigned (is_value name) name k q e

  targets_of_assigned : (k : ℕ) (a : Assign) (q : TypeId) → Among q (targets_of w k a) → IsAssigned w q
  unfolding targets_of
  targets_of_assigned k (TypeIs name t) q i = let m = chosen (type_target w k) (mentions t) i in type_target_assigned k m.0 q m.1
  targets_of_assigned k (ValueIs name t v) q i = let m = chosen (value_target w k) (value_mentions v) i in value_target_assigned k m.0 q m.1

  targets_at_assigned : (k : ℕ) (o : Option Assign) (q : TypeId) → Among q (targets_at w k o) → IsAssigned w q
  targets_at_assigned k None q i = absurd (nothing_within i)
  targets_at_assigned k (Some a) q i = targets_of_assigned k a q i

  -- those to which an assignment refers are assignments
  pub target_assigned : (p q : TypeId) → Among q (targets w p) → IsAssigned w q
  unfolding targets
  target_assigned p q i = targets_at_assigned p.module (assignment w p) q i

  refers_from_some : (k : ℕ) (o : Option Assign) {q : TypeId} → Among q (targets_at w k o) → (a : Assign) × (o ≡ Some a)
  refers_from_some k None i = absurd (nothing_within i)
  refers_from_some k (Some a) i = (a, refl)

  -- and so is what refers to anything
  pub source_assigned : (p : TypeId) {q : TypeId} → Among q (targets w p) → IsAssigned w p
  unfolding targets
  source_assigned p i = refers_from_some p.module (assignment w p) i
