-- What an identifier of a value names is a value's assignment.
use Rattle.std.proofs.Common.{◌≡◌, ℕ, zero, suc, ◌+◌, Bool, true, false, List, [], ◌∷◌, refl, ap, subst, ◌∙◌, arith, inl, inr, ◌⊎◌}
use Rattle.std.specs.Prelude.{Option, Some, None, slice_get, option_map, option_and_then, cond}
use Rattle.std.specs.Option.{option_or}
use Rattle.std.specs.List.{position_from}
use Rattle.acn_asn_syntax.specs.Mirror.{AsnModule, AsnType, Assign, TypeIs, ValueIs}
use Rattle.acn_asn_syntax.specs.declared.values.AsnValue.{AsnValue}
use Rattle.acn_num.specs.Names.{Name}
use Rattle.acn_index.specs.World.{World, place, assignment}
use Rattle.acn_index.specs.Lookup.{own, imported_from, found_within, found, value_named, is_value}
use Rattle.acn_index.specs.declared.sources.TypeId.{TypeId}

mapped : {A B : Type 0} (f : A → B) (o : Option A) (y : B) → option_map f o ≡ Some y → (x : A) × (o ≡ Some x) × (f x ≡ y)
mapped f None y e = absurd (cc e)
mapped f (Some x) y e = (x, refl, cc e)

pub chained : {A B : Type 0} (f : A → Option B) (o : Option A) (y : B) → option_and_then f o ≡ Some y → (x : A) × (o ≡ Some x) × (f x ≡ Some y)
chained f None y e = absurd (cc e)
chained f (Some x) y e = (x, refl, e)

either_of : {A : Type 0} (a b : Option A) (y : A) → option_or a b ≡ Some y → (a ≡ Some y) ⊎ (b ≡ Some y)
either_of None b y e = inr e
either_of (Some x) b y e = inl e

now_or_later : (b : Bool) (s i : ℕ) (o : Option ℕ) → cond b (Some s) o ≡ Some i → ((b ≡ true) × (i ≡ s)) ⊎ (o ≡ Some i)
now_or_later true s i o e = inl (refl, cc e)
now_or_later false s i o e = inr e

-- what a search finds passes its test
tested : {A : Type 0} (test : A → Bool) (s : ℕ) (xs : List A) (i : ℕ) → position_from test s xs ≡ Some i
    → (r : ℕ) × (i ≡ s + r) × (x : A) × (slice_get xs r ≡ Some x) × (test x ≡ true)
tested test s [] i e = absurd (cc e)
tested test s (x ∷ xs) i e = elim (now_or_later (test x) s i (position_from test (s + 1) xs) e) [
  | inl h ↦ (zero, (let a = h.1 in omega arith), x, refl, h.0)
  | inr t ↦ let h = tested test (s + 1) xs i t in (suc h.0, (let a = h.1 in omega arith), h.2, h.3, h.4)
]

module _ (w : World) where
  abbrev pub IsTested : (Assign → Bool) → TypeId → Type 0
  IsTested test p = (a : Assign) × (assignment w p ≡ Some a) × (test a ≡ true)

  abbrev pub IsValued : TypeId → Type 0
  IsValued p = (name : Name) × (t : AsnType) × (v : AsnValue) × (assignment w p ≡ Some (ValueIs name t v))

  at_module : (k i : ℕ) (m : AsnModule) (a : Assign) → slice_get w.modules k ≡ Some m → slice_get m.items i ≡ Some a → assignment w (place k i) ≡ Some a
  unfolding assignment
  at_module k i m a e f = ap (option_and_then (λ (x : AsnModule). slice_get x.items i)) e ∙ f

  own_tested : (test : Assign → Bool) (k : ℕ) (q : TypeId) → own w test k ≡ Some q → IsTested test q
  unfolding own
  own_tested test k q e =
      let m = chained (λ (m : AsnModule). option_map (place k) (position_from test 0 m.items)) (slice_get w.modules k) q e in
      let i = mapped (place k) (position_from test 0 m.0.items) q m.2 in
      let r = tested test 0 m.0.items i.0 i.1 in
      let same : i.0 ≡ r.0 = (let a = r.1 in omega arith) in
      let there = at_module k i.0 m.0 r.2 m.1 (ap (slice_get m.0.items) same ∙ r.3) in
      (r.2, subst (λ (p : TypeId). assignment w p ≡ Some r.2) i.2 there, r.4)

  pub within_tested : (n : ℕ) (test : Assign → Bool) (name : Name) (k : ℕ) (q : TypeId) → found_within n w test name k ≡ Some q → IsTested test q
  unfolding found_within
  within_tested zero test name k q e = absurd (cc e)
  within_tested (suc n) test name k q e = elim (either_of (own w test k) (option_and_then (found_within n w test name) (imported_from w name k)) q e) [
    | inl h ↦ own_tested test k q h
    | inr h ↦ let other = chained (found_within n w test name) (imported_from w name k) q h in within_tested n test name other.0 q other.2
  ]

  value_case : (name : Name) (p : TypeId) (a : Assign) → assignment w p ≡ Some a → is_value name a ≡ true → IsValued p
  value_case name p (TypeIs other t) e h = absurd (cc h)
  value_case name p (ValueIs other t v) e h = (other, t, v, e)

  pub valued : (k : ℕ) (name : Name) (p : TypeId) → value_named w k name ≡ Some p → IsValued p
  unfolding value_named found
  valued k name p e = let h = within_tested _ (is_value name) name k p e in value_case name p h.0 h.1 h.2

  -- the module in which an assignment stands
  pub stands_in : (p : TypeId) (a : Assign) → assignment w p ≡ Some a → (m : AsnModule) × (slice_get w.modules p.module ≡ Some m) × (slice_get m.items p.item ≡ Some a)
  unfolding assignment
  stands_in p a e = chained (λ (m : AsnModule). slice_get m.items p.item) (slice_get w.modules p.module) a e
