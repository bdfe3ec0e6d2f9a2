-- References of values by their number: what ends passes no more assignments than there are, since none is passed twice.
use Rattle.std.proofs.Common.{◌≡◌, ℕ, zero, suc, ◌<◌, ◌≤◌, List, length, Option, Some, None, refl, sym, ap, subst, ◌∙◌, arith, inl, inr}
use Rattle.std.specs.Prelude.{option_and_then}
use Rattle.acn_asn_syntax.specs.Mirror.{Assign}
use Rattle.acn_num.specs.Names.{Name}
use Rattle.acn_graph.specs.Graph.{Among}
use Rattle.acn_index.specs.World.{World, assignment, places, count}
use Rattle.acn_index.specs.Lookup.{value_named}
use Rattle.acn_index.specs.Values.{Worth, worth_of, worth_at, refers, first_worth, value_within}
use Rattle.acn_index.specs.declared.sources.TypeId.{TypeId}
use Rattle.acn_index.proofs.Left.{without, is_placed, every_place}
use Rattle.acn_index.proofs.ValueSteps.{ends, goes}

-- so many references lead from an assignment to a value that is none
pub data Away (w : World) : ℕ → TypeId → Worth → Type 0 where
  here : {p : TypeId} {x : Worth} → worth_at w p ≡ Some x → refers x.is ≡ None → Away w 0 p x
  over : {n : ℕ} {p q : TypeId} {x y : Worth} {other : Name} → worth_at w p ≡ Some x → refers x.is ≡ Some other → value_named w x.owner other ≡ Some q → Away w n q y → Away w (suc n) p y

some_is_one : {A : Type 0} {o : Option A} {x y : A} → o ≡ Some x → o ≡ Some y → x ≡ y
some_is_one {A} {o} {x} {y} e f = let h : Some x ≡ Some y = sym e ∙ f in cc h

module _ (w : World) where
  -- ---- one number of references

  both_kinds : (p : TypeId) (x y : Worth) (other : Name) → worth_at w p ≡ Some x → refers x.is ≡ None → worth_at w p ≡ Some y → refers y.is ≡ Some other → ⊥
  both_kinds p x y other e f g h =
      let one : Some other ≡ None = sym h ∙ (ap (λ (z : Worth). refers z.is) (some_is_one g e) ∙ f) in
      absurd (cc one)

  one_next : (p q r : TypeId) (x y : Worth) (a b : Name) → worth_at w p ≡ Some x → refers x.is ≡ Some a → value_named w x.owner a ≡ Some q → worth_at w p ≡ Some y → refers y.is ≡ Some b → value_named w y.owner b ≡ Some r → r ≡ q
  one_next p q r x y a b e f g h i j =
      let same : y ≡ x = some_is_one h e in
      let name : b ≡ a = some_is_one (subst (λ (z : Worth). refers z.is ≡ Some b) same i) f in
      some_is_one (subst (λ (z : Name). value_named w x.owner z ≡ Some r) name (subst (λ (z : Worth). value_named w z.owner b ≡ Some r) same j)) g

  one_number : (n m : ℕ) (p : TypeId) (x y : Worth) → Away w n p x → Away w m p y → n ≡ m
  one_number zero zero p x y a b = refl
  one_number zero (suc m) p x y (here e f) (over {x = v} {other = other} g h i b) = absurd (both_kinds p x v other e f g h)
  one_number (suc n) zero p x y (over {x = v} {other = other} g h i a) (here e f) = absurd (both_kinds p y v other e f g h)
  one_number (suc n) (suc m) p x y (over {q = q} {x = u} {other = c} e f g a) (over {q = r} {x = v} {other = d} h i j b) =
      let same : r ≡ q = one_next p q r u v c d e f g h i j in
      ap suc (one_number n m q x y a (subst (λ (z : TypeId). Away w m z y) same b))

  -- ---- no more than there are assignments

  by_assignment : (p : TypeId) (x : Worth) (o : Option Assign) → assignment w p ≡ o → option_and_then (worth_of p.module) o ≡ Some x → Among p (places w)
  by_assignment p x None e f = absurd (cc f)
  by_assignment p x (Some a) e f = is_placed w p a e

  each_placed : {n : ℕ} {p : TypeId} {x : Worth} → Away w n p x → Among p (places w)
  each_placed (here {p} {x} e f) = by_assignment p x (assignment w p) refl e
  each_placed (over {p = p} {x = x} e f g a) = by_assignment p x (assignment w p) refl e

  -- Those from which fewer references lead to a value are among those that are left; the assignment itself isn't.
  fewer : (n : ℕ) (p : TypeId) (x : Worth) (left : List TypeId) → Away w n p x → ((m : ℕ) (q : TypeId) (y : Worth) → m ≤ n → Away w m q y → Among q left) → n < length left
  fewer zero p x left a all = let h = without left (all 0 p x (omega arith) a) in let long = h.1 in omega (arith, long)
  fewer (suc n) p x left (over {q = next} e f g a) all =
      let rest = without left (all (suc n) p x (omega arith) (over e f g a)) in
      let kept : (m : ℕ) (q : TypeId) (y : Worth) → m ≤ n → Away w m q y → Among q rest.0 = λ m q y le b. elim (rest.2 q (all m q y (omega (arith, le)) b)) [
        | inl same ↦ absurd (let one = one_number m (suc n) p y x (subst (λ (z : TypeId). Away w m z y) same b) (over e f g a) in omega (arith, le, one))
        | inr inside ↦ inside
      ] in
      let less = fewer n next x rest.0 a kept in
      let long = rest.1 in omega (arith, long, less)

  pub fewer_than_all : (n : ℕ) (p : TypeId) (x : Worth) → Away w n p x → n < count w
  fewer_than_all n p x a =
      let less = fewer n p x (places w) a (λ m q y le b. each_placed b) in
      let whole = every_place w in omega (arith, less, whole)

  -- ---- so a bound that is greater reaches the value

  first : (k : ℕ) (name : Name) (p : TypeId) (x : Worth) → value_named w k name ≡ Some p → worth_at w p ≡ Some x → first_worth w k name ≡ Some x
  unfolding first_worth
  first k name p x e f = ap (option_and_then (worth_at w)) e ∙ f

  pub reached : (n most k : ℕ) (name : Name) (p : TypeId) (y : Worth) → n < most → value_named w k name ≡ Some p → Away w n p y → value_within most w k name ≡ Some y
  reached n zero k name p y lt e a = absurd (omega (arith, lt))
  reached zero (suc most) k name p y lt e (here f g) = ends w (suc most) k name y lt (first k name p y e f) g
  reached (suc n) (suc most) k name p y lt e (over {q = q} {x = x} {other = other} f g h a) =
      goes w (suc most) most k name x other refl (first k name p x e f) g ∙ reached n most x.owner other q y (omega (arith, lt)) h a
