-- The numbers that conditions ask, gathered by slot.
use Rattle.std.proofs.Common.{◌≡◌, ◌⊎◌, inl, inr, ℕ, ℤ, pos, ◌<◌, ◌≤◌, Bool, true, false, List, [], ◌∷◌, map, Option, Some, None, refl, sym, ap, ◌∙◌, subst, arith, nat_eq, nat_lt, ◌||◌}
use Rattle.std.specs.Prelude.{option_map, if◌then◌else◌}
use Rattle.std.specs.Ordering.{int_eq}
use Rattle.std.proofs.lemmas.Bool.Decides.{nat_tests}
use Rattle.acn_grammar.specs.Check.{IsStrictly, test_slot}
use Rattle.acn_grammar.specs.Env.{Env, at_slot, AllHold}
use Rattle.acn_grammar.specs.Tree.{holds}
use Rattle.acn_grammar.specs.declared.node.Test.{Test}
use Rattle.acn_grammar.specs.declared.node.Test.TheVariants.{Flag, Equals}
use Rattle.acn_check.specs.First.{asked, put, gathered, given, only_if}
use Rattle.acn_check.proofs.KindUses.{only_true}
use Rattle.acn_check.proofs.Puts.{Less, Same, More, stands}
use Rattle.std.proofs.lemmas.Bool.{ltb-true, eqb-true}
use Rattle.acn_grammar.proofs.WholeTests.{eq_fact, eq_self}
use Rattle.acn_grammar.proofs.SlotLists.{same_eq, or_swap, or_twice}

eq_not : (a b : ℕ) → (a ≡ b → ⊥) → nat_eq a b ≡ false
eq_not a b n = by (nat_eq a b) refl
  where
    by : (c : Bool) → nat_eq a b ≡ c → c ≡ false
    by true h = absurd (n (eqb-true a b h))
    by false h = refl

more_is : (s t : ℕ) → More s t → t < s
more_is s t m = above s t m.lt m.eq
  where
    above : (s t : ℕ) → nat_lt s t ≡ false → nat_eq s t ≡ false → t < s
    above s t h g = grind (arith, nat_tests)

-- Slots that ascend.

abbrev RisesFrom : ℕ → Env → Type 0
RisesFrom b [] = Unit {0}
RisesFrom b (e ∷ es) = (b < e.0) × RisesFrom e.0 es

abbrev pub Rises : Env → Type 0
Rises [] = Unit {0}
Rises (e ∷ es) = RisesFrom e.0 es

strictly_from : (b : ℕ) (es : Env) → RisesFrom b es → IsStrictly (b ∷ map (λ e. e.0) es)
strictly_from b [] r = tt
strictly_from b (e ∷ es) r = (r.0, strictly_from e.0 es r.1)

pub strictly : (es : Env) → Rises es → IsStrictly (map (λ e. e.0) es)
strictly [] r = tt
strictly (e ∷ es) r = strictly_from e.0 es r

-- what a put does: it keeps the order and every number, and the slot has its number then
pub record Done (s : ℕ) (x : ℤ) (es es' : Env) : Type 0 where
  pub slots : (t : ℕ) → holds (map (λ e. e.0) es') t ≡ (nat_eq s t || holds (map (λ e. e.0) es) t)
  pub here : at_slot es' s ≡ Some x
  pub keeps : (t : ℕ) (y : ℤ) → at_slot es t ≡ Some y → at_slot es' t ≡ Some y

below_none : (es : Env) (b s : ℕ) → RisesFrom b es → s ≤ b → at_slot es s ≡ None
below_none [] b s r h = refl
below_none (e ∷ es) b s r h = (let low = r.0 in ap (λ t. if t then Some e.1 else at_slot es s) (eq_not e.0 s (λ same. absurd (omega arith))) ∙ below_none es e.0 s r.1 (omega (arith, low, h)))

-- in front of greater slots
in_front : (s : ℕ) (x : ℤ) (e : ℕ × ℤ) (es : Env) → s < e.0 → RisesFrom e.0 es → Done s x (e ∷ es) ((s, x) ∷ e ∷ es)
in_front s x e es l r = record {
  slots = λ t. refl;
  here = ap (λ b. if b then Some x else at_slot (e ∷ es) s) (same_eq s);
  keeps = λ t y h. ap (λ b. if b then Some x else at_slot (e ∷ es) t) (eq_not s t (λ same. none t y same h)) ∙ h;
}
  where
    none : (t : ℕ) (y : ℤ) → s ≡ t → at_slot (e ∷ es) t ≡ Some y → ⊥
    none t y same h =
        let empty : at_slot (e ∷ es) t ≡ None = ap (λ b. if b then Some e.1 else at_slot es t) (eq_not e.0 t (λ q. absurd (omega arith))) ∙ below_none es e.0 t r (omega (arith, l, same)) in
        cc

-- the slot is there with this number
there : (s : ℕ) (x : ℤ) (e : ℕ × ℤ) (es : Env) → s ≡ e.0 → x ≡ e.1 → Done s x (e ∷ es) (e ∷ es)
there s x e es same number = record {
  slots = λ t. or_twice (nat_eq e.0 t) (holds (map (λ d. d.0) es) t) ∙ ap (λ k. nat_eq k t || (nat_eq e.0 t || holds (map (λ d. d.0) es) t)) (sym same);
  here = ap (λ b. if b then Some e.1 else at_slot es s) (ap (nat_eq e.0) same ∙ same_eq e.0) ∙ ap Some (sym number);
  keeps = λ t y h. h;
}

-- behind a smaller slot
behind_one : (s : ℕ) (x : ℤ) (e : ℕ × ℤ) (es es' : Env) → e.0 < s → Done s x es es' → Done s x (e ∷ es) (e ∷ es')
behind_one s x e es es' l d = record {
  slots = λ t. ap (λ b. nat_eq e.0 t || b) (d.slots t) ∙ or_swap (nat_eq s t) (nat_eq e.0 t) (holds (map (λ q. q.0) es) t);
  here = ap (λ b. if b then Some e.1 else at_slot es' s) (eq_not e.0 s (λ same. absurd (omega arith))) ∙ d.here;
  keeps = λ t y h. kept (nat_eq e.0 t) t y h;
}
  where
    kept : (b : Bool) (t : ℕ) (y : ℤ) → (if b then Some e.1 else at_slot es t) ≡ Some y → (if b then Some e.1 else at_slot es' t) ≡ Some y
    kept true t y h = h
    kept false t y h = d.keeps t y h

mapped_some : (e : ℕ × ℤ) (o : Option Env) (es' : Env) → option_map (λ more. e ∷ more) o ≡ Some es' → (l : Env) × (o ≡ Some l) × (e ∷ l ≡ es')
mapped_some e None es' h = cc
mapped_some e (Some l) es' h = (l, refl, cc)

record PutFrom (b s : ℕ) (x : ℤ) (es es' : Env) : Type 0 where
  rises : RisesFrom b es'
  done : Done s x es es'

put_from : (s : ℕ) (x : ℤ) (es es' : Env) (b : ℕ) → b < s → RisesFrom b es → put s x es ≡ Some es' → PutFrom b s x es es'
put_from s x [] es' b l r h = (let same : (s, x) ∷ [] ≡ es' = cc in subst (λ k. PutFrom b s x [] k) same (record { rises = (l, tt); done = record { slots = λ t. refl; here = ap (λ c. if c then Some x else None) (same_eq s); keeps = λ t y q. cc } }))
put_from s x (e ∷ es) es' b l r h = by (stands s e.0) (λ k q g. put_from s x es k e.0 q r.1 g)
  where
    by : Less s e.0 ⊎ (Same s e.0 ⊎ More s e.0) → ((k : Env) → e.0 < s → put s x es ≡ Some k → PutFrom e.0 s x es k) → PutFrom b s x (e ∷ es) es'
    by (inl m) rest =
        let same : (s, x) ∷ e ∷ es ≡ es' = (let g = rw (m.lt) at h in cc) in
        subst (λ k. PutFrom b s x (e ∷ es) k) same (record { rises = (l, (ltb-true s e.0 m.lt, r.1)); done = in_front s x e es (ltb-true s e.0 m.lt) r.1 })
    by (inr (inl m)) rest =
        let o = only_true (int_eq x e.1) (e ∷ es) es' (rw (m.lt, m.eq) at h) in
        subst (λ k. PutFrom b s x (e ∷ es) k) o.1 (record { rises = r; done = there s x e es (eqb-true s e.0 m.eq) (eq_fact x e.1 o.0) })
    by (inr (inr m)) rest =
        let o = mapped_some e (put s x es) es' (rw (m.lt, m.eq) at h) in
        let p = rest o.0 (more_is s e.0 m) o.1 in
        subst (λ k. PutFrom b s x (e ∷ es) k) o.2 (record { rises = (r.0, p.rises); done = behind_one s x e es o.0 (more_is s e.0 m) p.done })

record PutIn (s : ℕ) (x : ℤ) (es es' : Env) : Type 0 where
  rises : Rises es'
  done : Done s x es es'

put_in : (s : ℕ) (x : ℤ) (es es' : Env) → Rises es → put s x es ≡ Some es' → PutIn s x es es'
put_in s x [] es' r h = (let same : (s, x) ∷ [] ≡ es' = cc in subst (λ k. PutIn s x [] k) same (record { rises = tt; done = record { slots = λ t. refl; here = ap (λ c. if c then Some x else None) (same_eq s); keeps = λ t y q. cc } }))
put_in s x (e ∷ es) es' r h = by (stands s e.0)
  where
    by : Less s e.0 ⊎ (Same s e.0 ⊎ More s e.0) → PutIn s x (e ∷ es) es'
    by (inl m) =
        let same : (s, x) ∷ e ∷ es ≡ es' = (let g = rw (m.lt) at h in cc) in
        subst (λ k. PutIn s x (e ∷ es) k) same (record { rises = (ltb-true s e.0 m.lt, r); done = in_front s x e es (ltb-true s e.0 m.lt) r })
    by (inr (inl m)) =
        let o = only_true (int_eq x e.1) (e ∷ es) es' (rw (m.lt, m.eq) at h) in
        subst (λ k. PutIn s x (e ∷ es) k) o.1 (record { rises = r; done = there s x e es (eqb-true s e.0 m.eq) (eq_fact x e.1 o.0) })
    by (inr (inr m)) =
        let o = mapped_some e (put s x es) es' (rw (m.lt, m.eq) at h) in
        let p = put_from s x es o.0 e.0 (more_is s e.0 m) r o.1 in
        subst (λ k. PutIn s x (e ∷ es) k) o.2 (record { rises = p.rises; done = behind_one s x e es o.0 (more_is s e.0 m) p.done })

-- All conditions.

pub record Gathering (ts : List Test) (es es' : Env) : Type 0 where
  pub rises : Rises es'
  pub slots : (t : ℕ) → holds (map (λ e. e.0) es') t ≡ (holds (map test_slot ts) t || holds (map (λ e. e.0) es) t)
  pub all : AllHold es' ts
  pub keeps : (t : ℕ) (y : ℤ) → at_slot es t ≡ Some y → at_slot es' t ≡ Some y

given_some : {A B : Type 0} (o : Option A) (f : A → Option B) (x : B) → given o f ≡ Some x → (y : A) × (o ≡ Some y) × (f y ≡ Some x)
given_some None f x e = cc
given_some (Some y) f x e = (y, refl, e)

or_assoc : (a b c : Bool) → (a || (b || c)) ≡ (b || (a || c))
or_assoc true true c = refl
or_assoc true false c = refl
or_assoc false true c = refl
or_assoc false false c = refl

or_group : (a b c : Bool) → (a || (b || c)) ≡ ((b || a) || c)
or_group true true c = refl
or_group true false c = refl
or_group false true c = refl
or_group false false c = refl

with_one : (t : Test) (ts : List Test) (es mid es' : Env) → PutIn (asked t).0 (asked t).1 es mid → Gathering ts mid es' → Gathering (t ∷ ts) es es'
with_one (Flag s) ts es mid es' p g = record {
  rises = g.rises;
  slots = λ t. g.slots t ∙ (ap (λ b. holds (map test_slot ts) t || b) (p.done.slots t) ∙ or_group (holds (map test_slot ts) t) (nat_eq s t) (holds (map (λ e. e.0) es) t));
  all = (g.keeps s (pos 1) p.done.here, g.all);
  keeps = λ t y h. g.keeps t y (p.done.keeps t y h);
}
with_one (Equals s k) ts es mid es' p g = record {
  rises = g.rises;
  slots = λ t. g.slots t ∙ (ap (λ b. holds (map test_slot ts) t || b) (p.done.slots t) ∙ or_group (holds (map test_slot ts) t) (nat_eq s t) (holds (map (λ e. e.0) es) t));
  all = (g.keeps s k p.done.here, g.all);
  keeps = λ t y h. g.keeps t y (p.done.keeps t y h);
}

pub gathering : (ts : List Test) (es es' : Env) → Rises es → gathered ts es ≡ Some es' → Gathering ts es es'
gathering [] es es' r h = (let same : es ≡ es' = cc in subst (λ k. Gathering [] es k) same (record { rises = r; slots = λ t. refl; all = tt; keeps = λ t y q. q }))
gathering (t ∷ ts) es es' r h =
    let o = given_some (put (asked t).0 (asked t).1 es) (gathered ts) es' h in
    let p = put_in (asked t).0 (asked t).1 es o.0 r o.1 in
    with_one t ts es o.0 es' p (gathering ts o.0 es' p.rises o.2)

-- Conditions that hold together ask one number a slot.

module _ (env : Env) where
  -- the numbers are those of the env
  abbrev pub Sub : Env → Type 0
  Sub [] = Unit {0}
  Sub (e ∷ es) = (at_slot env e.0 ≡ Some e.1) × Sub es

  put_sub : (s : ℕ) (x : ℤ) (es : Env) → at_slot env s ≡ Some x → Sub es → (es' : Env) × (put s x es ≡ Some es') × Sub es'
  put_sub s x [] h u = ((s, x) ∷ [], refl, (h, tt))
  put_sub s x (e ∷ es) h u = by (stands s e.0) (put_sub s x es h u.1)
    where
      by : Less s e.0 ⊎ (Same s e.0 ⊎ More s e.0) → (es' : Env) × (put s x es ≡ Some es') × Sub es' → (es' : Env) × (put s x (e ∷ es) ≡ Some es') × Sub es'
      by (inl m) rest = ((s, x) ∷ e ∷ es, rw (m.lt) refl, (h, u))
      by (inr (inl m)) rest =
          let same : s ≡ e.0 = eqb-true s e.0 m.eq in
          let number : x ≡ e.1 = (let a : at_slot env s ≡ Some e.1 = ap (at_slot env) same ∙ u.0 in cc) in
          (e ∷ es, rw (m.lt, m.eq) (ap (λ b. only_if b (e ∷ es)) (ap (int_eq x) (sym number) ∙ eq_self x)), u)
      by (inr (inr m)) rest = (e ∷ rest.0, rw (m.lt, m.eq) (ap (option_map (λ more. e ∷ more)) rest.1), (u.0, rest.2))

  pub gather_sub : (ts : List Test) (es : Env) → AllHold env ts → Sub es → (es' : Env) × (gathered ts es ≡ Some es') × Sub es'
  gather_sub [] es h u = (es, refl, u)
  gather_sub (Flag s ∷ ts) es h u =
      let p = put_sub s (pos 1) es h.0 u in
      let g = gather_sub ts p.0 h.1 p.2 in
      (g.0, ap (λ o. given o (gathered ts)) p.1 ∙ g.1, g.2)
  gather_sub (Equals s k ∷ ts) es h u =
      let p = put_sub s k es h.0 u in
      let g = gather_sub ts p.0 h.1 p.2 in
      (g.0, ap (λ o. given o (gathered ts)) p.1 ∙ g.1, g.2)
