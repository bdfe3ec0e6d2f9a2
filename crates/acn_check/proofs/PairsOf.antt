-- The first pair of alternatives.
use Rattle.std.proofs.Common.{◌≡◌, ◌⊎◌, inl, inr, ℕ, zero, suc, ◌+◌, ◌<◌, List, [], ◌∷◌, Option, Some, None, refl, ◌∙◌, arith}
use Rattle.std.specs.Prelude.{slice_get}
use Rattle.acn_grammar.specs.Check.{CheckFault}
use Rattle.acn_grammar.specs.Slots.{first_of_two}
use Rattle.acn_grammar.specs.declared.node.Test.{Test}
use Rattle.acn_check.specs.First.{Det, overlapping, against, pairs}
use Rattle.acn_check.proofs.FirstOf.{Found, first_some, first_none}

abbrev pub Case : Type 0
Case = List ℕ × List Test

module _ (ds : List Det) (path : List ℕ) where
  -- two alternatives in order, of which the fault is
  pub record FoundPair (i : ℕ) (cases : List Case) (f : CheckFault) : Type 0 where
    pub one : ℕ
    pub other : ℕ
    pub m : ℕ
    pub n : ℕ
    pub c : Case
    pub d : Case
    pub m_is : m ≡ i + one
    pub n_is : n ≡ i + other
    pub in_order : one < other
    pub is_one : slice_get cases one ≡ Some c
    pub is_other : slice_get cases other ≡ Some d
    pub gives : overlapping ds path m c.1 n d.1 ≡ Some f
    pub before : (a b x y : ℕ) (v w : Case) → x ≡ i + a → y ≡ i + b → slice_get cases a ≡ Some v → slice_get cases b ≡ Some w → a < b → (a < one) ⊎ ((a ≡ one) × (b < other)) → overlapping ds path x v.1 y w.1 ≡ None

  with_first : (i : ℕ) (c : Case) (cases : List Case) (f : CheckFault) → Found (λ m x. overlapping ds path i c.1 m x.1) (suc i) cases f → FoundPair i (c ∷ cases) f
  with_first i c cases f r = record {
    one = 0;
    other = suc r.place;
    m = i;
    n = r.number;
    c = c;
    d = r.item;
    m_is = omega arith;
    n_is = (let k = r.counts in omega (arith, k));
    in_order = omega arith;
    is_one = refl;
    is_other = r.is_item;
    gives = r.gives;
    before = earlier r.place r.before;
  }
    where
      earlier : (place : ℕ) → ((j n : ℕ) (y : Case) → n ≡ suc i + j → j < place → slice_get cases j ≡ Some y → overlapping ds path i c.1 n y.1 ≡ None)
          → (a b x y : ℕ) (v w : Case) → x ≡ i + a → y ≡ i + b → slice_get (c ∷ cases) a ≡ Some v → slice_get (c ∷ cases) b ≡ Some w → a < b → (a < 0) ⊎ ((a ≡ 0) × (b < suc place)) → overlapping ds path x v.1 y w.1 ≡ None
      earlier place all a b x y v w e g h k l (inl z) = absurd (omega arith)
      earlier place all zero zero x y v w e g h k l (inr z) = absurd (omega arith)
      earlier place all (suc a) b x y v w e g h k l (inr z) = (let q = z.0 in absurd (omega arith))
      earlier place all zero (suc b) x y v w e g h k l (inr z) = (let same : c ≡ v = cc in let number : x ≡ i = omega arith in let q = z.1 in let none = all b y w (omega arith) (omega arith) k in cc)

  further : (i : ℕ) (c : Case) (cases : List Case) (f : CheckFault) → against ds path i c.1 (suc i) cases ≡ None → FoundPair (suc i) cases f → FoundPair i (c ∷ cases) f
  further i c cases f none r = record {
    one = suc r.one;
    other = suc r.other;
    m = r.m;
    n = r.n;
    c = r.c;
    d = r.d;
    m_is = (let k = r.m_is in omega (arith, k));
    n_is = (let k = r.n_is in omega (arith, k));
    in_order = (let k = r.in_order in omega (arith, k));
    is_one = r.is_one;
    is_other = r.is_other;
    gives = r.gives;
    before = earlier r.one r.other r.before;
  }
    where
      less : (a one b other : ℕ) → (suc a < suc one) ⊎ ((suc a ≡ suc one) × (suc b < suc other)) → (a < one) ⊎ ((a ≡ one) × (b < other))
      less a one b other (inl h) = inl (omega arith)
      less a one b other (inr h) = (let p = h.0 in let q = h.1 in inr (omega arith, omega arith))

      earlier : (one other : ℕ) → ((a b x y : ℕ) (v w : Case) → x ≡ suc i + a → y ≡ suc i + b → slice_get cases a ≡ Some v → slice_get cases b ≡ Some w → a < b → (a < one) ⊎ ((a ≡ one) × (b < other)) → overlapping ds path x v.1 y w.1 ≡ None)
          → (a b x y : ℕ) (v w : Case) → x ≡ i + a → y ≡ i + b → slice_get (c ∷ cases) a ≡ Some v → slice_get (c ∷ cases) b ≡ Some w → a < b → (a < suc one) ⊎ ((a ≡ suc one) × (b < suc other)) → overlapping ds path x v.1 y w.1 ≡ None
      earlier one other all zero zero x y v w e g h k l z = absurd (omega arith)
      earlier one other all (suc a) zero x y v w e g h k l z = absurd (omega arith)
      earlier one other all zero (suc b) x y v w e g h k l z = (let same : c ≡ v = cc in let number : x ≡ i = omega arith in let no = first_none (λ m q. overlapping ds path i c.1 m q.1) (suc i) cases none b y w (omega arith) k in cc)
      earlier one other all (suc a) (suc b) x y v w e g h k l z = all a b x y v w (omega arith) (omega arith) h k (omega arith) (less a one b other z)

  some_by : (i : ℕ) (c : Case) (cases : List Case) (f : CheckFault) → (pairs ds path (suc i) cases ≡ Some f → FoundPair (suc i) cases f) → (o : Option CheckFault) → against ds path i c.1 (suc i) cases ≡ o → first_of_two o (pairs ds path (suc i) cases) ≡ Some f → FoundPair i (c ∷ cases) f
  some_by i c cases f rest (Some g) h e = with_first i c cases f (first_some (λ m x. overlapping ds path i c.1 m x.1) (suc i) cases f (h ∙ e))
  some_by i c cases f rest None h e = further i c cases f h (rest e)

  pub pairs_some : (i : ℕ) (cases : List Case) (f : CheckFault) → pairs ds path i cases ≡ Some f → FoundPair i cases f
  pairs_some i [] f e = cc
  pairs_some i (c ∷ cases) f e = some_by i c cases f (λ g. pairs_some (suc i) cases f g) (against ds path i c.1 (suc i) cases) refl e

  none_by : (i : ℕ) (c : Case) (cases : List Case) → (pairs ds path (suc i) cases ≡ None → (a b x y : ℕ) (v w : Case) → x ≡ suc i + a → y ≡ suc i + b → slice_get cases a ≡ Some v → slice_get cases b ≡ Some w → a < b → overlapping ds path x v.1 y w.1 ≡ None)
      → (o : Option CheckFault) → against ds path i c.1 (suc i) cases ≡ o → first_of_two o (pairs ds path (suc i) cases) ≡ None → (a b x y : ℕ) (v w : Case) → x ≡ i + a → y ≡ i + b → slice_get (c ∷ cases) a ≡ Some v → slice_get (c ∷ cases) b ≡ Some w → a < b → overlapping ds path x v.1 y w.1 ≡ None
  none_by i c cases rest (Some g) h e a b x y v w p q r s l = cc
  none_by i c cases rest None h e zero zero x y v w p q r s l = absurd (omega arith)
  none_by i c cases rest None h e (suc a) zero x y v w p q r s l = absurd (omega arith)
  none_by i c cases rest None h e zero (suc b) x y v w p q r s l = (let same : c ≡ v = cc in let number : x ≡ i = omega arith in let no = first_none (λ m k. overlapping ds path i c.1 m k.1) (suc i) cases h b y w (omega arith) s in cc)
  none_by i c cases rest None h e (suc a) (suc b) x y v w p q r s l = rest e a b x y v w (omega arith) (omega arith) r s (omega arith)

  pub pairs_none : (i : ℕ) (cases : List Case) → pairs ds path i cases ≡ None → (a b x y : ℕ) (v w : Case) → x ≡ i + a → y ≡ i + b → slice_get cases a ≡ Some v → slice_get cases b ≡ Some w → a < b → overlapping ds path x v.1 y w.1 ≡ None
  pairs_none i [] e a b x y v w p q r s l = cc
  pairs_none i (c ∷ cases) e a b x y v w p q r s l = none_by i c cases (λ g. pairs_none (suc i) cases g) (against ds path i c.1 (suc i) cases) refl e a b x y v w p q r s l
