-- Ways and their ends.
use Rattle.std.proofs.Common.{◌≡◌, ℕ, zero, suc, ◌+◌, ◌<◌, Bool, true, false, cond, ◌&&◌, nat_eq, Option, Some, None, refl, sym, ap, subst, ◌∙◌, arith}
use Rattle.std.proofs.lemmas.Bool.Decides.{nat_tests}
use Rattle.std.specs.Prelude.{IfSome, OnOk, Result, Ok, Err}
use Rattle.acn_ends.specs.declared.spot.Spot.{Spot}
use Rattle.acn_ends.specs.declared.spot.End.{End}
use Rattle.acn_ends.specs.declared.spot.End.TheVariants as end
use Rattle.acn_ends.specs.declared.ends.Ends.{Ends}
use Rattle.acn_ends.specs.Ends.{after, is_same, EndsAt, IsEndless, IsRight, AreRight, end_of, OneMore}
use Rattle.acn_ends.proofs.Leading.{Leads, stays, goes, leads, led, right_of, all_right}

some_is_one : {A : Type 0} {o : Option A} {x y : A} → o ≡ Some x → o ≡ Some y → x ≡ y
some_is_one {A} {o} {x} {y} e f = let h : Some x ≡ Some y = sym e ∙ f in cc h

some_is_not_none : {A : Type 0} {o : Option A} {x : A} → o ≡ Some x → o ≡ None → ⊥
some_is_not_none {A} {o} {x} e f = let h : Some x ≡ None = sym e ∙ f in absurd (cc h)

both : (a b : Bool) → (a && b) ≡ true → (a ≡ true) × (b ≡ true)
both true true e = (refl, refl)
both true false e = absurd (cc e)
both false b e = absurd (cc e)

one_number : (a b : ℕ) → nat_eq a b ≡ true → a ≡ b
one_number a b e = grind (arith, nat_tests)

pub same_spot : (p q : Spot) → is_same p q ≡ true → p ≡ q
same_spot p q e =
    let h = both (nat_eq p.group q.group) (nat_eq p.item q.item) e in
    ap (λ (n : ℕ). record { group = n; item = p.item }) (one_number p.group q.group h.0) ∙ ap (λ (n : ℕ). record { group = q.group; item = n }) (one_number p.item q.item h.1)

module _ (next : Spot → Option Spot) where
  pub unique : (n m : ℕ) (p q r : Spot) → Leads next n p q → next q ≡ None → Leads next m p r → next r ≡ None → (n ≡ m) × (q ≡ r)
  unique zero zero p q r stays e stays f = (refl, refl)
  unique zero (suc m) p q r stays e (goes s l) f = absurd (some_is_not_none s e)
  unique (suc n) zero p q r (goes s l) e stays f = absurd (some_is_not_none s f)
  unique (suc n) (suc m) p q r (goes {q = a} s l) e (goes {q = b} t k) f =
      let same : b ≡ a = some_is_one t s in
      let h = unique n m a q r l e (subst (λ (z : Spot). Leads next m z r) same k) f in
      (ap suc h.0, h.1)

  -- what is behind a way has the end of its front
  on : (n m : ℕ) (p q r : Spot) → Leads next n p q → Leads next m p r → next r ≡ None → (d : ℕ) × (m ≡ n + d) × Leads next d q r
  on zero m p q r stays k f = (m, omega arith, k)
  on (suc n) zero p q r (goes s l) stays f = absurd (some_is_not_none s f)
  on (suc n) (suc m) p q r (goes {q = a} s l) (goes {q = b} t k) f =
      let same : b ≡ a = some_is_one t s in
      let h = on n m a q r l (subst (λ (z : Spot). Leads next m z r) same k) f in
      (h.0, (let g = h.1 in omega (arith, g)), h.2)

  -- a way that comes back has no end, by the count of the steps to it
  round_within : (most n : ℕ) (p : Spot) → Leads next (suc n) p p → (m : ℕ) (q : Spot) → m < most → Leads next m p q → next q ≡ None → ⊥
  round_within zero n p round m q lt l e = absurd (omega arith)
  round_within (suc most) n p round m q lt l e =
      let h = on (suc n) m p p q round l e in
      let less : h.0 < most = (let g = h.1 in omega (arith, g)) in
      round_within most n p round h.0 q less h.2 e

  pub round_endless : (n : ℕ) (p : Spot) → Leads next (suc n) p p → IsEndless next p
  round_endless n p round = record { none = λ m q at. round_within (suc m) n p round m q (omega arith) (leads next m p q at.way) at.end }

  pub longer : {n : ℕ} {p q r : Spot} → Leads next n p q → next q ≡ Some r → Leads next (suc n) p r
  longer (stays {p}) e = goes e stays
  longer (goes s l) e = goes s (longer l e)

  before_endless : (p q : Spot) → next p ≡ Some q → IsEndless next q → IsEndless next p
  before_endless p q s e = record { none = λ n r at. by n r (leads next n p r at.way) at.end }
    where
      by : (n : ℕ) (r : Spot) → Leads next n p r → next r ≡ None → ⊥
      by zero r stays f = some_is_not_none s f
      by (suc n) r (goes {q = b} t l) f = e.none n r (record { way = led next (subst (λ (z : Spot). Leads next n z r) (some_is_one t s) l); end = f })

  one_behind : (p q : Spot) → next p ≡ Some q → (d e : End) → IsRight next q d → OneMore d e → IsRight next p e
  one_behind p q s (end.At r n) e h o = subst (IsRight next p) (sym o) (record { way = led next (goes s (leads next n q r h.way)); end = h.end })
  one_behind p q s end.Never e h o = subst (IsRight next p) (sym o) (before_endless p q s h)

  pub behind : (ends : Ends) → AreRight next ends → (p q : Spot) (d : End) → next p ≡ Some q → end_of ends q ≡ Some d → (r : Option End) → IfSome r (OneMore d) → IfSome r (IsRight next p)
  behind ends right p q d s e None o = tt
  behind ends right p q d s e (Some f) o = one_behind p q s d f (right_of next ends right q d e) o

  -- one more that is noted
  by_same : (old : Ends) (p q : Spot) (e f : End) (b : Bool) → AreRight next old → IsRight next p e → cond b (Some e) (end_of old q) ≡ Some f → (b ≡ true → p ≡ q) → IsRight next q f
  by_same old p q e f true right h s t = let one : e ≡ f = cc s in subst (λ (z : Spot). IsRight next z f) (t refl) (subst (IsRight next p) one h)
  by_same old p q e f false right h s t = right_of next old right q f s

  pub noted : (old new : Ends) (p : Spot) (e : End) → AreRight next old → IsRight next p e → ((q : Spot) → end_of new q ≡ cond (is_same p q) (Some e) (end_of old q)) → AreRight next new
  noted old new p e right h is = all_right next new (λ q f g. by_same old p q e f (is_same p q) right h (sym (is q) ∙ g) (same_spot p q))

  pub here : (p : Spot) → next p ≡ None → IsRight next p (end.At p 0)
  here p e = record { way = led next stays; end = e }

  pub noted_on : {A E : Type 0} (r : Result A E) (old new : Ends) (p : Spot) (e : End) → AreRight next old → IsRight next p e → OnOk r ((q : Spot) → end_of new q ≡ cond (is_same p q) (Some e) (end_of old q)) → OnOk r (AreRight next new)
  noted_on (Ok x) old new p e right h is = noted old new p e right h is
  noted_on (Err x) old new p e right h is = tt
