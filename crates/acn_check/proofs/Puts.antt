-- Numbers of slots, put among others.
use Rattle.std.proofs.Common.{◌≡◌, ◌⊎◌, inl, inr, ℕ, ℤ, Bool, true, false, List, [], ◌∷◌, ◌++◌, Option, Some, None, refl, sym, ap, ◌∙◌, arith, nat_eq, nat_lt, nat_le}
use Rattle.std.specs.Prelude.{option_map}
use Rattle.std.specs.List.{insert}
use Rattle.std.specs.Ordering.{int_eq}
use Rattle.std.proofs.lemmas.Bool.Decides.{nat_tests}
use Rattle.acn_check.specs.Program.{IsPut}
use Rattle.acn_check.specs.First.{put, place_of, number_at, gathered, asked, given, only_if}
use Rattle.acn_grammar.specs.declared.node.Test.{Test}

-- how two slots stand to each other
pub record Less (s t : ℕ) : Type 0 where
  pub lt : nat_lt s t ≡ true
  pub le : nat_le s t ≡ true
  pub other : nat_eq t s ≡ false

pub record Same (s t : ℕ) : Type 0 where
  pub lt : nat_lt s t ≡ false
  pub eq : nat_eq s t ≡ true
  pub other : nat_eq t s ≡ true
  pub le : nat_le s t ≡ true

pub record More (s t : ℕ) : Type 0 where
  pub lt : nat_lt s t ≡ false
  pub eq : nat_eq s t ≡ false
  pub le : nat_le s t ≡ false

less : (s t : ℕ) → nat_lt s t ≡ true → Less s t
less s t h = record { lt = h; le = grind (arith, nat_tests); other = grind (arith, nat_tests) }

same : (s t : ℕ) → nat_lt s t ≡ false → nat_eq s t ≡ true → Same s t
same s t h e = record { lt = h; eq = e; other = grind (arith, nat_tests); le = grind (arith, nat_tests) }

more : (s t : ℕ) → nat_lt s t ≡ false → nat_eq s t ≡ false → More s t
more s t h e = record { lt = h; eq = e; le = grind (arith, nat_tests) }

pub stands : (s t : ℕ) → Less s t ⊎ (Same s t ⊎ More s t)
stands s t = by (nat_lt s t) refl (nat_eq s t) refl
  where
    by : (a : Bool) → nat_lt s t ≡ a → (b : Bool) → nat_eq s t ≡ b → Less s t ⊎ (Same s t ⊎ More s t)
    by true h b k = inl (less s t h)
    by false h true k = inr (inl (same s t h k))
    by false h false k = inr (inr (more s t h k))

pub put_there : (s : ℕ) (x y : ℤ) (es : List (ℕ × ℤ)) → number_at s (place_of s es) es ≡ Some y → put s x es ≡ only_if (int_eq x y) es
put_there s x y [] h = cc
put_there s x y (e ∷ es) h = by (stands s e.0) (λ k. put_there s x y es k)
  where
    found : (b : Bool) (y z : ℤ) (l : List (ℕ × ℤ)) → Some z ≡ Some y → only_if (int_eq x z) l ≡ only_if (int_eq x y) l
    found b y z l e' = (let same' : z ≡ y = cc in ap (λ w. only_if (int_eq x w) l) same')

    behind : (b : Bool) (l : List (ℕ × ℤ)) → option_map (λ more. e ∷ more) (only_if b l) ≡ only_if b (e ∷ l)
    behind true l = refl
    behind false l = refl

    by : Less s e.0 ⊎ (Same s e.0 ⊎ More s e.0) → (number_at s (place_of s es) es ≡ Some y → put s x es ≡ only_if (int_eq x y) es) → put s x (e ∷ es) ≡ only_if (int_eq x y) (e ∷ es)
    by (inl l) rest = (let k = rw (l.le, l.other) at h in cc)
    by (inr (inl t)) rest = rw (t.lt, t.eq) (found true y e.1 (e ∷ es) (rw (t.le, t.other) at h))
    by (inr (inr m)) rest = rw (m.lt, m.eq) (ap (option_map (λ more. e ∷ more)) (rest (rw (m.le) at h)) ∙ behind (int_eq x y) es)

pub put_new : (s : ℕ) (x : ℤ) (es : List (ℕ × ℤ)) → number_at s (place_of s es) es ≡ None → put s x es ≡ Some (insert es (place_of s es) (s, x))
put_new s x [] h = refl
put_new s x (e ∷ es) h = by (stands s e.0) (λ k. put_new s x es k)
  where
    by : Less s e.0 ⊎ (Same s e.0 ⊎ More s e.0) → (number_at s (place_of s es) es ≡ None → put s x es ≡ Some (insert es (place_of s es) (s, x))) → put s x (e ∷ es) ≡ Some (insert (e ∷ es) (place_of s (e ∷ es)) (s, x))
    by (inl l) rest = rw (l.lt, l.le) refl
    by (inr (inl t)) rest = (let k = rw (t.le, t.other) at h in cc)
    by (inr (inr m)) rest = rw (m.lt, m.eq, m.le) (ap (option_map (λ more. e ∷ more)) (rest (rw (m.le) at h)))

given-given : {A B C : Type 0} (o : Option A) (f : A → Option B) (g : B → Option C) → given (given o f) g ≡ given o (λ x. given (f x) g)
given-given None f g = refl
given-given (Some x) f g = refl

pub gathered-append : (ts us : List Test) (es : List (ℕ × ℤ)) → gathered (ts ++ us) es ≡ given (gathered ts es) (gathered us)
gathered-append [] us es = refl
gathered-append (t ∷ ts) us es = by (put (asked t).0 (asked t).1 es) (λ vs. gathered-append ts us vs)
  where
    by : (o : Option (List (ℕ × ℤ))) → ((vs : List (ℕ × ℤ)) → gathered (ts ++ us) vs ≡ given (gathered ts vs) (gathered us)) → given o (gathered (ts ++ us)) ≡ given (given o (gathered ts)) (gathered us)
    by None more' = refl
    by (Some vs) more' = more' vs

agrees : (s : ℕ) (x : ℤ) (es : List (ℕ × ℤ)) (o : Option ℤ) (b : Bool) → number_at s (place_of s es) es ≡ o → option_map (int_eq x) o ≡ Some b → IsPut (put s x es) b es
agrees s x es None b h e = cc
agrees s x es (Some y) b h e = put_as (put s x es) (int_eq x y) b (put_there s x y es h) (let k : int_eq x y ≡ b = cc in k)
  where
    put_as : (o : Option (List (ℕ × ℤ))) (t b : Bool) → o ≡ only_if t es → t ≡ b → IsPut o b es
    put_as o true true k q = k
    put_as o true false k q = cc
    put_as o false true k q = cc
    put_as o false false k q = k

-- a slot that has a number keeps it
pub put_agrees : (s : ℕ) (x : ℤ) (es : List (ℕ × ℤ)) (b : Bool) → option_map (int_eq x) (number_at s (place_of s es) es) ≡ Some b → IsPut (put s x es) b es
put_agrees s x es b e = agrees s x es (number_at s (place_of s es) es) b refl e

pub put_fresh : (s : ℕ) (x : ℤ) (es : List (ℕ × ℤ)) → option_map (int_eq x) (number_at s (place_of s es) es) ≡ None → put s x es ≡ Some (insert es (place_of s es) (s, x))
put_fresh s x es e = put_new s x es (by (number_at s (place_of s es) es) e)
  where
    by : (o : Option ℤ) → option_map (int_eq x) o ≡ None → o ≡ None
    by None e' = refl
    by (Some y) e' = cc

-- what the conditions of two alternatives ask, one after the other

taken : (o : Option (List (ℕ × ℤ))) (b : Bool) (vs : List (ℕ × ℤ)) → IsPut o b vs → b ≡ true → o ≡ Some vs
taken o true vs p e = p
taken o false vs p e = cc

refused : (o : Option (List (ℕ × ℤ))) (b : Bool) (vs : List (ℕ × ℤ)) → IsPut o b vs → b ≡ false → o ≡ None
refused o true vs p e = cc
refused o false vs p e = p

pub first_refused : (ts us : List Test) (b : Bool) (es vs : List (ℕ × ℤ)) → es ≡ [] → IsPut (gathered ts es) b vs → b ≡ false → None ≡ gathered (ts ++ us) []
first_refused ts us b es vs n p e = sym (gathered-append ts us [] ∙ ap (λ o. given o (gathered us)) (ap (gathered ts) (sym n) ∙ refused (gathered ts es) b vs p e))

pub second_refused : (ts us : List Test) (b d : Bool) (es vs ws : List (ℕ × ℤ)) → es ≡ [] → IsPut (gathered ts es) b vs → b ≡ true → IsPut (gathered us vs) d ws → d ≡ false → None ≡ gathered (ts ++ us) []
second_refused ts us b d es vs ws n p e q f = sym (gathered-append ts us [] ∙ (ap (λ o. given o (gathered us)) (ap (gathered ts) (sym n) ∙ taken (gathered ts es) b vs p e) ∙ refused (gathered us vs) d ws q f))

pub both_taken : (ts us : List Test) (b d : Bool) (es vs ws : List (ℕ × ℤ)) → es ≡ [] → IsPut (gathered ts es) b vs → b ≡ true → IsPut (gathered us vs) d ws → d ≡ true → Some ws ≡ gathered (ts ++ us) []
both_taken ts us b d es vs ws n p e q f = sym (gathered-append ts us [] ∙ (ap (λ o. given o (gathered us)) (ap (gathered ts) (sym n) ∙ taken (gathered ts es) b vs p e) ∙ taken (gathered us vs) d ws q f))
