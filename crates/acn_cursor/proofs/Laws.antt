-- What each step takes, and that it takes what was written.
use Rattle.std.proofs.Common.{◌≡◌, ℕ, zero, suc, ◌^◌, ◌<◌, ◌≤◌, Bool, true, false, cond, List, [], ◌∷◌, ◌++◌, length, Option, Some, None, refl, sym, ap, subst, ◌∙◌, append_assoc, length-append, arith, rules}
use Rattle.std.specs.Prelude.{option_and_then, Ok, Err}
use Rattle.std.specs.List.{flat_map, AllByRecursion}
use Rattle.std.specs.Str.{bytes_eq}
use Rattle.std.specs.Fmt.{decimal}
use Rattle.std.specs.Cmp.Derive.{both_true}
use Rattle.std.proofs.lemmas.Slice.Eq.{bytes_eq-Decides}
use Rattle.std.proofs.lemmas.Option.{cond_some}
use denote.Enum.Bare.{same_true, true_same}
use Rattle.acn_lex.specs.contracts.Kind.{the_type}
use Rattle.acn_lex.specs.declared.Kind.{Kind}
use Rattle.acn_lex.specs.declared.Kind.TheVariants.{Word, Number}
use Rattle.acn_lex.specs.Number.{number_in}
use Rattle.acn_lex.proofs.NumberLemmas as written
use Rattle.acn_lex.specs.Lexeme.{Lexeme, same_kind}
use Rattle.acn_cursor.specs.Steps.{Parser, Outcome, given, and_then, ◌>>=◌, token, sees, behind, after, eat, expect, text_of, taken_if, passing, word, number, repeat, many, pure}
use Rattle.std.proofs.lemmas.Bool.{and_parts}

pub ap2 : {A B C : Type 0} (f : A → B → C) {x y : A} {u v : B} → x ≡ y → u ≡ v → f x u ≡ f y v
ap2 f {x} {y} {u} {v} p q = ap (λ a. f a u) p ∙ ap (f y) q

-- what an outcome is
abbrev pub outcome_of : {A : Type 0} → A × List Lexeme → Outcome A
outcome_of p = Ok p

pub outcome_is : {A : Type 0} (p q : A × List Lexeme) → outcome_of p ≡ outcome_of q → (p.0 ≡ q.0) × (p.1 ≡ q.1)
outcome_is {A} p q e = let k : p ≡ q = cc in (ap (λ (z : A × List Lexeme). z.0) k, ap (λ (z : A × List Lexeme). z.1) k)

-- ---- one after the other

pub bind_found : {A B : Type 0} (p : Parser A) (f : A → Parser B) (ts : List Lexeme) (y : B × List Lexeme) → (p >>= f) ts ≡ Ok y → (x : A) × (m : List Lexeme) × (p ts ≡ Ok (x, m)) × (f x m ≡ Ok y)
bind_found {A} {B} p f ts y e = opened (p ts) refl e
  where
    opened : (o : Outcome A) → p ts ≡ o → and_then o f ≡ Ok y → (x : A) × (m : List Lexeme) × (p ts ≡ Ok (x, m)) × (f x m ≡ Ok y)
    opened (Err left) e h = absurd cc
    opened (Ok q) e h = (q.0, q.1, e, h)

-- the step that came first in an outcome
pub first_step : {A B : Type 0} (o : Outcome A) (f : A → Parser B) (y : B × List Lexeme) → and_then o f ≡ Ok y → (x : A) × (m : List Lexeme) × (o ≡ Ok (x, m)) × (f x m ≡ Ok y)
first_step (Err left) f y h = absurd cc
first_step (Ok q) f y h = (q.0, q.1, refl, h)

-- what follows from an outcome follows from its first step and the others
pub then_found : {A B : Type 0} {P : Type 0} (o : Outcome A) (f : A → Parser B) (y : B × List Lexeme) → and_then o f ≡ Ok y
    → ((x : A) (m : List Lexeme) → o ≡ Ok (x, m) → f x m ≡ Ok y → P) → P
then_found (Err left) f y h k = absurd cc
then_found (Ok q) f y h k = k q.0 q.1 refl h

pub then_again : {A B : Type 0} (o : Outcome A) (f : A → Parser B) (x : A) (m : List Lexeme) (y : Outcome B) → o ≡ Ok (x, m) → f x m ≡ y → and_then o f ≡ y
then_again o f x m y e h = ap (λ o. and_then o f) e ∙ h

-- x was taken from the front of ts, and r is left
pub record Takes {A : Type 0} (tokens : A → List Lexeme) (Fits : A → Type 0) (ts : List Lexeme) (x : A) (r : List Lexeme) : Type 0 where
  pub parts : ts ≡ tokens x ++ r
  pub fits : Fits x

abbrev pub outcome : {A : Type 0} → A → List Lexeme → Outcome A
outcome x r = Ok (x, r)

pub done : {A : Type 0} {tokens : A → List Lexeme} {Fits : A → Type 0} {ts : List Lexeme} (x : A) (m : List Lexeme) (y : A) (r : List Lexeme) → outcome x m ≡ outcome y r → ts ≡ tokens x ++ m → Fits x → Takes tokens Fits ts y r
done {A} {tokens} {Fits} {ts} x m y r e parts fits =
    let k = outcome_is (x, m) (y, r) e in
    record { parts = parts ∙ ap2 (λ (a : A) (b : List Lexeme). tokens a ++ b) k.0 k.1; fits = subst Fits k.0 fits }

pub bind_again : {A B : Type 0} (p : Parser A) (f : A → Parser B) (ts : List Lexeme) (x : A) (m : List Lexeme) → p ts ≡ Ok (x, m) → (p >>= f) ts ≡ f x m
bind_again p f ts x m e = ap (λ o. and_then o f) e

-- ---- kinds

pub kind_same : (a b : Kind) → same_kind a b ≡ true → a ≡ b
unfolding same_kind
kind_same a b e = same_true the_type (search rules) a b e

pub same_kind_refl : (a : Kind) → same_kind a a ≡ true
unfolding same_kind
same_kind_refl a = true_same the_type a a refl

-- ---- a token of a kind and text

pub sees_found : (k : Kind) (text : List ℕ) (ts : List Lexeme) → sees k text ts ≡ true → ts ≡ token k text ∷ behind ts
unfolding sees
sees_found k text [] e = absurd cc
sees_found k text (t ∷ ts) e =
    let b = and_parts (same_kind t.kind k) (bytes_eq t.text text) e in
    ap2 (λ (a : Kind) (b : List ℕ). token a b ∷ ts) (kind_same t.kind k b.0) ((bytes_eq-Decides t.text text).0 b.1)

pub sees_again : (k : Kind) (text : List ℕ) (ts : List Lexeme) → sees k text (token k text ∷ ts) ≡ true
unfolding sees
sees_again k text ts = both_true (same_kind_refl k) ((bytes_eq-Decides text text).1 refl)

cond_pair : {A : Type 0} (b : Bool) (x y : A × List Lexeme) (left : ℕ) → cond b (outcome_of x) (Err left) ≡ Ok y → (b ≡ true) × (x ≡ y)
cond_pair true x y left e = (refl, cc)
cond_pair false x y left e = absurd cc

pub expect_found : (k : Kind) (text : List ℕ) (ts : List Lexeme) (x : Unit {0}) (r : List Lexeme) → expect k text ts ≡ Ok (x, r) → ts ≡ token k text ∷ r
unfolding expect
expect_found k text ts x r e =
    let c = cond_pair (sees k text ts) (tt, behind ts) (x, r) (length ts) e in
    sees_found k text ts c.0 ∙ ap (λ (p : Unit {0} × List Lexeme). token k text ∷ p.1) c.1

pub expect_again : (k : Kind) (text : List ℕ) (r : List Lexeme) → expect k text (token k text ∷ r) ≡ Ok (tt, r)
unfolding expect
expect_again k text r = rw (sees_again k text r) refl

pub sees_kind : (k other : Kind) (text t : List ℕ) (r : List Lexeme) → same_kind other k ≡ false → sees k text (token other t ∷ r) ≡ false
unfolding sees
sees_kind k other text t r e = rw e refl

pub sees_text : (k : Kind) (text t : List ℕ) (r : List Lexeme) → bytes_eq t text ≡ false → sees k text (token k t ∷ r) ≡ false
unfolding sees
sees_text k text t r e = rw (same_kind_refl k, e) refl

-- what may have been eaten
abbrev pub Eaten : Kind → List ℕ → List Lexeme → Bool → List Lexeme → Type 0
Eaten k text ts true r = ts ≡ token k text ∷ r
Eaten k text ts false r = ts ≡ r

pub eat_found : (k : Kind) (text : List ℕ) (ts : List Lexeme) (b : Bool) (r : List Lexeme) → eat k text ts ≡ Ok (b, r) → Eaten k text ts b r
unfolding eat after
eat_found k text ts b r e =
    let o = outcome_is (sees k text ts, after k text ts) (b, r) e in
    subst (λ (z : List Lexeme). Eaten k text ts b z) o.1 (by_sees b o.0)
  where
    by_sees : (b : Bool) → sees k text ts ≡ b → Eaten k text ts b (cond (sees k text ts) (behind ts) ts)
    by_sees true p = rw p (sees_found k text ts p)
    by_sees false p = rw p refl

pub eat_again : (k : Kind) (text : List ℕ) (r : List Lexeme) → eat k text (token k text ∷ r) ≡ Ok (true, r)
unfolding eat after
eat_again k text r = rw (sees_again k text r) refl

pub eat_nothing : (k : Kind) (text : List ℕ) (ts : List Lexeme) → sees k text ts ≡ false → eat k text ts ≡ Ok (false, ts)
unfolding eat after
eat_nothing k text ts e = rw e refl

pub given_found : (k : Kind) (text : List ℕ) (ts : List Lexeme) (b : Bool) (r : List Lexeme) → eat k text ts ≡ Ok (b, r) → ts ≡ given b (token k text) ++ r
given_found k text ts true r e = eat_found k text ts true r e
given_found k text ts false r e = eat_found k text ts false r e

pub given_again : (k : Kind) (text : List ℕ) (b : Bool) (r : List Lexeme) → sees k text r ≡ false → eat k text (given b (token k text) ++ r) ≡ Ok (b, r)
given_again k text true r e = eat_again k text r
given_again k text false r e = eat_nothing k text r e

-- ---- a token whose text is read

pub text_of_found : (k : Kind) (ts : List Lexeme) (x : List ℕ) → text_of k ts ≡ Some x → ts ≡ token k x ∷ behind ts
unfolding text_of
text_of_found k [] x e = absurd cc
text_of_found k (t ∷ ts) x e =
    let c = cond_some (same_kind t.kind k) t.text x e in
    ap2 (λ (a : Kind) (b : List ℕ). token a b ∷ ts) (kind_same t.kind k c.0) c.1

pub text_of_again : (k : Kind) (x : List ℕ) (ts : List Lexeme) → text_of k (token k x ∷ ts) ≡ Some x
unfolding text_of
text_of_again k x ts = rw (same_kind_refl k) refl

pub then_some : {A B : Type 0} (o : Option A) (f : A → Option B) (y : B) → option_and_then f o ≡ Some y → (x : A) × (o ≡ Some x) × (f x ≡ Some y)
then_some None f y e = absurd cc
then_some (Some x) f y e = (x, refl, e)

pub taken_found : {A : Type 0} (o : Option A) (ts : List Lexeme) (x : A) (r : List Lexeme) → taken_if o ts ≡ Ok (x, r) → (o ≡ Some x) × (behind ts ≡ r)
taken_found None ts x r e = absurd cc
taken_found (Some a) ts x r e = let k = outcome_is (a, behind ts) (x, r) e in (ap Some k.0, k.1)

pub word_found : (test : List ℕ → Bool) (ts : List Lexeme) (x : List ℕ) (r : List Lexeme) → word test ts ≡ Ok (x, r) → (ts ≡ token Word x ∷ r) × (test x ≡ true)
unfolding word
word_found test ts x r e =
    let t = taken_found (option_and_then (passing test) (text_of Word ts)) ts x r e in
    let s = then_some (text_of Word ts) (passing test) x t.0 in
    let c = cond_some (test s.0) s.0 x s.2 in
    (text_of_found Word ts s.0 s.1 ∙ ap2 (λ (a : List ℕ) (b : List Lexeme). token Word a ∷ b) c.1 t.1, subst (λ (a : List ℕ). test a ≡ true) c.1 c.0)

pub word_again : (test : List ℕ → Bool) (x : List ℕ) (r : List Lexeme) → test x ≡ true → word test (token Word x ∷ r) ≡ Ok (x, r)
unfolding word
word_again test x r e = rw (text_of_again Word x r, e) refl

pub number_found : (ts : List Lexeme) (n : ℕ) (r : List Lexeme) → number ts ≡ Ok (n, r) → (ts ≡ token Number (decimal n) ∷ r) × (n < 2 ^ 64)
unfolding number
number_found ts n r e =
    let t = taken_found (option_and_then number_in (text_of Number ts)) ts n r e in
    let s = then_some (text_of Number ts) number_in n t.0 in
    let w = written.number_found s.0 n s.2 in
    (text_of_found Number ts s.0 s.1 ∙ ap2 (λ (a : List ℕ) (b : List Lexeme). token Number a ∷ b) w.0 t.1, w.1)

pub number_again : (n : ℕ) (r : List Lexeme) → n < 2 ^ 64 → number (token Number (decimal n) ∷ r) ≡ Ok (n, r)
unfolding number
number_again n r h = rw (text_of_again Number (decimal n) r, written.number_again n h) refl

-- ---- many

module _ {A : Type 0} (goes : List Lexeme → Bool) (item : Parser A) (tokens : A → List Lexeme) (Fits : A → Type 0) where
  abbrev pub Taken : List Lexeme → List A → List Lexeme → Type 0
  Taken = Takes (flat_map tokens) (AllByRecursion Fits)

  pub nothing_taken : (ts : List Lexeme) (xs : List A) (r : List Lexeme) → outcome [] ts ≡ outcome xs r → Taken ts xs r
  nothing_taken ts xs r e = done [] ts xs r e refl tt

  abbrev pub Found : Type 0
  Found = (ts : List Lexeme) (x : A) (r : List Lexeme) → item ts ≡ Ok (x, r) → Takes tokens Fits ts x r

  abbrev turn : ℕ → Bool → List Lexeme → Outcome (List A)
  turn n b ts = cond b (and_then (item ts) (λ x. repeat goes item n >>= (λ xs. pure (x ∷ xs)))) (outcome [] ts)

  turn_taken : Found → (n : ℕ) → ((ts : List Lexeme) (xs : List A) (r : List Lexeme) → repeat goes item n ts ≡ Ok (xs, r) → Taken ts xs r)
      → (b : Bool) (ts : List Lexeme) (xs : List A) (r : List Lexeme) → turn n b ts ≡ outcome xs r → Taken ts xs r
  turn_taken found n more false ts xs r h = nothing_taken ts xs r h
  turn_taken found n more true ts xs r h =
      let a = bind_found item (λ x. repeat goes item n >>= (λ xs. pure (x ∷ xs))) ts (xs, r) h in
      let b = bind_found (repeat goes item n) (λ xs. pure (a.0 ∷ xs)) a.1 (xs, r) a.3 in
      let first = found ts a.0 a.1 a.2 in
      let others = more a.1 b.0 b.1 b.2 in
      let whole : ts ≡ flat_map tokens (a.0 ∷ b.0) ++ b.1 = first.parts ∙ ap (λ (z : List Lexeme). tokens a.0 ++ z) others.parts ∙ sym (append_assoc (tokens a.0) (flat_map tokens b.0) b.1) in
      done (a.0 ∷ b.0) b.1 xs r b.3 whole (first.fits, others.fits)

  pub repeat_found : Found → (n : ℕ) (ts : List Lexeme) (xs : List A) (r : List Lexeme) → repeat goes item n ts ≡ Ok (xs, r) → Taken ts xs r
  repeat_found found zero ts xs r e = nothing_taken ts xs r e
  repeat_found found (suc n) ts xs r e = turn_taken found n (repeat_found found n) (goes ts) ts xs r e

  module _ (Follows : List Lexeme → Type 0) (limit : ℕ)
      (again : (x : A) (r : List Lexeme) → length (tokens x ++ r) ≤ limit → Fits x → Follows r → item (tokens x ++ r) ≡ Ok (x, r))
      (starts : (x : A) (r : List Lexeme) → Fits x → goes (tokens x ++ r) ≡ true)
      (next : (x : A) (r : List Lexeme) → Fits x → Follows (tokens x ++ r))
      (some : (x : A) → Fits x → 0 < length (tokens x)) where
    may_follow : (xs : List A) (r : List Lexeme) → AllByRecursion Fits xs → Follows r → Follows (flat_map tokens xs ++ r)
    may_follow [] r fits follows = follows
    may_follow (x ∷ xs) r fits follows = subst Follows (sym (append_assoc (tokens x) (flat_map tokens xs) r)) (next x (flat_map tokens xs ++ r) fits.0)

    pub repeat_again : (xs : List A) (n : ℕ) (r : List Lexeme) → length xs ≤ n → length (flat_map tokens xs ++ r) ≤ limit → AllByRecursion Fits xs → Follows r → goes r ≡ false
        → repeat goes item n (flat_map tokens xs ++ r) ≡ Ok (xs, r)
    repeat_again [] zero r le bound fits follows ends = refl
    repeat_again [] (suc n) r le bound fits follows ends = rw ends refl
    repeat_again (x ∷ xs) zero r le bound fits follows ends = absurd (omega arith)
    repeat_again (x ∷ xs) (suc n) r le bound fits follows ends =
        let rest = flat_map tokens xs ++ r in
        let split = append_assoc (tokens x) (flat_map tokens xs) r in
        let fits_in : length (tokens x ++ rest) ≤ limit = subst (λ z. length z ≤ limit) split bound in
        let rest_in : length rest ≤ limit = omega (arith, length-append (tokens x) rest) in
        let one = again x rest fits_in fits.0 (may_follow xs r fits.1 follows) in
        let others = repeat_again xs n r (omega arith) rest_in fits.1 follows ends in
        rw (split, starts x rest fits.0)
        (ap (λ o. and_then o (λ x. repeat goes item n >>= (λ xs. pure (x ∷ xs)))) one ∙ ap (λ o. and_then o (λ xs. pure (x ∷ xs))) others)

    length-flat_map-le : (xs : List A) → AllByRecursion Fits xs → length xs ≤ length (flat_map tokens xs)
    length-flat_map-le [] fits = omega arith
    length-flat_map-le (x ∷ xs) fits = omega (arith, some x fits.0, length-flat_map-le xs fits.1, length-append (tokens x) (flat_map tokens xs))

    pub many_again : (xs : List A) (r : List Lexeme) → length (flat_map tokens xs ++ r) ≤ limit → AllByRecursion Fits xs → Follows r → goes r ≡ false
        → many goes item (flat_map tokens xs ++ r) ≡ Ok (xs, r)
    many_again xs r bound fits follows ends =
        repeat_again xs (length (flat_map tokens xs ++ r)) r (omega (arith, length-flat_map-le xs fits, length-append (flat_map tokens xs) r)) bound fits follows ends
