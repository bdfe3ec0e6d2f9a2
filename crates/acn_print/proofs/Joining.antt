-- A text that is printed in several calls.
use Rattle.std.proofs.Common.{◌≡◌, ℕ, ◌<◌, ◌≤◌, Bool, true, false, nat_lt, List, [], ◌++◌, Option, None, Some, refl, sym, ap, ◌∙◌, append_assoc, append-nil, subst, arith, inl, inr}
use Rattle.std.specs.Prelude.{Result, Ok, Err}
use Rattle.std.proofs.lemmas.Bool.Decides.{nat_tests}
use Rattle.acn_outside.specs.Counts.{Rose}
use Rattle.acn_outside.specs.Moves.{Gains}
use Rattle.acn_outside.specs.Whole.{GainsFront}
use Rattle.acn_outside.specs.declared.traits.Failed.{Failed}
use Rattle.acn_outside.proofs.Joined.{gains_more}
use Rattle.acn_print.specs.Printing.{Output, Prints}

-- nothing printed is nothing gained
gains_nothing : (o : Option (List ℕ)) → Gains o o []
gains_nothing None = tt
gains_nothing (Some bytes) = (bytes, refl, sym (append-nil bytes))

pub nothing : (o : Output) → Prints [] o o (Ok tt)
nothing o = record { written = gains_nothing o.0; front = tt; failed = tt; count = omega arith }

rose_later : (a b c : ℕ) → a ≤ b → b ≤ c → Rose b c → Rose a c
rose_later a b c h k (inl r) = inl (omega arith)
rose_later a b c h k (inr r) = by_test (nat_lt a c) refl
  where
    lt_is : (n m : ℕ) → nat_lt n m ≡ true → n < m
    lt_is n m e = grind (arith, nat_tests)

    lt_not : (n m : ℕ) → nat_lt n m ≡ false → m ≤ n
    lt_not n m e = grind (arith, nat_tests)

    by_test : (t : Bool) → nat_lt a c ≡ t → Rose a c
    by_test true e = inl (lt_is a c e)
    by_test false e = inr (let top = lt_not a c e in omega arith)

front_later : (a b c : Option (List ℕ)) (x y : List ℕ) → Gains a b x → GainsFront b c y → GainsFront a c (x ++ y)
front_later a b c x y p q = (x ++ q.0, q.1, ap (λ t. x ++ t) q.2 ∙ sym (append_assoc x q.0 q.1), gains_more a b c x q.0 p q.3)

front_longer : (a b : Option (List ℕ)) (x y : List ℕ) → GainsFront a b x → GainsFront a b (x ++ y)
front_longer a b x y p = (p.0, p.1 ++ y, ap (λ t. t ++ y) p.2 ∙ append_assoc p.0 p.1 y, p.3)

-- one text, and then another
pub joined : (x y : List ℕ) (a b c : Output) (r : Result (Unit {0}) Failed) → Prints x a b (Ok tt) → Prints y b c r → Prints (x ++ y) a c r
joined x y a b c (Ok u) p q = record { written = gains_more a.0 b.0 c.0 x y p.written q.written; front = tt; failed = tt; count = omega (arith, p.count, q.count) }
joined x y a b c (Err e) p q = record { written = tt; front = front_later a.0 b.0 c.0 x y p.written q.front; failed = rose_later a.1 b.1 c.1 p.count q.count q.failed; count = omega (arith, p.count, q.count) }

-- what failed in the first text failed in both
pub cut : (x y : List ℕ) (a b : Output) (e f : Failed) → Prints x a b (Err e) → Prints (x ++ y) a b (Err f)
cut x y a b e f p = record { written = tt; front = front_longer a.0 b.0 x y p.front; failed = p.failed; count = p.count }

-- In a loop: what is left to be printed completes the whole text.
abbrev pub Completes : (whole : List ℕ) (before : Output) (left : List ℕ) (now : Output) → Type 0
Completes whole before left now = (after : Output) (r : Result (Unit {0}) Failed) → Prints left now after r → Prints whole before after r

module _ (whole : List ℕ) (before : Output) (left : List ℕ) (now : Output) (given : Completes whole before left now) where
  -- a front of what is left was printed
  pub goes_on : (x rest : List ℕ) (m : Output) → left ≡ x ++ rest → Prints x now m (Ok tt) → Completes whole before rest m
  goes_on x rest m e p after r q = given after r (subst (λ t. Prints t now after r) (sym e) (joined x rest now m after r p q))

  -- printing it failed
  pub breaks_off : (x rest : List ℕ) (m : Output) (e f : Failed) → left ≡ x ++ rest → Prints x now m (Err e) → Prints whole before m (Err f)
  breaks_off x rest m e f is p = given m (Err f) (subst (λ t. Prints t now m (Err f)) (sym is) (cut x rest now m e f p))

  -- nothing is left
  pub ends : left ≡ [] → Prints whole before now (Ok tt)
  ends e = given now (Ok tt) (subst (λ t. Prints t now now (Ok tt)) (sym e) (nothing now))
