-- Each moment of a walk can be met after those before it, or one is the first that can't.
use Rattle.std.proofs.Common.{◌≡◌, ℤ, pos, List, [], ◌∷◌, ◌++◌, length, Option, Some, None, refl, sym, ap, ◌∙◌, arith, append_assoc, append-nil, inl, inr, ◌⊎◌, subst, int_eq, length-append}
use Rattle.acn_num.specs.Ranges.{In, has}
use Rattle.acn_grammar.specs.Asks.{Ask, Equal, Avoid, Moment, asks, counts}
use Rattle.acn_grammar.specs.AsksOn.{Meetable, LeastAnswer}
use Rattle.acn_grammar.specs.Grammar.{Grammar}
use Rattle.acn_grammar.specs.Meets.{Unfit, conflict, content_size}
use Rattle.acn_grammar.specs.Refused.{asks_of, IsAsked, Contradicts, Earlier, Says, CanBeMet, FirstUnmet}
use Rattle.acn_grammar.specs.Slots.{domain_of}
use Rattle.acn_packet_laws.proofs.Homes.{truth}
use Rattle.acn_packet_laws.proofs.LeastAnswers.{least_or_none}
use Rattle.acn_packet_laws.proofs.OneRefusals.{EachMet, Splits, at_one, first_before, first_behind, splits}
use Rattle.acn_grammar.proofs.WholeTests.{eq_fact, eq_self}

-- The ask before it that contradicts one.

same_or_not : (a b : ℤ) → (a ≡ b) ⊎ (a ≡ b → ⊥)
same_or_not a b = truth {F = (a ≡ b) ⊎ (a ≡ b → ⊥)} (int_eq a b) (λ e. inl (eq_fact a b e)) (λ e. inr (λ same. let yes' = ap (int_eq a) (sym same) ∙ eq_self a in cc))

negated : {A : Type 0} → A ⊎ (A → ⊥) → (A → ⊥) ⊎ ((A → ⊥) → ⊥)
negated (inl a) = inr (λ n. n a)
negated (inr n) = inl n

contradicts : (a b : Ask) → Contradicts a b ⊎ (Contradicts a b → ⊥)
contradicts (Equal m) (Equal n) = negated (same_or_not m n)
contradicts (Equal m) (Avoid n) = same_or_not m n
contradicts (Avoid m) (Equal n) = same_or_not m n
contradicts (Avoid m) (Avoid n) = inr (λ h. h)

abbrev Which : Ask → Ask → Type 0
Which (Equal m) a = Contradicts (Equal m) a
Which (Avoid m) a = ⊥

which : (b a : Ask) → Which b a ⊎ (Which b a → ⊥)
which (Equal m) a = contradicts (Equal m) a
which (Avoid m) a = inr (λ h. h)

abbrev Found : (Ask → Type 0) → List Ask → Type 0
Found P l = (b : Ask) × IsAsked l b × P b

-- the first of a list with a property, or none has it
find_ask : (P : Ask → Type 0) → ((b : Ask) → P b ⊎ (P b → ⊥)) → (wanted : List Ask) → ((b : Ask) × IsAsked wanted b × P b) ⊎ ((b : Ask) → IsAsked wanted b → P b → ⊥)
find_ask P p [] = inr (λ b h q. none b h.early h.late h.is)
  where
    none : (b : Ask) (early late : List Ask) → [] ≡ early ++ b ∷ late → ⊥
    none b [] late e = cc
    none b (c ∷ early) late e = cc
find_ask P p (a ∷ wanted) = by (p a) (find_ask P p wanted)
  where
    not_later : (P a → ⊥) → ((b : Ask) → IsAsked wanted b → P b → ⊥) → (b : Ask) (early late : List Ask) → a ∷ wanted ≡ early ++ b ∷ late → P b → ⊥
    not_later n none b [] late e q = (let same : b ≡ a = cc in n (subst P same q))
    not_later n none b (c ∷ early) late e q = (let rest : wanted ≡ early ++ b ∷ late = cc in none b (record { early = early; late = late; is = rest }) q)

    by : P a ⊎ (P a → ⊥) → Found P wanted ⊎ ((b : Ask) → IsAsked wanted b → P b → ⊥) → Found P (a ∷ wanted) ⊎ ((b : Ask) → IsAsked (a ∷ wanted) b → P b → ⊥)
    by (inl h) r = inl (a, record { early = []; late = wanted; is = refl }, h)
    by (inr n) (inl f) = inl (f.0, record { early = a ∷ f.1.early; late = f.1.late; is = ap (λ l. a ∷ l) f.1.is }, f.2)
    by (inr n) (inr none) = inr (λ b h q. not_later n none b h.early h.late h.is q)

abbrev FoundEarlier : List Ask → Ask → Type 0
FoundEarlier before a = (e : Option Ask) × Earlier before a e

find_earlier : (before : List Ask) (a : Ask) → (e : Option Ask) × Earlier before a e
find_earlier before a = by (find_ask (λ b. Which b a) (λ b. which b a) before)
  where
    avoided : ((b : Ask) → IsAsked before b → Which b a → ⊥) → ((b : Ask) × IsAsked before b × Contradicts b a) ⊎ ((b : Ask) → IsAsked before b → Contradicts b a → ⊥) → FoundEarlier before a
    avoided clear (inr none) = (None, none)
    avoided clear (inl f) = kind f.0 f.1 f.2
      where
        kind : (b : Ask) → IsAsked before b → Contradicts b a → FoundEarlier before a
        kind (Equal m) h c = absurd (clear (Equal m) h c)
        kind (Avoid m) h c = (Some (Avoid m), (h, c, λ n q r. clear (Equal n) q r))

    by : ((b : Ask) × IsAsked before b × Which b a) ⊎ ((b : Ask) → IsAsked before b → Which b a → ⊥) → FoundEarlier before a
    by (inr clear) = avoided clear (find_ask (λ b. Contradicts b a) (λ b. contradicts b a) before)
    by (inl f) = kind f.0 f.1 f.2
      where
        kind : (b : Ask) → IsAsked before b → Which b a → FoundEarlier before a
        kind (Equal m) h c = (Some (Equal m), (h, c))
        kind (Avoid m) h c = absurd c

module _ (root : Grammar) where
  said : (before : List Moment) (m : Moment) → (u : Unfit) × Says before m u
  said before (counts path n sizing) = (record { path = path; why = content_size n }, refl)
  said before (asks path field s a) = (let e = find_earlier (asks_of field before) a in (record { path = path; why = conflict field e.0 a }, (e.0, e.1, refl)))

  can_or_not : (before : List Moment) (m : Moment) → CanBeMet root before m ⊎ (CanBeMet root before m → ⊥)
  can_or_not before (counts path n sizing) = truth {F = In sizing.sizes (pos n) ⊎ (In sizing.sizes (pos n) → ⊥)} (has sizing.sizes (pos n)) (λ e. inl e) (λ e. inr (λ q. cc))
  can_or_not before (asks path field s a) = by (least_or_none (domain_of root s) (asks_of field before ++ a ∷ []))
    where
      by : ((x : ℤ) × LeastAnswer (domain_of root s) (asks_of field before ++ a ∷ []) x) ⊎ (Meetable (domain_of root s) (asks_of field before ++ a ∷ []) → ⊥) → CanBeMet root before (asks path field s a) ⊎ (CanBeMet root before (asks path field s a) → ⊥)
      by (inl l) = inl (l.0, (l.1).answers)
      by (inr n) = inr n

  one_more : (early : List Moment) (m : Moment) → EachMet root early → CanBeMet root early m → EachMet root (early ++ m ∷ [])
  one_more early m met c e l n is = by (splits early e [] l m n is)
    where
      by : Splits early e m n → CanBeMet root e n
      by (at_one p q) = subst (λ x. CanBeMet root x n) p (subst (CanBeMet root early) q c)
      by (first_behind late p) = met e late n p
      by (first_before late p) =
          let one = ap length is in
          let two = ap length p in
          let a = length-append early (m ∷ []) in
          let b = length-append e (n ∷ l) in
          let d = length-append early (m ∷ late) in
          absurd (omega arith)

  abbrev Result : List Moment → Type 0
  Result ms = ((u : Unfit) × FirstUnmet root ms u) ⊎ EachMet root ms

  scan : (rest early : List Moment) → EachMet root early → Result (early ++ rest)
  scan [] early met = subst Result (sym (append-nil early)) (inr met)
  scan (m ∷ rest) early met = by (can_or_not early m) (λ c. scan rest (early ++ m ∷ []) (one_more early m met c))
    where
      by : CanBeMet root early m ⊎ (CanBeMet root early m → ⊥) → (CanBeMet root early m → Result ((early ++ m ∷ []) ++ rest)) → Result (early ++ m ∷ rest)
      by (inl c) more = subst Result (append_assoc early (m ∷ []) rest) (more c)
      by (inr n) more = (let w = said early m in inl (w.0, record { before = early; here = m; after = rest; whole = refl; met = met; unmet = n; says = w.1 }))

  pub first_or_met : (ms : List Moment) → ((u : Unfit) × FirstUnmet root ms u) ⊎ EachMet root ms
  first_or_met ms = scan ms [] (λ e l m h. absurd (none e l m h))
    where
      none : (e l : List Moment) (m : Moment) → [] ≡ e ++ m ∷ l → ⊥
      none [] l m h = cc
      none (x ∷ e) l m h = cc
