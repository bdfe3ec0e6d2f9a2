-- A value is refused for one reason: the first moment that can't be met is one, and so is the earlier ask that contradicts it.
use Rattle.std.proofs.Common.{◌≡◌, ℕ, ℤ, List, [], ◌∷◌, ◌++◌, Option, Some, None, refl, sym, ap, ◌∙◌, append_assoc, append-nil, inl, inr, ◌⊎◌, subst}
use Rattle.std.specs.List.{AllByRecursion}
use Rattle.std.proofs.lemmas.Grind.{flat_map-append}
use Rattle.acn_grammar.specs.Asks.{Ask, Equal, Avoid, Moment, asks, counts, moments, same_name}
use Rattle.acn_grammar.specs.AsksOn.{MeetsAsk, Meetable, Answers}
use Rattle.acn_grammar.specs.Grammar.{Grammar}
use Rattle.acn_grammar.specs.Meets.{Unfit, conflict, breach}
use Rattle.acn_grammar.specs.Refused.{of_field, asks_of, IsAsked, Contradicts, Earlier, Says, CanBeMet, FirstUnmet, RefusedAfter}
use Rattle.acn_grammar.specs.Slots.{domain_of}
use Rattle.acn_packet_laws.specs.Laws.{OneRefusal}
use Rattle.acn_packet_laws.proofs.Homes.{truth}
use Rattle.acn_packet_laws.proofs.AskHomes.{if_yes, if_no}
use Rattle.acn_packet_laws.proofs.Used.{each_right}
use Rattle.acn_grammar.proofs.Characters.{same_name-is}

abbrev pub EachMet : Grammar → List Moment → Type 0
EachMet root ms = (early late : List Moment) (m : Moment) → ms ≡ early ++ m ∷ late → CanBeMet root early m

-- What was asked of a field before a moment can be met, where it can be met at each moment.
module _ (root : Grammar) (Of : List ℕ → ℕ → Type 0) where
  -- nothing was asked of the field, or some number of a slot whose field it is meets it all
  abbrev pub Held : List ℕ → List Moment → Type 0
  Held f ms = (asks_of f ms ≡ []) ⊎ ((s : ℕ) × Of f s × Meetable (domain_of root s) (asks_of f ms))

  -- the field of a moment is one of its slot
  abbrev pub IsOf : Moment → Type 0
  IsOf (asks path field s a) = Of field s
  IsOf (counts path n sizing) = Unit {0}

  same_asks : (f : List ℕ) (a b : List Moment) → asks_of f b ≡ asks_of f a → Held f a → Held f b
  same_asks f a b e (inl n) = inl (e ∙ n)
  same_asks f a b e (inr h) = inr (h.0, h.1, subst (Meetable (domain_of root h.0)) (sym e) h.2)

  held_step : (f : List ℕ) (early : List Moment) (m : Moment) → IsOf m → Held f early → CanBeMet root early m → Held f (early ++ m ∷ [])
  held_step f early (counts path n sizing) i h c = same_asks f early (early ++ counts path n sizing ∷ []) (flat_map-append (of_field f) early (counts path n sizing ∷ []) ∙ append-nil (asks_of f early)) h
  held_step f early (asks path field s a) i h c = truth {F = Held f (early ++ asks path field s a ∷ [])} (same_name f field)
      (λ e.
      let is = flat_map-append (of_field f) early (asks path field s a ∷ []) ∙ ap (λ x. asks_of f early ++ (x ++ [])) (if_yes (same_name f field) (a ∷ []) [] e) in
      let same = sym (same_name-is f field e) in
      inr (s, subst (λ g. Of g s) same i, subst (Meetable (domain_of root s)) (sym is) (subst (λ g. Meetable (domain_of root s) (asks_of g early ++ a ∷ [])) same c)))
      (λ e. same_asks f early (early ++ asks path field s a ∷ []) (flat_map-append (of_field f) early (asks path field s a ∷ []) ∙ (ap (λ x. asks_of f early ++ (x ++ [])) (if_no (same_name f field) (a ∷ []) [] e) ∙ append-nil (asks_of f early))) h)

  held_from : (f : List ℕ) (rest early : List Moment) → AllByRecursion IsOf rest → Held f early → EachMet root (early ++ rest) → Held f (early ++ rest)
  held_from f [] early i h met = subst (Held f) (sym (append-nil early)) h
  held_from f (m ∷ rest) early i h met =
      subst (Held f) (append_assoc early (m ∷ []) rest)
      (held_from f rest (early ++ m ∷ []) i.1 (held_step f early m i.0 h (met early rest m refl)) (λ e l n is. met e l n (sym (append_assoc early (m ∷ []) rest) ∙ is)))

  pub held : (f : List ℕ) (ms : List Moment) → AllByRecursion IsOf ms → EachMet root ms → Held f ms
  held f ms i met = held_from f ms [] i (inl refl) met

-- One number at most was asked for.

asked_is : (set : List (ℤ × ℤ)) (wanted : List Ask) (x : ℤ) → Answers set wanted x → (n : ℤ) → IsAsked wanted (Equal n) → x ≡ n
asked_is set wanted x a n h = (each_right (MeetsAsk x) h.early (Equal n ∷ h.late) (subst (AllByRecursion (MeetsAsk x)) h.is a.meets)).0

none_asked : (wanted : List Ask) (a : Ask) → wanted ≡ [] → IsAsked wanted a → ⊥
none_asked wanted a e h = by h.early (sym h.is ∙ e)
  where
    by : (early : List Ask) → early ++ a ∷ h.late ≡ [] → ⊥
    by [] q = cc
    by (b ∷ early) q = cc

abbrev Consistent : List Ask → Type 0
Consistent wanted = (m n : ℤ) → IsAsked wanted (Equal m) → IsAsked wanted (Equal n) → m ≡ n

-- of any slot
abbrev AnySlot : List ℕ → ℕ → Type 0
AnySlot f s = Unit {0}

any_slot : (root : Grammar) (ms : List Moment) → AllByRecursion (IsOf root AnySlot) ms
any_slot root [] = tt
any_slot root (asks path field s a ∷ ms) = (tt, any_slot root ms)
any_slot root (counts path n sizing ∷ ms) = (tt, any_slot root ms)

consistent : (root : Grammar) (f : List ℕ) (ms : List Moment) → Held root AnySlot f ms → Consistent (asks_of f ms)
consistent root f ms (inl e) m n p q = absurd (none_asked (asks_of f ms) (Equal m) e p)
consistent root f ms (inr h) m n p q = by h.2
  where
    by : Meetable (domain_of root h.0) (asks_of f ms) → m ≡ n
    by k = sym (asked_is (domain_of root h.0) (asks_of f ms) k.0 k.1 m p) ∙ asked_is (domain_of root h.0) (asks_of f ms) k.0 k.1 n q

avoids_one : (m n : ℤ) (a : Ask) → Contradicts (Avoid m) a → Contradicts (Avoid n) a → m ≡ n
avoids_one m n (Equal k) p q = p ∙ sym q
avoids_one m n (Avoid k) p q = absurd p

earlier_one : (before : List Ask) → Consistent before → (a : Ask) (p q : Option Ask) → Earlier before a p → Earlier before a q → p ≡ q
earlier_one before c a (Some (Equal m)) (Some (Equal n)) h k = ap (λ x. Some (Equal x)) (c m n h.0 k.0)
earlier_one before c a (Some (Equal m)) (Some (Avoid n)) h k = absurd (k.2 m h.0 h.1)
earlier_one before c a (Some (Equal m)) None h k = absurd (k (Equal m) h.0 h.1)
earlier_one before c a (Some (Avoid m)) (Some (Equal n)) h k = absurd (h.2 n k.0 k.1)
earlier_one before c a (Some (Avoid m)) (Some (Avoid n)) h k = ap (λ x. Some (Avoid x)) (avoids_one m n a h.1 k.1)
earlier_one before c a (Some (Avoid m)) None h k = absurd (k (Avoid m) h.0 h.1)
earlier_one before c a None (Some (Equal n)) h k = absurd (h (Equal n) k.0 k.1)
earlier_one before c a None (Some (Avoid n)) h k = absurd (h (Avoid n) k.0 k.1)
earlier_one before c a None None h k = refl

-- Two places in one list.

pub data Splits (a b : List Moment) (x y : Moment) : Type 0 where
  at_one : a ≡ b → x ≡ y → Splits a b x y
  first_before : (late : List Moment) → b ≡ a ++ x ∷ late → Splits a b x y
  first_behind : (late : List Moment) → a ≡ b ++ y ∷ late → Splits a b x y

further : (m n x y : Moment) (a b : List Moment) → m ≡ n → Splits a b x y → Splits (m ∷ a) (n ∷ b) x y
further m n x y a b e (at_one p q) = let whole : m ∷ a ≡ n ∷ b = cc in at_one whole q
further m n x y a b e (first_before late p) = let whole : n ∷ b ≡ m ∷ (a ++ x ∷ late) = cc in first_before late whole
further m n x y a b e (first_behind late p) = let whole : m ∷ a ≡ n ∷ (b ++ y ∷ late) = cc in first_behind late whole

pub splits : (a b c e : List Moment) (x y : Moment) → a ++ x ∷ c ≡ b ++ y ∷ e → Splits a b x y
splits [] [] c e x y h = at_one refl cc
splits [] (n ∷ b) c e x y h = first_before b (let same : n ≡ x = cc in ap (λ z. z ∷ b) same)
splits (m ∷ a) [] c e x y h = first_behind a (let same : m ≡ y = cc in ap (λ z. z ∷ a) same)
splits (m ∷ a) (n ∷ b) c e x y h =
    let first : m ≡ n = cc in
    let rest : a ++ x ∷ c ≡ b ++ y ∷ e = cc in
    further m n x y a b first (splits a b c e x y rest)

says_one : (root : Grammar) (before : List Moment) (here : Moment) → EachMet root before → (u w : Unfit) → Says before here u → Says before here w → u ≡ w
says_one root before (counts path n sizing) met u w p q = p ∙ sym q
says_one root before (asks path field s a) met u w p q =
    let same = earlier_one (asks_of field before) (consistent root field before (held root AnySlot field before (any_slot root before) met)) a p.0 q.0 p.1 q.1 in
    p.2 ∙ (ap (λ e. record { path = path; why = conflict field e a }) same ∙ sym q.2)

unmet_one : (root : Grammar) (ms : List Moment) (u w : Unfit) → FirstUnmet root ms u → FirstUnmet root ms w → u ≡ w
unmet_one root ms u w p q = by (splits p.before q.before p.after q.after p.here q.here (sym p.whole ∙ q.whole))
  where
    by : Splits p.before q.before p.here q.here → u ≡ w
    by (first_before late e) = absurd (p.unmet (q.met p.before late p.here e))
    by (first_behind late e) = absurd (q.unmet (p.met q.before late q.here e))
    by (at_one e f) = says_one root p.before p.here p.met u w p.says (subst (λ b. Says b p.here w) (sym e) (subst (λ h. Says q.before h w) (sym f) q.says))

pub one_refusal : OneRefusal
one_refusal root d u w p q = by (breach root d) p q
  where
    by : (o : Option Unfit) → RefusedAfter root o d u → RefusedAfter root o d w → u ≡ w
    by (Some first) h k = h ∙ sym k
    by None h k = unmet_one root (moments root root [] [] d) u w h k
