-- The numbers of a set that are nearest to the ends of a range are the ends of those inside it.
use Rattle.std.proofs.Common.{◌≡◌, ℕ, zero, suc, ◌-◌, ◌+◌, ◌<◌, ◌≤◌, Bool, true, false, ◌&&◌, ◌||◌, [], ◌∷◌, ◌++◌, Option, Some, None, length, get_or, take, drop, refl, sym, ap, subst, ◌∙◌, ℤ, pos, arith}
use Rattle.std.proofs.lemmas.Int.{ints, clamps}
use Rattle.std.proofs.lemmas.List.{drop_more, take_more}
use Rattle.std.specs.Prelude.{if◌then◌else◌, int_le, int_lt, ◌≤ℤ◌, ◌<ℤ◌, ◌-ℤ◌, ◌+ℤ◌, MatchOption, Result, Ok, Err, IfOk}
use Rattle.std.specs.Int.{int_max, int_min}
use Rattle.acn_num.specs.Ranges.{Ranges, has, is_in, Above, AreRanges, some_range, least, greatest, meet, bottom}
use Rattle.acn_num.proofs.Members.{or_assoc, true_le, false_le, has_meet, above_weaker, in_low, in_high}
use Rattle.acn_num.proofs.Order.{meet_above}
use Rattle.acn_constraint.specs.Borders.{Begins, Ended, IsFirstFrom, IsLastTo}
use Rattle.acn_constraint.specs.Hull.{IsHull}
use Rattle.acn_constraint.specs.Sets.{nearest, between}
use Rattle.acn_constraint.proofs.Hulls.{from_low, one_last, more_last, last_of, near, some_is, in_one}

-- ---- by halves

next : (m : ℕ) → suc m ≡ m + 1
next m = omega arith

lt_fact : (a b : ℤ) → int_lt a b ≡ true → a <ℤ b
lt_fact a b e = grind (arith, ints)

lt_not : (a b : ℤ) → int_lt a b ≡ false → b ≤ℤ a
lt_not a b e = grind (arith, ints)

-- the numbers of the ranges up to one don't lie above its end
pub up_to : (b : ℤ) (s : Ranges) (m : ℕ) (d : ℤ × ℤ) (y : ℤ) → Above b s → m < length s → has (take (suc m) s) y ≡ true → y ≤ℤ (get_or s m d).1
up_to b [] m d y h lt there = absurd (omega arith)
up_to b (r ∷ s) zero d y h lt there = one_last r y there
up_to b (r ∷ s) (suc m) d y h lt there =
    let high = beyond (r.1 +ℤ pos 1) s m d h.3 (omega arith) in
    more_last r (take (suc m) s) (get_or s m d).1 y (omega (arith, ints, high)) (λ e. up_to (r.1 +ℤ pos 1) s m d y h.3 (omega arith) e) there
  where
    beyond : (b : ℤ) (s : Ranges) (m : ℕ) (d : ℤ × ℤ) → Above b s → m < length s → b ≤ℤ (get_or s m d).1
    beyond b [] m d h lt = absurd (omega arith)
    beyond b (r ∷ s) zero d h lt = (let p = h.0 in let q = h.1 in omega (arith, ints))
    beyond b (r ∷ s) (suc m) d h lt = (let p = h.0 in let q = h.1 in let k = beyond (r.1 +ℤ pos 1) s m d h.3 (omega arith) in omega (arith, ints))

pub below_all : (s : Ranges) (m : ℕ) (d : ℤ × ℤ) (x : ℤ) → m < length s → AreRanges s → int_lt (get_or s m d).1 x ≡ true → (y : ℤ) → has (take (m + 1) s) y ≡ true → y <ℤ x
below_all s m d x lt h e y there =
    let le = up_to (bottom -ℤ pos 1) s m d y h lt (ap (λ n. has (take n s) y) (next m) ∙ there) in
    let less = lt_fact (get_or s m d).1 x e in
    omega (arith, ints)

-- those of the ranges from one on don't lie below its start
pub on_from : (b : ℤ) (s : Ranges) (m : ℕ) (d : ℤ × ℤ) (y : ℤ) → Above b s → m < length s → has (drop m s) y ≡ true → (get_or s m d).0 ≤ℤ y
on_from b [] m d y h lt there = absurd (omega arith)
on_from b (r ∷ s) zero d y h lt there = from_low b y r s h there
on_from b (r ∷ s) (suc m) d y h lt there = on_from (r.1 +ℤ pos 1) s m d y h.3 (omega arith) there

pub above_all : (s : Ranges) (m : ℕ) (d : ℤ × ℤ) (x : ℤ) → m < length s → AreRanges s → int_lt x (get_or s m d).0 ≡ true → (y : ℤ) → has (drop m s) y ≡ true → x <ℤ y
above_all s m d x lt h e y there = (let le = on_from (bottom -ℤ pos 1) s m d y h lt there in let less = lt_fact x (get_or s m d).0 e in omega (arith, ints))

pub begins_at : (s : Ranges) (m : ℕ) (d : ℤ × ℤ) (x : ℤ) → m < length s → x ≤ℤ (get_or s m d).1 → Begins (drop m s) x
begins_at [] m d x lt le = absurd (omega arith)
begins_at (r ∷ s) zero d x lt le = le
begins_at (r ∷ s) (suc m) d x lt le = begins_at s m d x (omega arith) le

pub none_begins : (s : Ranges) (x : ℤ) → Begins (drop (length s) s) x
none_begins [] x = tt
none_begins (r ∷ s) x = none_begins s x

pub ended_at : (s : Ranges) (m : ℕ) (d : ℤ × ℤ) (x : ℤ) → m < length s → (get_or s m d).0 ≤ℤ x → Ended (take (suc m) s) x
ended_at [] m d x lt le = absurd (omega arith)
ended_at (r ∷ s) zero d x lt le = le
ended_at (r ∷ []) (suc m) d x lt le = absurd (omega arith)
ended_at (r ∷ q ∷ s) (suc m) d x lt le = ended_at (q ∷ s) m d x (omega arith) le

pub ended_at_most : (s : Ranges) (m : ℕ) (d : ℤ × ℤ) (x : ℤ) → m < length s → int_lt x (get_or s m d).0 ≡ false → Ended (take (m + 1) s) x
ended_at_most s m d x lt e = subst (λ n. Ended (take n s) x) (next m) (ended_at s m d x lt (lt_not x (get_or s m d).0 e))

has_parts : (s : Ranges) (m : ℕ) (y : ℤ) → has s y ≡ (has (take m s) y || has (drop m s) y)
has_parts s zero y = refl
has_parts [] (suc m) y = refl
has_parts (r ∷ s) (suc m) y = ap (λ b. is_in y r || b) (has_parts s m y) ∙ sym (or_assoc (is_in y r) (has (take m s) y) (has (drop m s) y))

above_drop : (b : ℤ) (s : Ranges) (m : ℕ) → Above b s → Above b (drop m s)
above_drop b s zero h = h
above_drop b [] (suc m) h = tt
above_drop b (r ∷ s) (suc m) h = (let p = h.0 in let q = h.1 in above_weaker (r.1 +ℤ pos 1) b (drop m s) (above_drop (r.1 +ℤ pos 1) s m h.3) (omega (arith, ints)))

behind : (a b c : Bool) → (a || b) ≡ true → (b ≡ true → c ≡ true) → (a || c) ≡ true
behind true b c e h = refl
behind false b c e h = h e

either : (a b c : Bool) → c ≡ (a || b) → c ≡ true → (a ≡ true → b ≡ true) → b ≡ true
either true b c e t h = h refl
either false b c e t h = sym e ∙ t

right_in : (a b c : Bool) → c ≡ (a || b) → b ≡ true → c ≡ true
right_in true b c e t = e
right_in false b c e t = e ∙ t

pub none_from : (s : Ranges) (x : ℤ) (at : ℕ) → length s ≤ at → ((y : ℤ) → has (take at s) y ≡ true → y <ℤ x) → (y : ℤ) → has s y ≡ true → y <ℤ x
none_from s x at le below y there = below y (whole s at le y there)
  where
    whole : (s : Ranges) (at : ℕ) → length s ≤ at → (y : ℤ) → has s y ≡ true → has (take at s) y ≡ true
    whole [] at le y there = cc
    whole (r ∷ s) zero le y there = absurd (omega arith)
    whole (r ∷ s) (suc at) le y there = behind (is_in y r) (has s y) (has (take at s) y) there (λ t. whole s at (omega arith) y t)

at_first : (r : ℤ × ℤ) (rest : Ranges) (b x : ℤ) → Above b (r ∷ rest) → x ≤ℤ r.1 → has (r ∷ rest) (int_max r.0 x) ≡ true
at_first r rest b x h le = (let o = h.1 in grind (arith, ints, clamps))

pub first_is : (s : Ranges) (x : ℤ) (at : ℕ) (d : ℤ × ℤ) → at < length s → AreRanges s → ((y : ℤ) → has (take at s) y ≡ true → y <ℤ x) → Begins (drop at s) x → IsFirstFrom s x (int_max (get_or s at d).0 x)
first_is s x at d lt h below begins =
    let r = get_or s at d in
    let e : drop at s ≡ r ∷ drop (at + 1) s = drop_more s at d lt in
    let p = int_max r.0 x in
    let k : AreRanges (r ∷ drop (at + 1) s) = subst AreRanges e (above_drop (bottom -ℤ pos 1) s at h) in
    let le : x ≤ℤ r.1 = subst (λ (z : Ranges). Begins z x) e begins in
    record {
      there = right_in (has (take at s) p) (has (drop at s) p) (has s p) (has_parts s at p) (ap (λ (z : Ranges). has z p) e ∙ at_first r (drop (at + 1) s) (bottom -ℤ pos 1) x k le);
      from = omega (arith, ints, clamps);
      first = λ y there from. least_of y from (either (has (take at s) y) (has (drop at s) y) (has s y) (has_parts s at y) there (λ t. absurd (let lower = below y t in omega (arith, ints))));
    }
  where
    least_of : (y : ℤ) → x ≤ℤ y → has (drop at s) y ≡ true → int_max (get_or s at d).0 x ≤ℤ y
    least_of y from here = (let low = on_from (bottom -ℤ pos 1) s at d y h lt here in omega (arith, ints, clamps))

last_ended : (t : Ranges) (r : ℤ × ℤ) (x : ℤ) → Ended (t ++ r ∷ []) x → r.0 ≤ℤ x
last_ended [] r x h = h
last_ended (q ∷ []) r x h = h
last_ended (q ∷ p ∷ t) r x h = last_ended (p ∷ t) r x h

at_last : (r : ℤ × ℤ) (rest : Ranges) (b x : ℤ) → Above b (r ∷ rest) → r.0 ≤ℤ x → has (r ∷ rest) (int_min r.1 x) ≡ true
at_last r rest b x h le = (let o = h.1 in grind (arith, ints, clamps))

pub last_is : (s : Ranges) (x : ℤ) (at : ℕ) (d : ℤ × ℤ) → at < length s → AreRanges s → ((y : ℤ) → has (drop (at + 1) s) y ≡ true → x <ℤ y) → Ended (take (at + 1) s) x → IsLastTo s x (int_min (get_or s at d).1 x)
last_is s x at d lt h above ended =
    let r = get_or s at d in
    let e : drop at s ≡ r ∷ drop (at + 1) s = drop_more s at d lt in
    let p = int_min r.1 x in
    let k : AreRanges (r ∷ drop (at + 1) s) = subst AreRanges e (above_drop (bottom -ℤ pos 1) s at h) in
    let le : r.0 ≤ℤ x = last_ended (take at s) r x (subst (λ (z : Ranges). Ended z x) (take_more s at d lt) ended) in
    record {
      there = right_in (has (take at s) p) (has (drop at s) p) (has s p) (has_parts s at p) (ap (λ (z : Ranges). has z p) e ∙ at_last r (drop (at + 1) s) (bottom -ℤ pos 1) x k le);
      to = omega (arith, ints, clamps);
      last = λ y there to. greatest_of y to (other (has (take (at + 1) s) y) (has (drop (at + 1) s) y) (has s y) (has_parts s (at + 1) y) there (λ t. absurd (let higher = above y t in omega (arith, ints))));
    }
  where
    other : (a b c : Bool) → c ≡ (a || b) → c ≡ true → (b ≡ true → a ≡ true) → a ≡ true
    other true b c e t h = refl
    other false b c e t h = h (sym e ∙ t)

    greatest_of : (y : ℤ) → y ≤ℤ x → has (take (at + 1) s) y ≡ true → y ≤ℤ int_min (get_or s at d).1 x
    greatest_of y to here = (let high = up_to (bottom -ℤ pos 1) s at d y h lt (ap (λ n. has (take n s) y) (next at) ∙ here) in omega (arith, ints, clamps))

pub last_of_some : (s : Ranges) (x : ℤ) (count : ℕ) (d : ℤ × ℤ) → count ≤ length s → (count ≡ 0 → ⊥) → AreRanges s → ((y : ℤ) → has (drop count s) y ≡ true → x <ℤ y) → Ended (take count s) x → IsLastTo s x (int_min (get_or s (count - 1) d).1 x)
last_of_some s x zero d le some h above ended = absurd (some refl)
last_of_some s x (suc m) d le some h above ended =
    subst (λ n. IsLastTo s x (int_min (get_or s n d).1 x)) (before m)
    (last_is s x m d (omega arith) h (subst (λ n. (y : ℤ) → has (drop n s) y ≡ true → x <ℤ y) (next m) above) (subst (λ n. Ended (take n s) x) (next m) ended))
  where
    before : (m : ℕ) → m ≡ suc m - 1
    before m = omega arith

-- ---- round what is inside a range

-- a set that has no number, and the ends of one that has
pub empty_set : (t : Ranges) → AreRanges t → ((x : ℤ) → has t x ≡ true → ⊥) → t ≡ []
empty_set [] h none = refl
empty_set (r ∷ t) h none = absurd (none r.0 (let o = h.1 in grind (arith, ints)))

least_is : (t : Ranges) (x : ℤ) → AreRanges t → has t x ≡ true → ((y : ℤ) → has t y ≡ true → x ≤ℤ y) → Some x ≡ least t
least_is [] x h there first = cc
least_is (r ∷ t) x h there first =
    let low = from_low (bottom -ℤ pos 1) x r t h there in
    let high = first r.0 (let o = h.1 in grind (arith, ints)) in
    ap (λ z. Some z) (same x r.0 high low)
  where
    same : (a b : ℤ) → a ≤ℤ b → b ≤ℤ a → a ≡ b
    same a b h k = omega (arith, ints)

greatest_is : (t : Ranges) (x : ℤ) → AreRanges t → has t x ≡ true → ((y : ℤ) → has t y ≡ true → y ≤ℤ x) → Some x ≡ greatest t
greatest_is [] x h there last = cc
greatest_is (r ∷ t) x h there last =
    let g = last_of (bottom -ℤ pos 1) r t h in
    ap (λ z. Some z) (same x g.number (g.last x there) (last g.number g.there)) ∙ sym g.is
  where
    same : (a b : ℤ) → a ≤ℤ b → b ≤ℤ a → a ≡ b
    same a b h k = omega (arith, ints)

abbrev First : Ranges → ℤ → Option ℤ → Type 0
First s x o = MatchOption o ((y : ℤ) → has s y ≡ true → y <ℤ x) (λ p. IsFirstFrom s x p)

abbrev Last : Ranges → ℤ → Option ℤ → Type 0
Last s x o = MatchOption o ((y : ℤ) → has s y ≡ true → x <ℤ y) (λ p. IsLastTo s x p)

module _ (s : Ranges) (r : ℤ × ℤ) (ordered : AreRanges s) (range : AreRanges (r ∷ [])) where
  abbrev both : Ranges
  both = meet s (r ∷ [])

  both_ranges : AreRanges both
  both_ranges = meet_above (bottom -ℤ pos 1) (bottom -ℤ pos 1) s (r ∷ []) ordered range

  -- a number of both
  record Inner (x : ℤ) : Type 0 where
    there : has s x ≡ true
    low : r.0 ≤ℤ x
    high : x ≤ℤ r.1

  inner : (x : ℤ) → has both x ≡ true → Inner x
  inner x there =
      let e = sym (has_meet s (r ∷ []) x) ∙ there in
      let here = left_true (has s x) (has (r ∷ []) x) e in
      let range_has = right_true (has s x) (has (r ∷ []) x) e in
      record { there = here; low = from_low (bottom -ℤ pos 1) x r [] range range_has; high = one_last r x range_has }
    where
      left_true : (a b : Bool) → (a && b) ≡ true → a ≡ true
      left_true true b e = refl
      left_true false b e = e

      right_true : (a b : Bool) → (a && b) ≡ true → b ≡ true
      right_true true b e = e
      right_true false b e = cc

  outer : (x : ℤ) → has s x ≡ true → r.0 ≤ℤ x → x ≤ℤ r.1 → has both x ≡ true
  outer x there low high = has_meet s (r ∷ []) x ∙ (ap (λ b. b && has (r ∷ []) x) there ∙ in_one r.0 r.1 x low high)

  none : ((x : ℤ) → has both x ≡ true → ⊥) → IsHull both []
  none never = (let e : both ≡ [] = empty_set both both_ranges never in record {
    ordered = tt;
    ends = record { low = ap least (sym e); high = ap greatest (sym e) };
    inside = λ x there. ap (λ (z : Ranges). has z x) (sym e) ∙ there;
  })

  some : (p q : ℤ) → IsFirstFrom s r.0 p → IsLastTo s r.1 q → p ≤ℤ q → IsHull both ((p, q) ∷ [])
  some p q first last le =
      let a = outer p first.there first.from (let k = last.to in omega (arith, ints)) in
      let z = outer q last.there (let k = first.from in omega (arith, ints)) last.to in
      let low = in_low s p ordered first.there in
      let high = in_high s q ordered last.there in
      record {
        ordered = (omega (arith, ints), le, high, tt);
        ends = record {
          low = least_is both p both_ranges a (λ y there. (let i = inner y there in first.first y i.there i.low));
          high = greatest_is both q both_ranges z (λ y there. (let i = inner y there in last.last y i.there i.high));
        };
        inside = λ x there. (let i = inner x there in in_one p q x (first.first x i.there i.low) (last.last x i.there i.high));
      }

  by_order : (p q : ℤ) (b : Bool) → int_le p q ≡ b → IsFirstFrom s r.0 p → IsLastTo s r.1 q → IsHull both (between (Some p) false (Some q) false)
  by_order p q b e first last =
      let low = near p (in_low s p ordered first.there) (in_high s p ordered first.there) in
      let high = near q (in_low s q ordered last.there) (in_high s q ordered last.there) in
      subst (λ (z : Ranges). IsHull both z) (sym (ap (λ y. some_range y (nearest q)) low ∙ ap (λ y. some_range p y) high)) (split b e)
    where
      split : (b : Bool) → int_le p q ≡ b → IsHull both (some_range p q)
      split true e = subst (λ (z : Ranges). IsHull both z) (sym (some_is p q (true_le p q e))) (some p q first last (true_le p q e))
      split false e = subst (λ (z : Ranges). IsHull both z) (sym (ap (λ t. if t then (p, q) ∷ [] else []) e)) (none (λ x there. (let i = inner x there in let a = first.first x i.there i.low in let z = last.last x i.there i.high in let lt = false_le p q e in omega (arith, ints))))

  around_range : (low high : Option ℤ) → First s r.0 low → Last s r.1 high → IsHull both (between low false high false)
  around_range None high first last = none (λ x there. (let i = inner x there in let k = first x i.there in let j = i.low in omega (arith, ints)))
  around_range (Some p) None first last = none (λ x there. (let i = inner x there in let k = last x i.there in let j = i.high in omega (arith, ints)))
  around_range (Some p) (Some q) first last = by_order p q (int_le p q) refl first last

pub one_range : (s : Ranges) (d : ℤ × ℤ) → 1 ≤ length s → length s < 2 → s ≡ get_or s 0 d ∷ []
one_range [] d some few = absurd (omega arith)
one_range (r ∷ []) d some few = refl
one_range (r ∷ q ∷ s) d some few = absurd (omega arith)

-- what is answered round the numbers inside one range
pub around_one : {E : Type 0} (s inside stood stood' : Ranges) (r : ℤ × ℤ) (low high : Option ℤ) (answer : Result Ranges E) → inside ≡ r ∷ [] → AreRanges inside → stood ≡ s → stood' ≡ s → AreRanges stood → First stood r.0 low → Last stood' r.1 high → IfOk answer (λ t. t ≡ between low false high false) → IfOk answer (λ t. IsHull (meet s inside) t)
around_one s inside stood stood' r low high (Err e) one range same again ordered first last h = h
around_one s inside stood stood' r low high (Ok t) one range same again ordered first last h =
    subst (λ (z : Ranges). IsHull (meet s inside) z) (sym h)
    (subst (λ (z : Ranges). IsHull (meet s z) (between low false high false)) (sym one)
    (around_range s r (subst AreRanges same ordered) (subst AreRanges one range) low high
    (subst (λ (z : Ranges). First z r.0 low) same first)
    (subst (λ (z : Ranges). Last z r.1 high) again last)))
