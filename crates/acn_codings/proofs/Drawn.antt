-- What is drawn from a set are its numbers by their places.
use Rattle.std.proofs.Common.{◌≡◌, ℕ, suc, ◌<◌, ◌+◌, ◌-◌, Bool, true, false, refl, sym, ap, ◌∙◌, ℤ, pos, ◌≤ℤ◌, List, [], ◌∷◌, arith}
use Rattle.std.specs.Prelude.{◌<ℤ◌, ◌+ℤ◌, ◌-ℤ◌, Option, Some, None, Result, Ok, Err, IfOk, nat_lt, int_lt, if◌then◌else◌}
use Rattle.std.proofs.lemmas.Bool.Decides.{nat_tests}
use Rattle.std.proofs.lemmas.Int.{ints}
use Rattle.acn_asn_syntax.specs.declared.types.Item.{Item}
use Rattle.acn_num.specs.Ranges.{Ranges, Above, AreRanges, nth, size_of, bottom}
use Rattle.acn_codings.specs.Drawing.{drawn, left, numbers_drawn}
use Rattle.acn_codings.specs.Items.{free, numbers_behind, numbers_of, or_zero, written}

-- the ends of each range are in order
abbrev AreOrdered : Ranges → Type 0
AreOrdered [] = Unit {0}
AreOrdered (r ∷ rest) = (r.0 ≤ℤ r.1) × AreOrdered rest

ordered_above : (b : ℤ) (s : Ranges) → Above b s → AreOrdered s
ordered_above b [] h = tt
ordered_above b (r ∷ s) h = (h.1, ordered_above (r.1 +ℤ pos 1) s h.3)

none_more : (x : ℤ) → (x +ℤ pos 0) ≡ x
none_more x = omega (arith, ints)

some_under : (n : ℕ) → 0 < n → nat_lt 0 n ≡ true
some_under n h = grind (arith, nat_tests)

first_of : (x : ℤ) (n : ℕ) (s : Ranges) → 0 < n → or_zero (if nat_lt 0 n then Some (x +ℤ pos 0) else nth s (0 - n)) ≡ x
first_of x n s h = rw (some_under n h) (none_more x)

first_drawn : (s : Ranges) → or_zero (nth s 0) ≡ drawn s
first_drawn [] = refl
first_drawn (r ∷ s) = first_of r.0 (size_of r) s (omega arith)

one_less : (k m n : ℕ) → n ≡ suc m → nat_lt (suc k) n ≡ nat_lt k m
one_less k m n e = grind (arith, nat_tests)

none_under : (k n : ℕ) → n ≡ 1 → nat_lt (suc k) n ≡ false
none_under k n e = grind (arith, nat_tests)

less_than : (x y : ℤ) → int_lt x y ≡ true → x <ℤ y
less_than x y e = grind (arith, ints)

not_less : (x y : ℤ) → int_lt x y ≡ false → y ≤ℤ x
not_less x y e = grind (arith, ints)

size_more : (r : ℤ × ℤ) → r.0 <ℤ r.1 → size_of r ≡ suc (size_of (r.0 +ℤ pos 1, r.1))
size_more r h = omega (arith, ints)

size_one : (r : ℤ × ℤ) → r.0 ≤ℤ r.1 → r.1 ≤ℤ r.0 → size_of r ≡ 1
size_one r h l = omega (arith, ints)

step : (x : ℤ) (n m k : ℕ) (s : Ranges) → n ≡ suc m → (if nat_lt (suc k) n then Some (x +ℤ pos (suc k)) else nth s (suc k - n)) ≡ (if nat_lt k m then Some ((x +ℤ pos 1) +ℤ pos k) else nth s (k - m))
step x n m k s e = rw (one_less k m n e) (by (nat_lt k m))
  where
    by : (b : Bool) → (if b then Some (x +ℤ pos (suc k)) else nth s (suc k - n)) ≡ (if b then Some ((x +ℤ pos 1) +ℤ pos k) else nth s (k - m))
    by true = ap Some (omega (arith, ints))
    by false = ap (nth s) (omega (arith, e))

last : (x : ℤ) (n k : ℕ) (s : Ranges) → n ≡ 1 → (if nat_lt (suc k) n then Some (x +ℤ pos (suc k)) else nth s (suc k - n)) ≡ nth s k
last x n k s e = rw (none_under k n e) (ap (nth s) (omega (arith, e)))

past_more : (r : ℤ × ℤ) (s : Ranges) (k : ℕ) → r.0 <ℤ r.1 → nth (r ∷ s) (suc k) ≡ nth ((r.0 +ℤ pos 1, r.1) ∷ s) k
past_more r s k more = step r.0 (size_of r) (size_of (r.0 +ℤ pos 1, r.1)) k s (size_more r more)

past_last : (r : ℤ × ℤ) (s : Ranges) (k : ℕ) → r.0 ≤ℤ r.1 → r.1 ≤ℤ r.0 → nth (r ∷ s) (suc k) ≡ nth s k
past_last r s k le last_one = last r.0 (size_of r) k s (size_one r le last_one)

-- behind the first number stand the others
past_first : (s : Ranges) (k : ℕ) → AreOrdered s → nth s (suc k) ≡ nth (left s) k
past_first [] k h = refl
past_first (r ∷ s) k h = by (int_lt r.0 r.1) refl
  where
    by : (b : Bool) → int_lt r.0 r.1 ≡ b → nth (r ∷ s) (suc k) ≡ nth (left (r ∷ s)) k
    by true e = rw e (past_more r s k (less_than r.0 r.1 e))
    by false e = rw e (past_last r s k h.0 (not_less r.0 r.1 e))

one_more : (x y : ℤ) → x <ℤ y → (x +ℤ pos 1) ≤ℤ y
one_more x y h = omega (arith, ints)

left_ordered : (s : Ranges) → AreOrdered s → AreOrdered (left s)
left_ordered [] h = tt
left_ordered (r ∷ s) h = by (int_lt r.0 r.1) refl
  where
    by : (b : Bool) → int_lt r.0 r.1 ≡ b → AreOrdered (left (r ∷ s))
    by true e = rw e (one_more r.0 r.1 (less_than r.0 r.1 e), h.1)
    by false e = rw e h.1

first_at : (s unused : Ranges) (k : ℕ) → nth unused k ≡ nth s 0 → drawn s ≡ or_zero (nth unused k)
first_at s unused k e = sym (first_drawn s) ∙ sym (ap or_zero e)

-- the numbers of a set from a place on are those of another
abbrev GoesOn : Ranges → ℕ → Ranges → Type 0
GoesOn unused k s = (j m : ℕ) → m ≡ k + j → nth unused m ≡ nth s j

one_on : (s unused : Ranges) (k : ℕ) → AreOrdered s → GoesOn unused k s → GoesOn unused (suc k) (left s)
one_on s unused k h same j m e = same (suc j) m (omega (arith, e)) ∙ past_first s j h

-- as many as have none written are drawn
drawn_behind : (s unused : Ranges) (k : ℕ) (items : List Item) → AreOrdered s → GoesOn unused k s → numbers_drawn s items ≡ numbers_behind unused k items
drawn_behind s unused k [] h same = refl
drawn_behind s unused k (i ∷ is) h same =
    by (written i) refl (drawn_behind s unused k is h same) (drawn_behind (left s) unused (suc k) is (left_ordered s h) (one_on s unused k h same))
  where
    by : (o : Option ℤ) → written i ≡ o → numbers_drawn s is ≡ numbers_behind unused k is → numbers_drawn (left s) is ≡ numbers_behind unused (suc k) is → numbers_drawn s (i ∷ is) ≡ numbers_behind unused k (i ∷ is)
    by (Some x) e behind drawn_too = rw e (ap (λ rest. x ∷ rest) behind)
    by None e behind drawn_too = rw e (ap (λ x. x ∷ numbers_drawn (left s) is) (first_at s unused k (same 0 k (omega arith))) ∙ ap (λ rest. or_zero (nth unused k) ∷ rest) drawn_too)

from_first : (s : Ranges) → GoesOn s 0 s
from_first s j m e = ap (nth s) (omega (arith, e))

all_drawn_same : (items : List Item) → AreRanges (free items) → numbers_drawn (free items) items ≡ numbers_of items
unfolding numbers_of
all_drawn_same items h = drawn_behind (free items) (free items) 0 items (ordered_above (bottom -ℤ pos 1) (free items) h) (from_first (free items))

pub all_drawn : {E : Type 0} (ranges : Ranges) (items : List Item) (r : Result (List ℤ) E) → ranges ≡ free items → AreRanges ranges → IfOk r (λ xs. xs ≡ numbers_drawn ranges items) → IfOk r (λ xs. xs ≡ numbers_of items)
all_drawn ranges items (Ok xs) e h f = f ∙ rw e (all_drawn_same items (rw e at h))
all_drawn ranges items (Err why) e h f = tt
