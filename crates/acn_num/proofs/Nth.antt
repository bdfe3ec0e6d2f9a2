-- The numbers of a set by their places.
use Rattle.std.proofs.Common.{◌≡◌, ℕ, ◌<◌, ◌≤◌, ◌+◌, ◌-◌, Bool, true, false, refl, sym, ap, ◌∙◌, ℤ, pos, ◌≤ℤ◌, List, [], ◌∷◌, arith}
use Rattle.std.specs.Prelude.{◌<ℤ◌, ◌+ℤ◌, ◌-ℤ◌, Option, Some, None, nat_lt, ◌⊎◌, ◌||◌}
use Rattle.std.proofs.Common.{inl, inr}
use Rattle.std.proofs.lemmas.Int.{ints}
use Rattle.acn_num.specs.Ranges.{Ranges, is_in, has, Above, AreRanges, count, nth, size_of, among, bottom, IsLeastExcept}
use Rattle.std.specs.Int.RustNames.{unsigned_abs}
use Rattle.acn_num.proofs.Turns.{size_is}
use Rattle.std.specs.Int.{w128}
use mir.Val.{SFits}
use Rattle.acn_num.proofs.Members.{in_low, in_high}
use Rattle.std.proofs.lemmas.Bool.{lt-ltb}

-- a number of the set at its place
pub record At (s : Ranges) (x : ℤ) : Type 0 where
  pub place : ℕ
  pub under : place < count s
  pub is : nth s place ≡ Some x

split : (b : Bool) → (b ≡ true) ⊎ (b ≡ false)
split true = inl refl
split false = inr refl

lt_false : (a b : ℕ) → b ≤ a → nat_lt a b ≡ false
lt_false a b h = grind arith

some_same : (a b : ℤ) → ◌≡◌ {A = Option ℤ} (Some a) (Some b) → a ≡ b
some_same a b e = cc

nth_here : (r : ℤ × ℤ) (s : Ranges) (n : ℕ) → n < size_of r → nth (r ∷ s) n ≡ Some (r.0 +ℤ pos n)
nth_here r s n lt = rw (lt-ltb n (size_of r) lt) refl

nth_later : (r : ℤ × ℤ) (s : Ranges) (n : ℕ) → size_of r ≤ n → nth (r ∷ s) n ≡ nth s (n - size_of r)
nth_later r s n le = rw (lt_false n (size_of r) le) refl

nth_behind : (r : ℤ × ℤ) (s : Ranges) (n : ℕ) → nth (r ∷ s) (size_of r + n) ≡ nth s n
nth_behind r s n = nth_later r s (size_of r + n) (omega arith) ∙ ap (nth s) (omega arith)

in_ends : (x : ℤ) (r : ℤ × ℤ) → is_in x r ≡ true → (r.0 ≤ℤ x) × (x ≤ℤ r.1)
in_ends x r e = (grind (arith, ints), grind (arith, ints))

at_here : (b x : ℤ) (r : ℤ × ℤ) (s : Ranges) → r.0 ≤ℤ r.1 → r.0 ≤ℤ x → x ≤ℤ r.1 → At (r ∷ s) x
at_here b x r s o low high =
    let size = size_is r o in
    let lt : unsigned_abs (x -ℤ r.0) < size_of r = omega (arith, ints) in
    record { place = unsigned_abs (x -ℤ r.0); under = omega arith; is = nth_here r s (unsigned_abs (x -ℤ r.0)) lt ∙ ap Some (omega (arith, ints)) }

at_behind : (r : ℤ × ℤ) (s : Ranges) (x : ℤ) → At s x → At (r ∷ s) x
at_behind r s x a = record { place = size_of r + a.place; under = (let u = a.under in omega arith); is = nth_behind r s a.place ∙ a.is }

behind : (x : ℤ) (r : ℤ × ℤ) (s : Ranges) → is_in x r ≡ false → has (r ∷ s) x ≡ true → has s x ≡ true
behind x r s e is = rw e at is

-- each number of the set has a place
pub at : (b : ℤ) (s : Ranges) (x : ℤ) → Above b s → has s x ≡ true → At s x
at b [] x h is = cc
at b (r ∷ s) x h is = elim (split (is_in x r)) [ inl e ↦ at_here b x r s h.1 (in_ends x r e).0 (in_ends x r e).1 | inr e ↦ at_behind r s x (at (r.1 +ℤ pos 1) s x h.3 (behind x r s e is)) ]

in_here : (b x : ℤ) (r : ℤ × ℤ) (s : Ranges) (n : ℕ) → b <ℤ r.0 → r.0 ≤ℤ r.1 → n < size_of r → x ≡ (r.0 +ℤ pos n) → (has (r ∷ s) x ≡ true) × (b <ℤ x) × (x ≤ℤ r.1)
in_here b x r s n low o lt e =
    let size = size_is r o in
    let above : r.0 ≤ℤ x = omega (arith, ints) in
    let under : x ≤ℤ r.1 = omega (arith, ints) in
    (grind (arith, ints), omega (arith, ints), under)

or_true : (a : Bool) → (a || true) ≡ true
or_true true = refl
or_true false = refl

sizes : (n m : ℕ) → (n < m) ⊎ (m ≤ n)
sizes n m = elim (split (nat_lt n m)) [ inl e ↦ inl (grind arith) | inr e ↦ inr (grind arith) ]

-- what stands at a place is in the set
pub nth_in : (b : ℤ) (s : Ranges) (n : ℕ) (x : ℤ) → Above b s → nth s n ≡ Some x → (has s x ≡ true) × (b <ℤ x)
nth_in b [] n x h e = cc
nth_in b (r ∷ s) n x h e = elim (sizes n (size_of r)) [
  | inl lt ↦ (let k = in_here b x r s n h.0 h.1 lt (some_same x (r.0 +ℤ pos n) (sym e ∙ nth_here r s n lt)) in (k.0, k.1))
  | inr le ↦ (let k = nth_in (r.1 +ℤ pos 1) s (n - size_of r) x h.3 (sym (nth_later r s n le) ∙ e) in (rw k.0 (or_true (is_in x r)), (let p = h.0 in let q = h.1 in let m = k.1 in omega (arith, ints))))
]

-- and what stands before it is less
pub nth_rises : (b : ℤ) (s : Ranges) (m n : ℕ) (x y : ℤ) → Above b s → m < n → nth s m ≡ Some x → nth s n ≡ Some y → x <ℤ y
nth_rises b [] m n x y h lt e f = cc
nth_rises b (r ∷ s) m n x y h lt e f = elim (sizes n (size_of r)) [
  | inl here ↦ (let k = some_same x (r.0 +ℤ pos m) (sym e ∙ nth_here r s m (omega arith)) in let l = some_same y (r.0 +ℤ pos n) (sym f ∙ nth_here r s n here) in omega (arith, ints))
  | inr later ↦ elim (sizes m (size_of r)) [
    | inl here ↦ (let k = in_here b x r s m h.0 h.1 here (some_same x (r.0 +ℤ pos m) (sym e ∙ nth_here r s m here)) in
        let l = nth_in (r.1 +ℤ pos 1) s (n - size_of r) y h.3 (sym (nth_later r s n later) ∙ f) in let p = k.2 in let q = l.1 in omega (arith, ints))
    | inr both ↦ nth_rises (r.1 +ℤ pos 1) s (m - size_of r) (n - size_of r) x y h.3 (omega arith) (sym (nth_later r s m both) ∙ e) (sym (nth_later r s n later) ∙ f)
  ]
]

-- no number behind the last place
pub nth_over : (b : ℤ) (s : Ranges) (n : ℕ) (x : ℤ) → Above b s → nth s n ≡ Some x → n < count s
nth_over b [] n x h e = cc
nth_over b (r ∷ s) n x h e = elim (sizes n (size_of r)) [ inl lt ↦ omega arith | inr le ↦ (let k = nth_over (r.1 +ℤ pos 1) s (n - size_of r) x h.3 (sym (nth_later r s n le) ∙ e) in omega arith) ]

pub nth_some : (s : Ranges) (n : ℕ) → n < count s → nth s n ≡ None → ⊥
nth_some [] n lt e = omega arith
nth_some (r ∷ s) n lt e = elim (sizes n (size_of r)) [ inl here ↦ (let k = nth_here r s n here in cc) | inr le ↦ nth_some s (n - size_of r) (omega arith) (sym (nth_later r s n le) ∙ e) ]

-- ---- the least one that isn't avoided

abbrev pub Passed : Ranges → List ℤ → ℕ → Type 0
Passed s avoided place = (k : ℕ) (x : ℤ) → k < place → nth s k ≡ Some x → among avoided x ≡ true

pub none_left : (s : Ranges) (avoided : List ℤ) (place : ℕ) → AreRanges s → count s ≤ place → Passed s avoided place → (x : ℤ) → has s x ≡ true → among avoided x ≡ true
none_left s avoided place h over passed x is =
    let a = at (bottom -ℤ pos 1) s x h is in
    let u = a.under in
    passed a.place x (omega arith) a.is

no_less : (s : Ranges) (avoided : List ℤ) (place : ℕ) (x y : ℤ) → AreRanges s → nth s place ≡ Some x → Passed s avoided place → At s y → among avoided y ≡ false → x ≤ℤ y
no_less s avoided place x y h e passed a free = elim (sizes a.place place) [
  | inl before ↦ (let k = passed a.place y before a.is in cc)
  | inr le ↦ elim (sizes place a.place) [
    | inl later ↦ (let k = nth_rises (bottom -ℤ pos 1) s place a.place x y h later e a.is in omega (arith, ints))
    | inr ge ↦ (let same : a.place ≡ place = omega arith in let z : x ≡ y = some_same x y (sym e ∙ (ap (nth s) (sym same) ∙ a.is)) in omega (arith, ints))
  ]
]

pub least_at : (s : Ranges) (avoided : List ℤ) (place : ℕ) (x : ℤ) → AreRanges s → nth s place ≡ Some x → among avoided x ≡ false → Passed s avoided place → IsLeastExcept s avoided x
least_at s avoided place x h e free passed = record {
  member = (nth_in (bottom -ℤ pos 1) s place x h e).0;
  free = free;
  least = λ y is not. no_less s avoided place x y h e passed (at (bottom -ℤ pos 1) s y h is) not;
}

pub nth_fits : (s : Ranges) (n : ℕ) (x : ℤ) → AreRanges s → nth s n ≡ Some x → SFits w128 x
nth_fits s n x h e = (let is = (nth_in (bottom -ℤ pos 1) s n x h e).0 in let low = in_low s x h is in let high = in_high s x h is in omega (arith, ints))

pub passed_more : (s : Ranges) (avoided : List ℤ) (place : ℕ) (x : ℤ) → nth s place ≡ Some x → among avoided x ≡ true → Passed s avoided place → Passed s avoided (place + 1)
passed_more s avoided place x e is passed k y lt f = elim (sizes k place) [
  | inl before ↦ passed k y before f
  | inr le ↦ (let same : k ≡ place = omega arith in let z : x ≡ y = some_same x y (sym e ∙ (ap (nth s) (sym same) ∙ f)) in cc)
]
