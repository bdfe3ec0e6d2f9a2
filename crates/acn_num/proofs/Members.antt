-- What is in the sets that the functions on ranges give.
use Rattle.std.proofs.Common.{int_le, ◌≡◌, Bool, true, false, refl, sym, ℤ, pos, ◌≤ℤ◌, [], ◌∷◌, ◌++◌, arith}
use Rattle.std.specs.Prelude.{◌<ℤ◌, ◌+ℤ◌, ◌-ℤ◌, not, ◌&&◌, ◌||◌}
use Rattle.std.proofs.lemmas.Int.{ints, clamps}
use Rattle.acn_num.specs.Ranges.{Ranges, is_in, has, Above, AreRanges, piece, clip, meet, gap, outside_from, outside, top, bottom}

pub or_assoc : (a b c : Bool) → ((a || b) || c) ≡ (a || (b || c))
or_assoc true b c = refl
or_assoc false b c = refl

pub has_append : (a b : Ranges) (x : ℤ) → has (a ++ b) x ≡ (has a x || has b x)
has_append [] b x = refl
has_append (r ∷ a) b x = rw (has_append a b x) (sym (or_assoc (is_in x r) (has a x) (has b x)))

pub le_true : (a b : ℤ) → a ≤ℤ b → int_le a b ≡ true
le_true a b h = grind (arith, ints)

pub le_false : (a b : ℤ) → b <ℤ a → int_le a b ≡ false
le_false a b h = grind (arith, ints)

pub true_le : (a b : ℤ) → int_le a b ≡ true → a ≤ℤ b
true_le a b h = grind (arith, ints)

pub false_le : (a b : ℤ) → int_le a b ≡ false → b <ℤ a
false_le a b h = grind (arith, ints)

pub has_piece : (r s : ℤ × ℤ) (x : ℤ) → has (piece r s) x ≡ (is_in x r && is_in x s)
has_piece r s x = grind (arith, ints, clamps)

pub and_or : (a b c : Bool) → ((a && b) || (a && c)) ≡ (a && (b || c))
and_or true b c = refl
and_or false b c = refl

pub or_and : (a b c : Bool) → ((a && c) || (b && c)) ≡ ((a || b) && c)
or_and true true true = refl
or_and true true false = refl
or_and true false true = refl
or_and true false false = refl
or_and false true true = refl
or_and false true false = refl
or_and false false true = refl
or_and false false false = refl

pub and_false : (a : Bool) → (a && false) ≡ false
and_false true = refl
and_false false = refl

pub has_clip : (r : ℤ × ℤ) (s : Ranges) (x : ℤ) → has (clip r s) x ≡ (is_in x r && has s x)
has_clip r [] x = sym (and_false (is_in x r))
has_clip r (q ∷ s) x =
    rw (has_append (piece r q) (clip r s) x)
    (rw (has_piece r q x) (rw (has_clip r s x) (and_or (is_in x r) (is_in x q) (has s x))))

pub has_meet : (a b : Ranges) (x : ℤ) → has (meet a b) x ≡ (has a x && has b x)
has_meet [] b x = refl
has_meet (r ∷ a) b x =
    rw (has_append (clip r b) (meet a b) x)
    (rw (has_clip r b x) (rw (has_meet a b x) (or_and (is_in x r) (has a x) (has b x))))

-- ---- order

pub above_weaker : (b c : ℤ) (s : Ranges) → Above b s → c ≤ℤ b → Above c s
above_weaker b c [] h le = tt
above_weaker b c (r ∷ s) h le = (omega (arith, ints), h.1, h.2, h.3)

-- what is at or below b isn't in a set above b
pub not_below : (b x : ℤ) (s : Ranges) → Above b s → x ≤ℤ b → has s x ≡ false
not_below b x [] h le = refl
not_below b x (r ∷ s) h le =
    let here : is_in x r ≡ false = (let out : x <ℤ r.0 = omega (arith, ints) in grind (arith, ints)) in
    rw here (not_below (r.1 +ℤ pos 1) x s h.3 (omega (arith, ints)))

-- nor is what is above the top
pub not_over : (b x : ℤ) (s : Ranges) → Above b s → top <ℤ x → has s x ≡ false
not_over b x [] h le = refl
not_over b x (r ∷ s) h le =
    let here : is_in x r ≡ false = (let out : r.1 <ℤ x = omega (arith, ints) in grind (arith, ints)) in
    rw here (not_over (r.1 +ℤ pos 1) x s h.3 le)

pub has_gap : (b l x : ℤ) → has (gap b l) x ≡ (int_le (b +ℤ pos 1) x && int_le x (l -ℤ pos 1))
has_gap b l x = grind (arith, ints)

-- one range more, where S says whether the number is in the rest
outside_step : (b l h x : ℤ) (S : Bool) → b <ℤ l → l ≤ℤ h → h ≤ℤ top → (x ≤ℤ h → S ≡ false) → ((int_le (b +ℤ pos 1) x && int_le x (l -ℤ pos 1)) || (int_le (h +ℤ pos 1) x && (int_le x top && not S))) ≡ (int_le (b +ℤ pos 1) x && (int_le x top && not ((int_le l x && int_le x h) || S)))
outside_step b l h x S p q r below = grind (arith, ints)

-- in the numbers above b, what is outside a set is what isn't in it
pub has_outside_from : (b x : ℤ) (s : Ranges) → Above b s → has (outside_from b s) x ≡ (int_le (b +ℤ pos 1) x && (int_le x top && not (has s x)))
has_outside_from b x [] h = grind (arith, ints)
has_outside_from b x (r ∷ s) h =
    rw (has_append (gap b r.0) (outside_from r.1 s) x)
    (rw (has_gap b r.0 x)
    (rw (has_outside_from r.1 x s (above_weaker (r.1 +ℤ pos 1) r.1 s h.3 (omega (arith, ints))))
    (outside_step b r.0 r.1 x (has s x) h.0 h.1 h.2 (λ (le : x ≤ℤ r.1). not_below (r.1 +ℤ pos 1) x s h.3 (omega (arith, ints))))))

-- what is in a set lies in the ends
pub in_low : (a : Ranges) (x : ℤ) → AreRanges a → has a x ≡ true → bottom ≤ℤ x
in_low a x h is = (let f : x ≤ℤ (bottom -ℤ pos 1) → has a x ≡ false = (λ (le : x ≤ℤ (bottom -ℤ pos 1)). not_below (bottom -ℤ pos 1) x a h le) in grind (arith, ints, f))

pub in_high : (a : Ranges) (x : ℤ) → AreRanges a → has a x ≡ true → x ≤ℤ top
in_high a x h is = (let f : top <ℤ x → has a x ≡ false = (λ (le : top <ℤ x). not_over (bottom -ℤ pos 1) x a h le) in grind (arith, ints, f))

pub has_except : (a b : Ranges) (x : ℤ) → AreRanges a → AreRanges b → has (meet a (outside b)) x ≡ (has a x && not (has b x))
unfolding outside
has_except a b x h k =
    let low : has a x ≡ true → bottom ≤ℤ x = in_low a x h in
    let high : has a x ≡ true → x ≤ℤ top = in_high a x h in
    rw (has_meet a (outside_from (bottom -ℤ pos 1) b) x) (rw (has_outside_from (bottom -ℤ pos 1) x b k) (grind (arith, ints, low, high)))

pub except_bool : (low high A B : Bool) → (A ≡ true → (low ≡ true) × (high ≡ true)) → (B ≡ true → (low ≡ true) × (high ≡ true)) → (low && (high && not ((low && (high && not A)) && (low && (high && not B))))) ≡ (A || B)
except_bool true true true true a b = refl
except_bool true true true false a b = refl
except_bool true true false true a b = refl
except_bool true true false false a b = refl
except_bool true false true B a b = (let e = (a refl).1 in cc)
except_bool true false false true a b = (let e = (b refl).1 in cc)
except_bool true false false false a b = refl
except_bool false high true B a b = (let e = (a refl).0 in cc)
except_bool false high false true a b = (let e = (b refl).0 in cc)
except_bool false high false false a b = refl
