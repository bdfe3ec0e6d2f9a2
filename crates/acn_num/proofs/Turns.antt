-- The steps of the loops over ranges.
use Rattle.std.proofs.Common.{◌≡◌, ℕ, zero, suc, ◌<◌, ◌≤◌, ◌+◌, ◌-◌, refl, sym, ap, subst, ◌∙◌, ℤ, pos, ◌≤ℤ◌, [], ◌∷◌, ◌++◌, arith, append_assoc, drop_of_length-le, drop, length, get_or}
use Rattle.std.specs.Prelude.{◌+ℤ◌, ◌-ℤ◌, Option, Some, slice_get, option_map, Result, Ok, Err, IfOk, ◌^◌}
use Rattle.std.proofs.lemmas.List.{drop_more}
use Rattle.std.proofs.lemmas.Int.{ints}
use native.Mathlib.Numerals.{unary_clauses}
use Rattle.std.specs.Int.{w128}
use mir.Val.{SFits}
use Rattle.acn_num.specs.Ranges.{Ranges, Above, AreRanges, IsRange, gap, outside_from, outside, top, bottom, count, nth, size_of, greatest}
use Rattle.acn_num.proofs.Members.{above_weaker}
use Rattle.std.proofs.lemmas.Bool.{lt-ltb}

pub ranges_above : (b : ℤ) (s : Ranges) (i : ℕ) (d : ℤ × ℤ) → (bottom -ℤ pos 1) ≤ℤ b → Above b s → i < length s → IsRange (get_or s i d)
ranges_above b [] i d le h inside = absurd (omega arith)
ranges_above b (r ∷ s) zero d le h inside = (let p = h.0 in record { low = omega (arith, ints); order = h.1; high = h.2 })
ranges_above b (r ∷ s) (suc i) d le h inside = ranges_above (r.1 +ℤ pos 1) s i d (let p = h.0 in let q = h.1 in omega (arith, ints)) h.3 (omega arith)

-- each range of a set is one
pub range_at : (items s : Ranges) (i : ℕ) (d : ℤ × ℤ) → items ≡ s → AreRanges s → i < length items → IsRange (get_or items i d)
range_at items s i d e h inside = subst (λ (z : Ranges). IsRange (get_or z i d)) (sym e) (ranges_above (bottom -ℤ pos 1) s i d (omega (arith, ints)) h (rw e at inside))

pub fits_low : (r : ℤ × ℤ) → IsRange r → SFits w128 r.0
fits_low r h = omega (arith, ints)

pub fits_high : (r : ℤ × ℤ) → IsRange r → SFits w128 r.1
fits_high r h = omega (arith, ints)

outside_turn_same : (s out out' : Ranges) (b : ℤ) (i : ℕ) → i < length s → out' ≡ out ++ gap b (get_or s i (pos 0, pos 0)).0 → out ++ outside_from b (drop i s) ≡ outside s → out' ++ outside_from (get_or s i (pos 0, pos 0)).1 (drop (i + 1) s) ≡ outside s
outside_turn_same s out out' b i inside e so_far =
    rw e (append_assoc out (gap b (get_or s i (pos 0, pos 0)).0) (outside_from (get_or s i (pos 0, pos 0)).1 (drop (i + 1) s)) ∙ subst (λ (z : Ranges). out ++ outside_from b z ≡ outside s) (drop_more s i (pos 0, pos 0) inside) so_far)

pub outside_turn : (items s out out' : Ranges) (b : ℤ) (i : ℕ) → items ≡ s → i < length items → out' ≡ out ++ gap b (get_or items i (pos 0, pos 0)).0 → out ++ outside_from b (drop i s) ≡ outside s → out' ++ outside_from (get_or items i (pos 0, pos 0)).1 (drop (i + 1) s) ≡ outside s
outside_turn items s out out' b i e inside added so_far =
    subst (λ (z : Ranges). i < length z → out' ≡ out ++ gap b (get_or z i (pos 0, pos 0)).0 → out' ++ outside_from (get_or z i (pos 0, pos 0)).1 (drop (i + 1) s) ≡ outside s) (sym e)
    (λ k a. outside_turn_same s out out' b i k a so_far) inside added

pub above_turn : (items s : Ranges) (b : ℤ) (i : ℕ) → items ≡ s → i < length items → Above b (drop i s) → Above (get_or items i (pos 0, pos 0)).1 (drop (i + 1) s)
above_turn items s b i e inside h =
    subst (λ (z : Ranges). i < length z → Above (get_or z i (pos 0, pos 0)).1 (drop (i + 1) s)) (sym e)
    (λ (k : i < length s). let parts = subst (λ (z : Ranges). Above b z) (drop_more s i (pos 0, pos 0) k) h in above_weaker _ (get_or s i (pos 0, pos 0)).1 (drop (i + 1) s) parts.3 (omega (arith, ints))) inside

pub outside_done : (items s out out' : Ranges) (b : ℤ) (i : ℕ) → items ≡ s → length items ≤ i → out' ≡ out ++ gap b (top +ℤ pos 1) → out ++ outside_from b (drop i s) ≡ outside s → out' ≡ outside s
outside_done items s out out' b i e over added so_far =
    let le : length s ≤ i = rw e at over in
    added ∙ subst (λ (z : Ranges). out ++ outside_from b z ≡ outside s) (drop_of_length-le s le) so_far

pub size_is : (r : ℤ × ℤ) → r.0 ≤ℤ r.1 → pos (size_of r) ≡ ((r.1 -ℤ r.0) +ℤ pos 1)
size_is r h = omega (arith, ints)

count_above : (b : ℤ) (s : Ranges) → b ≤ℤ (top +ℤ pos 1) → Above b s → pos (count s) ≤ℤ ((top +ℤ pos 1) -ℤ b)
count_above b [] le h = omega (arith, ints)
count_above b (r ∷ s) le h =
    let p = h.0 in let q = h.1 in let k = h.2 in
    let size = size_is r h.1 in
    let rest = count_above (r.1 +ℤ pos 1) s (omega (arith, ints)) h.3 in
    omega (arith, ints)

pub count_small : (s : Ranges) → AreRanges s → count s < 2 ^ 66
count_small s h = (let k = count_above (bottom -ℤ pos 1) s (omega (arith, ints)) h in omega (arith, ints))

pub nth_turn : (items s : Ranges) (i left : ℕ) (got : Option ℤ) → items ≡ s → i < length items → left < size_of (get_or items i (pos 0, pos 0)) → nth (drop i s) left ≡ got → got ≡ Some ((get_or items i (pos 0, pos 0)).0 +ℤ pos left)
nth_turn items s i left got e inside less so_far =
    subst (λ (z : Ranges). i < length z → left < size_of (get_or z i (pos 0, pos 0)) → got ≡ Some ((get_or z i (pos 0, pos 0)).0 +ℤ pos left)) (sym e)
    (λ k (l : left < size_of (get_or s i (pos 0, pos 0))). sym so_far ∙ rw (drop_more s i (pos 0, pos 0) k) (rw (lt-ltb left _ l) refl)) inside less

pub greatest_is : (s : Ranges) (x : ℤ × ℤ) → Some x ≡ slice_get s (length s - 1) → Some x.1 ≡ greatest s
greatest_is [] x e = cc
greatest_is (r ∷ []) x e = ap (option_map (λ (z : ℤ × ℤ). z.1)) e
greatest_is (r ∷ q ∷ s) x e = (let step : slice_get (r ∷ q ∷ s) (length (r ∷ q ∷ s) - 1) ≡ slice_get (q ∷ s) (length (q ∷ s) - 1) = simp unary_clauses in greatest_is (q ∷ s) x (e ∙ step))

pub ok_map : {T E : Type 0} (r : Result T E) (P Q : T → Type 0) → ((x : T) → P x → Q x) → IfOk r P → IfOk r Q
ok_map (Ok x) P Q f h = f x h
ok_map (Err e) P Q f h = tt

count_turn_same : (s : Ranges) (i total : ℕ) → i < length s → total + count (drop i s) ≡ count s → total + size_of (get_or s i (pos 0, pos 0)) ≤ count s
count_turn_same s i total inside so_far =
    let split : total + (size_of (get_or s i (pos 0, pos 0)) + count (drop (i + 1) s)) ≡ count s = subst (λ (z : Ranges). total + count z ≡ count s) (drop_more s i (pos 0, pos 0) inside) so_far in
    omega arith

pub count_turn : (items s : Ranges) (i total : ℕ) → items ≡ s → i < length items → total + count (drop i s) ≡ count s → total + size_of (get_or items i (pos 0, pos 0)) ≤ count s
count_turn items s i total e inside so_far =
    subst (λ (z : Ranges). i < length z → total + size_of (get_or z i (pos 0, pos 0)) ≤ count s) (sym e) (λ k. count_turn_same s i total k so_far) inside
