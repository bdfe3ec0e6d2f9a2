-- Meeting two sets in one walk over both gives what all their pairs give.
use Rattle.std.proofs.Common.{int_le, ◌≡◌, ℕ, zero, suc, ◌<◌, ◌+◌, Bool, true, false, refl, sym, ap, subst, ◌∙◌, ℤ, pos, ◌≤ℤ◌, [], ◌∷◌, ◌++◌, arith, append_assoc, append-nil, drop_of_length-le, ◌≤◌, drop, length, get_or}
use Rattle.std.specs.Prelude.{int_lt, ◌<ℤ◌, ◌+ℤ◌, ◌-ℤ◌, if◌then◌else◌}
use Rattle.std.proofs.lemmas.Int.{ints, clamps}
use Rattle.std.proofs.lemmas.List.{drop_more}
use Rattle.acn_num.specs.Ranges.{Ranges, Above, AreRanges, piece, clip, meet, bottom}
use Rattle.acn_num.specs.Meeting.{reaching_from, clip_until}
use Rattle.acn_num.proofs.Members.{above_weaker, false_le}

-- every range begins at this number or behind it
abbrev From : ℤ → Ranges → Type 0
From low [] = Unit {0}
From low (r ∷ rest) = (low ≤ℤ r.0) × From low rest

from_weaker : (b c : ℤ) (s : Ranges) → From b s → c ≤ℤ b → From c s
from_weaker b c [] h le = tt
from_weaker b c (r ∷ s) h le = (omega (arith, ints, h.0), from_weaker b c s h.1 le)

above_from : (b : ℤ) (s : Ranges) → Above b s → From b s
above_from b [] h = tt
above_from b (r ∷ s) h = (omega (arith, ints, h.0), from_weaker (r.1 +ℤ pos 1) b s (above_from (r.1 +ℤ pos 1) s h.3) (let p = h.0 in let q = h.1 in omega (arith, ints)))

-- nothing is shared with a range that ends before, or begins behind
none_before : (r s : ℤ × ℤ) → s.1 <ℤ r.0 → piece r s ≡ []
none_before r s h = grind (arith, ints, clamps)

none_behind : (r s : ℤ × ℤ) → r.1 <ℤ s.0 → piece r s ≡ []
none_behind r s h = grind (arith, ints, clamps)

clip_behind : (r : ℤ × ℤ) (b : ℤ) (s : Ranges) → r.1 <ℤ b → From b s → clip r s ≡ []
clip_behind r b [] lt h = refl
clip_behind r b (q ∷ s) lt h = rw (none_behind r q (omega (arith, ints, h.0))) (clip_behind r b s lt h.1)

until_test : (r q : ℤ × ℤ) (b : ℤ) (s : Ranges) (t : Bool) → int_lt r.1 q.0 ≡ t → Above b (q ∷ s) → clip_until r s ≡ clip r s → (if t then [] else (piece r q ++ clip_until r s)) ≡ clip r (q ∷ s)
until_test r q b s true is h e = sym (clip_behind r q.0 (q ∷ s) (grind (arith, ints)) (omega (arith, ints), from_weaker (q.1 +ℤ pos 1) q.0 s (above_from (q.1 +ℤ pos 1) s h.3) (let p = h.1 in omega (arith, ints))))
until_test r q b s false is h e = ap (λ (z : Ranges). piece r q ++ z) e

pub until_is : (r : ℤ × ℤ) (b : ℤ) (s : Ranges) → Above b s → clip_until r s ≡ clip r s
until_is r b [] h = refl
until_is r b (q ∷ s) h = until_test r q b s _ refl h (until_is r (q.1 +ℤ pos 1) s h.3)

-- a range that ends before all of a set gives nothing
skip_one : (q : ℤ × ℤ) (low : ℤ) (a s : Ranges) → q.1 <ℤ low → From low a → meet a (q ∷ s) ≡ meet a s
skip_one q low [] s lt h = refl
skip_one q low (r ∷ a) s lt h = rw (none_before r q (omega (arith, ints, h.0))) (ap (λ (z : Ranges). clip r s ++ z) (skip_one q low a s lt h.1))

reaching_test : (q : ℤ × ℤ) (low : ℤ) (a s : Ranges) (t : Bool) → int_le low q.1 ≡ t → From low a → meet a (reaching_from low s) ≡ meet a s → meet a (if t then q ∷ s else reaching_from low s) ≡ meet a (q ∷ s)
reaching_test q low a s true is h e = refl
reaching_test q low a s false is h e = e ∙ sym (skip_one q low a s (false_le low q.1 is) h)

reaching_is : (low : ℤ) (a s : Ranges) → From low a → meet a (reaching_from low s) ≡ meet a s
reaching_is low a [] h = refl
reaching_is low a (q ∷ s) h = reaching_test q low a s _ refl h (reaching_is low a s h)

reaching_above_test : (q : ℤ × ℤ) (low b : ℤ) (s : Ranges) (t : Bool) → Above b (q ∷ s) → Above b (reaching_from low s) → Above b (if t then q ∷ s else reaching_from low s)
reaching_above_test q low b s true h k = h
reaching_above_test q low b s false h k = k

pub reaching_above : (low b : ℤ) (s : Ranges) → Above b s → Above b (reaching_from low s)
reaching_above low b [] h = tt
reaching_above low b (q ∷ s) h = reaching_above_test q low b s (int_le low q.1) h (reaching_above low b s (above_weaker (q.1 +ℤ pos 1) b s h.3 (let p = h.0 in let k = h.1 in omega (arith, ints))))

above_drop : (b : ℤ) (s : Ranges) (i : ℕ) → Above b s → Above b (drop i s)
above_drop b s zero h = h
above_drop b [] (suc i) h = tt
above_drop b (r ∷ s) (suc i) h = above_drop b s i (above_weaker (r.1 +ℤ pos 1) b s h.3 (let p = h.0 in let k = h.1 in omega (arith, ints)))

first_from : (b : ℤ) (r : ℤ × ℤ) (s : Ranges) → Above b (r ∷ s) → From r.0 (r ∷ s)
first_from b r s h = (omega (arith, ints), from_weaker (r.1 +ℤ pos 1) r.0 s (above_from (r.1 +ℤ pos 1) s h.3) (let k = h.1 in omega (arith, ints)))

-- one turn of the walk
meet_turn_same : (b c : ℤ) (s rest rest' out out' from : Ranges) (i : ℕ) → Above b s → Above c rest → i < length s → rest' ≡ reaching_from (get_or s i (pos 0, pos 0)).0 rest → out' ≡ out ++ clip_until (get_or s i (pos 0, pos 0)) rest' → out ++ meet (drop i s) rest ≡ from → out' ++ meet (drop (i + 1) s) rest' ≡ from
meet_turn_same b c s rest rest' out out' from i h k inside there added so_far =
    let r = get_or s i (pos 0, pos 0) in
    let split : drop i s ≡ (r ∷ drop (i + 1) s) = drop_more s i (pos 0, pos 0) inside in
    let behind : Above b (r ∷ drop (i + 1) s) = subst (λ (z : Ranges). Above b z) split (above_drop b s i h) in
    let whole : Above c rest' = subst (λ (z : Ranges). Above c z) (sym there) (reaching_above r.0 c rest k) in
    let same : meet (r ∷ drop (i + 1) s) rest' ≡ meet (r ∷ drop (i + 1) s) rest = subst (λ (z : Ranges). meet (r ∷ drop (i + 1) s) z ≡ meet (r ∷ drop (i + 1) s) rest) (sym there) (reaching_is r.0 (r ∷ drop (i + 1) s) rest (first_from b r (drop (i + 1) s) behind)) in
    let before : out ++ meet (r ∷ drop (i + 1) s) rest ≡ from = subst (λ (z : Ranges). out ++ meet z rest ≡ from) split so_far in
    rw (added ∙ ap (λ (z : Ranges). out ++ z) (until_is r c rest' whole)) (append_assoc out (clip r rest') (meet (drop (i + 1) s) rest') ∙ (ap (λ (z : Ranges). out ++ z) same ∙ before))

pub meet_turn : (items s rest rest' out out' from : Ranges) (i : ℕ) → items ≡ s → AreRanges s → AreRanges rest → i < length items → rest' ≡ reaching_from (get_or items i (pos 0, pos 0)).0 rest → out' ≡ out ++ clip_until (get_or items i (pos 0, pos 0)) rest' → out ++ meet (drop i s) rest ≡ from → out' ++ meet (drop (i + 1) s) rest' ≡ from
meet_turn items s rest rest' out out' from i e h k inside there added so_far =
    subst (λ (z : Ranges). i < length z → rest' ≡ reaching_from (get_or z i (pos 0, pos 0)).0 rest → out' ≡ out ++ clip_until (get_or z i (pos 0, pos 0)) rest' → out' ++ meet (drop (i + 1) s) rest' ≡ from) (sym e)
    (λ l t a. meet_turn_same (bottom -ℤ pos 1) (bottom -ℤ pos 1) s rest rest' out out' from i h k l t a so_far) inside there added

pub meet_done : (items s rest out from : Ranges) (i : ℕ) → items ≡ s → length items ≤ i → out ++ meet (drop i s) rest ≡ from → out ≡ from
meet_done items s rest out from i e over so_far =
    let le : length s ≤ i = rw e at over in
    sym (append-nil out) ∙ subst (λ (z : Ranges). out ++ meet z rest ≡ from) (drop_of_length-le s le) so_far

-- the turns of the walk along the others
pub until_turn : (r : ℤ × ℤ) (s out out' from : Ranges) (i : ℕ) → i < length s → int_lt r.1 (get_or s i (pos 0, pos 0)).0 ≡ false → out' ≡ out ++ piece r (get_or s i (pos 0, pos 0)) → out ++ clip_until r (drop i s) ≡ from → out' ++ clip_until r (drop (i + 1) s) ≡ from
until_turn r s out out' from i inside test added so_far =
    let q = get_or s i (pos 0, pos 0) in
    let step : clip_until r (q ∷ drop (i + 1) s) ≡ piece r q ++ clip_until r (drop (i + 1) s) = rw test refl in
    rw added (append_assoc out (piece r q) (clip_until r (drop (i + 1) s)) ∙ subst (λ (z : Ranges). out ++ z ≡ from) (ap (clip_until r) (drop_more s i (pos 0, pos 0) inside) ∙ step) so_far)

pub until_stops : (r : ℤ × ℤ) (s out from : Ranges) (i : ℕ) → i < length s → int_lt r.1 (get_or s i (pos 0, pos 0)).0 ≡ true → out ++ clip_until r (drop i s) ≡ from → out ≡ from
until_stops r s out from i inside test so_far =
    let q = get_or s i (pos 0, pos 0) in
    let step : clip_until r (q ∷ drop (i + 1) s) ≡ [] = rw test refl in
    sym (append-nil out) ∙ subst (λ (z : Ranges). out ++ z ≡ from) (ap (clip_until r) (drop_more s i (pos 0, pos 0) inside) ∙ step) so_far

pub until_done : (r : ℤ × ℤ) (s out from : Ranges) (i : ℕ) → length s ≤ i → out ++ clip_until r (drop i s) ≡ from → out ≡ from
until_done r s out from i over so_far = sym (append-nil out) ∙ subst (λ (z : Ranges). out ++ clip_until r z ≡ from) (drop_of_length-le s over) so_far
