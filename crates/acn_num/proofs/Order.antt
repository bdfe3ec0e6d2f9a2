-- Two sets with the same numbers are one list of ranges.
use Rattle.std.proofs.Common.{int_le, ◌≡◌, Bool, true, false, refl, sym, subst, ◌∙◌, ℤ, pos, ◌≤ℤ◌, [], ◌∷◌, ◌++◌, arith, append-nil}
use Rattle.std.specs.Prelude.{◌<ℤ◌, ◌+ℤ◌, ◌-ℤ◌, ◌||◌, if◌then◌else◌}
use Rattle.std.specs.Int.{int_max, int_min}
use Rattle.std.proofs.lemmas.Int.{ints, clamps}
use Rattle.acn_num.specs.Ranges.{Ranges, has, Above, AreRanges, clip, meet, gap, outside_from, outside, top, bottom}
use Rattle.acn_num.proofs.Members.{not_below, above_weaker, true_le, has_meet, has_outside_from, in_low, in_high, except_bool, le_true}

-- above b, and every number up to e
abbrev Between : ℤ → ℤ → Ranges → Type 0
Between b e [] = Unit {0}
Between b e (r ∷ rest) = (b <ℤ r.0) × (r.0 ≤ℤ r.1) × (r.1 ≤ℤ e) × Between (r.1 +ℤ pos 1) e rest

between_above : (b e : ℤ) (s : Ranges) → e ≤ℤ top → Between b e s → Above b s
between_above b e [] le h = tt
between_above b e (r ∷ s) le h = (h.0, h.1, omega (arith, ints), between_above (r.1 +ℤ pos 1) e s le h.3)

above_between : (b : ℤ) (s : Ranges) → Above b s → Between b top s
above_between b [] h = tt
above_between b (r ∷ s) h = (h.0, h.1, h.2, above_between (r.1 +ℤ pos 1) s h.3)

-- a set up to e, and behind it one above e + 1
append_above : (b e : ℤ) (s t : Ranges) → b ≤ℤ (e +ℤ pos 1) → e ≤ℤ top → Between b e s → Above (e +ℤ pos 1) t → Above b (s ++ t)
append_above b e [] t le up h k = above_weaker (e +ℤ pos 1) b t k le
append_above b e (r ∷ s) t le up h k = (h.0, h.1, omega (arith, ints), append_above (r.1 +ℤ pos 1) e s t (omega (arith, ints)) up h.3 k)

-- a range that may be empty, and what stands behind it
then_rest : (b e lo hi : ℤ) (rest : Ranges) (t : Bool) → int_le lo hi ≡ t → b <ℤ lo → hi ≤ℤ e → Between (hi +ℤ pos 1) e rest → Between b e rest → Between b e ((if t then (lo, hi) ∷ [] else []) ++ rest)
then_rest b e lo hi rest true is low up some none = (low, true_le lo hi is, up, some)
then_rest b e lo hi rest false is low up some none = none

between_weaker : (b c e : ℤ) (s : Ranges) → Between b e s → c ≤ℤ b → Between c e s
between_weaker b c e [] h le = tt
between_weaker b c e (r ∷ s) h le = (omega (arith, ints), h.1, h.2, h.3)

-- the numbers of a set above b in a range
clip_above : (b : ℤ) (r : ℤ × ℤ) (s : Ranges) → Above b s → Between b r.1 (clip r s)
clip_above b r [] h = tt
clip_above b r (q ∷ s) h =
    then_rest b r.1 (int_max r.0 q.0) (int_min r.1 q.1) (clip r s) _ refl (let p = h.0 in omega (arith, ints, clamps)) (omega (arith, ints, clamps))
    (clip_above (int_min r.1 q.1 +ℤ pos 1) r s (above_weaker (q.1 +ℤ pos 1) _ s h.3 (omega (arith, ints, clamps))))
    (clip_above b r s (above_weaker (q.1 +ℤ pos 1) b s h.3 (let p = h.0 in let k = h.1 in omega (arith, ints))))

-- the numbers of a set in a range above b
clip_within : (b c : ℤ) (r : ℤ × ℤ) (s : Ranges) → b <ℤ r.0 → Above c s → Between b r.1 (clip r s)
clip_within b c r [] low h = tt
clip_within b c r (q ∷ s) low h =
    then_rest b r.1 (int_max r.0 q.0) (int_min r.1 q.1) (clip r s) _ refl (omega (arith, ints, clamps)) (omega (arith, ints, clamps))
    (clip_above (int_min r.1 q.1 +ℤ pos 1) r s (above_weaker (q.1 +ℤ pos 1) _ s h.3 (omega (arith, ints, clamps))))
    (clip_within b (q.1 +ℤ pos 1) r s low h.3)

pub meet_above : (b c : ℤ) (a s : Ranges) → Above b a → Above c s → Above b (meet a s)
meet_above b c [] s h k = tt
meet_above b c (r ∷ a) s h k =
    append_above b r.1 (clip r s) (meet a s) (let p = h.0 in let q = h.1 in omega (arith, ints)) h.2 (clip_within b c r s h.0 k) (meet_above (r.1 +ℤ pos 1) c a s h.3 k)

outside_between : (b : ℤ) (s : Ranges) → Above b s → Between b top (outside_from b s)
outside_between b [] h = subst (λ (z : Ranges). Between b top z) (append-nil (gap b (top +ℤ pos 1))) (then_rest b top (b +ℤ pos 1) ((top +ℤ pos 1) -ℤ pos 1) [] _ refl (omega (arith, ints)) (omega (arith, ints)) tt tt)
outside_between b (r ∷ s) h =
    let behind : Between r.1 top (outside_from r.1 s) = outside_between r.1 s (above_weaker (r.1 +ℤ pos 1) r.1 s h.3 (omega (arith, ints))) in
    let p = h.0 in let q = h.1 in let k = h.2 in
    then_rest b top (b +ℤ pos 1) (r.0 -ℤ pos 1) (outside_from r.1 s) _ refl (omega (arith, ints)) (omega (arith, ints))
    (between_weaker r.1 ((r.0 -ℤ pos 1) +ℤ pos 1) top (outside_from r.1 s) behind (omega (arith, ints)))
    (between_weaker r.1 b top (outside_from r.1 s) behind (omega (arith, ints)))

pub outside_above : (b : ℤ) (s : Ranges) → Above b s → Above b (outside_from b s)
outside_above b s h = between_above b top (outside_from b s) (omega (arith, ints)) (outside_between b s h)

-- ---- two sets with the same numbers

low_le : (b l l' h' : ℤ) (t : Ranges) → Above b ((l', h') ∷ t) → has ((l', h') ∷ t) l ≡ true → l' ≤ℤ l
low_le b l l' h' t k there =
    let p = k.1 in
    let not_here : l <ℤ l' → has t l ≡ false = (λ (lt : l <ℤ l'). not_below (h' +ℤ pos 1) l t k.3 (omega (arith, ints))) in
    grind (arith, ints, not_here)

low_in : (r : ℤ × ℤ) (s : Ranges) → r.0 ≤ℤ r.1 → has (r ∷ s) r.0 ≡ true
low_in r s le = grind (arith, ints)

high_le : (b l h h' : ℤ) (s t : Ranges) → Above b ((l, h) ∷ s) → Above b ((l, h') ∷ t) → has ((l, h) ∷ s) (h +ℤ pos 1) ≡ has ((l, h') ∷ t) (h +ℤ pos 1) → h' ≤ℤ h
high_le b l h h' s t p q same =
    let not_here : has s (h +ℤ pos 1) ≡ false = not_below (h +ℤ pos 1) (h +ℤ pos 1) s p.3 (omega (arith, ints)) in
    let a = p.1 in let c = q.1 in
    grind (arith, ints, not_here)

rest_same : (l h x : ℤ) (s t : Ranges) → Above (h +ℤ pos 1) s → Above (h +ℤ pos 1) t → has ((l, h) ∷ s) x ≡ has ((l, h) ∷ t) x → has s x ≡ has t x
rest_same l h x s t p q same =
    let left : x ≤ℤ h → has s x ≡ false = (λ (le : x ≤ℤ h). not_below (h +ℤ pos 1) x s p (omega (arith, ints))) in
    let right : x ≤ℤ h → has t x ≡ false = (λ (le : x ≤ℤ h). not_below (h +ℤ pos 1) x t q (omega (arith, ints))) in
    grind (arith, ints, left, right)

antisym : (a b : ℤ) → a ≤ℤ b → b ≤ℤ a → a ≡ b
antisym a b h k = omega (arith, ints)

same_from : (l h h' : ℤ) (b : ℤ) (s t : Ranges) → Above b ((l, h) ∷ s) → Above b ((l, h') ∷ t) → h ≡ h' → ((u : Above (h +ℤ pos 1) s) (v : Above (h +ℤ pos 1) t) → s ≡ t) → ◌≡◌ {A = Ranges} ((l, h) ∷ s) ((l, h') ∷ t)
same_from l h h' b s t p q e go =
    let back : h' ≡ h = sym e in
    let v : Above (h +ℤ pos 1) t = subst (λ (z : ℤ). Above (z +ℤ pos 1) t) back q.3 in
    let st : s ≡ t = go p.3 v in
    cc

same_low : (b l l' h h' : ℤ) (t : Ranges) → l' ≡ l → Above b ((l', h') ∷ t) → Above b ((l, h') ∷ t)
same_low b l l' h h' t e k = subst (λ (z : ℤ). Above b ((z, h') ∷ t)) e k

-- two sets that aren't empty, where the rests with the same numbers are the same
same_heads : (b l h l' h' : ℤ) (s t : Ranges) → Above b ((l, h) ∷ s) → Above b ((l', h') ∷ t) → ((x : ℤ) → has ((l, h) ∷ s) x ≡ has ((l', h') ∷ t) x)
    → ((c : ℤ) → Above c s → Above c t → ((x : ℤ) → has s x ≡ has t x) → s ≡ t) → ◌≡◌ {A = Ranges} ((l, h) ∷ s) ((l', h') ∷ t)
same_heads b l h l' h' s t p q same rests = subst (λ (z : ℤ). ◌≡◌ {A = Ranges} ((l, h) ∷ s) ((z, h') ∷ t)) low (same_from l h h' b s t p q' high tails)
  where
    low : l ≡ l'
    low = antisym l l' (low_le b l' l h s p (same l' ∙ low_in (l', h') t q.1)) (low_le b l l' h' t q (sym (same l) ∙ low_in (l, h) s p.1))

    q' : Above b ((l, h') ∷ t)
    q' = subst (λ (z : ℤ). Above b ((z, h') ∷ t)) (sym low) q

    same' : (x : ℤ) → has ((l, h) ∷ s) x ≡ has ((l, h') ∷ t) x
    same' x = subst (λ (z : ℤ). has ((l, h) ∷ s) x ≡ has ((z, h') ∷ t) x) (sym low) (same x)

    high : h ≡ h'
    high = antisym h h' (high_le b l h' h t s q' p (sym (same' (h' +ℤ pos 1)))) (high_le b l h h' s t p q' (same' (h +ℤ pos 1)))

    same'' : (x : ℤ) → has ((l, h) ∷ s) x ≡ has ((l, h) ∷ t) x
    same'' x = subst (λ (z : ℤ). has ((l, h) ∷ s) x ≡ has ((l, z) ∷ t) x) (sym high) (same' x)

    tails : Above (h +ℤ pos 1) s → Above (h +ℤ pos 1) t → s ≡ t
    tails u v = rests (h +ℤ pos 1) u v (λ x. rest_same l h x s t u v (same'' x))

pub same_set : (b : ℤ) (s t : Ranges) → Above b s → Above b t → ((x : ℤ) → has s x ≡ has t x) → s ≡ t
same_set b [] [] p q same = refl
same_set b [] (r ∷ t) p q same = (let i = low_in r t q.1 in let e = same r.0 in cc)
same_set b (r ∷ s) [] p q same = (let i = low_in r s p.1 in let e = same r.0 in cc)
same_set b (r ∷ s) (q ∷ t) p k same = same_heads b r.0 r.1 q.0 q.1 s t p k same (λ c u v e. same_set c s t u v e)

pub has_union : (a b : Ranges) (x : ℤ) → AreRanges a → AreRanges b → has (outside (meet (outside a) (outside b))) x ≡ (has a x || has b x)
unfolding outside
has_union a b x h k =
    let start : ℤ = bottom -ℤ pos 1 in
    let both : Above (bottom -ℤ pos 1) (meet (outside_from (bottom -ℤ pos 1) a) (outside_from (bottom -ℤ pos 1) b)) = meet_above (bottom -ℤ pos 1) (bottom -ℤ pos 1) _ _ (outside_above (bottom -ℤ pos 1) a h) (outside_above (bottom -ℤ pos 1) b k) in
    rw (has_outside_from (bottom -ℤ pos 1) x (meet (outside_from (bottom -ℤ pos 1) a) (outside_from (bottom -ℤ pos 1) b)) both)
    (rw (has_meet (outside_from (bottom -ℤ pos 1) a) (outside_from (bottom -ℤ pos 1) b) x)
    (rw (has_outside_from (bottom -ℤ pos 1) x a h)
    (rw (has_outside_from (bottom -ℤ pos 1) x b k)
    (except_bool (int_le bottom x) (int_le x top) (has a x) (has b x)
    (λ e. (le_true bottom x (in_low a x h e), le_true x top (in_high a x h e)))
    (λ e. (le_true bottom x (in_low b x k e), le_true x top (in_high b x k e)))))))
