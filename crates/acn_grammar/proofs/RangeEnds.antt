-- The ends of ranges in order, and what lies between them.
use Rattle.std.proofs.Common.{◌≡◌, ℤ, pos, ◌+ℤ◌, true, List, [], ◌∷◌, Some, None, refl, sym, ◌∙◌, arith, ◌&&◌}
use Rattle.std.specs.Prelude.{◌-ℤ◌, ◌≤ℤ◌, ◌<ℤ◌, int_le, int_lt}
use Rattle.std.proofs.lemmas.Int.{ints}
use Rattle.std.proofs.lemmas.Bool.{and_parts}
use Rattle.acn_num.specs.Ranges.{has, least, greatest, are_ranges, are_ranges_above, all_within}
use Rattle.acn_grammar.proofs.WholeTests.{either, le_fact, lt_fact, le_self, le_test}
use Rattle.acn_grammar.proofs.Within.{between}
use Rattle.std.proofs.lemmas.Bool.Decides.{nat_tests}

pub above : (b : ℤ) (rs : List (ℤ × ℤ)) (x : ℤ) → are_ranges_above b rs ≡ true → has rs x ≡ true → b <ℤ x
above b [] x h p = cc
above b (r ∷ rs) x h p =
    let f = and_parts (int_lt b r.0) (int_le r.0 r.1 && are_ranges_above (r.1 +ℤ pos 1) rs) h in
    let g = and_parts (int_le r.0 r.1) (are_ranges_above (r.1 +ℤ pos 1) rs) f.1 in
    let one = lt_fact b r.0 f.0 in
    let two = le_fact r.0 r.1 g.0 in
    either {F = b <ℤ x} (int_le r.0 x && int_le x r.1) (has rs x) p
    (λ q. let three = le_fact r.0 x (and_parts (int_le r.0 x) (int_le x r.1) q).0 in omega (arith, ints))
    (λ q. let three = above (r.1 +ℤ pos 1) rs x g.1 q in omega (arith, ints))

pub ranges_from : (rs : List (ℤ × ℤ)) → are_ranges rs ≡ true → (b : ℤ) × (are_ranges_above b rs ≡ true)
ranges_from [] h = (pos 0, refl)
ranges_from (r ∷ rs) h =
    let t : int_lt (r.0 -ℤ pos 1) r.0 ≡ true = below r.0 in
    (r.0 -ℤ pos 1, rw t h)
  where
    below : (x : ℤ) → int_lt (x -ℤ pos 1) x ≡ true
    below x = grind (arith, ints, nat_tests)

pub from_least : (b : ℤ) (rs : List (ℤ × ℤ)) (x z : ℤ) → are_ranges_above b rs ≡ true → has rs x ≡ true → least rs ≡ Some z → z ≤ℤ x
from_least b [] x z h p e = cc
from_least b (r ∷ rs) x z h p e =
    let f = and_parts (int_lt b r.0) (int_le r.0 r.1 && are_ranges_above (r.1 +ℤ pos 1) rs) h in
    let g = and_parts (int_le r.0 r.1) (are_ranges_above (r.1 +ℤ pos 1) rs) f.1 in
    let is : r.0 ≡ z = cc in
    let whole = le_fact r.0 r.1 g.0 in
    rw (← is) (either {F = r.0 ≤ℤ x} (int_le r.0 x && int_le x r.1) (has rs x) p
    (λ o. (between r.0 r.1 x o).0)
    (λ o. let far = above (r.1 +ℤ pos 1) rs x g.1 o in omega (arith, ints)))

last_of_two : (r s : ℤ × ℤ) (rs : List (ℤ × ℤ)) → greatest (r ∷ s ∷ rs) ≡ greatest (s ∷ rs)
last_of_two r s rs = refl

pub first_in : (r : ℤ × ℤ) (rs : List (ℤ × ℤ)) → r.0 ≤ℤ r.1 → has (r ∷ rs) r.0 ≡ true
first_in r rs h =
    let a = le_self r.0 in
    let b = le_test r.0 r.1 h in
    rw (a, b)

pub to_greatest : (b : ℤ) (rs : List (ℤ × ℤ)) (x z : ℤ) → are_ranges_above b rs ≡ true → has rs x ≡ true → greatest rs ≡ Some z → x ≤ℤ z
to_greatest b [] x z h p e = cc
to_greatest b (r ∷ []) x z h p e =
    let is : r.1 ≡ z = cc in
    rw (← is) (either {F = x ≤ℤ r.1} (int_le r.0 x && int_le x r.1) (has [] x) p (λ o. (between r.0 r.1 x o).1) (λ o. no_number x o))
  where
    no_number : {F : Type 0} (x : ℤ) → has [] x ≡ true → F
    no_number x o = cc
to_greatest b (r ∷ s ∷ rs) x z h p e =
    let f = and_parts (int_lt b r.0) (int_le r.0 r.1 && are_ranges_above (r.1 +ℤ pos 1) (s ∷ rs)) h in
    let g = and_parts (int_le r.0 r.1) (are_ranges_above (r.1 +ℤ pos 1) (s ∷ rs)) f.1 in
    let i = and_parts (int_lt (r.1 +ℤ pos 1) s.0) (int_le s.0 s.1 && are_ranges_above (s.1 +ℤ pos 1) rs) g.1 in
    let j = and_parts (int_le s.0 s.1) (are_ranges_above (s.1 +ℤ pos 1) rs) i.1 in
    let rest = sym (last_of_two r s rs) ∙ e in
    let next = to_greatest (r.1 +ℤ pos 1) (s ∷ rs) s.0 z g.1 (first_in s rs (le_fact s.0 s.1 j.0)) rest in
    let over = lt_fact (r.1 +ℤ pos 1) s.0 i.0 in
    either {F = x ≤ℤ z} (int_le r.0 x && int_le x r.1) (has (s ∷ rs) x) p
    (λ o. let w = (between r.0 r.1 x o).1 in omega (arith, ints))
    (λ o. to_greatest (r.1 +ℤ pos 1) (s ∷ rs) x z g.1 o rest)

-- the numbers of a set lie between its ends
pub lies_within : (rs : List (ℤ × ℤ)) (low high x : ℤ) → all_within low high rs ≡ true → has rs x ≡ true → (low ≤ℤ x) × (x ≤ℤ high)
lies_within [] low high x h m = cc
lies_within (r ∷ rs) low high x h m =
    let a = and_parts (int_le low r.0) (int_le r.1 high && all_within low high rs) h in
    let b = and_parts (int_le r.1 high) (all_within low high rs) a.1 in
    either {F = (low ≤ℤ x) × (x ≤ℤ high)} (int_le r.0 x && int_le x r.1) (has rs x) m
    (λ k. let c = and_parts (int_le r.0 x) (int_le x r.1) k in
    let one = le_fact low r.0 a.0 in
    let two = le_fact r.0 x c.0 in
    let three = le_fact x r.1 c.1 in
    let four = le_fact r.1 high b.0 in
    (omega (arith, ints), omega (arith, ints)))
    (λ k. lies_within rs low high x b.1 k)

-- a set with a number has a greatest
pub some_greatest : (rs : List (ℤ × ℤ)) (x : ℤ) → greatest rs ≡ None → has rs x ≡ true → ⊥
some_greatest [] x e p = cc
some_greatest (r ∷ []) x e p = cc
some_greatest (r ∷ s ∷ rs) x e p = last_some s rs (sym (last_of_two r s rs) ∙ e)
  where
    last_some : (s : ℤ × ℤ) (rs : List (ℤ × ℤ)) → greatest (s ∷ rs) ≡ None → ⊥
    last_some s [] e = cc
    last_some s (t ∷ rs) e = last_some t rs (sym (last_of_two s t rs) ∙ e)
