-- The least number that is lost.
use Rattle.std.proofs.Common.{◌≡◌, ℤ, Bool, true, false, not, ◌&&◌, [], ◌∷◌, Option, Some, None, refl, sym, ap, ◌∙◌, arith, subst, inl, inr}
use Rattle.std.proofs.lemmas.Bool.{and_parts, and_from, true≢false}
use Rattle.std.proofs.lemmas.Int.{ints}
use Rattle.std.specs.Prelude.{◌≤ℤ◌, ◌+ℤ◌, ◌-ℤ◌, pos, int_le}
use Rattle.acn_num.specs.Ranges.{Ranges, has, Above, AreRanges, IsExcept, least, bottom}
use Rattle.acn_grammar.proofs.WholeTests.{le_fact, le_test, either}
use Rattle.acn_compare.specs.Accepts.{IsLost, Permits}
use Rattle.acn_compare.specs.Judging.{AreLeastLost}

-- the numbers of ranges in order lie above
above : (b : ℤ) (s : Ranges) → Above b s → (y : ℤ) → has s y ≡ true → b ≤ℤ y
above b [] a y h = cc
above b (r ∷ rest) a y h = either {F = b ≤ℤ y} (int_le r.0 y && int_le y r.1) (has rest y) h
    (λ q. (let w = le_fact r.0 y (and_parts (int_le r.0 y) (int_le y r.1) q).0 in let l = a.0 in omega (arith, ints)))
    (λ q. (let w = above (r.1 +ℤ pos 1) rest a.3 y q in let l = a.0 in let m = a.1 in omega (arith, ints)))

-- the first end of ranges in order is the least of their numbers
least_is : (b : ℤ) (r : ℤ × ℤ) (rest : Ranges) → Above b (r ∷ rest) → (y : ℤ) → has (r ∷ rest) y ≡ true → r.0 ≤ℤ y
least_is b r rest a y h = either {F = r.0 ≤ℤ y} (int_le r.0 y && int_le y r.1) (has rest y) h
    (λ q. le_fact r.0 y (and_parts (int_le r.0 y) (int_le y r.1) q).0)
    (λ q. (let w = above (r.1 +ℤ pos 1) rest a.3 y q in let m = a.1 in omega (arith, ints)))

module _ (old new : Ranges) where
  permits : ((x : ℤ) → has [] x ≡ (has old x && not (has new x))) → Permits old new
  permits e x h = by (has new x) refl
    where
      by : (t : Bool) → has new x ≡ t → has new x ≡ true
      by true k = k
      by false k = absurd (true≢false (sym (and_from (has old x) (not (has new x)) h (ap not k)) ∙ sym (e x)))

  lost_one : (r : ℤ × ℤ) (rest : Ranges) → AreRanges (r ∷ rest) → IsExcept old new (r ∷ rest) → IsLost old new r.0
  lost_one r rest a e =
      let here : has (r ∷ rest) r.0 ≡ true = leads r rest a in
      let two = and_parts (has old r.0) (not (has new r.0)) (sym (e r.0) ∙ here) in
      record {
        had = two.0;
        lost = λ n. true≢false (sym two.1 ∙ ap not n);
        first = λ y h n. least_is (bottom -ℤ pos 1) r rest a y (e y ∙ and_from (has old y) (not (has new y)) h (away (has new y) n));
      }
    where
      away : (t : Bool) → (t ≡ true → ⊥) → not t ≡ true
      away true n = absurd (n refl)
      away false n = refl

      leads : (r : ℤ × ℤ) (rest : Ranges) → AreRanges (r ∷ rest) → has (r ∷ rest) r.0 ≡ true
      leads r rest a =
          let self : int_le r.0 r.0 ≡ true = le_test r.0 r.0 (omega (arith, ints)) in
          let up : int_le r.0 r.1 ≡ true = le_test r.0 r.1 a.1 in
          rw (self, up) refl

pub least_lost : (old new s : Ranges) (r : Option ℤ) → IsExcept old new s → AreRanges s → r ≡ least s → AreLeastLost (old ∷ []) (new ∷ []) r
least_lost old new [] r e a q = subst (AreLeastLost (old ∷ []) (new ∷ [])) (sym q) (permits old new e, tt)
least_lost old new (p ∷ rest) r e a q = subst (AreLeastLost (old ∷ []) (new ∷ [])) (sym q) (inl (lost_one old new p rest a e))

-- one set behind another
pub in_first : (a b c d : Ranges) (x : ℤ) → AreLeastLost (a ∷ []) (c ∷ []) (Some x) → AreLeastLost (a ∷ b ∷ []) (c ∷ d ∷ []) (Some x)
in_first a b c d x (inl l) = inl l
in_first a b c d x (inr l) = absurd l.1

pub in_second : (a b c d : Ranges) (r : Option ℤ) → AreLeastLost (a ∷ []) (c ∷ []) None → AreLeastLost (b ∷ []) (d ∷ []) r → AreLeastLost (a ∷ b ∷ []) (c ∷ d ∷ []) r
in_second a b c d None p q = (p.0, q)
in_second a b c d (Some x) p q = inr (p.0, q)
