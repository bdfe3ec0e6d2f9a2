-- The least width that holds a number.
use Rattle.std.proofs.Common.{◌≡◌, ℕ, zero, suc, ◌+◌, ◌^◌, ◌<◌, ◌≤◌, Bool, true, false, cond, Some, None, refl, sym, subst, arith}
use Rattle.std.specs.Prelude.{find, nat_lt}
use Rattle.std.specs.List.{range_with_len}
use Rattle.std.proofs.Common.{inl, inr}
use Rattle.std.proofs.lemmas.Bool.{lt-ltb, ltb-true, ltb-false, cases_order}
use Rattle.acn_num.specs.Widths.{IsLeastWidth}
use Rattle.acn_leaves.specs.Widths.{least_width, or_word}

abbrev stands : ℕ → ℕ → Bool
stands n width = nat_lt n (2 ^ width)

-- no width before this one holds the number
abbrev NoneBefore : ℕ → ℕ → Type 0
NoneBefore n a = (v : ℕ) → n < 2 ^ v → a ≤ v

next : (n a : ℕ) → NoneBefore n a → 2 ^ a ≤ n → NoneBefore n (a + 1)
next n a low over v h =
    let le = low v h in
    elim (cases_order a v) [
      | inl e ↦ (let under : n < 2 ^ a = subst (λ (z : ℕ). n < 2 ^ z) (sym e) h in absurd (omega (arith, under, over)))
      | inr o ↦ elim o [
        | inl lt ↦ omega (arith, lt)
        | inr gt ↦ absurd (omega (arith, le, gt))
      ]
    ]

-- the first of the widths from a on
found : (n k a : ℕ) → NoneBefore n a → n < 2 ^ (a + k) → IsLeastWidth n (or_word (find (stands n) (range_with_len a (suc k))))
found n zero a low h =
    let under : n < 2 ^ a = subst (λ (z : ℕ). n < 2 ^ z) (omega arith) h in
    subst (λ (b : Bool). IsLeastWidth n (or_word (cond b (Some a) None))) (sym (lt-ltb n (2 ^ a) under)) (record { holds = under; least = low })
found n (suc k) a low h = by (nat_lt n (2 ^ a)) refl (λ more. found n k (a + 1) more (subst (λ (z : ℕ). n < 2 ^ z) (omega arith) h))
  where
    by : (b : Bool) → nat_lt n (2 ^ a) ≡ b → (NoneBefore n (a + 1) → IsLeastWidth n (or_word (find (stands n) (range_with_len (a + 1) (suc k)))))
        → IsLeastWidth n (or_word (cond b (Some a) (find (stands n) (range_with_len (a + 1) (suc k)))))
    by true t rest = record { holds = ltb-true n (2 ^ a) t; least = low }
    by false t rest = rest (next n a low (ltb-false n (2 ^ a) t))

pub least_width_is : (n : ℕ) → n < 2 ^ 64 → IsLeastWidth n (least_width n)
unfolding least_width
least_width_is n h = found n 64 0 (λ v k. omega arith) h
