-- The least width of a number is the least in which it stands.
use Rattle.std.proofs.Common.{◌≡◌, ℕ, zero, suc, ◌+◌, ◌-◌, ◌^◌, ◌<◌, ◌≤◌, Bool, true, false, cond, ◌&&◌, ◌||◌, Some, None, refl, ap, subst, ◌∙◌, arith}
use Rattle.std.specs.Prelude.{find, nat_lt, nat_le, nat_eq}
use Rattle.std.specs.List.{range_with_len}
use Rattle.std.proofs.lemmas.Bool.{lt-ltb, le-leb, ltb-false, and_from, or_right}
use Rattle.std.proofs.lemmas.Bool.Decides.{nat_tests}
use Rattle.acn_num.specs.Bits.{is_least_width}
use Rattle.acn_grammar.specs.Leaves.{holds_characters}
use Rattle.acn_leaves.specs.Widths.{least_width, or_word}

abbrev stands : ℕ → ℕ → Bool
stands n width = nat_lt n (2 ^ width)

-- no width before this one holds the number
abbrev none_before : ℕ → ℕ → Bool
none_before n a = nat_eq a 0 || nat_le (2 ^ (a - 1)) n

-- the first of the widths from a on
found : (n k a : ℕ) → none_before n a ≡ true → n < 2 ^ (a + k) → is_least_width n (or_word (find (stands n) (range_with_len a (suc k)))) ≡ true
found n zero a low h =
    let t : nat_lt n (2 ^ a) ≡ true = lt-ltb n (2 ^ a) (subst (λ (z : ℕ). n < 2 ^ z) (omega arith) h) in
    ap (λ (b : Bool). is_least_width n (or_word (cond b (Some a) None))) t ∙ and_from (nat_lt n (2 ^ a)) (none_before n a) t low
found n (suc k) a low h = by (nat_lt n (2 ^ a)) refl (λ next. found n k (a + 1) next (subst (λ (z : ℕ). n < 2 ^ z) (omega arith) h))
  where
    by : (b : Bool) → nat_lt n (2 ^ a) ≡ b → (none_before n (a + 1) ≡ true → is_least_width n (or_word (find (stands n) (range_with_len (a + 1) (suc k)))) ≡ true) → is_least_width n (or_word (find (stands n) (range_with_len a (suc (suc k))))) ≡ true
    by true t rest =
        ap (λ (b : Bool). is_least_width n (or_word (cond b (Some a) (find (stands n) (range_with_len (a + 1) (suc k)))))) t ∙ and_from (nat_lt n (2 ^ a)) (none_before n a) t low
    by false t rest =
        let next : none_before n (a + 1) ≡ true = or_right (nat_eq (a + 1) 0) (nat_le (2 ^ (a + 1 - 1)) n) (le-leb (2 ^ (a + 1 - 1)) n (subst (λ (z : ℕ). 2 ^ z ≤ n) (omega arith) (ltb-false n (2 ^ a) t))) in
        ap (λ (b : Bool). is_least_width n (or_word (cond b (Some a) (find (stands n) (range_with_len (a + 1) (suc k)))))) t ∙ rest next

pub least_is : (n : ℕ) → n < 2 ^ 64 → is_least_width n (least_width n) ≡ true
unfolding least_width
least_is n h = found n 64 0 refl h

counted : (n p q : ℕ) (z : Bool) → 1 ≤ n → (nat_lt (n - 1) p && (z || nat_le q (n - 1))) ≡ true → (nat_le n p && (z || nat_lt q n)) ≡ true
counted n p q true h e = grind (arith, nat_tests)
counted n p q false h e = grind (arith, nat_tests)

-- as many characters as there are have numbers of their own in the least width of one less
pub characters_held : (n : ℕ) → 1 ≤ n → n < 2 ^ 64 → holds_characters n (least_width (n - 1)) ≡ true
characters_held n h few = counted n (2 ^ least_width (n - 1)) (2 ^ (least_width (n - 1) - 1)) (nat_eq (least_width (n - 1)) 0) h (least_is (n - 1) (omega (arith, few)))
