-- The least and the greatest of the numbers that pass one of two tests.
use Rattle.std.proofs.Common.{◌≡◌, Bool, true, false, ◌||◌, refl, sym, ap, subst, ◌∙◌, ℤ, Option, Some, None, arith}
use Rattle.std.specs.Prelude.{◌≤ℤ◌, ◌+ℤ◌, ◌-ℤ◌, int_le, option_map}
use Rattle.std.specs.Int.{int_min, int_max}
use Rattle.std.proofs.Common.{inl, inr}
use Rattle.std.proofs.lemmas.Bool.{or_left, or_right, or_from, or_cases}
use Rattle.std.proofs.lemmas.Int.{ints, clamps}
use Rattle.acn_num.proofs.Members.{true_le, false_le}
use Rattle.acn_codings.specs.Tables.{lesser}
use Rattle.acn_leaves.specs.Leaves.{greater_of}
use Rattle.acn_fold_laws.specs.Ends.{IsLeastThat, IsGreatestThat, IsLeast, IsGreatest}

-- tests that agree have one least number, and one greatest

pub least_same : (p q : ℤ → Bool) (o : Option ℤ) → ((x : ℤ) → p x ≡ q x) → IsLeast p o → IsLeast q o
least_same p q None e h = λ y. sym (e y) ∙ h y
least_same p q (Some x) e h = record { passes = sym (e x) ∙ h.passes; least = λ y t. h.least y (e y ∙ t) }

pub greatest_same : (p q : ℤ → Bool) (o : Option ℤ) → ((x : ℤ) → p x ≡ q x) → IsGreatest p o → IsGreatest q o
greatest_same p q None e h = λ y. sym (e y) ∙ h y
greatest_same p q (Some x) e h = record { passes = sym (e x) ∙ h.passes; greatest = λ y t. h.greatest y (e y ∙ t) }

-- ---- of two tests

le_trans : (a b c : ℤ) → a ≤ℤ b → b ≤ℤ c → a ≤ℤ c
le_trans a b c h k = omega (arith, ints, h, k)

lt_le : (a b : ℤ) → int_le a b ≡ false → b ≤ℤ a
lt_le a b e = (let k = false_le a b e in omega (arith, ints, k))

first_is : (x y : ℤ) → x ≤ℤ y → int_min x y ≡ x
first_is x y h = omega (arith, ints, clamps, h)

second_is : (x y : ℤ) → y ≤ℤ x → int_min x y ≡ y
second_is x y h = omega (arith, ints, clamps, h)

greater_first : (x y : ℤ) → y ≤ℤ x → int_max x y ≡ x
greater_first x y h = omega (arith, ints, clamps, h)

greater_second : (x y : ℤ) → x ≤ℤ y → int_max x y ≡ y
greater_second x y h = omega (arith, ints, clamps, h)

turned_round : (x y : ℤ) → int_max x y ≡ int_max y x
turned_round x y = omega (arith, ints, clamps)

neither : (a b : Bool) → a ≡ false → (a || b) ≡ true → b ≡ true
neither true b e h = cc
neither false b e h = h

nor : (a b : Bool) → b ≡ false → (a || b) ≡ true → a ≡ true
nor true b e h = refl
nor false b e h = cc

module _ (p q : ℤ → Bool) where
  least_by : (x y : ℤ) (t : Bool) → int_le x y ≡ t → IsLeastThat p x → IsLeastThat q y → IsLeastThat (λ z. p z || q z) (int_min x y)
  least_by x y true e h k =
      let le = true_le x y e in
      subst (λ (w : ℤ). IsLeastThat (λ z. p z || q z) w) (sym (first_is x y le)) (record {
        passes = or_left (p x) (q x) h.passes;
        least = λ z t. elim (or_cases (p z) (q z) t) [ inl one ↦ h.least z one | inr two ↦ le_trans x y z le (k.least z two) ];
      })
  least_by x y false e h k =
      let le = lt_le x y e in
      subst (λ (w : ℤ). IsLeastThat (λ z. p z || q z) w) (sym (second_is x y le)) (record {
        passes = or_right (p y) (q y) k.passes;
        least = λ z t. elim (or_cases (p z) (q z) t) [ inl one ↦ le_trans y x z le (h.least z one) | inr two ↦ k.least z two ];
      })

  pub least_or : (a b : Option ℤ) → IsLeast p a → IsLeast q b → IsLeast (λ z. p z || q z) (lesser a b)
  least_or None None h k = λ y. or_from (p y) (q y) (h y) (k y)
  least_or None (Some y) h k = record { passes = or_right (p y) (q y) k.passes; least = λ z t. k.least z (neither (p z) (q z) (h z) t) }
  least_or (Some x) None h k = record { passes = or_left (p x) (q x) h.passes; least = λ z t. h.least z (nor (p z) (q z) (k z) t) }
  least_or (Some x) (Some y) h k = least_by x y (int_le x y) refl h k

  greatest_by : (x y : ℤ) (t : Bool) → int_le x y ≡ t → IsGreatestThat p x → IsGreatestThat q y → IsGreatestThat (λ z. p z || q z) (int_max x y)
  greatest_by x y true e h k =
      let le = true_le x y e in
      subst (λ (w : ℤ). IsGreatestThat (λ z. p z || q z) w) (sym (greater_second x y le)) (record {
        passes = or_right (p y) (q y) k.passes;
        greatest = λ z t. elim (or_cases (p z) (q z) t) [ inl one ↦ le_trans z x y (h.greatest z one) le | inr two ↦ k.greatest z two ];
      })
  greatest_by x y false e h k =
      let le = lt_le x y e in
      subst (λ (w : ℤ). IsGreatestThat (λ z. p z || q z) w) (sym (greater_first x y le)) (record {
        passes = or_left (p x) (q x) h.passes;
        greatest = λ z t. elim (or_cases (p z) (q z) t) [ inl one ↦ h.greatest z one | inr two ↦ le_trans z y x (k.greatest z two) le ];
      })

  pub greatest_or : (a : Option ℤ) (x : ℤ) → IsGreatest p a → IsGreatestThat q x → IsGreatestThat (λ z. p z || q z) (greater_of a x)
  greatest_or None x h k = record { passes = or_right (p x) (q x) k.passes; greatest = λ z t. k.greatest z (neither (p z) (q z) (h z) t) }
  greatest_or (Some y) x h k = subst (λ (w : ℤ). IsGreatestThat (λ z. p z || q z) w) (turned_round y x) (greatest_by y x (int_le y x) refl h k)

-- ---- at a distance

there : (a b x : ℤ) → (b +ℤ ((a +ℤ (x -ℤ b)) -ℤ a)) ≡ x
there a b x = omega (arith, ints)

back : (a b x y : ℤ) → x ≤ℤ (b +ℤ (y -ℤ a)) → (a +ℤ (x -ℤ b)) ≤ℤ y
back a b x y h = omega (arith, ints, h)

-- each number as far behind a as another is behind b
pub least_moved : (p : ℤ → Bool) (a b : ℤ) (o : Option ℤ) → IsLeast p o → IsLeast (λ k. p (b +ℤ (k -ℤ a))) (option_map (λ x. a +ℤ (x -ℤ b)) o)
least_moved p a b None h = λ y. h (b +ℤ (y -ℤ a))
least_moved p a b (Some x) h = record { passes = ap p (there a b x) ∙ h.passes; least = λ y t. back a b x y (h.least (b +ℤ (y -ℤ a)) t) }
