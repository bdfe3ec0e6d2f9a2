-- What the tests of whole numbers say, and back.
use Rattle.std.proofs.Common.{◌≡◌, ℤ, Bool, true, false, refl, arith, ◌||◌}
use Rattle.std.specs.Prelude.{◌≤ℤ◌, ◌<ℤ◌, int_le, int_lt}
use Rattle.std.specs.Ordering.{int_eq}
use Rattle.std.proofs.lemmas.Int.{ints}
use Rattle.std.proofs.lemmas.Bool.Decides.{nat_tests}

pub le_fact : (x y : ℤ) → int_le x y ≡ true → x ≤ℤ y
le_fact x y h = grind (arith, ints, nat_tests)

pub lt_fact : (x y : ℤ) → int_lt x y ≡ true → x <ℤ y
lt_fact x y h = grind (arith, ints, nat_tests)

pub eq_fact : (x y : ℤ) → int_eq x y ≡ true → x ≡ y
eq_fact x y h = grind (arith, ints, nat_tests)

pub gt_fact : (x y : ℤ) → int_le x y ≡ false → y <ℤ x
gt_fact x y h = grind (arith, ints, nat_tests)

pub ge_fact : (x y : ℤ) → int_lt x y ≡ false → y ≤ℤ x
ge_fact x y h = grind (arith, ints, nat_tests)

pub le_test : (x y : ℤ) → x ≤ℤ y → int_le x y ≡ true
le_test x y h = grind (arith, ints, nat_tests)

pub lt_test : (x y : ℤ) → x <ℤ y → int_lt x y ≡ true
lt_test x y h = grind (arith, ints, nat_tests)

pub gt_test : (x y : ℤ) → y <ℤ x → int_le x y ≡ false
gt_test x y h = grind (arith, ints, nat_tests)

pub le_self : (x : ℤ) → int_le x x ≡ true
le_self x = grind (arith, ints, nat_tests)

pub eq_self : (x : ℤ) → int_eq x x ≡ true
eq_self x = grind (arith, ints, nat_tests)

-- one of two tests
pub either : {F : Type 0} (a b : Bool) → (a || b) ≡ true → (a ≡ true → F) → (b ≡ true → F) → F
either true b h f g = f refl
either false b h f g = g h
