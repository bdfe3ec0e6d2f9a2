-- A slot that carries its number.
use Rattle.std.proofs.Common.{◌≡◌, ℤ, true, List, [], ◌∷◌, refl, arith}
use Rattle.std.specs.Prelude.{◌≤ℤ◌}
use Rattle.std.proofs.lemmas.Int.{ints}
use Rattle.acn_num.specs.Ranges.{In}
use Rattle.acn_grammar.specs.Asks.{Equal}
use Rattle.acn_asks.specs.Kept.{KeepsNumbers}
use Rattle.acn_asks.proofs.Lists.{asked_last}

at_most_same : (x y : ℤ) → y ≡ x → x ≤ℤ y
at_most_same x y e = omega (arith, ints)

-- its number is its first ask
pub own_first : (set : List (ℤ × ℤ)) (n : ℤ) → In set n → KeepsNumbers set (Equal n ∷ []) true n []
own_first set n p = record {
  answer = record {
    answers = record { permitted = p; meets = (refl, tt) };
    first = λ y a. at_most_same n y a.meets.0;
  };
  fixes = asked_last [] (Equal n);
}
