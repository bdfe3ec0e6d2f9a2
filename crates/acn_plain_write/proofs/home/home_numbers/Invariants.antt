use Rattle.std.proofs.Common.{◌≡◌, ◌++◌, List, ℕ, ℤ, drop}
use Rattle.std.specs.List.{zip}
use Rattle.acn_plain_write.specs.Home.{AreLeast}
use Rattle.acn_plain_write.proofs.home.home_numbers.Given as goal

abbrev pub invariant-loop-determinant : goal.invariant-loop-determinant
invariant-loop-determinant l = (home : List ℕ) (xs : List ℤ) → AreLeast l.heard l.path l.all home xs → l.numbers ++ zip (drop l.determinant-index home) (drop l.determinant-index xs) ≡ zip home xs
