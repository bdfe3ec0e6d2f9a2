use Rattle.std.proofs.Common.{◌≡◌, ℕ, drop, ◌++◌, true}
use Rattle.std.specs.Prelude.{map}
use Rattle.acn_grammar.specs.Tree.{holds}
use Rattle.acn_determinants.specs.Determinants.{IsNumber, spot_told}
use Rattle.acn_determinants.specs.Spots.{noted_at}
use Rattle.acn_determinants.proofs.homes.listed.Given as goal

abbrev pub invariant-loop-slot : goal.invariant-loop-slot
invariant-loop-slot l = record {
  numbers : (s : ℕ) → holds (drop l.slot-index l.home) s ≡ true → IsNumber (noted_at l.found s);
  same : map spot_told l.all ++ map (λ (s : ℕ). (s, noted_at l.found s)) (drop l.slot-index l.home) ≡ map (λ (s : ℕ). (s, noted_at l.found s)) l.home;
}
