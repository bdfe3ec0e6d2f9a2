use Rattle.std.proofs.Common.{◌≡◌, ◌++◌, drop, map, length}
use Rattle.acn_well_formed.proofs.open_homes.with_home.Given as goal

abbrev pub invariant-loop-outer : goal.invariant-loop-outer
invariant-loop-outer l = record {
  whole : map (λ home. home.now) l.all.items ++ map (λ home. home.now) (drop l.outer-index l.homes) ≡ map (λ home. home.now) l.homes;
  few : length l.all.items ≡ l.outer-index;
}
