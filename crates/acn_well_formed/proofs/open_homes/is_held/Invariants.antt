use Rattle.std.proofs.Common.{◌≡◌, drop, map}
use Rattle.acn_well_formed.specs.Held.{is_held}
use Rattle.acn_well_formed.proofs.open_homes.is_held.Given as goal

abbrev pub invariant-loop-home : goal.invariant-loop-home
invariant-loop-home l = is_held (map (λ home. home.now) (drop l.home-index l.homes)) l.slot ≡ is_held (map (λ home. home.now) l.homes) l.slot
