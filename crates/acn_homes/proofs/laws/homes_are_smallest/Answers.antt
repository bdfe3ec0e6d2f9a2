use Rattle.acn_homes.proofs.Begun.{home_smallest}
use Rattle.acn_homes.proofs.laws.homes_are_smallest.Goals as goal

pub returns : goal.returns
returns c = home_smallest
